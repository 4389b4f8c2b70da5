use Rattle.std.proofs.Common.{length}
use Rattle.same_records.proofs.slots.+slot_stamp.Given as goal

abbrev pub decreases-slot_stamp : goal.decreases-slot_stamp
decreases-slot_stamp l = length l.past.now
