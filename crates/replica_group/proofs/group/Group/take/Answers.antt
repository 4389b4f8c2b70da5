use Rattle.std.proofs.Common.{length, refl}
use Rattle.replica_group.proofs.Small.{small_written}
use Rattle.replica_group.proofs.group.Group.take.Goals as goal

pub invariant_of-self-2 : goal.invariant_of-self-2
invariant_of-self-2 c = let own = c.self.inside in
    small_written own.primary own.term (length own.known.items) own.primary own.members.len own.members.items c.deref_mut.result.now
    c.put_behind.new.members _
    c.self.invariant own.members.ok.0 c.deref_mut.ensures.value c.self.invariant.is_there c.in_ok-put_behind.ensures.ok refl
