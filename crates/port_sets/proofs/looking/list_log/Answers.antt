use Rattle.node_lock.specs.Seats.{knows}
use Rattle.port_sets.proofs.Listing.{listed_of}
use Rattle.port_sets.proofs.looking.list_log.Goals as goal

pub returns-clause-listed : goal.returns-clause-listed
returns-clause-listed g c = let l = c.look.ensures.looked in listed_of _ (knows c.args.seat.now) (knows c.look.new.seat) l.0 c.look.result l.2 l.1
