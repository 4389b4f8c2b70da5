use Rattle.std.proofs.Common.{ap}
use Rattle.node_lock.specs.Tickets.{own_hand}
use Rattle.node_lock.specs.Seats.{knows, opening_of}
use Rattle.node_lock.proofs.Told.{looked}
use Rattle.node_lock.proofs.lock.Guarded.look.Goals as goal

pub returns-clause-looked : goal.returns-clause-looked
returns-clause-looked g c =
    let first = g.N.Sighted.sight (opening_of c.args.self.now) in
    let s = g.N.Sighted.sight c.take-node.result in
    let lives = c.take-node.ensures.since (opening_of c.args.self.now) c.requires.seat.1 in (
      s,
      c.ask-answer.ensures,
      looked first s (knows c.args.seat.now) (own_hand c.take-node.new.token.me.0) _ c.take-node.ensures.finds c.take-node.ensures.sees lives.1
          (ap (λ m. own_hand m.0) c.leave.ensures.rests),
    )
