use Rattle.std.proofs.Common.{rules, refl, sym}
use Rattle.node_lock.specs.Tickets.{own_hand}
use Rattle.node_lock.proofs.Keeps.{passes}
use Rattle.node_lock.proofs.lock.Guarded.pass_on.Goals as goal

pub fetch_add-turn-requires : goal.fetch_add-turn-requires
fetch_add-turn-requires g c =
    let b = c.requires.back in
    let m = c.args.token.now.me in (
      search rules,
      search rules,
      passes g.N.Sighted.sight g.N.Sighted.goes _ _ _ _ b.ticket (g.N.Sighted.sight b.node).flight m.0.first (own_hand m.0) b.node m b.is
          (sym b.seen) b.faults refl b.since,
    )
