use Rattle.std.proofs.Common.{subst}
use Rattle.record_grammar.specs.Kinds.{IsCoord}
use Rattle.node_journal.specs.Sound.{IsSoundNode}
use Rattle.node_journal.proofs.Sound.{seen_sound}
use Rattle.coord_log.proofs.Kept.{journal_has_room}
use Rattle.coord_log.proofs.log.CoordLog.header.Goals as goal

pub returns-clause-sound : goal.returns-clause-sound
returns-clause-sound g c =
    let on = c.self.invariant.on in
    subst (λ l. IsSoundNode g.D.Disk l) c.self.view_is
    (seen_sound IsCoord c.self.inside.node on.node (journal_has_room c.self.inside.node on c.header-core.ensures.whole))
