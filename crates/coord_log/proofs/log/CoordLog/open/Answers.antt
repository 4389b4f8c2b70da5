use Rattle.std.proofs.Common.{ℕ, sym, ◌∙◌, subst}
use Rattle.record_log.specs.Logs.{HasLogRoom}
use Rattle.node_journal.specs.Nodes.{NodeOf, HoldsJournal}
use Rattle.node_journal.proofs.Leaving.{shown_same}
use Rattle.coord_log.specs.Inside.{largest}
use Rattle.coord_log.specs.Opening.{IsCoordJournal}
use Rattle.coord_log.proofs.Opened.{opened_sound}
use Rattle.coord_log.proofs.log.CoordLog.open.Goals as goal

pub of_parts-requires : goal.of_parts-requires
of_parts-requires g c =
    let N : ℕ → Type 0 = λ n. HasLogRoom c.reserve.new.self n largest in
    opened_sound c.in-Ok.field-0 c.reserve.new.self c.in-Ok.ensures.opened c.records_ahead.ensures.whole c.reserve.ensures.untouched
    c.reserve.ensures.records c.reserve.ensures.header
    (subst N c.records_ahead.ensures.value c.in-Ok-reserve.ensures.room)

pub returns-in-Ok-reserve-clause-opens : goal.returns-in-Ok-reserve-clause-opens
returns-in-Ok-reserve-clause-opens g c = λ bytes told.
    let P : NodeOf g.row.D.Denot → Type 0 = λ l. IsCoordJournal l.header l.journal bytes × HoldsJournal g.D.Disk l in
    let n = c.in-Ok.field-0 in
    let same = c.of_parts.ensures ∙ shown_same n.log c.reserve.new.self n.opened n.flight c.reserve.ensures.untouched c.reserve.ensures.records
    c.reserve.ensures.header in
    subst P (sym same) (c.in-Ok.ensures.opens bytes told)
