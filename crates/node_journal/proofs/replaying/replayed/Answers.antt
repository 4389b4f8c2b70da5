use Rattle.std.proofs.Common.{◌≡◌, ◌+◌, ◌∷◌, reverse, take}
use Rattle.node_journal.specs.Opening.{IsPlayed}
use Rattle.node_journal.proofs.Journals.{went_on}
use Rattle.node_journal.proofs.Playing.{plays, not_next}
use Rattle.node_journal.proofs.Stops.{place_more, stopped}
use Rattle.node_journal.proofs.replaying.replayed.Goals as goal

pub records-preserved : goal.records-preserved
records-preserved g c =
    let J = reverse (take c.records.i c.args.records.now) in
    let on : reverse (take (c.records.i + 1) c.args.records.now) ≡ c.index-records-i.result ∷ J =
    went_on c.args.records.now c.records.i c.index-records-i.result c.records-test.true c.index-records-i.is in
    let played : IsPlayed g.C.Core.header g.C.Core.stands g.C.Core.kind c.args.header.now c.apply.new.self
    (reverse (take (c.records.i + 1) c.args.records.now)) =
    rw on (plays c.args.header.now c.records.core c.admit_known.new.self c.apply.new.self J c.index-records-i.result c.in-Ok-true.field-0
    c.records.invariant.played c.in-Ok-true.field-0-test c.in-Ok-true.ensures.next
    c.admit_known.ensures.header (c.admit_known.ensures.stands J c.records.invariant.played.stands) c.apply.ensures.header
    (c.apply.ensures.stands J (c.admit_known.ensures.stands J c.records.invariant.played.stands))) in
    record {
      played = played;
      place = place_more c.args.records.now c.records.at c.records.i c.size_of_record.result c.saturating_add-at.result c.index-records-i.result
          c.records-test.true c.index-records-i.is c.records.invariant.place c.size_of_record.ensures
          c.saturating_add-at.ensures;
    }

pub returns-in-Ok-false-clause-unplayed : goal.returns-in-Ok-false-clause-unplayed
returns-in-Ok-false-clause-unplayed g c =
    let J = reverse (take c.records.i c.args.records.now) in
    let played = c.records.invariant.played in
    stopped g.C.Core.kind g.C.Core.other c.args.header.now c.args.records.now c.records.at c.records.i c.index-records-i.result played.journal
    played.kind c.records.invariant.place c.records-test.true c.index-records-i.is
    (not_next c.args.header.now c.records.core J c.index-records-i.result c.in-Ok-false.field-0 played c.in-Ok-false.field-0-test
    c.in-Ok-false.ensures.next)
