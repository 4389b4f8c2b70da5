use Rattle.std.proofs.Common.{List, get_or, take, refl, sym, subst}
use Rattle.std.proofs.lemmas.List.{take_all}
use Rattle.std.proofs.lemmas.List.Elements.{All-get_or}
use Rattle.cbdc_model.specs.Records.{Row, journal}
use Rattle.audit.specs.declared.place.Place.{Place}
use Rattle.audit.specs.Rows.{read, newest_first, IsRecordPlace}
use Rattle.audit.specs.Knowing.{Knows}
use Rattle.audit.specs.Standing.{HasStatuses}
use Rattle.audit.proofs.Steps.{next_row}
use Rattle.audit.proofs.sizes.standing_of.Goals as goal

no_place : Place
no_place = record { node = 0; index = 0 }

pub places-init : goal.places-init
places-init c = (c.new-known.ensures (read c.args.journals.now), λ x. c.new-statuses.ensures x)

pub places-preserved : goal.places-preserved
unfolding no_place
places-preserved c =
    let K = c.args.shape.now in
    let all = read c.args.journals.now in
    let h = c.args.history.now in
    let past : List Row = newest_first all (take c.places.at h) in
    let e = next_row all h c.places.at (get_or h c.places.at no_place) no_place c.record_at-r.result.now c.places-test.true refl
    c.record_at-r.ensures in
    let inside = All-get_or (IsRecordPlace all) h c.places.at no_place c.places-test.true c.requires in (
      subst (λ rows. Knows all c.note-in-places.new.self (λ n. journal n rows)) (sym e)
          (c.in_ok-note-2.ensures all past inside (sym c.record_at-r.ensures) c.places.invariant.0),
      subst (λ rows. HasStatuses K c.note.new.self rows) (sym e) (c.in_ok-note.ensures past c.places.invariant.0 c.places.invariant.1),
    )

pub returns-clause-known : goal.returns-clause-known
returns-clause-known c =
    let all = read c.args.journals.now in
    subst (λ h. Knows all c.places.known (λ n. journal n (newest_first all h))) (take_all c.places.at c.args.history.now c.places-test.false)
    c.places.invariant.0

pub returns-clause-statuses : goal.returns-clause-statuses
returns-clause-statuses c =
    subst (λ h. HasStatuses c.args.shape.now c.places.statuses (newest_first (read c.args.journals.now) h))
    (take_all c.places.at c.args.history.now c.places-test.false) c.places.invariant.1
