use Rattle.std.proofs.Common.{ap, ◌∙◌, refl, get_or, arith}
use Rattle.std.proofs.lemmas.List.Elements.{All-push, All-get_or, All-same}
use Rattle.audit.specs.declared.place.Place.{Place}
use Rattle.audit.specs.Rows.{read, rows_at, IsRecordPlace}
use Rattle.cut_audit.proofs.Least.{taken_more, left_out, within, beyond}
use Rattle.cut_audit.proofs.cutting.places_up_to.Goals as goal
use Rattle.cut_audit.proofs.cutting.places_up_to.Goals.{then-stamp_of-stamp+in_ok-push, else-stamp_of-stamp}

no_place : Place
no_place = record { node = 0; index = 0 }

pub places-preserved : goal.places-preserved
unfolding no_place
places-preserved c =
    let all = read c.args.lists.now in
    let h = c.args.history.now in
    let p = get_or h c.places.at no_place in
    let s = c.args.stamp in
    let stamp = c.stamp_of-in-places.view_is ∙ c.stamp_of.ensures in
    let inside = All-get_or (IsRecordPlace all) h c.places.at no_place c.places-test.true c.requires in
    elim c.if-stamp_of-stamp.branch [
      | then-stamp_of-stamp+in_ok-push w ↦
          let le = w.if-stamp_of-stamp.true in
          let items = ap (λ v. v.items) w.places-is ∙ w.in_ok-push.ensures.items in (
            taken_more all h s c.places.at p no_place c.record_at.result.now c.places.places.items c.places-test.true refl c.record_at.ensures
                c.places.invariant.0 (within s _ (omega (arith, le, stamp))) _ items,
            All-same (IsRecordPlace all) _ _ items (All-push (IsRecordPlace all) c.places.places.items p c.places.invariant.1 inside),
          )
      | else-stamp_of-stamp w ↦
          let lt = w.if-stamp_of-stamp.false in
          let items = ap (λ v. v.items) w.places-is in (
            ap (rows_at all) items ∙ left_out all h s c.places.at p no_place c.record_at.result.now c.places.places.items c.places-test.true refl
                c.record_at.ensures c.places.invariant.0 (beyond s _ (omega (arith, lt, stamp))),
            All-same (IsRecordPlace all) _ _ items c.places.invariant.1,
          )
    ]
