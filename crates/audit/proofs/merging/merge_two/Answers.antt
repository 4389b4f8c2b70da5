use Rattle.std.proofs.Common.{◌≡◌, ◌∙◌, ◌⊎◌, ◌+◌, ◌-◌, ◌≤◌, ◌++◌, inl, inr, sym, ap, subst, length, take, drop, get_or, refl, arith}
use Rattle.std.proofs.lemmas.Grind.{common_steps}
use Rattle.std.proofs.lemmas.List.Elements.{All-push, All-get_or, All-same}
use Rattle.audit.specs.declared.place.Place.{Place}
use Rattle.audit.specs.Rows.{read, rows_at, IsRecordPlace}
use Rattle.audit.specs.Merges.{MergedUpTo}
use Rattle.audit.proofs.Places.{left_step, right_step, joined, all_joined}
use Rattle.audit.proofs.merging.merge_two.Goals as goal
use Rattle.audit.proofs.merging.merge_two.Goals.{then-places-test+else-j-b, else-places-test}

no_place : Place
no_place = record { node = 0; index = 0 }

pub places-preserved-then-goes_above : goal.places-preserved-then-goes_above
unfolding no_place
places-preserved-then-goes_above c = (
  subst (λ v. MergedUpTo (rows_at (read c.args.journals.now) c.args.a.now) (rows_at (read c.args.journals.now) c.args.b.now)
      (rows_at (read c.args.journals.now) v) (c.places.i + 1) c.places.j) (sym c.in_ok-push.ensures.items)
      (left_step (read c.args.journals.now) c.args.a.now c.args.b.now c.places.places.items c.places.i c.places.j
      (get_or c.args.a.now c.places.i no_place) (get_or c.args.b.now c.places.j no_place) no_place
      c.places.invariant.0 c.places-test.true c.if-j-b.true refl refl (sym c.if-goes_above.ensures)),
  All-same (IsRecordPlace (read c.args.journals.now)) _ _ c.in_ok-push.ensures.items
      (All-push (IsRecordPlace (read c.args.journals.now)) c.places.places.items _ c.places.invariant.1
      (All-get_or (IsRecordPlace (read c.args.journals.now)) c.args.a.now c.places.i no_place c.places-test.true c.requires.left)),
)

pub places-preserved : goal.places-preserved
unfolding no_place
places-preserved c = (
  subst (λ v. MergedUpTo (rows_at (read c.args.journals.now) c.args.a.now) (rows_at (read c.args.journals.now) c.args.b.now)
      (rows_at (read c.args.journals.now) v) c.places.i (c.places.j + 1)) (sym c.in_ok-push-2.ensures.items)
      (right_step (read c.args.journals.now) c.args.a.now c.args.b.now c.places.places.items c.places.i c.places.j
      (get_or c.args.a.now c.places.i no_place) (get_or c.args.b.now c.places.j no_place) no_place
      c.places.invariant.0 c.places-test.true c.if-j-b.true refl refl (sym c.if-goes_above.ensures)),
  All-same (IsRecordPlace (read c.args.journals.now)) _ _ c.in_ok-push-2.ensures.items
      (All-push (IsRecordPlace (read c.args.journals.now)) c.places.places.items _ c.places.invariant.1
      (All-get_or (IsRecordPlace (read c.args.journals.now)) c.args.b.now c.places.j no_place c.if-j-b.true c.requires.right)),
)

ends : (c : goal.In_ok-extend_from_slice-2) → (length c.args.a.now ≤ c.places.i) ⊎ (length c.args.b.now ≤ c.places.j)
ends c = elim c.places-test.branch [
  | then-places-test+else-j-b w ↦ inr w.if-j-b.false
  | else-places-test w ↦ inl w.places-test.false
]

both : (c : goal.In_ok-extend_from_slice-2) → c.extend_from_slice-2.new.self.items
    ≡ (c.places.places.items ++ take (length c.args.a.now - c.places.i) (drop c.places.i c.args.a.now))
    ++ take (length c.args.b.now - c.places.j) (drop c.places.j c.args.b.now)
both c = c.in_ok-extend_from_slice-2.ensures.items
    ∙ ap (λ l. l ++ take (length c.args.b.now - c.places.j) (drop c.places.j c.args.b.now)) c.in_ok-extend_from_slice.ensures.items

pub returns-clause-journals : goal.returns-clause-journals
returns-clause-journals c = λ apart.
    (joined (read c.args.journals.now) c.args.a.now c.args.b.now c.places.places.items c.places.i c.places.j _ c.places.invariant.0 (ends c) (both c)
    apart).0

pub returns-clause-rises : goal.returns-clause-rises
returns-clause-rises c = λ apart.
    (joined (read c.args.journals.now) c.args.a.now c.args.b.now c.places.places.items c.places.i c.places.j _ c.places.invariant.0 (ends c) (both c)
    apart).1

pub returns-clause-places : goal.returns-clause-places
returns-clause-places c =
    all_joined (read c.args.journals.now) c.args.a.now c.args.b.now c.places.places.items c.places.i c.places.j _ (both c) c.requires.left
    c.requires.right c.places.invariant.1

pub offset_bounds-b-j-2 : goal.offset_bounds-b-j-2
offset_bounds-b-j-2 c = grind (arith, common_steps)

pub offset_bounds-a-i-2 : goal.offset_bounds-a-i-2
offset_bounds-a-i-2 c = grind (arith, common_steps)

pub slice_bounds-extend_from_slice-start-2 : goal.slice_bounds-extend_from_slice-start-2
slice_bounds-extend_from_slice-start-2 c = grind (arith, common_steps)

pub slice_bounds-extend_from_slice-count-2 : goal.slice_bounds-extend_from_slice-count-2
slice_bounds-extend_from_slice-count-2 c = grind (arith, common_steps)
