use Rattle.std.proofs.Common.{rules, ◌≡◌, ◌+◌, ◌*◌, ◌/◌, ◌%◌, ◌<◌, length, length-append, [], ◌∷◌, get_or, sym, ap, ◌∙◌, subst, inl, inr, Some}
use Rattle.std.specs.Prelude.{slice_get}
use Rattle.std.proofs.lemmas.Option.{slice_get-get_or}
use Rattle.cbdc_model.specs.Coins.{tx_id}
use Rattle.submissions.specs.Checks.{IsSaid}
use Rattle.submissions.proofs.Placing.{snoc_get}
use Rattle.lane_sources.specs.Sources.{count_of_lanes, SubmissionAt}
use Rattle.lane_sources.proofs.Noting.{place_of}
use Rattle.lane_sources.proofs.behind.checks_of.Goals as goal

pub places-preserved : goal.places-preserved
places-preserved g c =
    let K = g.F.Deals.shape in
    let verdicts = g.F.Deals.verdicts in
    let file = g.F.Deals.file in
    let place = c.places.place in
    let one = c.said.result in
    let lanes = c.lanes-lanes.result in
    let s = get_or c.finish_all.new.sources (place % lanes) c.index-sources-place.result in
    let low : place % lanes < length c.finish_all.new.sources = search rules in
    let lane : s.lane ≡ place % lanes = (c.finish_all.ensures.end (place % lanes) s
    (slice_get-get_or c.finish_all.new.sources (place % lanes) c.index-sources-place.result low)).0 in
    let is : s.lane + count_of_lanes K * (place / lanes) ≡ place = place_of (count_of_lanes K) lanes place s.lane c.lanes-lanes.ensures.lanes lane in
    let said : SubmissionAt file place (λ t. (one.id ≡ tx_id t) × IsSaid K verdicts file place t one.judgement) =
    subst (λ j. SubmissionAt file j (λ t. (one.id ≡ tx_id t) × IsSaid K verdicts file j t one.judgement)) is c.said.ensures in
    record {
      count = ap (λ xs. length xs) c.push_reserved.ensures.items
          ∙ (length-append c.places.checked.items (one ∷ []) ∙ ap (λ n. n + 1) c.places.invariant.count);
      room = c.push_reserved.ensures.capacity ∙ c.places.invariant.room;
      said = λ j t d there has. elim (snoc_get c.places.checked.items one d j
          (subst (λ xs. slice_get xs j ≡ Some d) c.push_reserved.ensures.items has)) [
            | inl h ↦ c.places.invariant.said j t d there h
            | inr (j_is, d_is) ↦
                let here : j ≡ place = j_is ∙ c.places.invariant.count in
                let a = said t (subst (λ m. slice_get file m ≡ Some t) here there) in
                let b = subst (λ m. (one.id ≡ tx_id t) × IsSaid K verdicts file m t one.judgement) (sym here) a in
                subst (λ x. (x.id ≡ tx_id t) × IsSaid K verdicts file j t x.judgement) (sym d_is) b
          ];
    }
