use Rattle.std.proofs.Common.{rules, ◌≡◌, ◌∙◌, ap, sym, refl, ◌<◌, length, get_or, arith}
use Rattle.std.specs.Prelude.{slice_get}
use Rattle.cbdc_types.specs.declared.tx.Input.{Input}
use Rattle.std.proofs.lemmas.Option.{slice_get_read}
use Rattle.sentinel.specs.FirstRefusal.{Repeats, HasAt}
use Rattle.sentinel.proofs.PlaceLemmas.{none_below, has_at, same_item}
use Rattle.sentinel.proofs.places.stands_earlier.Goals as goal

pub earlier-preserved : goal.earlier-preserved
earlier-preserved c =
    let inside : c.earlier.index < length c.args.inputs.now = omega arith in
    none_below (λ (y : Input). y.point ≡ (get_or c.args.inputs.now c.args.at c.index-inputs-at.result).point) c.args.inputs.now c.earlier.index
    c.index-inputs-index.result inside c.index-inputs-index.is (search rules) c.earlier.invariant

pub returns-then-eq : goal.returns-then-eq
returns-then-eq c =
    let inside : c.earlier.index < length c.args.inputs.now = omega arith in
    let same : c.index-inputs-index.result.point ≡ c.index-inputs-at.result.point = search rules in (
      λ _. (
        c.index-inputs-at.result,
        slice_get_read c.args.inputs.now (length c.args.inputs.now) c.args.at c.index-inputs-at.result refl c.requires c.index-inputs-at.is,
        (
          c.earlier.index,
          c.earlier-test.true,
          has_at (λ (y : Input). y.point ≡ c.index-inputs-at.result.point) c.args.inputs.now c.earlier.index c.index-inputs-index.result inside
              c.index-inputs-index.is same,
        ),
      ),
      λ _. refl,
    )

pub returns : goal.returns
returns c = (
  λ bad. absurd cc,
  λ (x, at, (k, lt, (y, there, same))).
      let this : x ≡ c.index-inputs-at.result = same_item (λ (y : Input). y ≡ y) c.args.inputs.now c.args.at c.index-inputs-at.result x c.requires
      c.index-inputs-at.is at in
      absurd (c.earlier.invariant k (omega arith) (y, there, same ∙ ap (λ (z : Input). z.point) (this ∙ c.index-inputs-at.is))),
)
