-- Lines on a page.
use Rattle.std.proofs.Common.{◌≡◌, ◌++◌, Some, Result, Ok, Err, refl, ap}
use Rattle.std.specs.Prelude.{OnOk, unwrap_or}
use Rattle.line_text.specs.Lines.{Text, Prints}

-- what stands in an answer
pub some_is : {A : Type 0} (a b : A) → Some a ≡ Some b → a ≡ b
some_is a b h = ap (λ o. unwrap_or o a) h

module _ {E : Type 0} where
  -- what was told of a sink, of a page
  pub printed : (a b t : Text) (r : Result (Unit {0}) E) → Prints (Some a) (Some b) t r → OnOk r (b ≡ a ++ t)
  printed a b t (Ok done) h = some_is b (a ++ t) (h a refl)
  printed a b t (Err e) h = tt
