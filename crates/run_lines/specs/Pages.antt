-- Lines that wait on a page before they are written.
use Rattle.std.specs.Prelude.{◌≡◌, ℕ, ◌++◌, take, Option, Some, Result, Ok, Err}
use Rattle.outside.specs.Images.{Tells}
use Rattle.line_text.specs.Lines.{Text}

-- what was written, with what waits now, is what waited before and the text; or at a fault a front of both was written
abbrev pub GathersText : {E : Type 0} → Option Text → Text → Option Text → Text → Text → Result (Unit {0}) E → Type 0
GathersText old waited new waits text (Ok done) = (out : Text) × Tells old (λ t. new ≡ Some (t ++ out)) × (out ++ waits ≡ waited ++ text)
GathersText old waited new waits text (Err e) = Tells old (λ t. (n : ℕ) × (new ≡ Some (t ++ take n (waited ++ text))))
