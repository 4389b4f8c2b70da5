-- Lines that are gathered on a page and written together.
use Rattle.std.proofs.Common.{◌≡◌, ℕ, ◌++◌, [], length, take, Option, Some, Result, Ok, Err, refl, sym, ◌∙◌, ap, subst, append_assoc}
use Rattle.std.proofs.lemmas.List.{append-nil, take_at}
use Rattle.outside.specs.Images.{Tells}
use Rattle.line_text.specs.Lines.{Text, Prints}
use Rattle.line_text.proofs.PieceLemmas.{prints_then}
use Rattle.command_answers.proofs.Parts.{Goes, part_more, part_cut}
use Rattle.run_lines.specs.Pages.{GathersText}

some_is : {A : Type 0} (a b : A) → Some a ≡ Some b → a ≡ b
some_is a b e = cc

-- what stands on the page once a text that found no room there is taken away
pub cut_back : (waited half text : Text) → Tells (Some waited) (λ t. (n : ℕ) × (Some half ≡ Some (t ++ take n text)))
    → take (length waited) half ≡ waited
cut_back waited half text off =
    let (n, front) = off waited refl in
    ap (take (length waited)) (some_is half (waited ++ take n text) front) ∙ take_at waited (take n text) (length waited) refl

-- what waited was written, and the text behind it
pub all_out : {E : Type 0} (old mid new : Option Text) (waited waits text : Text) (r : Result (Unit {0}) E) → waits ≡ []
    → Tells old (λ t. mid ≡ Some (t ++ waited)) → Prints mid new text r → GathersText old waited new waits text r
all_out {E} old mid new waited waits text (Ok done) none first second = (
  waited ++ text,
  prints_then {E = E} old mid new waited text (Ok done) first second,
  ap (λ (l : Text). (waited ++ text) ++ l) none ∙ append-nil (waited ++ text),
)
all_out old mid new waited waits text (Err e) none first second = prints_then old mid new waited text (Err e) first second

-- ---- part by part

module _ (old mid new : Option Text) (whole waited text rest : Text) (goes : Goes old mid whole (waited ++ (text ++ rest))) where
  pub gathered_more : (waits : Text) → (out : Text) × Tells mid (λ t. new ≡ Some (t ++ out)) × (out ++ waits ≡ waited ++ text)
      → Goes old new whole (waits ++ rest)
  gathered_more waits (out, wrote, is) =
      part_more old mid new whole out (waits ++ rest)
      (subst (Goes old mid whole) (sym (append_assoc waited text rest) ∙ ap (λ (l : Text). l ++ rest) (sym is) ∙ append_assoc out waits rest) goes)
      wrote

  pub gathered_cut : Tells mid (λ t. (n : ℕ) × (new ≡ Some (t ++ take n (waited ++ text))))
      → Tells old (λ t. (n : ℕ) × (new ≡ Some (t ++ take n whole)))
  gathered_cut = part_cut old mid new whole (waited ++ text) rest (subst (Goes old mid whole) (sym (append_assoc waited text rest)) goes)
