-- Lines that are written one after another, by what is left to write.
use Rattle.std.proofs.Common.{◌≡◌, ◌⊎◌, inl, inr, ◌+◌, ◌++◌, ◌∷◌, [], ℕ, List, length, take, Option, Some, refl, sym, ◌∙◌, ap, append_assoc, arith}
use Rattle.std.proofs.lemmas.List.{append-nil}
use Rattle.outside.specs.Images.{Tells}
use Rattle.cbdc_model.specs.Records.{Digest}
use Rattle.cbdc_model.specs.Status.{Status}
use Rattle.line_text.specs.Lines.{Text}
use Rattle.line_text.specs.Reports.{status_line}
use Rattle.line_text.proofs.PieceLemmas.{front_of_both, front_behind}
use Rattle.status_command.specs.Texts.{told_lines}

-- what was printed, with the lines that are left, is the whole
abbrev pub Goes : Option Text → Option Text → Text → List Digest → List Status → Type 0
Goes old mid whole xs ss = (a : Text) × Tells old (λ t. mid ≡ Some (t ++ a)) × (a ++ told_lines xs ss ≡ whole)

module _ (old mid new : Option Text) (whole : Text) (xs rest : List Digest) (ss more : List Status) (x : Digest) (s : Status) (first : xs ≡ x ∷ rest)
    (second : ss ≡ s ∷ more) (goes : Goes old mid whole xs ss) where
  left : told_lines xs ss ≡ status_line x s ++ told_lines rest more
  left = ap (λ (l : List Digest). told_lines l ss) first ∙ ap (λ (l : List Status). told_lines (x ∷ rest) l) second

  whole_is : goes.0 ++ (status_line x s ++ told_lines rest more) ≡ whole
  whole_is = ap (λ (l : Text). goes.0 ++ l) (sym left) ∙ goes.2

  pub line_more : Tells mid (λ t. new ≡ Some (t ++ status_line x s)) → Goes old new whole rest more
  line_more prints = (
    goes.0 ++ status_line x s,
    (λ t is. prints (t ++ goes.0) (goes.1 t is) ∙ ap (λ (l : Text). Some l) (append_assoc t goes.0 (status_line x s))),
    append_assoc goes.0 (status_line x s) (told_lines rest more) ∙ whole_is,
  )

  pub line_cut : Tells mid (λ t. (n : ℕ) × (new ≡ Some (t ++ take n (status_line x s)))) → Tells old (λ t. (n : ℕ) × (new ≡ Some (t ++ take n whole)))
  line_cut fails = λ t is.
      let (n, front) = fails (t ++ goes.0) (goes.1 t is) in
      let (m, longer) = front_of_both (status_line x s) (told_lines rest more) n in (
        length goes.0 + m,
        front ∙ ap (λ (l : Text). Some l) (append_assoc t goes.0 (take n (status_line x s)))
            ∙ ap (λ (l : Text). Some (t ++ l)) (ap (λ (l : Text). goes.0 ++ l) longer
            ∙ front_behind goes.0 (status_line x s ++ told_lines rest more) m ∙ ap (take (length goes.0 + m)) whole_is),
      )

no_lines : (xs : List Digest) (ss : List Status) → (length xs ≡ 0) ⊎ (length ss ≡ 0) → told_lines xs ss ≡ []
no_lines [] ss none = refl
no_lines (x ∷ xs) [] none = refl
no_lines (x ∷ xs) (s ∷ ss) (inl none) = absurd (omega (arith, none))
no_lines (x ∷ xs) (s ∷ ss) (inr none) = absurd (omega (arith, none))

-- nothing is left
pub lines_done : (old mid : Option Text) (whole : Text) (xs : List Digest) (ss : List Status) → (length xs ≡ 0) ⊎ (length ss ≡ 0)
    → Goes old mid whole xs ss → Tells old (λ t. mid ≡ Some (t ++ whole))
lines_done old mid whole xs ss none goes = λ t is.
    goes.1 t is ∙ ap (λ (l : Text). Some (t ++ l)) (sym (append-nil goes.0) ∙ ap (λ (l : Text). goes.0 ++ l) (sym (no_lines xs ss none)) ∙ goes.2)
