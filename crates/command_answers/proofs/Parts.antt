-- A text that is written part by part, by what is left to write.
use Rattle.std.proofs.Common.{◌≡◌, ◌+◌, ◌++◌, [], ℕ, length, take, Option, Some, Result, Ok, Err, refl, sym, ◌∙◌, ap, append_assoc}
use Rattle.std.proofs.lemmas.List.{append-nil}
use Rattle.outside.specs.Images.{Tells}
use Rattle.line_text.specs.Lines.{Text, Prints}
use Rattle.line_text.proofs.PieceLemmas.{front_of_both, front_behind}

-- what was printed, with what is left, is the whole
abbrev pub Goes : Option Text → Option Text → Text → Text → Type 0
Goes old mid whole left = (a : Text) × Tells old (λ t. mid ≡ Some (t ++ a)) × (a ++ left ≡ whole)

pub goes_begin : (old : Option Text) (whole : Text) → Goes old old whole whole
goes_begin old whole = ([], (λ t is. is ∙ ap (λ (l : Text). Some l) (sym (append-nil t))), refl)

module _ (old mid new : Option Text) (whole piece rest : Text) (goes : Goes old mid whole (piece ++ rest)) where
  pub part_more : Tells mid (λ t. new ≡ Some (t ++ piece)) → Goes old new whole rest
  part_more prints = (
    goes.0 ++ piece,
    (λ t is. prints (t ++ goes.0) (goes.1 t is) ∙ ap (λ (l : Text). Some l) (append_assoc t goes.0 piece)),
    append_assoc goes.0 piece rest ∙ goes.2,
  )

  pub part_cut : Tells mid (λ t. (n : ℕ) × (new ≡ Some (t ++ take n piece))) → Tells old (λ t. (n : ℕ) × (new ≡ Some (t ++ take n whole)))
  part_cut fails = λ t is.
      let (n, front) = fails (t ++ goes.0) (goes.1 t is) in
      let (m, longer) = front_of_both piece rest n in (
        length goes.0 + m,
        front ∙ ap (λ (l : Text). Some l) (append_assoc t goes.0 (take n piece))
            ∙ ap (λ (l : Text). Some (t ++ l)) (ap (λ (l : Text). goes.0 ++ l) longer ∙ front_behind goes.0 (piece ++ rest) m
            ∙ ap (take (length goes.0 + m)) goes.2),
      )

-- nothing is left
pub parts_done : (old mid : Option Text) (whole : Text) → Goes old mid whole [] → Tells old (λ t. mid ≡ Some (t ++ whole))
parts_done old mid whole goes = λ t is. goes.1 t is ∙ ap (λ (l : Text). Some (t ++ l)) (sym (append-nil goes.0) ∙ goes.2)

-- the last part
pub last_part : {E : Type 0} (old mid new : Option Text) (whole piece : Text) (r : Result (Unit {0}) E) → Goes old mid whole piece
    → Prints mid new piece r → Prints old new whole r
last_part old mid new whole piece (Ok done) goes prints =
    parts_done old new whole (part_more old mid new whole piece [] (goes.0, goes.1, ap (λ (l : Text). goes.0 ++ l) (append-nil piece) ∙ goes.2)
    prints)
last_part old mid new whole piece (Err e) goes fails =
    part_cut old mid new whole piece [] (goes.0, goes.1, ap (λ (l : Text). goes.0 ++ l) (append-nil piece) ∙ goes.2) fails
