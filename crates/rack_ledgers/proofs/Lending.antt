-- Journals that are lent, one after another.
use Rattle.std.proofs.Common.{◌≡◌, ◌<◌, ◌+◌, ◌++◌, ◌∷◌, [], ℕ, suc, List, length, map, reverse, take, sym, ◌∙◌, ap, append_assoc, arith}
use Rattle.std.specs.Prelude.{slice_index_or}
use Rattle.std.specs.Borrow.{Bor}
use Rattle.std.proofs.Math.Seq.{take-suc}
use Rattle.std.proofs.lemmas.List.{map-append, reverse-reverse}
use Rattle.cbdc_model.specs.Records.{Record}
use Rattle.audit.specs.Rows.{read}

module _ {N : Type 0} where
  -- one more, of which the newest record is the first
  pub lent_more : (journal : N → List Record) (before now : List (Bor (List Record))) (j : Bor (List Record)) (first : List (List Record))
      (nodes : List N) (i : ℕ) (x : N) → i < length nodes → x ≡ slice_index_or nodes i x
      → now ≡ before ++ j ∷ [] → reverse j.now ≡ journal x → read before ≡ first ++ map (λ y. reverse (journal y)) (take i nodes)
      → read now ≡ first ++ map (λ y. reverse (journal y)) (take (i + 1) nodes)
  lent_more journal before now j first nodes i x inside here pushed is so_far =
      let f : N → List Record = λ y. reverse (journal y) in
      let one : j.now ≡ f x = sym (reverse-reverse j.now) ∙ ap reverse is in
      let next : suc i ≡ i + 1 = omega arith in
      let longer : map f (take (i + 1) nodes) ≡ map f (take i nodes) ++ (f x ∷ []) =
      ap (λ (k : ℕ). map f (take k nodes)) (sym next) ∙ ap (map f) (take-suc nodes i x inside)
      ∙ map-append f (take i nodes) (slice_index_or nodes i x ∷ []) ∙ ap (λ (y : N). map f (take i nodes) ++ (f y ∷ [])) (sym here) in
      ap read pushed ∙ map-append (λ (k : Bor (List Record)). k.now) before (j ∷ []) ∙ ap (λ (l : List (List Record)). l ++ (j.now ∷ [])) so_far
      ∙ append_assoc first (map f (take i nodes)) (j.now ∷ [])
      ∙ ap (λ (l : List Record). first ++ (map f (take i nodes) ++ (l ∷ []))) one ∙ ap (λ (l : List (List Record)). first ++ l) (sym longer)
