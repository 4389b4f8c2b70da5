-- Pieces of a line behind a text.
use Rattle.std.proofs.Common.{◌≡◌, ℕ, List, ◌++◌, sym, ap, ◌∙◌, append_assoc}

-- four pieces, one after another
pub joined : (t e a b c : List ℕ) → (t ++ e) ++ ((a ++ b) ++ c) ≡ t ++ (((e ++ a) ++ b) ++ c)
joined t e a b c =
    append_assoc t e ((a ++ b) ++ c)
    ∙ ap (λ (x : List ℕ). t ++ x) (sym (append_assoc e (a ++ b) c) ∙ ap (λ (x : List ℕ). x ++ c) (sym (append_assoc e a b)))
