-- Which nodes rows are of, row by row, and what is behind a journal's oldest record.
use Rattle.std.proofs.Common.{◌≡◌, ◌↔◌, ℕ, zero, suc, ◌-◌, ◌<◌, ◌≤◌, ◌==◌, Bool, false, List, [], ◌∷◌, ◌++◌, refl, sym, ◌∙◌, subst, arith, rules}
use Rattle.std.specs.Prelude.{IsTrue}
use Rattle.cbdc_model.specs.Records.{Record, Row, journal}
use Rattle.ledger_laws.proofs.Rows.{head_at, head_away}
use Rattle.plain_check.specs.Merging.{put_records, behind_first, later_below}
use Rattle.plain_check.proofs.Merging.{behind_last}

no_lie : IsTrue false → ⊥
no_lie t = search rules

other_node : (m n k : ℕ) → m < n → n ≤ k → (m == k) ≡ false
other_node m n k lt le = grind arith

numbered_more : (rows past : List Row) (row : Row) (n : ℕ) → rows ≡ row ∷ past → row.node < n → ((k : ℕ) → n ≤ k → journal k past ≡ []) → (k : ℕ)
    → n ≤ k → journal k rows ≡ []
numbered_more rows past row n e lt none k le = subst (λ l. journal k l ≡ []) (sym e)
    (head_away row past k (other_node row.node n k lt le) ∙ none k le)

pub below_more : (rows past : List Row) (row : Row) (n : ℕ) (told : Bool) → rows ≡ row ∷ past → row.node < n
    → (IsTrue told ↔ ((k : ℕ) → n ≤ k → journal k past ≡ [])) → IsTrue told ↔ ((k : ℕ) → n ≤ k → journal k rows ≡ [])
below_more rows past row n told e lt h = (
  λ t. numbered_more rows past row n e lt (h.0 t),
  λ all. h.1 (λ k le. sym (head_away row past k (other_node row.node n k lt le)) ∙ subst (λ l. journal k l ≡ []) e (all k le)),
)

pub below_not : (rows past : List Row) (row : Row) (n : ℕ) → rows ≡ row ∷ past → n ≤ row.node → IsTrue false ↔ ((k : ℕ) → n ≤ k → journal k rows ≡ [])
below_not rows past row n e le = (
  λ t. absurd (no_lie t),
  λ all. absurd (some row.what (journal row.node past)
      (sym (head_at row past row.node refl) ∙ subst (λ l. journal row.node l ≡ []) e (all row.node le))),
)
  where
    some : (r : Record) (J : List Record) → r ∷ J ≡ [] → ⊥
    some r J h = cc

pub front_of : (past newer : List Record) (r : Record) → past ≡ newer ++ r ∷ [] → newer ≡ behind_first past
front_of past newer r e = sym (behind_last newer r) ∙ subst (λ l. behind_first (newer ++ r ∷ []) ≡ behind_first l) (sym e) refl

pub below_step : (J : ℕ → List Record) (n : ℕ) → 0 < n → later_below J n ≡ put_records (n - 1) (behind_first (J (n - 1))) (later_below J (n - 1))
below_step J zero h = absurd (omega arith)
below_step J (suc n) h = let e : suc n - 1 ≡ n = omega arith in rw e refl
