-- The journals of a history's nodes, as a list.
use Rattle.std.proofs.Common.{◌≡◌, ℕ, zero, suc, ◌+◌, ◌-◌, ◌<◌, ◌≤◌, List, [], ◌∷◌, length, get_or, refl, sym, ap, ◌∙◌, arith, inl, inr}
use Rattle.std.proofs.lemmas.Bool.{cases_lt}
use Rattle.std.proofs.lemmas.List.{get_or_past}
use Rattle.cbdc_model.specs.Records.{Row, journal}
use Rattle.plain_check.specs.Journals.{journals_in, journals_from}

pub journals_step : (past : List Row) (k n : ℕ) → 0 < n → journals_from past k n ≡ journal k past ∷ journals_from past (k + 1) (n - 1)
journals_step past k zero h = absurd (omega arith)
journals_step past k (suc n) h =
    let e : suc n - 1 ≡ n = omega arith in
    let f : k + 1 ≡ suc k = omega arith in
    rw (e, f) refl

many : (past : List Row) (k n : ℕ) → length (journals_from past k n) ≡ n
many past k zero = refl
many past k (suc n) = let rest = many past (suc k) n in omega (arith, rest)

here : (past : List Row) (k n i : ℕ) → i < n → get_or (journals_from past k n) i [] ≡ journal (k + i) past
here past k zero i h = absurd (omega arith)
here past k (suc n) zero h = let e : k + 0 ≡ k = omega arith in rw e refl
here past k (suc n) (suc i) h = let e : k + suc i ≡ suc k + i = omega arith in rw e (here past (suc k) n i (omega arith))

pub all_journals : (past : List Row) (count : ℕ) → ((n : ℕ) → count ≤ n → journal n past ≡ [])
    → journals_in (journals_from past 0 count) ≡ (λ n. journal n past)
all_journals past count none = λ i n. at n i
  where
    at : (n : ℕ) → journals_in (journals_from past 0 count) n ≡ journal n past
    at n = elim (cases_lt n count) [
      | inl h ↦ here past 0 count n h ∙ (let e : 0 + n ≡ n = omega arith in ap (λ m. journal m past) e)
      | inr h ↦ get_or_past (journals_from past 0 count) n [] (let m = many past 0 count in omega (arith, m)) ∙ sym (none n h)
    ]
