-- Disks that are back.
use Rattle.std.proofs.Common.{◌≡◌, ◌≢◌, ◌≤◌, ◌<◌, ℕ, zero, suc, Option, sym, ◌∙◌, subst, arith, inl, inr, ⊎_elim}
use Rattle.std.proofs.lemmas.Bool.{cases_eq, cases_lt}
use Rattle.outside.specs.declared.disk.Disk.{Ghosts}
use Rattle.rack_ledgers.specs.Racked.{IsDiskBack, AreDisksBack}
use Rattle.rack_ledgers.proofs.Told.{back_same, back_later}

-- what may be taken at place 0 and behind it
pub taken_one : (can_take : ℕ → Type 0) → can_take 0 → ((n : ℕ) → 1 ≤ n → can_take n) → (n : ℕ) → can_take n
taken_one can_take here others zero = here
taken_one can_take here others (suc n) = others (suc n) (omega arith)

module _ {D : Type 0} (device : Ghosts D) (before after : ℕ → ℕ) where
  -- that of node 0, where no other was touched
  pub back_one : (old now : ℕ → Option D) → IsDiskBack device (before 0) (after 0) (old 0) (now 0) → ((n : ℕ) → n ≢ 0 → now n ≡ old n)
      → AreDisksBack device (record { held = old; faults = before }) (record { held = now; faults = after })
  back_one old now here others n = ⊎_elim
      (λ (same : n ≡ 0). subst (λ (k : ℕ). IsDiskBack device (before k) (after k) (old k) (now k)) (sym same) here)
      (λ (differs : n ≢ 0). back_same device (before n) (after n) (old n) (now n) (others n differs))
      (cases_eq n 0)

  -- those before a place, those from there up to another within a part of the time, and those behind, which are untouched
  pub back_parts : (between till : ℕ → ℕ) (old mid now : ℕ → Option D) (first end : ℕ) → ((n : ℕ) → before n ≤ between n)
      → ((n : ℕ) → till n ≤ after n) → ((n : ℕ) → first ≤ n → mid n ≡ old n)
      → ((n : ℕ) → n < first → IsDiskBack device (before n) (after n) (old n) (now n))
      → ((n : ℕ) → first ≤ n → n < end → IsDiskBack device (between n) (till n) (mid n) (now n))
      → ((n : ℕ) → first ≤ n → end ≤ n → now n ≡ mid n)
      → AreDisksBack device (record { held = old; faults = before }) (record { held = now; faults = after })
  back_parts between till old mid now first end later ends kept front inside past n = elim (cases_lt n first) [
    | inl small ↦ front n small
    | inr large ↦ elim (cases_lt n end) [
      | inl below ↦ λ was is. back_later device (mid n) (now n) (later n) (ends n) (inside n large below) was (kept n large ∙ is)
      | inr above ↦ back_same device (before n) (after n) (old n) (now n) (past n large above ∙ kept n large)
    ]
  ]
