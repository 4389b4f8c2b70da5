-- When devices in memory fail, and how far their counts of faults go up.
use Rattle.std.specs.Prelude.{◌≡◌, ◌<◌, ℕ, ◌+◌, ◌-◌, ◌^◌, min, Bool, true, false, nat_eq, List, Result, Ok, Err}
use Rattle.std.specs.List.{list_any}

-- this call, counted from 0, is listed
abbrev pub is_listed : List ℕ → ℕ → Bool
is_listed fails call = list_any (λ f. nat_eq f call) fails

-- one more, up to the type's end
abbrev pub one_fault_more : ℕ → ℕ
one_fault_more n = min (n + 1) (2 ^ 64 - 1)

-- the call fails exactly where this is so, and only then the count goes up, by one
abbrev pub FailsWhere : {T E : Type 0} → Bool → ℕ → ℕ → Result T E → Type 0
FailsWhere is before now (Ok x) = (is ≡ false) × (now ≡ before)
FailsWhere is before now (Err e) = (is ≡ true) × (now ≡ one_fault_more before)

-- the call fails where it is listed, where it is one too many, or where memory runs out, and only then the count goes up, by one
abbrev pub FailsListedOrFull : {T E : Type 0} → Bool → ℕ → ℕ → ℕ → ℕ → Result T E → Type 0
FailsListedOrFull listed kept limit before now (Ok x) = (listed ≡ false) × (kept < limit) × (now ≡ before)
FailsListedOrFull listed kept limit before now (Err e) = now ≡ one_fault_more before

-- the call fails exactly where it is listed, or where nothing more fits and there is something, and only then the count goes up, by one
abbrev pub FailsListedOrAt : {T E : Type 0} → Bool → Type 0 → ℕ → ℕ → Result T E → Type 0
FailsListedOrAt listed full before now (Ok x) = (listed ≡ false) × (full → ⊥) × (now ≡ before)
FailsListedOrAt listed full before now (Err e) = (listed ≡ false → full) × (now ≡ one_fault_more before)
