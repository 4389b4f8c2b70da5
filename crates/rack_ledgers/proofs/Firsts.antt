-- What a crash leaves while a first record is written.
use Rattle.std.proofs.Common.{◌≡◌, inl, inr, ⊎_elim, ℕ, Bool, List, [], ◌∷◌, sym, subst}
use Rattle.gate_journal.specs.Rows.{IsShut, Opens, OpensWithOrWithout}
use Rattle.gate_journal.specs.Formatting.{IsEmptied}
use Rattle.gate_journal.specs.Stands.{HoldsRows}
use Rattle.outside.specs.Images.{Leaves}
use Rattle.outside.proofs.Moments.{goes_further, weakened}
use Rattle.outside.specs.declared.disk.Disk.{Ghosts}
use Rattle.rack_ledgers.specs.First.{IsFirstStored}

module _ {D : Type 0} (tells : D → Bool) (moment : D → ℕ) (since : D → ℕ → List ℕ → Type 0) (device : Ghosts D) where
  -- an append behind a call that changes nothing of the disk
  pub appended : (old mid new : D) (gate : ℕ) (body : List ℕ) → mid ≡ old → gate ≡ 0
      → (HoldsRows (device.content mid) (device.images mid) gate [] → Leaves tells moment since device.images mid new (OpensWithOrWithout [] body))
      → HoldsRows (device.content old) (device.images old) 0 [] → Leaves tells moment since device.images old new (OpensWithOrWithout [] body)
  appended old mid new gate body same at leaves stands =
      let here : HoldsRows (device.content old) (device.images old) gate [] =
      subst (λ (n : ℕ). HoldsRows (device.content old) (device.images old) n []) (sym at) stands in
      subst (λ (d : D). Leaves tells moment since device.images d new (OpensWithOrWithout [] body)) same
      (leaves (subst (λ (d : D). HoldsRows (device.content d) (device.images d) gate []) (sym same) here))

-- a journal of no body has no first row
none_stored : (before : List ℕ → Type 0) (body bytes : List ℕ) → OpensWithOrWithout [] body bytes → IsFirstStored before body bytes
none_stored before body bytes opens = ⊎_elim
    (λ (none : Opens [] bytes). inl (inl (inr (inl (subst IsShut (sym none.parts) none.shut)))))
    (λ (one : Opens (body ∷ []) bytes). inr one)
    opens

-- a body behind a disk that was made ready for it
pub formatted : {D : Type 0} (tells : D → Bool) (moment : D → ℕ) (since : D → ℕ → List ℕ → Type 0) (device : Ghosts D) (old mid new : D)
    (body : List ℕ) → Leaves tells moment since device.images old mid (IsEmptied (device.images old))
    → Leaves tells moment since device.images mid new (OpensWithOrWithout [] body)
    → Leaves tells moment since device.images old new (IsFirstStored (device.images old) body)
formatted tells moment since device old mid new body first second =
    goes_further tells moment since device.images old mid new (IsEmptied (device.images old)) (IsFirstStored (device.images old) body) first
    (weakened tells moment since device.images mid new (OpensWithOrWithout [] body) (IsFirstStored (device.images old) body) second
    (λ c is. none_stored (device.images old) body c is)) (λ c is. inl is)
