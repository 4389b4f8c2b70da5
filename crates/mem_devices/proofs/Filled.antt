-- Places that were filled one after another.
use Rattle.std.proofs.Common.{◌≡◌, inl, inr, ◌<◌, ◌≤◌, ◌+◌, ◌++◌, ℕ, zero, suc, List, [], ◌∷◌, length, Option, Some, None, refl, sym, ap, ◌∙◌, subst}
use Rattle.std.proofs.Common.{arith}
use Rattle.std.specs.Prelude.{slice_get}
use Rattle.std.proofs.lemmas.Bool.{cases_lt}
use Rattle.std.proofs.lemmas.List.{length-append}
use Rattle.mem_devices.specs.declared.plain_disk.PlainDisk.{PlainDisk}
use Rattle.mem_devices.specs.Places.{disk_in, HasNoDiskOut}

before : {A : Type 0} (xs ys : List A) (n : ℕ) → n < length xs → slice_get (xs ++ ys) n ≡ slice_get xs n
before [] ys n lt = absurd (omega (arith, lt))
before (x ∷ xs) ys zero lt = refl
before (x ∷ xs) ys (suc n) lt = before xs ys n (omega (arith, lt))

at_end : {A : Type 0} (xs : List A) (y : A) → slice_get (xs ++ y ∷ []) (length xs) ≡ Some y
at_end [] y = refl
at_end (x ∷ xs) y = at_end xs y

none_past : {A : Type 0} (xs : List A) (n : ℕ) → length xs ≤ n → slice_get xs n ≡ None
none_past [] n le = refl
none_past (x ∷ xs) zero le = absurd (omega (arith, le))
none_past (x ∷ xs) (suc n) le = none_past xs n (omega (arith, le))

module _ {D : Type 0} (P : ℕ → D → Type 0) where
  -- each place has a disk of which this holds
  abbrev pub AreFilled : List (Option D) → Type 0
  AreFilled places = (n : ℕ) → n < length places → (d : D) × (slice_get places n ≡ Some (Some d)) × P n d

  pub none_filled : AreFilled []
  none_filled n lt = absurd (omega (arith, lt))

  pub one_filled : (places : List (Option D)) (d : D) → AreFilled places → P (length places) d → AreFilled (places ++ Some d ∷ [])
  one_filled places d are has n lt = elim (cases_lt n (length places)) [
    | inl low ↦ let old = are n low in (old.0, before places (Some d ∷ []) n low ∙ old.1, old.2)
    | inr high ↦
        let same : length places ≡ n = omega (arith, high, lt, length-append places (Some d ∷ [])) in
        (d, subst (λ k. slice_get (places ++ Some d ∷ []) k ≡ Some (Some d)) same (at_end places (Some d)), subst (λ k. P k d) same has)
  ]

  -- no disk is out
  pub all_in : (places : List (Option D)) → AreFilled places → (n : ℕ) → HasNoDiskOut (slice_get places n)
  all_in places are n = elim (cases_lt n (length places)) [
    | inl low ↦ subst HasNoDiskOut (sym (are n low).1) tt
    | inr high ↦ subst HasNoDiskOut (sym (none_past places n high)) tt
  ]

  pub filled_at : (places : List (Option D)) → AreFilled places → (n : ℕ) → n < length places
      → (d : D) × (disk_in (slice_get places n) ≡ Some d) × P n d
  filled_at places are n low = let at = are n low in (at.0, ap disk_in at.1, at.2)

-- an empty disk, with so much room where it is a node's
abbrev pub IsBlank : ℕ → ℕ → ℕ → PlainDisk → Type 0
IsBlank nodes capacity n d = (d.bytes.items ≡ []) × (n < nodes → d.capacity ≡ capacity)
