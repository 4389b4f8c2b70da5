-- Disks that a rack tells, from call to call.
use Rattle.std.proofs.Common.{◌≡◌, ◌≤◌, ℕ, List, Option, Some, None, refl, sym, ◌∙◌, subst, arith}
use Rattle.std.specs.Prelude.{IfSome, IsSome}
use Rattle.outside.specs.Counts.{Rose}
use Rattle.outside.specs.declared.disk.Disk.{Ghosts}
use Rattle.rack_ledgers.specs.Racked.{OfTold, IsSameDisk, IsUnchanged, IsReturned, IsDiskBack, IsNodeOpened}

-- what is told, where it is used
pub of_told : {D : Type 0} (P : D → Type 0) (held : Option D) → IfSome held P → OfTold held P
of_told P held told d is = subst (λ (o : Option _). IfSome o P) is told

pub told_some : {A : Type 0} (o : Option A) (P : Type 0) → ((a : A) → o ≡ Some a → P) → IsSome o → P
told_some (Some a) P step is = step a refl
told_some None P step is = absurd (cc)

-- what reads as before tells still
pub still_told : {A : Type 0} (old new : Option A) → new ≡ old → IsSome old → IsSome new
still_told old new same some = subst (λ (o : Option _). IsSome o) (sym same) some

-- what did not rise in the whole did not rise in a part of it
pub rose_not : {before mid now later : ℕ} → before ≤ mid → now ≤ later → (Rose before later → ⊥) → Rose mid now → ⊥
rose_not le ge none rose = none (omega (arith, le, ge, rose))

module _ {D : Type 0} (device : Ghosts D) where
  -- a disk that was not taken is unchanged
  pub same_same : (old new : Option D) → new ≡ old → IsUnchanged device old new
  same_same old new same was is d is_now =
      let e : Some was ≡ Some d = sym is ∙ sym same ∙ is_now in
      let one : was ≡ d = cc in
      subst (λ (x : D). IsSameDisk device was x) one (record { read = record { leaves = λ c image. image; room = refl }; same = refl })

  -- so is the disk of a node that was opened, put back
  pub same_opened : {N : Type 0} (disk_of : N → D) (opens : N → List ℕ → Type 0) (old new : Option D) (x : N)
      → OfTold old (λ was. IsNodeOpened device disk_of opens was x)
      → OfTold new (λ d. d ≡ disk_of x) → IsUnchanged device old new
  same_opened disk_of opens old new x opened put was is d is_now =
      subst (λ (y : D). IsSameDisk device was y) (sym (put d is_now)) (record { read = (opened was is).read; same = (opened was is).same })

  -- what is unchanged is back
  pub same_back : (before now : ℕ) (old new : Option D) → IsUnchanged device old new → IsDiskBack device before now old new
  same_back before now old new same was is d is_now = record { read = (same was is d is_now).read; same = λ none. (same was is d is_now).same }

  pub back_same : (before now : ℕ) (old new : Option D) → new ≡ old → IsDiskBack device before now old new
  back_same before now old new same = same_back before now old new (same_same old new same)

  pub back_opened : (before now : ℕ) {N : Type 0} (disk_of : N → D) (opens : N → List ℕ → Type 0) (old new : Option D) (x : N)
      → OfTold old (λ was. IsNodeOpened device disk_of opens was x)
      → OfTold new (λ d. d ≡ disk_of x) → IsDiskBack device before now old new
  back_opened before now disk_of opens old new x opened put = same_back before now old new (same_opened disk_of opens old new x opened put)

  -- a disk that was taken and read, with its own counts, and put back
  pub back_put : (before now taken_count given_count : ℕ) (old new : Option D) (taken given : D) → IfSome old (λ was. taken ≡ was)
      → before ≤ taken_count → given_count ≤ now
      → IsReturned device taken_count given_count taken given → IfSome new (λ d. d ≡ given) → IsDiskBack device before now old new
  back_put before now taken_count given_count old new taken given took le ge read put was is d is_now =
      let a = of_told (λ was. taken ≡ was) old took was is in
      let b = of_told (λ d. d ≡ given) new put d is_now in
      let whole : IsReturned device before now taken given = record { read = read.read; same = λ none. read.same (rose_not le ge none) } in
      subst (λ (x : D). IsReturned device before now x d) a (subst (λ (x : D). IsReturned device before now taken x) (sym b) whole)

  -- a disk that is back within a part of the time is back within the whole
  pub back_later : {before mid now later : ℕ} (old new : Option D) → before ≤ mid → now ≤ later → IsDiskBack device mid now old new
      → IsDiskBack device before later old new
  back_later old new le ge back was is d is_now =
      record { read = (back was is d is_now).read; same = λ none. (back was is d is_now).same (rose_not le ge none) }
