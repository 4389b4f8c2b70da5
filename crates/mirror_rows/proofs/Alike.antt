-- Disks that hold the same and have not failed: they may be as one.
use Rattle.std.proofs.Common.{◌≡◌, ◌≤◌, ◌++◌, ◌||◌, ℕ, zero, suc, false, nat_lt, List, [], ◌∷◌, length, map, Some, None, refl, ap, ◌∙◌, subst}
use Rattle.std.specs.Prelude.{slice_get}
use Rattle.std.proofs.lemmas.Option.{same_Some}
use Rattle.mem_devices.specs.declared.fault_disk.FaultDisk.{FaultDisk}
use Rattle.mirror_devices.specs.Mirrors.{all_told, AreEven, has_failed}
use Rattle.mirror_devices.proofs.Even.{all_even, all_tell}
use Rattle.mirror_rows.specs.Fresh.{IsFresh}

-- each of these is so
abbrev pub AreFresh : List ℕ → ℕ → List FaultDisk → Type 0
AreFresh bytes capacity disks = (k : ℕ) (d : FaultDisk) → slice_get disks k ≡ Some d → IsFresh bytes capacity d

pub none_fresh : (bytes : List ℕ) (capacity : ℕ) → AreFresh bytes capacity []
none_fresh bytes capacity k d is = absurd (let z : None ≡ Some d = is in cc)

pub one_fresh : (bytes : List ℕ) (capacity : ℕ) (disks : List FaultDisk) (d : FaultDisk) → AreFresh bytes capacity disks → IsFresh bytes capacity d
    → AreFresh bytes capacity (disks ++ d ∷ [])
one_fresh bytes capacity [] d are has zero e is = subst (λ (x : FaultDisk). IsFresh bytes capacity x) (same_Some d e is) has
one_fresh bytes capacity [] d are has (suc k) e is = absurd (let z : None ≡ Some e = is in cc)
one_fresh bytes capacity (x ∷ xs) d are has zero e is = are 0 e is
one_fresh bytes capacity (x ∷ xs) d are has (suc k) e is = one_fresh bytes capacity xs d (λ j. are (suc j)) has k e is

-- they are as long as each other, have as much room, and tell the same
pub fresh_even : (bytes : List ℕ) (capacity : ℕ) (disks : List FaultDisk) → AreFresh bytes capacity disks
    → AreEven (λ (d : FaultDisk). length d.kept.bytes.items) (λ (d : FaultDisk). d.kept.capacity) disks
fresh_even bytes capacity disks are = all_even (λ (d : FaultDisk). length d.kept.bytes.items) (λ (d : FaultDisk). d.kept.capacity) (length bytes)
    capacity disks (λ k d is. (let e = are k d is in (ap length e.0, e.1)))

pub fresh_told : (bytes : List ℕ) (capacity : ℕ) (disks : List FaultDisk) → 1 ≤ length disks → AreFresh bytes capacity disks
    → all_told (map (λ (d : FaultDisk). Some d.kept.bytes.items) disks) ≡ Some bytes
fresh_told bytes capacity disks some are = all_tell (λ (d : FaultDisk). Some d.kept.bytes.items) disks bytes some
    (λ k d is. ap (λ b. Some b) (are k d is).0)

-- and none has failed
pub none_failed : (bytes : List ℕ) (capacity : ℕ) (disks : List FaultDisk) → AreFresh bytes capacity disks
    → has_failed (map (λ (d : FaultDisk). d.faults) disks) ≡ false
none_failed bytes capacity [] are = refl
none_failed bytes capacity (x ∷ xs) are =
    ap (λ n. nat_lt 0 n || has_failed (map (λ (d : FaultDisk). d.faults) xs)) (are 0 x refl).2 ∙ none_failed bytes capacity xs (λ k. are (suc k))
