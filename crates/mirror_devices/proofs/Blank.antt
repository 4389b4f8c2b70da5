-- Mirrors in memory: they never fail, and tell what they hold.
use Rattle.std.proofs.Common.{◌≡◌, inl, inr, ◌<◌, ◌≤◌, ◌+◌, ◌++◌, ℕ, zero, suc, Bool, true, false, List, [], ◌∷◌, length, map, Option, Some, None}
use Rattle.std.proofs.Common.{IsSome, refl, sym, ap, ◌∙◌, subst, arith, true≢false}
use Rattle.std.specs.Prelude.{slice_get}
use Rattle.std.proofs.lemmas.Option.{same_Some}
use Rattle.mem_devices.specs.declared.plain_disk.PlainDisk.{PlainDisk}
use Rattle.mem_devices.specs.PlainRacks.{plain}
use Rattle.mirror_devices.specs.declared.mirror.Mirror.{Mirror}
use Rattle.mirror_devices.specs.Empty.{AreEmpty, IsEmptyMirror, copies_at}
use Rattle.mirror_devices.specs.MirrorRacks.{PlainMirror, plain_mirror}
use Rattle.mirror_devices.specs.Laws.{first_is, mirror_fits, mirror_reads, mirror_sized}
use Rattle.mirror_devices.specs.Mirrors.{all_told, first_told, told_of, AreEven, has_failed}
use Rattle.mirror_devices.proofs.Even.{all_even, all_tell, got, never_failed}

pub none_empty : (capacity : ℕ) → AreEmpty capacity []
none_empty capacity k d is = absurd (let z : None ≡ Some d = is in cc)

pub one_empty : (capacity : ℕ) (disks : List PlainDisk) (d : PlainDisk) → AreEmpty capacity disks → (d.bytes.items ≡ []) × (d.capacity ≡ capacity)
    → AreEmpty capacity (disks ++ d ∷ [])
one_empty capacity [] d are has zero e is = subst (λ (x : PlainDisk). (x.bytes.items ≡ []) × (x.capacity ≡ capacity)) (same_Some d e is) has
one_empty capacity [] d are has (suc k) e is = absurd (let z : None ≡ Some e = is in cc)
one_empty capacity (x ∷ xs) d are has zero e is = are 0 e is
one_empty capacity (x ∷ xs) d are has (suc k) e is = one_empty capacity xs d (λ j. are (suc j)) has k e is

-- empty disks are as long as each other, have as much room, and tell that they are empty
pub empty_even : (capacity : ℕ) (disks : List PlainDisk) → AreEmpty capacity disks → AreEven plain.size plain.limit disks
empty_even capacity disks are = all_even plain.size plain.limit 0 capacity disks (λ k d is. (let e = are k d is in (ap length e.0, e.1)))

pub empty_told : (capacity : ℕ) (disks : List PlainDisk) → 1 ≤ length disks → AreEmpty capacity disks → all_told (map plain.content disks) ≡ Some []
empty_told capacity disks some are = all_tell plain.content disks [] some (λ k d is. ap (λ b. Some b) (are k d is).0)

-- ---- mirrors

-- an empty mirror of as many disks as the node has, with so much room where it is one
abbrev pub IsBlank : ℕ → ℕ → ℕ → ℕ → ℕ → PlainMirror → Type 0
IsBlank coordinators nodes replicas capacity n m = n < nodes → IsEmptyMirror (copies_at coordinators replicas n) capacity m

-- its disks never fail, so none of its calls does
pub stays_whole : (m : PlainMirror) → m.apart ≡ false
stays_whole m = go m.apart refl
  where
    go : (b : Bool) → m.apart ≡ b → m.apart ≡ false
    go false e = e
    go true e = absurd (true≢false (sym (m.blamed e) ∙ never_failed m.disks.items))

pub never_refused : (m : PlainMirror) → m.refused ≡ 0
never_refused m = m.whole (stays_whole m)

told_is : (o : Option (List ℕ)) → IsSome o → (c : List ℕ) × (o ≡ Some c)
told_is None h = absurd (let z : false ≡ true = h in cc)
told_is (Some c) h = (c, refl)

-- it tells what it holds, which a crash may leave
pub tells : (m : PlainMirror) → (c : List ℕ) × (plain_mirror.content m ≡ Some c) × plain_mirror.images m c
tells m =
    let t = told_is (all_told (map plain.content m.disks.items)) (m.told (λ d. refl) (stays_whole m)) in
    let is : plain_mirror.content m ≡ Some t.0 = ap (λ b. told_of b (map plain.content m.disks.items)) (stays_whole m) ∙ t.1 in
    (t.0, is, mirror_reads plain.content plain.images (λ d c e. sym (same_Some d.bytes.items c e)) m.apart m.disks.items t.0 is)

-- and it is within its room
pub holds_within : (m : PlainMirror) (c : List ℕ) → plain_mirror.content m ≡ Some c → length c ≤ plain_mirror.limit m
holds_within m c is =
    let long = mirror_sized plain.content plain.size (λ d b e. ap length (sym (same_Some d.bytes.items b e))) m.apart m.disks.items c is in
    let fits = mirror_fits plain.size plain.limit (λ d. d.within) m.disks.items in
    omega (arith, long, fits)

-- of empty disks it is empty, and has their room
pub empty_content : (copies capacity : ℕ) (m : PlainMirror) → IsEmptyMirror copies capacity m → plain_mirror.content m ≡ Some []
empty_content copies capacity m is = ap (λ b. told_of b (map plain.content m.disks.items)) is.whole
    ∙ empty_told capacity m.disks.items m.some is.empty

pub empty_limit : (copies capacity : ℕ) (m : PlainMirror) → IsEmptyMirror copies capacity m → plain_mirror.limit m ≡ capacity
empty_limit copies capacity m is = let first = got m.disks.items 0 m.some in
    first_is plain.limit m.disks.items first.0 first.1 ∙ (is.empty 0 first.0 first.1).1
