-- Even disks behind a write or a sync, as one.
use Rattle.std.proofs.Common.{◌≡◌, inl, inr, ℕ, zero, suc, ◌<◌, ◌≤◌, Bool, true, false, if◌then◌else◌, List, [], ◌∷◌, length, map, set, Option, Some}
use Rattle.std.proofs.Common.{None, IsSome, IfSome, slice_get, bytes_eq, refl, sym, ap, ◌∙◌, subst, arith}
use Rattle.std.proofs.lemmas.Option.{same_Some, slice_get_cases, slice_get_within}
use Rattle.std.proofs.lemmas.Slice.Eq.{bytes_eq-Decides}
use Rattle.outside.specs.declared.disk.Disk.{Ghosts}
use Rattle.outside.specs.Images.{IfTold, StaysTold, ImagesFollow, NoMore, Only, overwritten}
use Rattle.mirror_devices.specs.Mirrors.{first_told, agreed, all_told, first_of, IsImageOf, AreEven, EachBecame, Wrote, Synced, has_failed}
use Rattle.mirror_devices.specs.Laws.{first_is}
use Rattle.mirror_devices.proofs.Became.{none_below, one_more, or_same}

no_some : {A : Type 0} (c : A) → None ≡ Some c → ⊥
no_some c e = cc

agreed_both : (o p : Option (List ℕ)) (c : List ℕ) → agreed o p ≡ Some c → (o ≡ Some c) × (p ≡ Some c)
agreed_both None p c e = absurd (no_some c e)
agreed_both (Some a) None c e = absurd (no_some c e)
agreed_both (Some a) (Some b) c e = picked (bytes_eq a b) (λ t. (bytes_eq-Decides a b).0 t) e
  where
    picked : (t : Bool) → (t ≡ true → a ≡ b) → (if t then Some a else None) ≡ Some c → (Some a ≡ Some c) × (Some b ≡ Some c)
    picked true same e = (e, ap (λ x. Some x) (sym (same refl)) ∙ e)
    picked false same e = absurd (no_some c e)

agreed_from : (o p : Option (List ℕ)) (c : List ℕ) → o ≡ Some c → p ≡ Some c → agreed o p ≡ Some c
agreed_from o p c e f =
    let t : bytes_eq c c ≡ true = (bytes_eq-Decides c c).1 refl in
    ap (λ x. agreed x p) e ∙ ap (λ x. agreed (Some c) x) f ∙ ap (λ b. if b then Some c else None) t

pub got : {X : Type 0} (xs : List X) (k : ℕ) → k < length xs → (x : X) × (slice_get xs k ≡ Some x)
got xs k lt = elim (slice_get_cases xs k).1 [ inl here ↦ (here.0, here.2) | inr past ↦ absurd (omega (arith, past.0)) ]

told_of_some : {A : Type 0} (o : Option A) → IsSome o → (c : A) × (o ≡ Some c)
told_of_some None h = absurd (let z : false ≡ true = h in cc)
told_of_some (Some c) h = (c, refl)

pub if_some : {A : Type 0} (o : Option A) (P : A → Type 0) → ((c : A) → o ≡ Some c → P c) → IfSome o P
if_some None P f = tt
if_some (Some c) P f = f c refl

pub map_same : {X Y : Type 0} (f : X → Y) (old new : List X) → length new ≡ length old
    → ((k : ℕ) (d e : X) → slice_get old k ≡ Some d → slice_get new k ≡ Some e → f e ≡ f d) → map f new ≡ map f old
map_same f [] [] l same = refl
map_same f [] (e ∷ es) l same = absurd (omega arith)
map_same f (d ∷ ds) [] l same = absurd (omega arith)
map_same f (d ∷ ds) (e ∷ es) l same = let rest : map f es ≡ map f ds = map_same f ds es (omega arith) (λ k x y. same (suc k) x y) in
    λ i. same 0 d e refl refl i ∷ rest i

module _ {D : Type 0} (content : D → Option (List ℕ)) where
  pub tells_all : (disks : List D) (c : List ℕ) → all_told (map content disks) ≡ Some c → (k : ℕ) (d : D) → slice_get disks k ≡ Some d
      → content d ≡ Some c
  tells_all [] c e k d is = absurd (no_some d is)
  tells_all (x ∷ []) c e zero d is = ap content (sym (same_Some x d is)) ∙ e
  tells_all (x ∷ []) c e (suc k) d is = absurd (no_some d is)
  tells_all (x ∷ (y ∷ ys)) c e zero d is = ap content (sym (same_Some x d is)) ∙ (agreed_both (content x) (all_told (map content (y ∷ ys))) c e).0
  tells_all (x ∷ (y ∷ ys)) c e (suc k) d is = tells_all (y ∷ ys) c (agreed_both (content x) (all_told (map content (y ∷ ys))) c e).1 k d is

  pub all_tell : (disks : List D) (c : List ℕ) → 1 ≤ length disks → ((k : ℕ) (d : D) → slice_get disks k ≡ Some d → content d ≡ Some c)
      → all_told (map content disks) ≡ Some c
  all_tell [] c some each = absurd (omega arith)
  all_tell (x ∷ []) c some each = each 0 x refl
  all_tell (x ∷ (y ∷ ys)) c some each = agreed_from (content x) (all_told (map content (y ∷ ys))) c (each 0 x refl)
      (all_tell (y ∷ ys) c (omega arith) (λ k d is. each (suc k) d is))

  first_told_is : (disks : List D) (d : D) → slice_get disks 0 ≡ Some d → first_told (map content disks) ≡ content d
  first_told_is [] d e = absurd (no_some d e)
  first_told_is (x ∷ xs) d e = ap content (same_Some x d e)

  -- what was told is told still by the first
  pub still_told : (old new : List D) → 1 ≤ length old → length new ≡ length old
      → ((k : ℕ) (d e : D) → slice_get old k ≡ Some d → slice_get new k ≡ Some e → StaysTold (content d) (content e))
      → StaysTold (all_told (map content old)) (first_told (map content new))
  still_told old new some l stays h =
      let c = told_of_some (all_told (map content old)) h in
      let d = got old 0 (omega arith) in
      let e = got new 0 (omega arith) in
      let was : content d.0 ≡ Some c.0 = tells_all old c.0 c.1 0 d.0 d.1 in
      subst (λ o. IsSome o) (sym (first_told_is new e.0 e.1)) (stays 0 d.0 e.0 d.1 e.1 (subst (λ o. IsSome o) (sym was) refl))

-- a number of the first, by those of each
pub first_became : {D : Type 0} (f : D → ℕ) (g : ℕ → ℕ) (old new : List D) → 1 ≤ length old → length new ≡ length old
    → ((k : ℕ) (d e : D) → slice_get old k ≡ Some d → slice_get new k ≡ Some e → f e ≡ g (f d)) → first_of (map f new) ≡ g (first_of (map f old))
first_became f g old new some l each =
    let d = got old 0 (omega arith) in
    let e = got new 0 (omega arith) in
    first_is f new e.0 e.1 ∙ each 0 d.0 e.0 d.1 e.1 ∙ ap g (sym (first_is f old d.0 d.1))

pub still_even : {D : Type 0} (size limit : D → ℕ) (g : ℕ → ℕ) (old new : List D) → 1 ≤ length old → length new ≡ length old → AreEven size limit old
    → ((k : ℕ) (d e : D) → slice_get old k ≡ Some d → slice_get new k ≡ Some e → size e ≡ g (size d))
    → ((k : ℕ) (d e : D) → slice_get old k ≡ Some d → slice_get new k ≡ Some e → limit e ≡ limit d) → AreEven size limit new
still_even size limit g old new some l even sizes limits = λ k e is.
    let d = got old k (let lt : k < length new = slice_get_within new k e is in omega arith) in
    let was = even k d.0 d.1 in (
      sizes k d.0 e d.1 is ∙ ap g was.0 ∙ sym (first_became size g old new some l sizes),
      limits k d.0 e d.1 is ∙ was.1 ∙ sym (first_became limit (λ n. n) old new some l limits),
    )

-- each image of one of them follows an image of the same one
pub images_follow : {D : Type 0} (images : D → List ℕ → Type 0) (step : List ℕ → List ℕ → Type 0) (old new : List D) → length new ≡ length old
    → ((k : ℕ) (d e : D) → slice_get old k ≡ Some d → slice_get new k ≡ Some e → ImagesFollow step (images d) (images e))
    → ImagesFollow step (IsImageOf images old) (IsImageOf images new)
images_follow images step old new l each = λ c image.
    let k = image.0 in
    let e = image.1 in
    let d = got old k (let lt : image.0 < length new = slice_get_within new image.0 image.1 image.2 in omega arith) in
    let f = each k d.0 e d.1 image.2 c image.3 in
    (f.0, (k, d.0, d.1, f.1), f.2)

pub no_more : {D : Type 0} (images : D → List ℕ → Type 0) (old new : List D) → length new ≡ length old
    → ((k : ℕ) (d e : D) → slice_get old k ≡ Some d → slice_get new k ≡ Some e → NoMore (images d) (images e))
    → NoMore (IsImageOf images old) (IsImageOf images new)
no_more images old new l each = λ c image.
    let d = got old image.0 (let lt : image.0 < length new = slice_get_within new image.0 image.1 image.2 in omega arith) in
    (image.0, d.0, d.1, each image.0 d.0 image.1 d.1 image.2 c image.3)

pub only : {D : Type 0} (images : D → List ℕ → Type 0) (new : List D) (c : List ℕ) → ((k : ℕ) (e : D) → slice_get new k ≡ Some e → Only c (images e))
    → Only c (IsImageOf images new)
only images new c each = λ k image. each image.0 image.1 image.2 k image.3

-- what all tell behind a write that all have done
pub all_wrote : {D : Type 0} (device : Ghosts D) (place : ℕ) (bytes : List ℕ) (old new : List D) → 1 ≤ length old
    → EachBecame (Wrote device place bytes) old new
    → IfTold (all_told (map device.content old)) (λ c. all_told (map device.content new) ≡ Some (overwritten c place bytes))
all_wrote device place bytes old new some b = if_some (all_told (map device.content old))
    (λ c. all_told (map device.content new) ≡ Some (overwritten c place bytes)) (λ c e.
    all_tell device.content new (overwritten c place bytes) (omega (arith, b.count)) (λ k x is.
    let d = got old k (let lt : k < length new = slice_get_within new k x is in omega (arith, b.count)) in
    let w = (b.each k d.0 x d.1 is).written in
    let was : device.content d.0 ≡ Some c = tells_all device.content old c e k d.0 d.1 in
    subst (λ o. IfTold o (λ y. device.content x ≡ Some (overwritten y place bytes))) was w))

-- what a crash leaves behind a sync that all have done
pub all_synced : {D : Type 0} (device : Ghosts D) (old new : List D) → EachBecame (Synced device) old new
    → IfTold (all_told (map device.content old)) (λ c. Only c (IsImageOf device.images new))
all_synced device old new b = if_some (all_told (map device.content old)) (λ c. Only c (IsImageOf device.images new)) (λ c e.
    only device.images new c (λ k x is.
    let d = got old k (let lt : k < length new = slice_get_within new k x is in omega (arith, b.count)) in
    let w = (b.each k d.0 x d.1 is).durable in
    let was : device.content d.0 ≡ Some c = tells_all device.content old c e k d.0 d.1 in
    subst (λ o. IfTold o (λ y. Only y (device.images x))) was w))

-- a relation that what stays keeps, where the first became another
pub first_one : {D : Type 0} (R : D → D → Type 0) → ((d : D) → R d d) → (disks : List D) (d e : D) → slice_get disks 0 ≡ Some d → 0 < length disks
    → R d e → EachBecame R disks (set disks 0 e)
first_one R same disks d e is lt became = or_same R same 1 disks (set disks 0 e) (one_more R 0 disks disks d e (none_below R disks) lt is became)

pub told_first : {D : Type 0} (content : D → Option (List ℕ)) (disks : List D) (d : D) (P : List ℕ → Type 0) → slice_get disks 0 ≡ Some d
    → IfTold (content d) P → IfTold (all_told (map content disks)) P
told_first content disks d P is h = if_some (all_told (map content disks)) P (λ c e. subst (λ o. IfTold o P) (tells_all content disks c e 0 d is) h)

-- what is told behind a write was told before it
pub told_behind : {A : Type 0} (o p : Option A) (f : A → A) → IsSome o → IfSome o (λ c. p ≡ Some (f c)) → IsSome p
told_behind None p f h is = absurd (let z : false ≡ true = h in cc)
told_behind (Some c) p f h is = subst (λ q. IsSome q) (sym is) refl

-- ---- empty disks

pub never_failed : {D : Type 0} (disks : List D) → has_failed (map (λ d. 0) disks) ≡ false
never_failed [] = refl
never_failed (d ∷ disks) = never_failed disks

pub all_even : {D : Type 0} (size limit : D → ℕ) (n m : ℕ) (disks : List D)
    → ((k : ℕ) (d : D) → slice_get disks k ≡ Some d → (size d ≡ n) × (limit d ≡ m)) → AreEven size limit disks
all_even size limit n m disks each = λ k d is.
    let first = got disks 0 (let lt : k < length disks = slice_get_within disks k d is in omega arith) in
    let own = each k d is in
    let one = each 0 first.0 first.1 in
    (own.0 ∙ sym one.0 ∙ sym (first_is size disks first.0 first.1), own.1 ∙ sym one.1 ∙ sym (first_is limit disks first.0 first.1))
