-- What stands in the slots, when one is filled or freed.
use Rattle.std.proofs.Common.{◌≡◌, ℕ, zero, suc, ◌+◌, ◌<◌, ◌≤◌, true, false, List, [], ◌∷◌, length, set, Option, Some, None, arith, refl, ap, ◌∙◌}
use Rattle.std.proofs.lemmas.Slice.Eq.{bytes_eq-Decides}
use Rattle.cbdc_model.specs.Records.{Digest, same_digest}
use Rattle.shard_table.specs.declared.slots.Kept.{Kept}
use Rattle.shard_table.specs.Entries.{lookup}
use Rattle.shard_table.specs.Slots.{gather, slot_at, is_taken}

pub same_is : (x y : Digest) → same_digest x y ≡ true → x ≡ y
unfolding same_digest
same_is x y h = (bytes_eq-Decides x y).0 h

pub same_self : (x : Digest) → same_digest x x ≡ true
unfolding same_digest
same_self x = (bytes_eq-Decides x x).1 refl

pub same_of : (x y : Digest) → x ≡ y → same_digest x y ≡ true
unfolding same_digest
same_of x y e = (bytes_eq-Decides x y).1 e

pub gathered_none : {V : Type 0} (slots : List (Option (Kept V))) (x : Digest)
    → ((i : ℕ) (e : Kept V) → slot_at slots i ≡ Some e → same_digest e.hash x ≡ false) → lookup (gather slots) x ≡ None
gathered_none [] x all = refl
gathered_none (None ∷ slots) x all = gathered_none slots x (λ i e h. all (suc i) e h)
gathered_none (Some e ∷ slots) x all =
    let other : same_digest e.hash x ≡ false = all 0 e refl in
    rw other (gathered_none slots x (λ i f h. all (suc i) f h))

pub gathered_at : {V : Type 0} (slots : List (Option (Kept V))) (i : ℕ) (e : Kept V) (x : Digest) → slot_at slots i ≡ Some e
    → same_digest e.hash x ≡ true
    → ((j : ℕ) (f : Kept V) → j < i → slot_at slots j ≡ Some f → same_digest f.hash x ≡ false) → lookup (gather slots) x ≡ Some e.value
gathered_at [] i e x h s before = cc
gathered_at (None ∷ slots) zero e x h s before = cc
gathered_at (None ∷ slots) (suc i) e x h s before = gathered_at slots i e x h s (λ j f l g. before (suc j) f (omega arith) g)
gathered_at (Some f ∷ slots) zero e x h s before =
    let same : f ≡ e = cc in
    let there : same_digest f.hash x ≡ true = ap (λ (k : Kept _). same_digest k.hash x) same ∙ s in
    rw there (ap (λ (k : Kept _). Some k.value) same)
gathered_at (Some f ∷ slots) (suc i) e x h s before =
    let other : same_digest f.hash x ≡ false = before 0 f (omega arith) refl in
    rw other (gathered_at slots i e x h s (λ j k l g. before (suc j) k (omega arith) g))

-- filling a free slot leaves the other hashes
pub filled_other : {V : Type 0} (slots : List (Option (Kept V))) (i : ℕ) (e : Kept V) (x : Digest) → slot_at slots i ≡ None
    → same_digest e.hash x ≡ false
    → lookup (gather (set slots i (Some e))) x ≡ lookup (gather slots) x
filled_other [] i e x h other = refl
filled_other (None ∷ slots) zero e x h other = rw other
filled_other (Some f ∷ slots) zero e x h other = cc
filled_other (None ∷ slots) (suc i) e x h other = filled_other slots i e x h other
filled_other (Some f ∷ slots) (suc i) e x h other = let rest = filled_other slots i e x h other in rw rest

-- freeing a slot leaves the other hashes
pub freed_other : {V : Type 0} (slots : List (Option (Kept V))) (i : ℕ) (e : Kept V) (x : Digest) → slot_at slots i ≡ Some e
    → same_digest e.hash x ≡ false
    → lookup (gather (set slots i None)) x ≡ lookup (gather slots) x
freed_other [] i e x h other = refl
freed_other (None ∷ slots) zero e x h other = refl
freed_other (Some f ∷ slots) zero e x h other =
    let same : f ≡ e = cc in
    let gone : same_digest f.hash x ≡ false = ap (λ (k : Kept _). same_digest k.hash x) same ∙ other in
    rw gone
freed_other (None ∷ slots) (suc i) e x h other = freed_other slots i e x h other
freed_other (Some f ∷ slots) (suc i) e x h other = let rest = freed_other slots i e x h other in rw rest

pub filled_count : {V : Type 0} (slots : List (Option (Kept V))) (i : ℕ) (e : Kept V) → i < length slots → slot_at slots i ≡ None
    → length (gather (set slots i (Some e))) ≡ suc (length (gather slots))
filled_count [] i e l h = absurd (omega arith)
filled_count (None ∷ slots) zero e l h = refl
filled_count (Some f ∷ slots) zero e l h = cc
filled_count (None ∷ slots) (suc i) e l h = filled_count slots i e (omega arith) h
filled_count (Some f ∷ slots) (suc i) e l h = let rest = filled_count slots i e (omega arith) h in rw rest

pub freed_count : {V : Type 0} (slots : List (Option (Kept V))) (i : ℕ) (e : Kept V) → slot_at slots i ≡ Some e
    → suc (length (gather (set slots i None))) ≡ length (gather slots)
freed_count [] i e h = cc
freed_count (None ∷ slots) zero e h = cc
freed_count (Some f ∷ slots) zero e h = refl
freed_count (None ∷ slots) (suc i) e h = freed_count slots i e h
freed_count (Some f ∷ slots) (suc i) e h = let rest = freed_count slots i e h in rw rest

-- where no slot is free from a place on, as many hashes stand there
pub full_count : {V : Type 0} (slots : List (Option (Kept V))) (from : ℕ)
    → ((m : ℕ) → from ≤ m → m < length slots → is_taken (slot_at slots m) ≡ true)
    → length slots ≤ from + length (gather slots)
full_count [] from all = omega arith
full_count (None ∷ slots) zero all = let no : false ≡ true = all 0 (omega arith) (omega arith) in cc
full_count (None ∷ slots) (suc from) all = let rest = full_count slots from (λ m l h. all (suc m) (omega arith) (omega arith)) in omega (arith, rest)
full_count (Some e ∷ slots) zero all = let rest = full_count slots 0 (λ m l h. all (suc m) (omega arith) (omega arith)) in omega (arith, rest)
full_count (Some e ∷ slots) (suc from) all = let rest = full_count slots from (λ m l h. all (suc m) (omega arith) (omega arith)) in
    omega (arith, rest)
