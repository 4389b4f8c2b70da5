-- One more hash of a transaction in its shard's part.
use Rattle.std.proofs.Common.{◌≡◌, ◌≢◌, ℕ, true, false, ◌==◌, List, [], ◌∷◌, ◌++◌, length, set, Some, slice_get, refl, sym, ap, ◌∙◌, subst, arith}
use Rattle.std.proofs.lemmas.Bool.Decides.{nat_tests}
use Rattle.std.proofs.lemmas.List.{append-nil}
use Rattle.std.specs.Global.{Vec}
use Rattle.cbdc_model.specs.Records.{Digest, Compact, Entry, Shape}
use Rattle.cbdc_model.specs.Ranges.{shard_of, on_shard, part}
use Rattle.shard_ranges.specs.Parts.{AreBefore, AreGrown, AreSplit, entry_if}
use Rattle.shard_ranges.proofs.Places.{get_set_same, get_set_other}
use Rattle.shard_ranges.proofs.Entries.{part_is_before, on_shard-append}

on_shard_here : (K : Shape) (x : Digest) (xs : List Digest) → on_shard K (shard_of K x) (xs ++ x ∷ []) ≡ on_shard K (shard_of K x) xs ++ x ∷ []
on_shard_here K x xs =
    let e : (shard_of K x == shard_of K x) ≡ true = grind (arith, nat_tests) in
    on_shard-append K (shard_of K x) xs (x ∷ []) ∙ rw e refl

on_shard_other : (K : Shape) (s : ℕ) (x : Digest) (xs : List Digest) → shard_of K x ≢ s → on_shard K s (xs ++ x ∷ []) ≡ on_shard K s xs
on_shard_other K s x xs apart =
    let e : (shard_of K x == s) ≡ false = grind (arith, nat_tests) in
    on_shard-append K s xs (x ∷ []) ∙ rw e (append-nil (on_shard K s xs))

-- the entry at each shard, of hashes that lie there
abbrev Grows : Shape → List Compact → (ℕ → List Entry) → List (Vec Entry) → Type 0
Grows K txs tail parts = (s : ℕ) (p : Vec Entry) → slice_get parts s ≡ Some p → p.items ≡ part K s 0 txs ++ tail s

-- one shard's part is put in place, and the others stay
put_grows : (K : Shape) (txs : List Compact) (old new : ℕ → List Entry) (parts : List (Vec Entry)) (at : ℕ) (w : Vec Entry) → Grows K txs old parts
    → w.items ≡ part K at 0 txs ++ new at → ((s : ℕ) → at ≢ s → old s ≡ new s) → Grows K txs new (set parts at w)
put_grows K txs old new parts at w grown here others s p g =
    elim (at == s) as (λ c. (at == s) ≡ c → p.items ≡ part K s 0 txs ++ new s) [
      | true ↦ λ e.
          let same : at ≡ s = grind (arith, nat_tests) in
          let is : p ≡ w = get_set_same parts at w p (subst (λ (k : ℕ). slice_get (set parts at w) k ≡ Some p) (sym same) g) in
          subst (λ (k : ℕ). p.items ≡ part K k 0 txs ++ new k) same (ap (λ (v : Vec Entry). v.items) is ∙ here)
      | false ↦ λ e.
          let apart : at ≢ s = grind (arith, nat_tests) in
          grown s p (sym (get_set_other parts at s w apart) ∙ g) ∙ ap (λ zs. part K s 0 txs ++ zs) (others s apart)
    ] refl

pub input_grows : (K : Shape) (txs : List Compact) (place : ℕ) (id x : Digest) (ins outs : List Digest) (parts : List (Vec Entry)) (v w : Vec Entry)
    → length txs ≡ place
    → AreGrown K txs place id ins outs parts → slice_get parts (shard_of K x) ≡ Some v
    → ((before : List Entry) (is os : List Digest) → AreBefore place before → v.items ≡ before ++ entry_if place id is os
    → w.items ≡ before ++ entry_if place id (is ++ x ∷ []) os)
    → AreGrown K txs place id (ins ++ x ∷ []) outs (set parts (shard_of K x) w)
input_grows K txs place id x ins outs parts v w len grown at step =
    put_grows K txs
    (λ s. entry_if place id (on_shard K s ins) (on_shard K s outs))
    (λ s. entry_if place id (on_shard K s (ins ++ x ∷ [])) (on_shard K s outs))
    parts (shard_of K x) w grown
    (step (part K (shard_of K x) 0 txs) (on_shard K (shard_of K x) ins) (on_shard K (shard_of K x) outs)
    (part_is_before K (shard_of K x) txs place len) (grown (shard_of K x) v at)
    ∙ ap (λ zs. part K (shard_of K x) 0 txs ++ entry_if place id zs (on_shard K (shard_of K x) outs)) (sym (on_shard_here K x ins)))
    (λ s apart. ap (λ zs. entry_if place id zs (on_shard K s outs)) (sym (on_shard_other K s x ins apart)))

pub output_grows : (K : Shape) (txs : List Compact) (place : ℕ) (id x : Digest) (ins outs : List Digest) (parts : List (Vec Entry)) (v w : Vec Entry)
    → length txs ≡ place
    → AreGrown K txs place id ins outs parts → slice_get parts (shard_of K x) ≡ Some v
    → ((before : List Entry) (is os : List Digest) → AreBefore place before → v.items ≡ before ++ entry_if place id is os
    → w.items ≡ before ++ entry_if place id is (os ++ x ∷ []))
    → AreGrown K txs place id ins (outs ++ x ∷ []) (set parts (shard_of K x) w)
output_grows K txs place id x ins outs parts v w len grown at step =
    put_grows K txs
    (λ s. entry_if place id (on_shard K s ins) (on_shard K s outs))
    (λ s. entry_if place id (on_shard K s ins) (on_shard K s (outs ++ x ∷ [])))
    parts (shard_of K x) w grown
    (step (part K (shard_of K x) 0 txs) (on_shard K (shard_of K x) ins) (on_shard K (shard_of K x) outs)
    (part_is_before K (shard_of K x) txs place len) (grown (shard_of K x) v at)
    ∙ ap (λ zs. part K (shard_of K x) 0 txs ++ entry_if place id (on_shard K (shard_of K x) ins) zs) (sym (on_shard_here K x outs)))
    (λ s apart. ap (λ zs. entry_if place id (on_shard K s ins) zs) (sym (on_shard_other K s x outs apart)))

-- before the first hash
pub none_grown : (K : Shape) (txs : List Compact) (place : ℕ) (id : Digest) (parts : List (Vec Entry)) → AreSplit K txs parts
    → AreGrown K txs place id [] [] parts
none_grown K txs place id parts split s p g = split s p g ∙ sym (append-nil (part K s 0 txs))
