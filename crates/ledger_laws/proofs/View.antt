-- What the invariant speaks of, as functions of hashes and batches, and how the invariant is kept when they change.
use Rattle.std.proofs.Common.{◌≡◌, ℕ, zero, suc, ◌+◌, ◌<◌, ◌≤◌, Bool, true, false, refl, sym, subst, arith}
use Rattle.cbdc_model.specs.Records.{Digest, Batch, Compact, same_batch}
use Rattle.cbdc_model.specs.Status.{Status, Unspent, Locked, Absent}
use Rattle.ledger_laws.proofs.Counts.{count}
pub use Rattle.ledger_laws.proofs.ByKind.{same_batch_is}

pub record View : Type 0 where
  pub status : Digest → Status
  -- how often a hash has come to its shard, by Genesis or a Finish
  pub arrived : Digest → ℕ
  -- how often committed transactions take a hash, and make it
  pub spent : Digest → ℕ
  pub made : Digest → ℕ
  -- how often those of one batch do
  pub takes : Batch → Digest → ℕ
  pub makes : Batch → Digest → ℕ
  -- whether the batch's Finish stands at the hash's shard, and how often its Lock there holds the hash
  pub finished : Batch → Digest → Bool
  pub holds : Batch → Digest → ℕ

-- a view with a measure of how often a Lock holds a hash in place of the count
abbrev pub measured : (ℕ → ℕ) → View → View
measured f v = record v { holds = λ b x. f (v.holds b x) }

-- a made hash whose Finish at its shard does not stand
pub record Awaited (v : View) (x : Digest) : Type 0 where
  pub batch : Batch
  pub makes : 0 < v.makes batch x
  pub unfinished : v.finished batch x ≡ false

pub record Inv (genesis : Digest → ℕ) (P : Compact → Type 0) (v : View) : Type 0 where
  pub unspent : (x : Digest) → v.status x ≡ Unspent → (v.arrived x ≡ 1) × (v.spent x ≡ 0)
  pub locked : (x : Digest) (b : Batch) → v.status x ≡ Locked b
      → (v.arrived x ≡ 1) × (v.finished b x ≡ false) × (v.spent x ≡ v.takes b x) × (0 < v.holds b x)
  pub absent : (x : Digest) → v.status x ≡ Absent → v.arrived x ≡ v.spent x
  pub held : (x : Digest) (b : Batch) → 0 < v.holds b x → v.finished b x ≡ false → v.status x ≡ Locked b
  pub held_once : (x : Digest) (b : Batch) → v.holds b x ≤ 1
  pub spent_le : (x : Digest) → v.spent x ≤ v.arrived x
  pub arrived_le : (x : Digest) → v.arrived x ≤ genesis x + v.made x
  pub made_once : (x : Digest) → genesis x + v.made x ≤ 1
  pub takes_le : (x : Digest) (b : Batch) → v.takes b x ≤ v.spent x
  pub makes_le : (x : Digest) (b : Batch) → v.makes b x ≤ v.made x
  pub one_maker : (x : Digest) (b c : Batch) → 0 < v.makes b x → 0 < v.makes c x → b ≡ c
  pub pending : (x : Digest) (b : Batch) → 0 < v.makes b x → v.finished b x ≡ false → v.arrived x ≡ 0
  pub awaited : (x : Digest) → v.arrived x ≡ 0 → 0 < genesis x + v.made x → Awaited v x
  pub respent : (t : Compact) (x y : Digest) → P t → 0 < count x t.outputs → 0 < v.made x → 0 < count y t.inputs → 0 < v.spent y

no_self : (b : Batch) → same_batch b b ≡ false → ⊥
no_self b h = grind arith

pub not_same : (a b : Batch) → same_batch a b ≡ false → a ≡ b → ⊥
not_same a b h e = no_self a (subst (λ c. same_batch a c ≡ false) (sym e) h)

pub data SameOrNot (a b : Batch) : Type 0 where
  same : a ≡ b → SameOrNot a b
  other : same_batch a b ≡ false → SameOrNot a b

pub same_or_not : (a b : Batch) → SameOrNot a b
same_or_not a b = elim (same_batch a b) as (λ c. same_batch a b ≡ c → SameOrNot a b) [
  | true ↦ λ e. same (same_batch_is a b e)
  | false ↦ λ e. other e
] refl

pub data NoneOrSome (n : ℕ) : Type 0 where
  none : n ≡ 0 → NoneOrSome n
  some : 0 < n → NoneOrSome n

pub none_or_some : (n : ℕ) → NoneOrSome n
none_or_some zero = none refl
none_or_some (suc n) = some (omega arith)
