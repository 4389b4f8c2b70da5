-- The parts of a batch: one for each concerned shard, in rising order.
use Rattle.std.specs.Prelude.{◌≡◌, ℕ, suc, ◌<◌, Bool, true, false, ◌&&◌, ◌==◌, not, nat_lt, List, [], ◌∷◌, ◌++◌, if◌then◌else◌, Some, slice_get}
use Rattle.std.specs.Global.{Vec}
use Rattle.cbdc_model.specs.Records.{Digest, Compact, Entry, Shape}
use Rattle.cbdc_model.specs.Ranges.{on_shard, is_empty, part, is_no_part}

-- the shards are above this one
abbrev pub AllAbove : {C : Type 0} → (C → ℕ) → ℕ → List C → Type 0
AllAbove shard n [] = Unit {0}
AllAbove shard n (c ∷ cs) = (n < shard c) × AllAbove shard n cs

-- the shards rise along the list
abbrev pub IsRising : {C : Type 0} → (C → ℕ) → List C → Type 0
IsRising shard [] = Unit {0}
IsRising shard (c ∷ cs) = AllAbove shard (shard c) cs × IsRising shard cs

-- none of them is of this shard
abbrev pub NotAmong : {C : Type 0} → (C → ℕ) → List C → ℕ → Type 0
NotAmong shard [] s = Unit {0}
NotAmong shard (c ∷ cs) s = ((shard c == s) ≡ false) × NotAmong shard cs s

-- whether the shard has a part in these transactions
abbrev pub is_concerned : Shape → List Compact → ℕ → Bool
is_concerned K txs s = nat_lt s K.shards && not (is_no_part (part K s 0 txs))

-- a property holds of each in a list
abbrev pub Every : {C : Type 0} → (C → Type 0) → List C → Type 0
Every P [] = Unit {0}
Every P (c ∷ cs) = P c × Every P cs

-- there is one for each concerned shard, in rising order, and each is as P says
pub record AreCalls (K : Shape) (txs : List Compact) {C : Type 0} (shard : C → ℕ) (P : C → Type 0) (cs : List C) : Type 0 where
  pub every : Every P cs
  pub rising : IsRising shard cs
  pub covers : (s : ℕ) → is_concerned K txs s ≡ true → NotAmong shard cs s → ⊥

-- the shard of a part
abbrev pub shard : {A : Type 0} → ℕ × A → ℕ
shard c = c.0

-- a concerned shard, with its part
abbrev pub IsPart : Shape → List Compact → ℕ × List Entry → Type 0
IsPart K txs p = (is_concerned K txs p.0 ≡ true) × (p.1 ≡ part K p.0 0 txs)

-- each concerned shard once, in rising order, with its part
abbrev pub AreParts : Shape → List Compact → List (ℕ × List Entry) → Type 0
AreParts K txs ps = AreCalls K txs shard (IsPart K txs) ps

-- the entry of a transaction with these hashes, none where there are none
abbrev pub entry_if : ℕ → Digest → List Digest → List Digest → List Entry
entry_if place id ins outs =
    if is_empty ins && is_empty outs then [] else record { place = place; id = id; inputs = ins; outputs = outs } ∷ []

-- the places are below this one
abbrev pub AreBefore : ℕ → List Entry → Type 0
AreBefore place [] = Unit {0}
AreBefore place (e ∷ es) = (e.place < place) × AreBefore place es

-- each shard has the entries that its part has so far, and behind them that of one more transaction with these hashes
abbrev pub AreGrown : Shape → List Compact → ℕ → Digest → List Digest → List Digest → List (Vec Entry) → Type 0
AreGrown K txs place id ins outs parts =
    (s : ℕ) (p : Vec Entry) → slice_get parts s ≡ Some p
    → p.items ≡ part K s 0 txs ++ entry_if place id (on_shard K s ins) (on_shard K s outs)

-- each shard has its part of the transactions
abbrev pub AreSplit : Shape → List Compact → List (Vec Entry) → Type 0
AreSplit K txs parts = (s : ℕ) (p : Vec Entry) → slice_get parts s ≡ Some p → p.items ≡ part K s 0 txs

-- those that have an entry, each with its shard, the first of which is n
abbrev pub numbered : ℕ → List (Vec Entry) → List (ℕ × List Entry)
numbered n [] = []
numbered n (p ∷ ps) = if is_no_part p.items then numbered (suc n) ps else (n, p.items) ∷ numbered (suc n) ps
