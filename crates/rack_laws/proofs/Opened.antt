-- A ledger that was opened is the one that the rack shows.
use Rattle.std.proofs.Common.{◌≡◌, ◌⊎◌, inl, inr, ℕ, zero, suc, ◌+◌, ◌-◌, ◌<◌, ◌≤◌, true, false, nat_lt, if◌then◌else◌, List, [], ◌∷◌, length, get_or}
use Rattle.std.proofs.Common.{Option, Some, None, refl, sym, ap, ◌∙◌, arith}
use Rattle.std.specs.Prelude.{slice_get, All}
use Rattle.std.proofs.lemmas.Option.{slice_get_cases, slice_get-get_or, slice_get_within}
use Rattle.std.proofs.lemmas.Bool.{ltb-true, ltb-false}
use Rattle.outside.specs.declared.disk.Disk.{Ghosts}
use Rattle.cbdc_types.specs.Limits.{IsWithinLimits}
use Rattle.cbdc_model.specs.Records.{Digest, Shape, Header, Record}
use Rattle.cbdc_model.specs.History.{header_of}
use Rattle.cbdc_model.specs.Sights.{Sight}
use Rattle.node_journal.specs.Nodes.{NodeOf, sight, HoldsJournal}
use Rattle.coord_log.specs.Opening.{IsCoord}
use Rattle.shard_node.specs.Opening.{IsShardHeader}
use Rattle.node_ports.specs.Nodes.{sight_at}
use Rattle.rack_ledgers.proofs.Once.{opens_once_law}
use Rattle.rack_ledgers.specs.Ledgers.{IsNodeAt, AreOpened}
use Rattle.run_laws.specs.Runs.{seen_by}
use Rattle.rack_laws.specs.Shown.{Shows}
use Rattle.cbdc_model.specs.Ranges.{node_count}

-- the item at a place
pub at_place : {N : Type 0} (xs : List N) (n : ℕ) → n < length xs → (x : N) × (slice_get xs n ≡ Some x)
at_place xs n inside = go (slice_get_cases xs n).1
  where
    go : ((x : _) × (n < length xs) × (slice_get xs n ≡ Some x) × (get_or xs n x ≡ x)) ⊎ ((length xs ≤ n) × (slice_get xs n ≡ None))
        → (x : _) × (slice_get xs n ≡ Some x)
    go (inl (x, low, is, e)) = (x, is)
    go (inr (past, e)) = absurd (omega (arith, past, inside))

-- what is seen of it
pub sight_there : {N : Type 0} (see : N → Sight) (xs : List N) (n : ℕ) (x : N) → slice_get xs n ≡ Some x → sight_at see xs n ≡ see x
sight_there see [] n x e = absurd (cc)
sight_there see (y ∷ ys) zero x e = let h : y ≡ x = cc in ap see h
sight_there see (y ∷ ys) (suc n) x e = sight_there see ys n x e

-- the item as `All` names it
pub all_by : {N : Type 0} (P : N → Type 0) (xs : List N) → ((n : ℕ) (x : N) → slice_get xs n ≡ Some x → P x) → All P xs
all_by P xs each k d inside = each k (get_or xs k d) (slice_get-get_or xs k d inside)

-- a node whose disk shows a journal of this ledger is that node, and its disk holds the journal
record IsThat {D : Type 0} (device : Ghosts D) (x : NodeOf D) (K : Shape) (genesis : Digest) (n : ℕ) (J : List Record) : Type 0 where
  pub header_is : x.header ≡ header_of K genesis n
  pub journal_is : x.journal ≡ J
  pub holds : HoldsJournal device x

module _ {D : Type 0} (device : Ghosts D) (held : ℕ → Option D) (h : Header) (logs shards : List (NodeOf D))
    (are : AreOpened device held h logs shards)
    (K : Shape) (genesis : Digest) (J : ℕ → List Record) (within : IsWithinLimits K) (shows : Shows device held K genesis J) where
  node_that : (Is : Header → Type 0) (n : ℕ) (x : NodeOf D) → IsNodeAt device held Is h n x → n < node_count K → IsThat device x K genesis n (J n)
  node_that Is n x is low =
      let s = shows n low in
      let found = (is.opened s.0 s.1).stands s.2.0 s.2.1 in
      let once = opens_once_law x.header (header_of K genesis n) x.journal (J n) s.2.0 found.0.limits within is.journal s.2.2.journal found.0.opens
      s.2.2.opens in
      record { header_is = once.0; journal_is = once.1; holds = found.1 }

  log_that : (n : ℕ) (l : NodeOf D) → slice_get logs n ≡ Some l → n < node_count K → IsThat device l K genesis n (J n)
  log_that n l there low = node_that IsCoord n l (are.logs_at n l there) low

  shard_that : (s : ℕ) (x : NodeOf D) → slice_get shards s ≡ Some x → h.shape.coordinators + s < node_count K
      → IsThat device x K genesis (h.shape.coordinators + s) (J (h.shape.coordinators + s))
  shard_that s x there low = node_that IsShardHeader (h.shape.coordinators + s) x (are.shards_at s x there) low

  lead : (l : NodeOf D) × (slice_get logs 0 ≡ Some l)
  lead = at_place logs 0 (omega (arith, are.coordinators, are.limits.some_coordinator))

  same_header : header_of h.shape h.genesis 0 ≡ header_of K genesis 0
  same_header = sym (are.logs_at 0 lead.0 lead.1).header ∙ (log_that 0 lead.0 lead.1 (omega (arith, within.some_coordinator))).header_is

  pub same_shape : h.shape ≡ K
  same_shape = ap (λ k. k.shape) same_header

  pub same_genesis : h.genesis ≡ genesis
  same_genesis = ap (λ k. k.genesis) same_header

  coordinators_are : length logs ≡ K.coordinators
  coordinators_are = are.coordinators ∙ ap (λ k. k.coordinators) same_shape

  shards_count : length shards ≡ K.shards
  shards_count = are.shards_are ∙ ap (λ k. k.shards) same_shape

  log_journal : (n : ℕ) → n < K.coordinators → (sight_at sight logs n).seen ≡ J n
  log_journal n low =
      let x = at_place logs n (omega (arith, coordinators_are, low)) in
      ap (λ s. s.seen) (sight_there sight logs n x.0 x.1) ∙ (log_that n x.0 x.1 (omega (arith, low))).journal_is

  shard_journal : (s : ℕ) → s < K.shards → (sight_at sight shards s).seen ≡ J (K.coordinators + s)
  shard_journal s low =
      let x = at_place shards s (omega (arith, shards_count, low)) in
      let e : h.shape.coordinators ≡ K.coordinators = ap (λ k. k.coordinators) same_shape in
      ap (λ t. t.seen) (sight_there sight shards s x.0 x.1) ∙ (shard_that s x.0 x.1 (omega (arith, e, low))).journal_is ∙ ap (λ k. J (k + s)) e

  past_end : {N : Type 0} (see : N → Sight) (xs : List N) (n : ℕ) → length xs ≤ n → (sight_at see xs n).seen ≡ []
  past_end see [] n h = refl
  past_end see (x ∷ xs) zero h = absurd (omega (arith, h))
  past_end see (x ∷ xs) (suc n) h = past_end see xs n (omega (arith, h))

  pub same_journals : ((n : ℕ) → node_count K ≤ n → J n ≡ []) → (n : ℕ) → seen_by K (sight_at sight logs) (sight_at sight shards) n ≡ J n
  same_journals beyond n = go (nat_lt n K.coordinators) refl
    where
      go : (b : _) → nat_lt n K.coordinators ≡ b → (if b then (sight_at sight logs n).seen else (sight_at sight shards (n - K.coordinators)).seen)
          ≡ J n
      go true t = log_journal n (ltb-true n K.coordinators t)
      go false t = rest (nat_lt n (node_count K)) refl
        where
          high : K.coordinators ≤ n
          high = ltb-false n K.coordinators t

          rest : (b : _) → nat_lt n (node_count K) ≡ b → (sight_at sight shards (n - K.coordinators)).seen ≡ J n
          rest true u =
              let low : n < node_count K = ltb-true n (node_count K) u in
              shard_journal (n - K.coordinators) (omega (arith, low, high)) ∙ ap (λ m. J m) (omega (arith, high))
          rest false u =
              let past : node_count K ≤ n = ltb-false n (node_count K) u in
              past_end sight shards (n - K.coordinators) (omega (arith, shards_count, past)) ∙ sym (beyond n past)

  pub logs_held : All (HoldsJournal device) logs
  logs_held = all_by (HoldsJournal device) logs (λ n l there.
      (log_that n l there (omega (arith, coordinators_are, slice_get_within logs n l there))).holds)

  pub shards_held : All (HoldsJournal device) shards
  shards_held = all_by (HoldsJournal device) shards (λ s x there.
      let e : h.shape.coordinators ≡ K.coordinators = ap (λ k. k.coordinators) same_shape in
      (shard_that s x there (omega (arith, shards_count, e, slice_get_within shards s x there))).holds)
