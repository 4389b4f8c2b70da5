-- Between the definitions of what is kept and the products that the proofs read.
use Rattle.std.proofs.Common.{◌≡◌, ℕ, ◌+◌, ◌<◌, List, [], ◌∷◌, ◌++◌, Some, sym, ◌∙◌, arith}
use Rattle.std.specs.List.{All, AllByRecursion}
use Rattle.std.proofs.lemmas.List.Elements.{All-from_recursion, recursion_from_All}
use Rattle.cbdc_model.specs.Records.{Shape, Digest, Compact, Record, Row, journal, Genesis, Lock, Forget, Start, Prepare, Commit, Upgrade, Carry}
use Rattle.cbdc_model.specs.Records.{CarryStart, Seal}
use Rattle.cbdc_model.specs.Grammar.{IsInGrammar}
use Rattle.cbdc_model.specs.After.{After, Follows}
use Rattle.cbdc_model.specs.History.{Minted, header_of, first_rows, TxsPass, IsSteady, IsOrdered}
use Rattle.cbdc_model.specs.Causes.{IsCaused}
use Rattle.cbdc_model.specs.World.{World, node_at, journals, replaced}
use Rattle.cbdc_model.specs.Lanes.{IsEnd, Seen, first_of, KeptLists}
use Rattle.ledger_laws.proofs.Next.{Next, Each, AllProper, Steady}
use Rattle.ledger_laws.proofs.FirstJournals.{never_empty}

-- transactions that pass
pub each_is : (P : Compact → Type 0) (ts : List Compact) → All P ts → Each P ts
each_is P ts all = by_recursion ts (recursion_from_All P ts all)
  where
    by_recursion : (ts : List Compact) → AllByRecursion P ts → Each P ts
    by_recursion [] h = tt
    by_recursion (t ∷ ts) h = (h.0, by_recursion ts h.1)

pub next_of : (K : Shape) (id : Digest) (node : ℕ) (past : List Record) (r : Record) → (node < K.coordinators + K.shards → past ≡ [] → ⊥)
    → After (header_of K id node) past r → Next K node past r
next_of K id node past (Genesis header hs) some h = absurd (some h.0.2.1 h.1)
next_of K id node past (Start header) some h = absurd (some (omega (arith, h.0.2)) h.1)
next_of K id node past (Carry stamp header source hs numbers) some h = absurd h.0
next_of K id node past (CarryStart stamp header source numbers) some h = absurd h.0
next_of K id node past (Upgrade stamp batch) some h = absurd h.0
next_of K id node past (Seal stamp to shards) some h = absurd h.0
next_of K id node past (Prepare stamp b txs) some h = (h.1.0, h.0.2, h.1.1, h.1.2, h.1.3, h.1.4)
next_of K id node past (Lock stamp b es) some h = (h.1.0, h.0.2, h.1.1, h.1.2, h.1.3, h.0.3.0)
next_of K id node past (Forget stamp b) some h = (h.1.0, h.0.2, h.1.1, h.1.2)
next_of K id node past (Commit stamp b os) some h = (h.1.0, h.0.2, h.1.1, h.1.2, h.1.3, h.1.4)
next_of K id node past other some h = (h.1.0, h.0.2, h.1.1, h.1.2, h.1.3)

follows_of : (K : Shape) (id : Digest) (node : ℕ) (past : List Record) (r : Record) → Next K node past r → Follows (header_of K id node) past r
follows_of K id node past (Genesis header hs) n = absurd n
follows_of K id node past (Start header) n = absurd n
follows_of K id node past (Carry stamp header source hs numbers) n = absurd n
follows_of K id node past (CarryStart stamp header source numbers) n = absurd n
follows_of K id node past (Upgrade stamp batch) n = (n.0, n.2, n.3)
follows_of K id node past (Seal stamp to shards) n = (n.0, n.2, n.3)
follows_of K id node past (Prepare stamp b txs) n = (n.0, n.2, n.3, n.4, n.5)
follows_of K id node past (Forget stamp b) n = (n.0, n.2, n.3)
follows_of K id node past (Commit stamp b os) n = (n.0, n.2, n.3, n.4, n.5)
follows_of K id node past other n = (n.0, n.2, n.3, n.4)

pub after_of : (K : Shape) (id : Digest) (node : ℕ) (past : List Record) (r : Record) → Next K node past r → IsInGrammar (header_of K id node) r
    → After (header_of K id node) past r
after_of K id node past r next grammar = (grammar, follows_of K id node past r next)

pub proper_of : (P : Compact → Type 0) (r : Record) → TxsPass P r → AllProper P r
proper_of P (Prepare stamp b txs) h = each_is P txs h
proper_of P other h = tt

all_is : (P : Compact → Type 0) (ts : List Compact) → Each P ts → All P ts
all_is P ts each = All-from_recursion P ts (by_recursion ts each)
  where
    by_recursion : (ts : List Compact) → Each P ts → AllByRecursion P ts
    by_recursion [] h = tt
    by_recursion (t ∷ ts) h = (h.0, by_recursion ts h.1)

-- where every transaction passes, every record does
pub each_passes : (P : Compact → Type 0) → ((t : Compact) → P t) → (r : Record) → TxsPass P r
each_passes P all (Prepare stamp b txs) = λ k d lt. all _
each_passes P all other = tt

pub passes_of : (P : Compact → Type 0) (r : Record) → AllProper P r → TxsPass P r
passes_of P (Prepare stamp b txs) h = all_is P txs h
passes_of P other h = tt

module _ (K : Shape) (minting : Minted) (P : Compact → Type 0) where
  -- at a node of a history that is kept so far
  pub next_at : (later : List Row) (node : ℕ) (r : Record) → After (header_of K minting.id node) (journal node (later ++ first_rows K minting)) r
      → Next K node (journal node (later ++ first_rows K minting)) r
  next_at later node r after = next_of K minting.id node (journal node (later ++ first_rows K minting)) r (never_empty K minting later node) after

  pub steady : (later : List Row) → IsSteady K minting P later → Steady K minting P later
  steady [] h = tt
  steady (row ∷ later) h = (next_at later row.node row.what h.0, h.1, proper_of P row.what h.2, steady later h.3, h.0.0)

  pub is_steady : (later : List Row) → Steady K minting P later → IsSteady K minting P later
  is_steady [] h = tt
  is_steady (row ∷ later) h = (
    after_of K minting.id row.node (journal row.node (later ++ first_rows K minting)) row.what h.0 h.4,
    h.1,
    passes_of P row.what h.2,
    is_steady later h.3,
  )

-- one history of the journals
pub record SteadyJournals (K : Shape) (minting : Minted) (P : Compact → Type 0) (J : ℕ → List Record) : Type 0 where
  pub later : List Row
  pub kept : Steady K minting P later
  pub ordered : IsOrdered later
  pub history : (n : ℕ) → journal n (later ++ first_rows K minting) ≡ J n

-- one history of the whole world, with what is in flight
pub record SteadyWorld (K : Shape) (minting : Minted) (P : Compact → Type 0) (w : World) : Type 0 where
  pub later : List Row
  pub kept : Steady K minting P later
  pub ordered : IsOrdered later
  pub history : (n : ℕ) → journal n (later ++ first_rows K minting) ≡ journals w n
  pub flights : (n : ℕ) (r : Record) → (node_at w n).flight ≡ Some r
      → Next K n (journals w n) r × IsCaused K (journals w) n r × AllProper P r × IsInGrammar (header_of K minting.id n) r

-- each record of a list of rows is next, caused, passes and is in the grammar: one fact for each, in no order
abbrev pub EachSteady : Shape → Minted → (Compact → Type 0) → List Row → Type 0
EachSteady K minting P later = (n : ℕ) (newer rest : List Record) (r : Record) → journal n later ≡ newer ++ r ∷ rest
    → Next K n (rest ++ journal n (first_rows K minting)) r
    × IsCaused K (replaced (λ k. journal k (later ++ first_rows K minting)) n (rest ++ journal n (first_rows K minting))) n r
    × AllProper P r × IsInGrammar (header_of K minting.id n) r

-- the same of journals, by what each record has seen
pub record SteadyLists (K : Shape) (minting : Minted) (P : Compact → Type 0) (X : ℕ → List Record) : Type 0 where
  pub begins : (n : ℕ) → IsEnd (first_of K minting n) (X n)
  pub each : (n : ℕ) (newer rest : List Record) (r : Record) → X n ≡ newer ++ r ∷ rest → IsEnd (first_of K minting n) rest
      → Next K n rest r × Seen K X n rest r × AllProper P r × IsInGrammar (header_of K minting.id n) r

module _ (K : Shape) (minting : Minted) where
  pub some_behind : (n : ℕ) (rest : List Record) → IsEnd (first_of K minting n) rest → n < K.coordinators + K.shards → rest ≡ [] → ⊥
  some_behind n rest h lt e = never_ends h.0 (journal n (first_rows K minting)) (λ z. never_empty K minting [] n lt z) (sym h.1 ∙ e)
    where
      never_ends : (more J : List Record) → (J ≡ [] → ⊥) → more ++ J ≡ [] → ⊥
      never_ends [] J f e = f e
      never_ends (r ∷ more) J f e = let z : r ∷ (more ++ J) ≡ [] = e in cc

  pub next_behind : (n : ℕ) (rest : List Record) (r : Record) → IsEnd (first_of K minting n) rest → After (header_of K minting.id n) rest r
      → Next K n rest r
  next_behind n rest r h after = next_of K minting.id n rest r (λ lt e. some_behind n rest h lt e) after

  pub steady_lists : (P : Compact → Type 0) (X : ℕ → List Record) → KeptLists K minting P X → SteadyLists K minting P X
  steady_lists P X kept = record {
    begins = kept.begins;
    each = λ n newer rest r e h. let f = kept.each n newer rest r e h in (next_behind n rest r h f.0, f.1, proper_of P r f.2, f.0.0);
  }

  pub kept_lists : (P : Compact → Type 0) (X : ℕ → List Record) → SteadyLists K minting P X → KeptLists K minting P X
  kept_lists P X kept = record {
    begins = kept.begins;
    each = λ n newer rest r e h. let f = kept.each n newer rest r e h in (after_of K minting.id n rest r f.0 f.3, f.1, passes_of P r f.2);
  }
