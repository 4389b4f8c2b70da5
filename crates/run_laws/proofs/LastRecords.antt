-- A lane's last record at a node where its slot is not idle: which nodes have it, its stamp's bound, and the records that stand.
use Rattle.std.proofs.Common.{◌≡◌, ℕ, ◌^◌, ◌<◌, ◌≤◌, true, List, Some, is_some, sym, ap, ◌∙◌, arith}
use Rattle.cbdc_model.specs.Records.{Header, Batch, Record, record_of, stamp_of, txs_in, txs_of, outcomes_in, outcomes_of, Genesis, Lock, Finish}
use Rattle.cbdc_model.specs.Records.{Start, Prepare, Commit, Discard, Upgrade, Carry, CarryStart, Seal}
use Rattle.cbdc_model.specs.Slots.{Phase, Idle, InLock, InFinish, InPrepare, InCommit, InDiscard}
use Rattle.cbdc_model.specs.Grammar.{IsInGrammar}
use Rattle.ledger_laws.proofs.ByKind.{found_prepare, found_commit, found_discard}
use Rattle.ledger_laws.proofs.Last.{slot_by}
pub use Rattle.ledger_laws.proofs.Last.{LastStands, last_stands, last_stamped}

-- only a shard has records of these phases
abbrev pub IsShardPhase : Phase → Type 0
IsShardPhase Idle = ⊥
IsShardPhase InLock = Unit {0}
IsShardPhase InFinish = Unit {0}
IsShardPhase InPrepare = ⊥
IsShardPhase InCommit = ⊥
IsShardPhase InDiscard = ⊥

pub of_shard : (h : Header) (lane : ℕ) (r : Record) → IsInGrammar h r → IsShardPhase (slot_by lane (Some r)).phase → h.shape.coordinators ≤ h.node
of_shard h lane (Lock stamp b es) g p = g.2.0
of_shard h lane (Finish stamp b ds) g p = g.2.0
of_shard h lane other g p = absurd p

-- stamps are within their bound
pub stamp_fits : (h : Header) (r : Record) → IsInGrammar h r → stamp_of r < 2 ^ 63
stamp_fits h (Genesis header hs) g = omega arith
stamp_fits h (Start header) g = omega arith
stamp_fits h (Upgrade stamp batch) g = absurd g
stamp_fits h (Carry stamp header source hs numbers) g = absurd g
stamp_fits h (CarryStart stamp header source numbers) g = absurd g
stamp_fits h (Seal stamp to shards) g = absurd g
stamp_fits h other g = omega (arith, g.0)

module _ (J : List Record) (b : Batch) where
  pub prepare_stands : is_some (record_of 6 J b) ≡ true → (stamp : ℕ) × (record_of 6 J b ≡ Some (Prepare stamp b (txs_of J b)))
  prepare_stands h = let f = found_prepare J b h in (f.0, f.2 ∙ ap (λ txs. Some (Prepare f.0 b txs)) (ap txs_in (sym f.2)))

  pub commit_stands : is_some (record_of 7 J b) ≡ true → (stamp : ℕ) × (record_of 7 J b ≡ Some (Commit stamp b (outcomes_of J b)))
  commit_stands h = let f = found_commit J b h in (f.0, f.2 ∙ ap (λ os. Some (Commit f.0 b os)) (ap outcomes_in (sym f.2)))

  pub discard_stands : is_some (record_of 8 J b) ≡ true → (stamp : ℕ) × (record_of 8 J b ≡ Some (Discard stamp b))
  discard_stands h = found_discard J b h
