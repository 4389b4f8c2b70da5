-- What is told of the lanes' open batches by their coordinators' journals.
use Rattle.std.proofs.Common.{◌≡◌, ℕ, ◌<◌, List, get_or, Option, Some, None, Result, Ok, Err, IfOk, IfSome, refl, sym, ap, ◌∙◌, subst}
use Rattle.std.specs.Prelude.{option_map}
use Rattle.outside.specs.declared.disk.Disk.{Ghosts}
use Rattle.cbdc_types.specs.declared.batch.OpenLane.{OpenLane}
use Rattle.cbdc_model.specs.Records.{Shape, Header, Batch, Compact, Outcome, Record, txs_in, outcomes_in, txs_of, outcomes_of}
use Rattle.cbdc_model.specs.Slots.{Slot, slot, slot_stamp}
use Rattle.cbdc_model.specs.Ranges.{home_of}
use Rattle.cbdc_model.specs.Grammar.{HasSize}
use Rattle.node_journal.specs.Nodes.{NodeOf, sight}
use Rattle.coord_log.specs.OpenLanes.{open_lane, open_phase_of}
use Rattle.node_ports.specs.Nodes.{sight_at}
use Rattle.lane_laws.specs.Batches.{own}
use Rattle.lane_laws.proofs.Own.{slot_own, stamp_own}
use Rattle.lane_laws.proofs.Runs.{same_record}
use Rattle.run_laws.proofs.Seen.{seen_log}
use Rattle.ledger_runs.specs.Turning.{IsLaneOf}
use Rattle.ledger_runs.specs.Faults.{GrowBy}
use Rattle.ledger_runs.specs.Planning.{IsFound, KeepsOpens}
use Rattle.ledger_runs.proofs.Others.{own_same}
use Rattle.file_runs.specs.Ledgers.{IsLedger, node_journals}
use Rattle.file_runs.proofs.Steps.{home_inside, open_at}
use Rattle.file_runs.proofs.Turns.{told_there, none_open}

-- ---- a lane's own records alone tell its open batch

told_by : ℕ → Slot → ℕ → List Compact → List Outcome → Option OpenLane
told_by lane s stamp txs outcomes = option_map (λ p. record
    { batch = record { lane = lane; number = s.number }; phase = p; stamp = stamp; txs = txs; outcomes = outcomes }) (open_phase_of s.phase)

same_open : (lane : ℕ) (L M : List Record) → own lane M ≡ own lane L → open_lane M lane ≡ open_lane L lane
unfolding told_by
same_open lane L M same =
    ap (λ s. told_by lane s (slot_stamp M lane) (txs_of M (record { lane = lane; number = s.number }))
    (outcomes_of M (record { lane = lane; number = s.number }))) slots
    ∙ ap (λ t. told_by lane (slot L lane) t (txs_of M b) (outcomes_of M b)) stamps
    ∙ ap (λ r. told_by lane (slot L lane) (slot_stamp L lane) (txs_in r) (outcomes_of M b)) (same_record 6 lane b L M refl same)
    ∙ ap (λ r. told_by lane (slot L lane) (slot_stamp L lane) (txs_of L b) (outcomes_in r)) (same_record 7 lane b L M refl same)
  where
    b : Batch
    b = record { lane = lane; number = (slot L lane).number }

    slots : slot M lane ≡ slot L lane
    slots = slot_own lane M ∙ ap (λ N. slot N lane) same ∙ sym (slot_own lane L)

    stamps : slot_stamp M lane ≡ slot_stamp L lane
    stamps = stamp_own lane M ∙ ap (λ N. slot_stamp N lane) same ∙ sym (stamp_own lane L)

module _ {D : Type 0} (device : Ghosts D) (h : Header) (lane : ℕ) (logs shards : List (NodeOf D))
    (ledger : IsLedger h logs shards) (lt : IsLaneOf h.shape lane) where
  abbrev K : Shape
  K = h.shape

  abbrev opens : ℕ → Option OpenLane
  opens l = open_lane (sight_at sight logs (home_of K l)).seen l

  abbrev I : ℕ → List Record
  I = node_journals h.shape logs shards

  sizes : (found : Option OpenLane) → opens lane ≡ found → IfSome found (λ o. HasSize K o.txs)
  sizes None told = tt
  sizes (Some o) told =
      let shape = ap (λ k. k.shape) (ledger.log_headers (home_of K lane) (home_inside lane K.coordinators K.lanes lt)) in
      subst (λ k. HasSize k o.txs) shape (open_at h logs shards lane (home_of K lane) o ledger lt refl told).size

  pub is_found : (at : ℕ) (x : NodeOf D) → at ≡ home_of K lane → x ≡ get_or logs at x → {E : Type 0} (found : Result (Option OpenLane) E)
      → IfOk found (λ o. o ≡ open_lane x.journal lane) → IfOk found (IsFound K I opens lane)
  is_found at x at_is is (Err e) told = tt
  is_found at x at_is is (Ok found) told =
      let there : opens lane ≡ found = told_there device h lane logs shards ledger lt at x at_is is found found told refl in
      record {
        told = sym there;
        idle = λ none. none_open device h lane logs shards ledger lt (there ∙ none);
        size = sizes found there;
      }

  -- another lane's is what it was behind a turn of this one
  pub opens_keep : (logs' : List (NodeOf D)) (shards' : List (NodeOf D)) → GrowBy lane I (node_journals h.shape logs' shards')
      → KeepsOpens K lane opens (λ l. open_lane (sight_at sight logs' (home_of K l)).seen l)
  opens_keep logs' shards' grown other inside apart =
      let home : home_of K other < K.coordinators = home_inside other K.coordinators K.lanes inside in
      same_open other (sight_at sight logs (home_of K other)).seen (sight_at sight logs' (home_of K other)).seen
      (ap (λ L. own other L) (sym (seen_log K (sight_at sight logs') (sight_at sight shards') (home_of K other) home))
      ∙ own_same other lane (λ e. apart (sym e)) I (node_journals h.shape logs' shards') grown (home_of K other)
      ∙ ap (λ L. own other L) (seen_log K (sight_at sight logs) (sight_at sight shards) (home_of K other) home))
