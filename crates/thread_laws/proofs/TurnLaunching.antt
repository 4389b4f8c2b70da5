-- A Prepare that is in flight behind a turn was so before, or is that of the turn's batch, of which the lane has prepared nothing.
use Rattle.std.proofs.Common.{◌≡◌, ◌≢◌, ◌⊎◌, ◌==◌, inl, inr, ℕ, zero, suc, ◌*◌, ◌/◌, ◌<◌, true, false, List, [], Option, Some, sym, ap, ◌∙◌, subst}
use Rattle.std.proofs.Common.{arith, Contains}
use Rattle.std.proofs.lemmas.Nat.{div_below}
use Rattle.std.proofs.lemmas.Bool.Decides.{eqb_tells}
use Rattle.cbdc_types.specs.Limits.{IsWithinLimits}
use Rattle.cbdc_types.specs.declared.batch.OpenLane.{OpenLane}
use Rattle.cbdc_model.specs.Records.{Shape, Batch, Compact, Record, tells_lane, Prepare}
use Rattle.cbdc_model.specs.Ranges.{home_of}
use Rattle.cbdc_model.specs.After.{After}
use Rattle.cbdc_model.specs.History.{Minted, header_of}
use Rattle.cbdc_model.specs.Lanes.{Holds}
use Rattle.cbdc_model.specs.Waves.{prepared}
use Rattle.cbdc_model.specs.Sights.{Sight}
use Rattle.lane_laws.specs.Batches.{Flown}
use Rattle.lane_laws.specs.Resuming.{IsTakenUp}
use Rattle.lane_driver.specs.declared.fault.LaneFault.{LaneFault}
use Rattle.lane_driver.specs.Told.{KeepNodes}
use Rattle.coord_log.specs.OpenLanes.{open_lane}
use Rattle.recovery.specs.Open.{IsBatchUnfinished, IsResumeStopped}
use Rattle.run_laws.specs.Checked.{CheckedJournals}
use Rattle.run_laws.specs.Runs.{seen_by}
use Rattle.run_laws.specs.Turns.{Elsewhere}
use Rattle.run_laws.specs.Flights.{flying}
use Rattle.ledger_runs.specs.Turning.{IsLaneOf}
use Rattle.ledger_runs.specs.Pieces.{HasPreparedPieces}
use Rattle.ledger_runs.specs.Faults.{Nothing}
use Rattle.ledger_runs.specs.Flying.{Launches}
use Rattle.thread_laws.specs.Nodes.{AreNodes, AreNext, SameFlights}
use Rattle.thread_laws.proofs.OpenThere.{told_lane}
use Rattle.thread_laws.proofs.Turned.{same_flights}
use Rattle.thread_laws.proofs.Checking.{still, taken_checked, left_checked}
use Rattle.thread_laws.proofs.TurnFlying.{log_flight, after_here, still_here, none_new, none_done}

home_inside : (lane coordinators lanes : ℕ) → lane < coordinators * lanes → lane / lanes < coordinators
home_inside lane coordinators zero lt = absurd (omega (arith, lt))
home_inside lane coordinators (suc lanes) lt = div_below lane (suc lanes) coordinators (omega arith) lt

its_lane : (lane t : ℕ) (b : Batch) (txs : List Compact) → tells_lane lane (Prepare t b txs) ≡ true → b.lane ≡ lane
its_lane lane t b txs h = grind (arith, h)

no_piece : (txs : List Compact) → Contains [] txs → ⊥
no_piece txs h = let lt : h.0 < 0 = h.1 in omega (arith, lt)

module _ (K : Shape) (lane : ℕ) (logs shards logs' shards' : ℕ → Sight) (limits : IsWithinLimits K) (home : home_of K lane < K.coordinators)
    (shape : (logs (home_of K lane)).header.shape ≡ K) (shard_shapes : (s : ℕ) → s < K.shards → (shards' s).header.shape ≡ K)
    (elsewhere : Elsewhere K lane logs logs')
    (nodes : AreNodes K logs shards) (nodes' : AreNodes K logs' shards') (log_nodes : KeepNodes logs logs') (shard_nodes : KeepNodes shards shards')
    (next : AreNext K logs' shards')
    (m : Minted) (checked : CheckedJournals K m (seen_by K logs shards)) where
  abbrev I : ℕ → List Record
  I = seen_by K logs shards

  abbrev J : ℕ → List Record
  J = seen_by K logs' shards'

  abbrev F : ℕ → Option Record
  F = flying K logs shards

  abbrev G : ℕ → Option Record
  G = flying K logs' shards'

  abbrev log : Sight
  log = logs (home_of K lane)

  abbrev log' : Sight
  log' = logs' (home_of K lane)

  -- of each Prepare in flight
  module _ (now : CheckedJournals K m J) (n t : ℕ) (b : Batch) (txs : List Compact) (is : G n ≡ Some (Prepare t b txs)) where
    after : After (header_of K m.id n) (J n) (Prepare t b txs)
    after = after_here K logs' shards' nodes' next m now n (Prepare t b txs) is

    at : n ≡ home_of K b.lane
    at = after.1.1

    inside : IsLaneOf K b.lane
    inside = after.0.1.0

    low : n < K.coordinators
    low = subst (λ k. k < K.coordinators) (sym at) (home_inside b.lane K.coordinators K.lanes inside)

    -- where it was before, nothing was written at its node
    was_there : F n ≡ Some (Prepare t b txs) → HasPreparedPieces K b.lane [] I J
    was_there was = ap (prepared b.lane)
        (subst (λ k. J k ≡ I k) at (still_here K lane logs shards logs' shards' limits.some_shard home shape elsewhere nodes nodes' log_nodes
        shard_nodes next n (Prepare t b txs) was))

    flown_here : (pieces : List (List Compact)) → Flown K pieces lane log shards log' shards'
        → (F n ≡ Some (Prepare t b txs)) ⊎ ((b.lane ≡ lane) × Holds pieces (Prepare t b txs))
    flown_here pieces flown = go (eqb_tells n (home_of K lane))
      where
        here : G n ≡ (logs' n).flight
        here = log_flight K logs' shards' n low

        before : F n ≡ (logs n).flight
        before = log_flight K logs shards n low

        same_record : (q r : Record) → Some q ≡ Some r → q ≡ r
        same_record q r e = cc

        go : (((n == home_of K lane) ≡ true) × (n ≡ home_of K lane)) ⊎ (((n == home_of K lane) ≡ false) × (n ≢ home_of K lane))
            → (F n ≡ Some (Prepare t b txs)) ⊎ ((b.lane ≡ lane) × Holds pieces (Prepare t b txs))
        go (inr (d, other)) = inl (before ∙ ap (λ s. s.flight) (sym (elsewhere n other)) ∙ sym here ∙ is)
        go (inl (d, e)) = elim flown.log_flown [
          | inl same ↦ inl (before ∙ ap (λ k. (logs k).flight) e ∙ sym same ∙ ap (λ k. (logs' k).flight) (sym e) ∙ sym here ∙ is)
          | inr new ↦
              let it : new.0 ≡ Prepare t b txs = same_record new.0 (Prepare t b txs) (sym new.1 ∙ ap (λ k. (logs' k).flight) (sym e) ∙ sym here ∙ is)
              in
              inr (its_lane lane t b txs (subst (λ r. tells_lane lane r ≡ true) it new.2), subst (Holds pieces) it new.4)
        ]

  -- where nothing new is a Prepare
  launches_none : (due : ℕ → List Compact → Type 0) (pieces : List (List Compact)) → ((txs : List Compact) → Contains pieces txs → ⊥)
      → CheckedJournals K m J → Flown K pieces lane log shards log' shards' → Launches K due I J F G
  launches_none due pieces none now flown n t b txs is = elim (flown_here now n t b txs is pieces flown) [
    | inl was ↦ inl (was, was_there now n t b txs is was)
    | inr new ↦ absurd (none txs new.1)
  ]

  -- nor is anything in flight that was not
  nothing_new : (pieces : List (List Compact)) → log'.flight ≡ log.flight → ((s : ℕ) → (shards' s).flight ≡ (shards s).flight)
      → Flown K pieces lane log shards log' shards'
  nothing_new pieces here there = none_new K lane logs shards logs' shards' limits.some_shard home shape elsewhere nodes nodes' log_nodes shard_nodes
      next pieces here there

  nothing_done : (pieces : List (List Compact)) → log' ≡ log → shards' ≡ shards → Flown K pieces lane log shards log' shards'
  nothing_done pieces here there = none_done K lane logs shards logs' shards' limits.some_shard home shape elsewhere nodes nodes' log_nodes
      shard_nodes next pieces here there

  as_before : log'.flight ≡ log.flight → ((s : ℕ) → (shards' s).flight ≡ (shards s).flight) → SameFlights logs shards logs' shards'
  as_before here there = same_flights K lane logs shards logs' shards' limits.some_shard home shape elsewhere nodes nodes' log_nodes shard_nodes here
      there

  module _ (o : OpenLane) (told : open_lane log.seen lane ≡ Some o) where
    unfinished_there : IsBatchUnfinished o.phase K o log shards
    unfinished_there = still K lane logs shards logs' shards' limits home shape shard_shapes elsewhere nodes nodes' log_nodes shard_nodes m checked o
        told

    pub resume_same : (IsBatchUnfinished o.phase K o log shards → IsTakenUp K true o.batch log shards log' shards')
        → SameFlights logs shards logs' shards'
    resume_same taken = let up = taken unfinished_there in as_before up.log_same up.shard_same

    pub resume_launches : (IsBatchUnfinished o.phase K o log shards → IsTakenUp K true o.batch log shards log' shards')
        → Launches K (λ _. Nothing) I J F G
    resume_launches taken =
        let up = taken unfinished_there in
        launches_none (λ _. Nothing) [] no_piece
        (taken_checked K lane logs shards logs' shards' limits home shape shard_shapes elsewhere nodes nodes' log_nodes shard_nodes m checked o told
        taken).checked (nothing_new [] up.log_same up.shard_same)

    pub left_launches : (e : LaneFault) → IsResumeStopped K true o log shards log' shards' e → Launches K (λ _. Nothing) I J F G
    left_launches e stop = launches_none (λ _. Nothing) [] no_piece
        (left_checked K lane logs shards logs' shards' limits home shape shard_shapes elsewhere nodes nodes' log_nodes shard_nodes m checked o told e
        stop).checked (flown stop)
      where
        flown : IsResumeStopped K true o log shards log' shards' e → Flown K [] lane log shards log' shards'
        flown s = subst (λ l. Flown K [] l log shards log' shards') (told_lane log.seen lane o told) (s unfinished_there).3.flown
