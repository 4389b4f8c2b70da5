-- A Prepare in flight behind a wave of lanes that ran beside each other was so before, or is of its lane's next piece.
use Rattle.std.proofs.Common.{◌≡◌, inl, inr, ℕ, zero, suc, ◌*◌, ◌/◌, ◌<◌, true, false, List, [], ◌∷◌, Contains, Option, Some, None, sym, ap, ◌∙◌}
use Rattle.std.proofs.Common.{subst, slice_index_or, arith}
use Rattle.std.specs.Prelude.{take}
use Rattle.std.proofs.lemmas.Nat.{div_below}
use Rattle.cbdc_types.specs.Limits.{IsWithinLimits}
use Rattle.cbdc_types.specs.declared.calls.NodeFault.{NodeFault}
use Rattle.cbdc_model.specs.Records.{Shape, Batch, Compact, Record, tells_lane, Prepare}
use Rattle.cbdc_model.specs.Ranges.{home_of}
use Rattle.cbdc_model.specs.Slots.{slot, Idle}
use Rattle.cbdc_model.specs.After.{After}
use Rattle.cbdc_model.specs.History.{Minted, header_of}
use Rattle.cbdc_model.specs.Lanes.{Holds}
use Rattle.cbdc_model.specs.Waves.{prepared}
use Rattle.cbdc_model.specs.Sights.{Sight}
use Rattle.lane_laws.specs.Batches.{own, view, Settled, LaneStopped}
use Rattle.lane_driver.specs.declared.fault.LaneFault.{LaneFault}
use Rattle.lane_driver.specs.Stops.{IsLaneStopped}
use Rattle.run_laws.specs.Checked.{CheckedJournals}
use Rattle.ledger_runs.specs.Turning.{IsLaneOf}
use Rattle.ledger_runs.specs.Pieces.{HasPreparedPieces, IsNextPiece}
use Rattle.thread_laws.specs.Threads.{LaneLeft}
use Rattle.thread_laws.specs.Stopping.{NodesOf}
use Rattle.thread_laws.proofs.Stopping.{next_one}

its_lane : (lane t : ℕ) (b : Batch) (txs : List Compact) → tells_lane lane (Prepare t b txs) ≡ true → b.lane ≡ lane
its_lane lane t b txs h = grind (arith, h)

one_piece : (txs these : List Compact) → Contains (these ∷ []) txs → txs ≡ these
one_piece txs these h = at h.0 h.1 h.2
  where
    at : (k : ℕ) → k < 1 → slice_index_or (these ∷ []) k txs ≡ txs → txs ≡ these
    at k lt e = let none : k ≡ 0 = omega (arith, lt) in sym (subst (λ n. slice_index_or (these ∷ []) n txs ≡ txs) none e)

home_inside : (lane coordinators lanes : ℕ) → lane < coordinators * lanes → lane / lanes < coordinators
home_inside lane coordinators zero lt = absurd (omega (arith, lt))
home_inside lane coordinators (suc lanes) lt = div_below lane (suc lanes) coordinators (omega arith) lt

-- a Prepare that may come next at a node is of a lane of the ledger whose coordinator that is, and which is idle
module _ (K : Shape) (m : Minted) (J : ℕ → List Record) (n t : ℕ) (b : Batch) (txs : List Compact)
    (after : After (header_of K m.id n) (J n) (Prepare t b txs)) where
  pub at_home : n ≡ home_of K b.lane
  at_home = after.1.1

  pub is_lane : IsLaneOf K b.lane
  is_lane = after.0.1.0

  pub is_log : n < K.coordinators
  is_log = subst (λ k. k < K.coordinators) (sym at_home) (home_inside b.lane K.coordinators K.lanes is_lane)

  pub is_idle : (slot (J n) b.lane).phase ≡ Idle
  is_idle = after.1.2

  -- where nothing was written there the lane has prepared nothing
  pub was_launched : (I : ℕ → List Record) → J n ≡ I n → HasPreparedPieces K b.lane [] I J
  was_launched I still = ap (prepared b.lane) (subst (λ k. J k ≡ I k) at_home still)

no_flight : (o : Option Record) (r : Record) → o ≡ None → o ≡ Some r → ⊥
no_flight o r e f = let z : None ≡ Some r = sym e ∙ f in cc

-- a lane that left a Prepare in flight at its coordinator, where it is idle, left that of its next piece
module _ (K : Shape) (m : Minted) (pieces : List (List Compact)) (lane : ℕ) (E X : ℕ → List Record) (log : Sight) (shards : ℕ → Sight) (log' : Sight)
    (shards' : ℕ → Sight) (opened faults capacity : ℕ → ℕ)
    (txs : List Compact) (limits : IsWithinLimits K) (start : CheckedJournals K m E) (checked : CheckedJournals K m X)
    (home : home_of K lane < K.coordinators)
    (l : LaneLeft K pieces lane E X (view K lane log shards) (view K lane log' shards')) (nodes : NodesOf K lane log' shards' opened faults capacity)
    (quiet : log.flight ≡ None)
    (t : ℕ) (b : Batch) (these : List Compact) (left : log'.flight ≡ Some (Prepare t b these)) (idle : (slot log'.seen b.lane).phase ≡ Idle) where
  abbrev Next : Type 0
  Next = (b.lane ≡ lane) × IsNextPiece K lane txs E X these

  pub never : log'.flight ≡ log.flight → ⊥
  never same = no_flight log'.flight (Prepare t b these) (same ∙ quiet) left

  module _ (node : ℕ) (f : NodeFault) (stop : LaneStopped K false lane txs log shards log' shards' node f) where
    same_record : (q r : Record) → Some q ≡ Some r → q ≡ r
    same_record q r e = cc

    -- nothing of its batch is written
    unwritten : b.lane ≡ lane → own lane log'.seen ≡ own lane stop.before_log.seen
    unwritten is = elim stop.stopped.begun [
      | inl same ↦ same
      | inr behind ↦ absurd (behind.3.busy (subst (λ x. (slot log'.seen x).phase ≡ Idle) (is ∙ sym behind.1) idle))
    ]

    from_stop : Next
    from_stop = elim stop.stopped.flown.log_flown [
      | inl same ↦ absurd (never (same ∙ stop.so.log_same))
      | inr (q, is, its, seen, holds) ↦
          let e : q ≡ Prepare t b these = same_record q (Prepare t b these) (sym is ∙ left) in
          let of : b.lane ≡ lane = its_lane lane t b these (subst (λ r. tells_lane lane r ≡ true) e its) in
          let piece : these ≡ take K.batch stop.rest = one_piece these (take K.batch stop.rest) (subst (Holds (take K.batch stop.rest ∷ [])) e holds)
          in (
            of,
            subst (IsNextPiece K lane txs E X) (sym piece)
                (next_one K m pieces lane E X log shards log' shards' opened faults capacity txs limits start checked home l nodes node f stop
                (unwritten of)),
          )
    ]

  pub left_next : (k : ℕ) → Settled K lane k log shards → (e : LaneFault) → IsLaneStopped K false lane txs log shards log' shards' e → Next
  left_next k settled e stopped = elim (stopped k settled) [
    | inl none ↦ absurd (never (ap (λ x. x.flight) none.1))
    | inr (inl (is, rest, some, so)) ↦ absurd (never so.log_same)
    | inr (inr (node, f, is, stop)) ↦ from_stop node f stop
  ]
