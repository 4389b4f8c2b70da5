-- A turn at checked journals: they are checked still, they have grown by records of the lane alone, and its fault has its cause.
use Rattle.std.proofs.Common.{◌≡◌, ◌≢◌, ◌⊎◌, ◌==◌, inl, inr, ℕ, ◌<◌, true, false, List, [], ◌∷◌, ◌++◌, Some, refl, sym, ap, ◌∙◌, subst, append_assoc}
use Rattle.std.proofs.Common.{arith}
use Rattle.std.proofs.lemmas.Bool.Decides.{eqb_tells}
use Rattle.cbdc_types.specs.Limits.{IsWithinLimits}
use Rattle.cbdc_types.specs.declared.batch.OpenLane.{OpenLane}
use Rattle.cbdc_types.specs.declared.calls.NodeFault.{NodeFault}
use Rattle.cbdc_types.specs.declared.calls.NodeFault.TheVariants.{Broken, Refused as Refuses, ClockEnd, Full, DiskFault, Memory}
use Rattle.cbdc_model.proofs.Telling.{later_tells}
use Rattle.cbdc_model.specs.Records.{Shape, Batch, Compact, Record, record_of, is_in_lane, Prepare}
use Rattle.cbdc_model.specs.Ranges.{home_of}
use Rattle.cbdc_model.specs.Due.{Due}
use Rattle.cbdc_model.specs.Slots.{slot, Idle, InPrepare}
use Rattle.cbdc_model.specs.History.{Minted}
use Rattle.cbdc_model.specs.Lanes.{may_come, Made}
use Rattle.cbdc_model.specs.Waves.{prepared}
use Rattle.cbdc_model.specs.Sights.{Sight}
use Rattle.ledger_laws.proofs.Cuts.{end_self}
use Rattle.lane_laws.specs.Batches.{own}
use Rattle.lane_laws.specs.Faults.{IsAnswered, IsCallFault, to_lock, to_decide, to_finish, to_discard, to_forget, to_done}
use Rattle.lane_laws.specs.Resuming.{IsTakenUp}
use Rattle.lane_driver.specs.declared.fault.LaneFault.{LaneFault}
use Rattle.lane_driver.specs.declared.fault.LaneFaultKind.TheVariants.{DiskFault as DiskStopped, Full as NoRoom, ClockEnd as NoStamp}
use Rattle.lane_driver.specs.declared.fault.LaneFaultKind.TheVariants.{Memory as NoMemory}
use Rattle.lane_driver.specs.Faults.{IsLaneFaultOf}
use Rattle.lane_driver.specs.Told.{KeepNodes}
use Rattle.coord_log.specs.OpenLanes.{open_lane}
use Rattle.recovery.specs.Open.{IsBatchUnfinished, IsResumeStopped}
use Rattle.run_laws.specs.Runs.{seen_by, IsTurn}
use Rattle.run_laws.specs.Turns.{Elsewhere}
use Rattle.ledger_laws.proofs.ByKind.{held_later}
use Rattle.run_laws.specs.Checked.{CheckedJournals}
use Rattle.run_laws.specs.Faults.{IsNext, next_prepare, next_lock, HasNoRoom, HasNoStamp, HasFailed, IsStopBy, opened_by, faults_by, capacity_by}
use Rattle.run_laws.proofs.TurnStep.{lifted, checked_turn_law}
use Rattle.run_laws.proofs.OpenLanes.{checked_resume_law}
use Rattle.run_laws.proofs.Nodes.{nodes_law}
use Rattle.run_laws.proofs.Seen.{seen_log}
use Rattle.lane_laws.proofs.Own.{slot_own}
use Rattle.run_laws.proofs.TurnKinds.{taken_law, prepared_law}
use Rattle.run_laws.proofs.Stopping.{stop_law}
use Rattle.ledger_runs.specs.Pieces.{HasPreparedPieces}
use Rattle.ledger_runs.specs.Turning.{lane_phase}
use Rattle.ledger_runs.specs.Faults.{AreOfLane, GrowBy, IsWanted, wants_prepare, wants_lock, IsLaneCause, IsOpenCause, HaveFailed, MayHoldBytes}
use Rattle.ledger_runs.specs.Faults.{Nothing, LaneWaits}
use Rattle.thread_laws.specs.Nodes.{AreNodes}
use Rattle.thread_laws.proofs.Headers.{are_journals}
use Rattle.thread_laws.proofs.OpenThere.{told_lane, unfinished}

-- ---- records of the lane alone

module _ (K : Shape) (pieces : List (List Compact)) (lane : ℕ) (I J : ℕ → List Record) (made : Made K pieces true lane I J) where
  not_alone : (r : Record) → may_come true lane r ≡ true → ⊥
  not_alone r h = grind (arith, h)

  its_own : (n : ℕ) (newer more : List Record) (r : Record) → J n ≡ newer ++ r ∷ (more ++ I n) → is_in_lane lane r ≡ true
  its_own n newer more r e = elim (made.each n newer (more ++ I n) r e (more, refl)) [
    | inl o ↦ absurd (not_alone r o)
    | inr s ↦ sym (later_tells lane r (held_later pieces r s.2)) ∙ s.0
  ]

  all_own : (n : ℕ) (more newer : List Record) → J n ≡ newer ++ (more ++ I n) → AreOfLane lane more
  all_own n [] newer e = tt
  all_own n (r ∷ more) newer e = (its_own n newer more r e, all_own n more (newer ++ r ∷ []) (e ∙ sym (append_assoc newer (r ∷ []) (more ++ I n))))

  grow_by : GrowBy lane I J
  grow_by n = ((made.grows n).0, (made.grows n).1, all_own n (made.grows n).0 [] (made.grows n).1)

-- ---- causes

-- what a lane needs next, by the journals at its stop
wanted_of : (K : Shape) (lane : ℕ) (next : List Compact → Type 0) (J : ℕ → List Record) (node : ℕ) (r : Record) → IsNext K lane next J node r
    → IsWanted K lane next J node (J node) r
wanted_of K lane next J node r (next_prepare txs due at idle e) = wants_prepare txs due at (subst (λ n. (slot (J n) lane).phase ≡ Idle) at idle) e
wanted_of K lane next J node r (next_lock b t txs s is at concerned phase stands have behind e) =
    wants_lock b t txs s is at concerned (subst (λ l. (slot (J (home_of K l)) l).phase ≡ InPrepare) is phase)
    (subst (λ l. record_of 6 (J (home_of K l)) b ≡ Some (Prepare t b txs)) is stands) have
    (subst (λ l. (slot (J node) l).number < b.number) is behind) e

module _ (K : Shape) (lane : ℕ) (next : List Compact → Type 0) (I J : ℕ → List Record) (opened faults capacity : ℕ → ℕ) (grown : GrowBy lane I J)
  where
    abbrev Causes : LaneFault → Type 0
    Causes e = IsLaneCause K lane next I J (HaveFailed opened faults) (MayHoldBytes capacity) e

    failed : (e : LaneFault) (node : ℕ) → e ≡ record { node = node; fault = DiskStopped } → HasFailed K lane next J opened faults node → Causes e
    failed e node is h = subst Causes (sym is) (record { inside = h.node_is; asked = h.asked; did = h.rose })

    no_stamp : (e : LaneFault) (node stamp : ℕ) → e ≡ record { node = node; fault = NoStamp stamp } → HasNoStamp K lane next J node stamp → Causes e
    no_stamp e node stamp is h = subst Causes (sym is) (record {
      front = J node;
      since = ((grown node).0, (grown node).1);
      within = end_self (J node);
      still = refl;
      wanted = h.wanted;
      is_wanted = wanted_of K lane next J node h.wanted h.is_next;
      stamp_is = h.stamp_is;
      above = h.above;
    })

    no_room : (e : LaneFault) (node used need limit : ℕ) → e ≡ record { node = node; fault = NoRoom used need limit }
        → HasNoRoom K lane next J (capacity node) node used need limit → Causes e
    no_room e node used need limit is h = subst Causes (sym is) (record {
      front = J node;
      since = ((grown node).0, (grown node).1);
      within = end_self (J node);
      still = refl;
      wanted = h.wanted;
      is_wanted = wanted_of K lane next J node h.wanted h.is_next;
      early = h.early;
      capacity_is = h.limit_is;
      used_is = h.used_is;
      need_is = h.need_is;
      above = h.above;
    })

    -- where the lane may wait because memory ran out
    free_cause : (e : LaneFault) (node : ℕ) (f : NodeFault) → IsLaneFaultOf e node f → IsStopBy K lane next J opened faults capacity node f
        → (f ≡ Memory → LaneWaits K lane I J) → ((e.fault ≡ NoMemory) × LaneWaits K lane I J) ⊎ Causes e
    free_cause e node (Broken since) is h waits = inr (failed e node is h)
    free_cause e node (Refuses why) is h waits = absurd h
    free_cause e node (ClockEnd stamp) is h waits = inr (no_stamp e node stamp is h)
    free_cause e node (Full used need limit) is h waits = inr (no_room e node used need limit is h)
    free_cause e node DiskFault is h waits = inr (failed e node is h)
    free_cause e node Memory is h waits = inl (ap (λ x. x.fault) is, waits refl)

-- ---- out of memory

-- a call that takes none does not answer it
pub never_memory : {A : Type 0} (due : Due A) (now : Sight) (f : NodeFault) → f ≡ Memory → IsAnswered false due now f → ⊥
never_memory due now f memory h = let z : false ≡ true = subst (λ x. IsAnswered false due now x) memory h in cc

-- so behind a Prepare it is answered to a Lock
pub in_prepare : (K : Shape) (b : Batch) (txs : List Compact) (log : Sight) (shards : ℕ → Sight) (node : ℕ) (f : NodeFault) → f ≡ Memory
    → IsCallFault K b txs log shards node f → (slot log.seen b.lane).phase ≡ InPrepare
in_prepare K b txs log shards node f memory (to_lock s t at concerned phase stands had answered) = phase
in_prepare K b txs log shards node f memory (to_decide replies at phase had cause answered) = phase
in_prepare K b txs log shards node f memory (to_finish s t os at concerned phase stands had answered) =
    absurd (never_memory _ (shards s) f memory answered)
in_prepare K b txs log shards node f memory (to_discard cause at phase had latest answered) = absurd (never_memory _ log f memory answered)
in_prepare K b txs log shards node f memory (to_forget s t at concerned phase stands had answered) =
    absurd (never_memory _ (shards s) f memory answered)
in_prepare K b txs log shards node f memory (to_done cause at phase had latest answered) = absurd (never_memory _ log f memory answered)

pub own_slot : (lane : ℕ) (L M : List Record) → own lane M ≡ own lane L → slot M lane ≡ slot L lane
own_slot lane L M same = slot_own lane M ∙ ap (λ N. slot N lane) same ∙ sym (slot_own lane L)

-- ---- turns

-- checked journals I have grown to J by records of the lane alone, and are checked still
pub record IsCheckedTurn (K : Shape) (m : Minted) (lane : ℕ) (I J : ℕ → List Record) : Type 0 where
  pub checked : CheckedJournals K m J
  pub grows : GrowBy lane I J

module _ (K : Shape) (lane : ℕ) (logs shards logs' shards' : ℕ → Sight) (limits : IsWithinLimits K) (home : home_of K lane < K.coordinators)
    (shape : (logs (home_of K lane)).header.shape ≡ K) (shard_shapes : (s : ℕ) → s < K.shards → (shards' s).header.shape ≡ K)
    (elsewhere : Elsewhere K lane logs logs')
    (nodes : AreNodes K logs shards) (nodes' : AreNodes K logs' shards') (log_nodes : KeepNodes logs logs') (shard_nodes : KeepNodes shards shards')
    (m : Minted) (checked : CheckedJournals K m (seen_by K logs shards)) where
  abbrev I : ℕ → List Record
  I = seen_by K logs shards

  abbrev J : ℕ → List Record
  J = seen_by K logs' shards'

  abbrev log : Sight
  log = logs (home_of K lane)

  abbrev log' : Sight
  log' = logs' (home_of K lane)

  turned : (pieces : List (List Compact)) → IsTurn K pieces lane logs shards logs' shards' → IsCheckedTurn K m lane I J
  turned pieces turn = record {
    checked = checked_turn_law K m pieces lane logs shards logs' shards' limits.some_shard home checked turn
        (nodes_law K m I J (are_journals K logs shards logs' shards' nodes nodes' log_nodes shard_nodes m checked));
    grows = grow_by K pieces lane I J (lifted K pieces lane logs shards logs' shards' home turn);
  }

  same_logs : log' ≡ log → (n : ℕ) → logs' n ≡ logs n
  same_logs e n = go (eqb_tells n (home_of K lane))
    where
      go : (((n == home_of K lane) ≡ true) × (n ≡ home_of K lane)) ⊎ (((n == home_of K lane) ≡ false) × (n ≢ home_of K lane)) → logs' n ≡ logs n
      go (inl (b, here)) = subst (λ m. logs' m ≡ logs m) (sym here) e
      go (inr (b, other)) = elsewhere n other

  same_journals : log' ≡ log → shards' ≡ shards → J ≡ I
  same_journals e s = λ i. seen_by K (λ n. same_logs e n i) (s i)

  none_done : log' ≡ log → shards' ≡ shards → IsCheckedTurn K m lane I J
  none_done e s = turned [] ((taken_law K lane logs shards logs' shards' elsewhere).4 e s)

  unprepared : IsTurn K [] lane logs shards logs' shards' → HasPreparedPieces K lane [] I J
  unprepared turn =
      ap (prepared lane) (seen_log K logs' shards' (home_of K lane) home) ∙ (prepared_law K lane logs shards logs' shards' home).2 turn
      ∙ ap (prepared lane) (sym (seen_log K logs shards (home_of K lane) home))

  shape_still : log'.header.shape ≡ K
  shape_still = ap (λ h. h.shape) (log_nodes (home_of K lane)).header ∙ shape

  module _ (o : OpenLane) (told : open_lane log.seen lane ≡ Some o) where
    lane_is : o.batch.lane ≡ lane
    lane_is = told_lane log.seen lane o told

    -- the phase is that of its journal
    prepared_still : (slot log'.seen o.batch.lane).phase ≡ InPrepare → lane_phase K J lane ≡ InPrepare
    prepared_still phase = ap (λ L. (slot L lane).phase) (seen_log K logs' shards' (home_of K lane) home)
        ∙ subst (λ l. (slot log'.seen l).phase ≡ InPrepare) lane_is phase

    pub still : IsBatchUnfinished o.phase K o log shards
    still = unfinished K lane log shards o told (checked_resume_law K m lane logs shards limits.some_shard home shape checked)

    pub taken_checked : (IsBatchUnfinished o.phase K o log shards → IsTakenUp K true o.batch log shards log' shards') → IsCheckedTurn K m lane I J
    taken_checked taken = turned [] ((taken_law K lane logs shards logs' shards' elsewhere).2 o.batch lane_is (taken still))

    pub left_checked : (e : LaneFault) → IsResumeStopped K true o log shards log' shards' e → IsCheckedTurn K m lane I J
    left_checked e stop =
        let s = stop still in
        turned [] ((taken_law K lane logs shards logs' shards' elsewhere).3 o.batch s.0 s.1 lane_is s.3)

    -- an open batch that was taken up, or left, is what the lane had prepared before
    pub taken_unprepared : (IsBatchUnfinished o.phase K o log shards → IsTakenUp K true o.batch log shards log' shards')
        → HasPreparedPieces K lane [] I J
    taken_unprepared taken = unprepared ((taken_law K lane logs shards logs' shards' elsewhere).2 o.batch lane_is (taken still))

    pub left_unprepared : (e : LaneFault) → IsResumeStopped K true o log shards log' shards' e → HasPreparedPieces K lane [] I J
    left_unprepared e stop =
        let s = stop still in
        unprepared ((taken_law K lane logs shards logs' shards' elsewhere).3 o.batch s.0 s.1 lane_is s.3)

    pub left_cause : (e : LaneFault) → IsResumeStopped K true o log shards log' shards' e
        → IsOpenCause K lane I J (HaveFailed (opened_by K logs' shards') (faults_by K logs' shards')) (MayHoldBytes (capacity_by K logs' shards')) e
    left_cause e stop =
        let s = stop still in
        let turn = left_checked e stop in
        free_cause K lane Nothing I J (opened_by K logs' shards') (faults_by K logs' shards') (capacity_by K logs' shards') turn.grows e s.0 s.1 s.2
        ((stop_law K m lane logs' shards' s.3.txs s.0 s.1 limits home shape_still shard_shapes turn.checked).1 o.batch lane_is s.3.fault)
        (λ memory. (prepared_still (in_prepare K o.batch s.3.txs log' shards' s.0 s.1 memory s.3.fault.call), left_unprepared e stop))
