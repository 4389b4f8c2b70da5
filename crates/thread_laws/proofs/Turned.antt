-- What the drivers say of a turn, and what it comes to for the journals of all nodes.
use Rattle.std.proofs.Common.{◌≡◌, ◌≢◌, ◌⊎◌, inl, inr, ℕ, ◌<◌, ◌==◌, true, false, List, [], ◌++◌, Some, is_some, refl, sym, ap, ◌∙◌, subst, arith}
use Rattle.std.proofs.lemmas.Bool.Decides.{eqb_tells}
use Rattle.cbdc_types.specs.declared.batch.OpenLane.{OpenLane}
use Rattle.cbdc_types.specs.declared.batch.Phase.{Phase as OpenPhase}
use Rattle.cbdc_types.specs.declared.batch.Phase.TheVariants.{Prepared, Committed, Discarded}
use Rattle.cbdc_model.specs.Records.{Shape, Compact, Record, record_of, outcomes_in, outcomes_of}
use Rattle.cbdc_model.specs.Ranges.{home_of}
use Rattle.cbdc_model.specs.Slots.{slot}
use Rattle.cbdc_model.specs.Due.{open_batch}
use Rattle.cbdc_model.specs.After.{IsJournal}
use Rattle.cbdc_model.specs.Coins.{Output, FullTx}
use Rattle.cbdc_model.specs.Clean.{IsProperCompact}
use Rattle.cbdc_model.specs.History.{minted}
use Rattle.cbdc_model.specs.World.{KeptJournals}
use Rattle.cbdc_model.specs.Lanes.{IsEnd, AllPass}
use Rattle.cbdc_model.specs.Sights.{Sight}
use Rattle.lane_laws.specs.Resuming.{IsTakenUp}
use Rattle.lane_driver.specs.declared.fault.LaneFault.{LaneFault}
use Rattle.lane_driver.specs.Told.{KeepNodes}
use Rattle.coord_log.specs.OpenLanes.{open_lane_in, open_lane}
use Rattle.recovery.specs.declared.resumed.ResumedBatch.{ResumedBatch}
use Rattle.recovery.specs.Open.{phase_of, IsBatchResumed, IsBatchUnfinished, HasItsOutcomes, IsResumeStopped}
use Rattle.run_laws.specs.Runs.{seen_by, IsTurn}
use Rattle.run_laws.specs.Turns.{Elsewhere, ResumesBatch}
use Rattle.run_laws.proofs.Checked.{kept_is_checked_law}
use Rattle.run_laws.proofs.TurnStep.{turn_law}
use Rattle.run_laws.proofs.Nodes.{nodes_law}
use Rattle.run_laws.proofs.Seen.{seen_log}
use Rattle.run_laws.proofs.TurnKinds.{taken_law, ends_law}
use Rattle.run_laws.proofs.BatchTurns.{resumed_turn_law}
use Rattle.run_laws.proofs.OpenLanes.{resume_law}
use Rattle.ledger_runs.specs.Turning.{OfKept, StaysKept, TookUp}
use Rattle.thread_laws.specs.Nodes.{AreNodes, SameFlights}
use Rattle.thread_laws.proofs.Headers.{are_journals}
use Rattle.thread_laws.proofs.OwnJournals.{own_ok, stands_still}
use Rattle.thread_laws.proofs.OpenThere.{told_open, unfinished, never_idle}

pub pass_none : (P : Compact → Type 0) → AllPass P []
pass_none P piece h = absurd (let lt : h.0 < 0 = h.1 in omega (arith, lt))

module _ (K : Shape) (lane : ℕ) (logs shards logs' shards' : ℕ → Sight) (some : 0 < K.shards) (home : home_of K lane < K.coordinators)
    (shape : (logs (home_of K lane)).header.shape ≡ K) (elsewhere : Elsewhere K lane logs logs') (nodes : AreNodes K logs shards)
    (nodes' : AreNodes K logs' shards')
    (log_nodes : KeepNodes logs logs') (shard_nodes : KeepNodes shards shards') where
  abbrev I : ℕ → List Record
  I = seen_by K logs shards

  abbrev J : ℕ → List Record
  J = seen_by K logs' shards'

  abbrev log : Sight
  log = logs (home_of K lane)

  abbrev log' : Sight
  log' = logs' (home_of K lane)

  stays : (pieces : List (List Compact)) (mint : List Output) (submissions : List FullTx) → AllPass (IsProperCompact submissions) pieces
      → IsTurn K pieces lane logs shards logs' shards'
      → KeptJournals K mint submissions I → StaysKept K I J mint submissions
  stays pieces mint submissions pass turn kept = record {
    grows = ends_law K pieces lane logs shards logs' shards' home turn;
    kept = turn_law K mint submissions pieces lane logs shards logs' shards' some home pass kept turn
        (nodes_law K (minted mint) I J (are_journals K logs shards logs' shards' nodes nodes' log_nodes shard_nodes (minted mint)
        (kept_is_checked_law K mint submissions I kept)));
  }

  -- nothing was done
  none_done : log' ≡ log → shards' ≡ shards → OfKept K I (StaysKept K I J)
  none_done e s mint submissions kept = stays [] mint submissions (pass_none (IsProperCompact submissions))
      ((taken_law K lane logs shards logs' shards' elsewhere).4 e s) kept

  -- so is what is in flight, where it is so at the lane's coordinator and at the shards
  pub same_flights : log'.flight ≡ log.flight → ((s : ℕ) → (shards' s).flight ≡ (shards s).flight) → SameFlights logs shards logs' shards'
  same_flights here there = record { logs_same = λ n. go n (eqb_tells n (home_of K lane)); shards_same = there }
    where
      go : (n : ℕ) → (((n == home_of K lane) ≡ true) × (n ≡ home_of K lane)) ⊎ (((n == home_of K lane) ≡ false) × (n ≢ home_of K lane))
          → (logs' n).flight ≡ (logs n).flight
      go n (inl (b, e)) = subst (λ m. (logs' m).flight ≡ (logs m).flight) (sym e) here
      go n (inr (b, other)) = ap (λ s. s.flight) (elsewhere n other)

  module _ (o : OpenLane) (told : open_lane log.seen lane ≡ Some o) where
    its : (p : OpenPhase) × (o ≡ open_lane_in log.seen lane p) × ((slot log.seen lane).phase ≡ phase_of p)
    its = told_open log.seen lane o told

    batch_is : o.batch ≡ open_batch log.seen lane
    batch_is = ap (λ x. x.batch) its.1

    lane_is : o.batch.lane ≡ lane
    lane_is = ap (λ b. b.lane) batch_is

    still : (mint : List Output) (submissions : List FullTx) → KeptJournals K mint submissions I → IsBatchUnfinished o.phase K o log shards
    still mint submissions kept = unfinished K lane log shards o told (resume_law K mint submissions lane logs shards some home shape kept)

    pub resume_keeps : (IsBatchUnfinished o.phase K o log shards → IsTakenUp K true o.batch log shards log' shards') → OfKept K I (StaysKept K I J)
    resume_keeps taken mint submissions kept = stays [] mint submissions (pass_none (IsProperCompact submissions))
        ((taken_law K lane logs shards logs' shards' elsewhere).2 o.batch lane_is (taken (still mint submissions kept))) kept

    pub left_keeps : (e : LaneFault) → IsResumeStopped K true o log shards log' shards' e → OfKept K I (StaysKept K I J)
    left_keeps e stop mint submissions kept =
        let s = stop (still mint submissions kept) in
        stays [] mint submissions (pass_none (IsProperCompact submissions))
        ((taken_law K lane logs shards logs' shards' elsewhere).3 o.batch s.0 s.1 lane_is s.3) kept

    module _ (r : ResumedBatch) (resumed : IsBatchResumed o r)
        (taken : IsBatchUnfinished o.phase K o log shards → IsTakenUp K true o.batch log shards log' shards')
        (has : IsBatchUnfinished o.phase K o log shards → HasItsOutcomes o.phase o log'.seen r) where
      -- a Commit stands still
      same_outcomes : IsEnd log.seen log'.seen → is_some (record_of 7 log.seen o.batch) ≡ true
          → outcomes_of log.seen o.batch ≡ outcomes_of log'.seen o.batch
      same_outcomes (more, grew) commit =
          let j : IsJournal log.header log.seen = nodes.logs_are (home_of K lane) home in
          let j' : IsJournal log.header (more ++ log.seen) =
          subst (IsJournal log.header) grew (subst (λ h. IsJournal h log'.seen) (log_nodes (home_of K lane)).header
          (nodes'.logs_are (home_of K lane) home)) in
          sym (ap outcomes_in (ap (λ L. record_of 7 L o.batch) grew ∙ stands_still log.header more log.seen j j' 7 o.batch commit))

      committed : (p : OpenPhase) → (p ≡ Committed) ⊎ (p ≡ Discarded) → (slot log.seen lane).phase ≡ phase_of p
          → is_some (record_of 7 log.seen (open_batch log.seen lane)) ≡ true
      committed p (inl c) e = ((own_ok log.header log.seen (nodes.logs_are (home_of K lane) home)).phases.commit_here (open_batch log.seen lane)
          (e ∙ ap phase_of c) refl).1
      committed p (inr d) e = ((own_ok log.header log.seen (nodes.logs_are (home_of K lane) home)).phases.discard_here (open_batch log.seen lane)
          (e ∙ ap phase_of d) refl).1

      phase_is : o.phase ≡ its.0
      phase_is = ap (λ x. x.phase) its.1

      kept_outcomes : IsEnd log.seen log'.seen → (p : OpenPhase) → its.0 ≡ p → (p ≡ Committed) ⊎ (p ≡ Discarded) → r.outcomes ≡ o.outcomes
          → r.outcomes ≡ outcomes_of log'.seen o.batch
      kept_outcomes grew p e which same =
          same ∙ ap (λ x. x.outcomes) its.1 ∙ ap (λ b. outcomes_of log.seen b) (sym batch_is)
          ∙ same_outcomes grew (subst (λ b. is_some (record_of 7 log.seen b) ≡ true) (sym batch_is) (committed p which (its.2 ∙ ap phase_of e)))

      outcomes_at : IsEnd log.seen log'.seen → (p : OpenPhase) → its.0 ≡ p → HasItsOutcomes p o log'.seen r
          → r.outcomes ≡ outcomes_of log'.seen o.batch
      outcomes_at grew Prepared e h = h
      outcomes_at grew Committed e h = kept_outcomes grew Committed e (inl refl) h
      outcomes_at grew Discarded e h = kept_outcomes grew Discarded e (inr refl) h

      pub resume_took : OfKept K I (λ _ _. TookUp K lane I J (Some r))
      resume_took mint submissions kept =
          let after = resume_keeps taken mint submissions kept in
          let u = still mint submissions kept in
          let at_old : I (home_of K lane) ≡ log.seen = seen_log K logs shards (home_of K lane) home in
          let at_new : J (home_of K lane) ≡ log'.seen = seen_log K logs' shards' (home_of K lane) home in
          let grew : IsEnd log.seen log'.seen = subst (λ L. IsEnd L log'.seen) at_old
          (subst (λ L. IsEnd (I (home_of K lane)) L) at_new (after.grows (home_of K lane))) in
          let up : IsTakenUp K true (open_batch log.seen lane) log shards log' shards' =
          subst (λ b. IsTakenUp K true b log shards log' shards') batch_is (taken u) in
          let does : ResumesBatch K lane (open_batch log.seen lane) I J =
          resumed_turn_law K mint submissions lane logs shards logs' shards' some home elsewhere kept after.kept
          (λ i. never_idle its.0 (sym its.2 ∙ i)) up in (
            subst (λ b. ResumesBatch K lane b I J) (sym (resumed.batch ∙ batch_is)) does,
            ap phase_of (resumed.phase_is ∙ phase_is) ∙ sym its.2 ∙ ap (λ L. (slot L lane).phase) (sym at_old),
            outcomes_at grew its.0 refl (subst (λ p. HasItsOutcomes p o log'.seen r) phase_is (has u))
                ∙ ap (λ b. outcomes_of log'.seen b) (sym resumed.batch) ∙ ap (λ L. outcomes_of L r.batch) (sym at_new),
          )
