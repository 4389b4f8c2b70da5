-- A turn at the nodes of a ledger, and what it comes to for their journals.
use Rattle.std.proofs.Common.{◌≡◌, ℕ, zero, suc, ◌-◌, ◌<◌, nat_lt, if◌then◌else◌, true, false, List, [], ◌∷◌, length, get_or, Option, Some, None}
use Rattle.std.proofs.Common.{Result, Ok, Err, IfOk, IfErr, OnOk, refl, sym, ap, ◌∙◌, subst, arith}
use Rattle.cbdc_types.specs.declared.batch.OpenLane.{OpenLane}
use Rattle.cbdc_model.specs.Records.{Shape, Header, Compact, Record}
use Rattle.cbdc_model.specs.Slots.{slot, Idle}
use Rattle.cbdc_model.specs.Ranges.{home_of}
use Rattle.cbdc_model.specs.Sights.{Sight}
use Rattle.node_journal.specs.Nodes.{NodeOf, sight}
use Rattle.std.specs.Prelude.{option_map}
use Rattle.outside.specs.declared.disk.Disk.{Ghosts}
use Rattle.cbdc_types.specs.declared.batch.Phase.{Phase as OpenPhase}
use Rattle.cbdc_model.specs.Due.{open_batch}
use Rattle.coord_log.specs.OpenLanes.{open_lane, open_phase_of, open_lane_in}
use Rattle.node_ports.specs.Nodes.{sight_at}
use Rattle.lane_laws.specs.Resuming.{IsTakenUp}
use Rattle.lane_driver.specs.declared.fault.LaneFault.{LaneFault}
use Rattle.lane_driver.specs.Stops.{IsLaneSettled}
use Rattle.recovery.specs.declared.resumed.ResumedBatch.{ResumedBatch}
use Rattle.recovery.specs.Open.{IsBatchResumed, IsBatchUnfinished, HasItsOutcomes, IsResumeStopped}
use Rattle.run_laws.proofs.Seen.{seen_log}
use Rattle.ledger_runs.specs.Turning.{lane_phase, IsLaneOf, OfKept, StaysKept, TookUp}
use Rattle.run_laws.proofs.Rests.{checked_rest_law}
use Rattle.run_laws.proofs.OpenLanes.{checked_resume_law}
use Rattle.thread_laws.proofs.OpenThere.{is_idle, unfinished}
use Rattle.thread_laws.specs.Nodes.{SameFlights}
use Rattle.thread_laws.proofs.Checking.{IsCheckedTurn, taken_checked, taken_unprepared, left_checked, left_unprepared, left_cause}
use Rattle.thread_laws.proofs.Turned.{resume_keeps, left_keeps, resume_took}
use Rattle.thread_laws.proofs.TurnFlying.{resume_flies, left_flies}
use Rattle.thread_laws.proofs.TurnLaunching.{resume_same, resume_launches, left_launches}
use Rattle.lane_driver.specs.declared.fault.LaneFaultKind.TheVariants.{Memory as NoMemory}
use Rattle.ledger_runs.specs.Telling.{IsLanesOpenBatch}
use Rattle.ledger_runs.specs.Flying.{FliesOn, Launches}
use Rattle.ledger_runs.specs.Pieces.{HasPreparedPieces}
use Rattle.ledger_runs.specs.Faults.{IsOpenCause, HaveFailed, MayHoldBytes, Nothing}
use Rattle.file_runs.specs.Ledgers.{IsLedger, node_journals, flights_of, faults_of, opened_of, capacity_of, HaveCheckedJournals, AreQuiet}
use Rattle.file_runs.specs.Ledgers.{KeepsLedgerOf}
use Rattle.file_runs.specs.Steps.{IsStep}
use Rattle.file_runs.specs.Ones.{ResumeLeft}
use Rattle.file_runs.proofs.Steps.{home_inside, are_nodes, are_shards, is_lane, journal_at}

-- the node that was read at a place is what is seen there
read_at : {D : Type 0} (logs : List (NodeOf D)) (n : ℕ) (x : NodeOf D) → n < length logs → x ≡ get_or logs n x → sight_at sight logs n ≡ sight x
read_at [] n x lt e = absurd (let z : n < 0 = lt in omega (arith, z))
read_at (l ∷ logs) zero x lt e = ap sight (sym e)
read_at (l ∷ logs) (suc n) x lt e = read_at logs n x (omega (arith, lt)) e

batch_of : (J : List Record) (lane : ℕ) (phase : Option OpenPhase) (o : OpenLane) → option_map (open_lane_in J lane) phase ≡ Some o
    → o.batch ≡ open_batch J lane
batch_of J lane None o told = absurd (let z : None ≡ Some o = told in cc)
batch_of J lane (Some p) o told = let same : o ≡ open_lane_in J lane p = cc in ap (λ l. l.batch) same

module _ {D : Type 0} (device : Ghosts D) (h : Header) (lane : ℕ) (logs shards : List (NodeOf D))
    (ledger : IsLedger h logs shards) (lt : IsLaneOf h.shape lane) where
  abbrev K : Shape
  K = h.shape

  abbrev L : ℕ → Sight
  L = sight_at sight logs

  abbrev S : ℕ → Sight
  S = sight_at sight shards

  abbrev I : ℕ → List Record
  I = node_journals h.shape logs shards

  home : home_of K lane < K.coordinators
  home = home_inside lane K.coordinators K.lanes lt

  some : 0 < K.shards
  some = ledger.limits.some_shard

  shape : (L (home_of K lane)).header.shape ≡ K
  shape = ap (λ k. k.shape) (ledger.log_headers (home_of K lane) home)

  -- the lane's phase, in all journals and at its coordinator
  at_log : I (home_of K lane) ≡ (L (home_of K lane)).seen
  at_log = seen_log K L S (home_of K lane) home

  -- a lane of which nothing is told is idle
  pub none_open : open_lane (L (home_of K lane)).seen lane ≡ None → lane_phase K I lane ≡ Idle
  none_open told =
      ap (λ J. (slot J lane).phase) at_log
      ∙ is_idle (L (home_of K lane)).header (L (home_of K lane)).seen
      (journal_at logs ledger.log_journals (home_of K lane) (subst (λ m. home_of K lane < m) (sym ledger.coordinators) home)) lane
      (is_lane h logs shards lane (home_of K lane) ledger lt refl)
      (subst (λ k. k.node < k.shape.coordinators) (sym (ledger.log_headers (home_of K lane) home)) home) told

  -- what the driver wants of checked journals: the lane is settled where it is idle, and else each shard has come as far as its phase lets it
  pub is_settled : lane_phase K I lane ≡ Idle → HaveCheckedJournals K logs shards → (at : ℕ) → at ≡ home_of K lane
      → IsLaneSettled K lane (sight_at sight logs at) S
  is_settled idle c at e = subst (λ n. IsLaneSettled K lane (sight_at sight logs n) S) (sym e) (
    (slot (L (home_of K lane)).seen lane).number,
    checked_rest_law K c.0 lane L S some home shape c.1 (ap (λ J. (slot J lane).phase) (sym at_log) ∙ idle),
  )

  pub is_unfinished : (o : OpenLane) → open_lane (L (home_of K lane)).seen lane ≡ Some o → HaveCheckedJournals K logs shards → (at : ℕ)
      → at ≡ home_of K lane → IsBatchUnfinished o.phase K o (sight_at sight logs at) S
  is_unfinished o told c at e = subst (λ n. IsBatchUnfinished o.phase K o (sight_at sight logs n) S) (sym e)
      (unfinished K lane (L (home_of K lane)) S o told (checked_resume_law K c.0 lane L S some home shape c.1))

  -- a batch that was resumed is the one that is open there
  is_opened : (o : OpenLane) → open_lane (L (home_of K lane)).seen lane ≡ Some o → (r : ResumedBatch) → IsBatchResumed o r
      → r.batch ≡ open_batch (I (home_of K lane)) lane
  is_opened o told r resumed = resumed.batch ∙ batch_of (L (home_of K lane)).seen lane (open_phase_of (slot (L (home_of K lane)).seen lane).phase) o
      told ∙ ap (λ J. open_batch J lane) (sym at_log)

  module _ (at : ℕ) (x : NodeOf D) (at_is : at ≡ home_of K lane) (is : x ≡ get_or logs at x) where
    here : L (home_of K lane) ≡ sight x
    here = subst (λ n. sight_at sight logs n ≡ sight x) at_is
        (read_at logs at x (subst (λ n. n < length logs) (sym at_is) (subst (λ m. home_of K lane < m) (sym ledger.coordinators) home)) is)

    pub told_there : (found o : Option OpenLane) → found ≡ open_lane x.journal lane → found ≡ o → open_lane (L (home_of K lane)).seen lane ≡ o
    told_there found o e f = ap (λ s. open_lane s.seen lane) here ∙ sym e ∙ f

  module _ (logs' : List (NodeOf D)) (shards' : List (NodeOf D)) (step : IsStep device h lane logs shards logs' shards') where
    abbrev L' : ℕ → Sight
    L' = sight_at sight logs'

    abbrev S' : ℕ → Sight
    S' = sight_at sight shards'

    abbrev J : ℕ → List Record
    J = node_journals h.shape logs' shards'

    -- nothing is in flight behind a turn that left what was as it was
    quiet_on : SameFlights L S L' S' → AreQuiet logs shards → AreQuiet logs' shards'
    quiet_on same was = record {
      logs_are = λ n. same.logs_same n ∙ was.logs_are n;
      shards_are = λ s. same.shards_same s ∙ was.shards_are s;
    }

    -- what no turn changes of the nodes
    opened_same : (n : ℕ) → opened_of K logs' shards' n ≡ opened_of K logs shards n
    opened_same n = elim (nat_lt n K.coordinators) as
        (λ c. (if c then (L' n).opened else (S' (n - K.coordinators)).opened) ≡ (if c then (L n).opened else (S (n - K.coordinators)).opened)) [
          | true ↦ (step.log_nodes n).opened
          | false ↦ (step.shard_nodes (n - K.coordinators)).opened
        ]

    capacity_same : (n : ℕ) → capacity_of K logs' shards' n ≡ capacity_of K logs shards n
    capacity_same n = elim (nat_lt n K.coordinators) as
        (λ c. (if c then (L' n).capacity else (S' (n - K.coordinators)).capacity)
        ≡ (if c then (L n).capacity else (S (n - K.coordinators)).capacity)) [
          | true ↦ (step.log_nodes n).capacity
          | false ↦ (step.shard_nodes (n - K.coordinators)).capacity
        ]

    pub step_keeps : KeepsLedgerOf device (record { header = h; logs = logs; shards = shards })
        (record { header = h; logs = logs'; shards = shards' })
    step_keeps = record { shape_same = refl; opened_same = opened_same; later = step.later; capacity_same = capacity_same; held = step.stored }

    shard_shapes : (s : ℕ) → s < K.shards → (S' s).header.shape ≡ K
    shard_shapes s lt = (are_shards h logs' shards' step.ledger s lt).0

    module _ (idle : lane_phase K I lane ≡ Idle) (txs : List Compact) where
      idle_there : (slot (L (home_of K lane)).seen lane).phase ≡ Idle
      idle_there = ap (λ J. (slot J lane).phase) (sym at_log) ∙ idle

    module _ (o : OpenLane) (told : open_lane (L (home_of K lane)).seen lane ≡ Some o) where
      pub resumed_keeps : (came : Result ResumedBatch LaneFault) → ResumeLeft K o came (L (home_of K lane)) S (L' (home_of K lane)) S'
          → OfKept K I (StaysKept K I J)
      resumed_keeps (Ok r) is =
          resume_keeps K lane L S L' S' some home shape step.elsewhere (are_nodes h logs shards ledger) (are_nodes h logs' shards' step.ledger)
          step.log_nodes step.shard_nodes o told (λ stands. is.taken)
      resumed_keeps (Err e) is =
          left_keeps K lane L S L' S' some home shape step.elsewhere (are_nodes h logs shards ledger) (are_nodes h logs' shards' step.ledger)
          step.log_nodes step.shard_nodes o told e is

      pub resumed_flies : (came : Result ResumedBatch LaneFault) → ResumeLeft K o came (L (home_of K lane)) S (L' (home_of K lane)) S'
          → OfKept K I (FliesOn K I J (flights_of K logs shards) (flights_of K logs' shards'))
      resumed_flies (Ok r) is =
          resume_flies K lane L S L' S' some home shape step.elsewhere (are_nodes h logs shards ledger) (are_nodes h logs' shards' step.ledger)
          step.log_nodes step.shard_nodes step.next o told (λ stands. is.taken)
      resumed_flies (Err e) is =
          left_flies K lane L S L' S' some home shape step.elsewhere (are_nodes h logs shards ledger) (are_nodes h logs' shards' step.ledger)
          step.log_nodes step.shard_nodes step.next o told e is

      pub resumed_checked : (came : Result ResumedBatch LaneFault) → ResumeLeft K o came (L (home_of K lane)) S (L' (home_of K lane)) S'
          → (c : HaveCheckedJournals K logs shards) → IsCheckedTurn K c.0 lane I J
      resumed_checked (Ok r) is c =
          taken_checked K lane L S L' S' ledger.limits home shape shard_shapes step.elsewhere (are_nodes h logs shards ledger)
          (are_nodes h logs' shards' step.ledger) step.log_nodes step.shard_nodes c.0 c.1 o told (λ stands. is.taken)
      resumed_checked (Err e) is c =
          left_checked K lane L S L' S' ledger.limits home shape shard_shapes step.elsewhere (are_nodes h logs shards ledger)
          (are_nodes h logs' shards' step.ledger) step.log_nodes step.shard_nodes c.0 c.1 o told e is

      pub resumed_unprepared : (came : Result ResumedBatch LaneFault) → ResumeLeft K o came (L (home_of K lane)) S (L' (home_of K lane)) S'
          → HaveCheckedJournals K logs shards → HasPreparedPieces K lane [] I J
      resumed_unprepared (Ok r) is c =
          taken_unprepared K lane L S L' S' ledger.limits home shape shard_shapes step.elsewhere (are_nodes h logs shards ledger)
          (are_nodes h logs' shards' step.ledger) step.log_nodes step.shard_nodes c.0 c.1 o told (λ stands. is.taken)
      resumed_unprepared (Err e) is c =
          left_unprepared K lane L S L' S' ledger.limits home shape shard_shapes step.elsewhere (are_nodes h logs shards ledger)
          (are_nodes h logs' shards' step.ledger) step.log_nodes step.shard_nodes c.0 c.1 o told e is

      resumed_cause : (e : LaneFault) → IsResumeStopped K true o (L (home_of K lane)) S (L' (home_of K lane)) S' e → HaveCheckedJournals K logs shards
          → IsOpenCause K lane I J (HaveFailed (opened_of K logs' shards') (faults_of K logs' shards')) (MayHoldBytes (capacity_of K logs' shards')) e
      resumed_cause e stop c =
          left_cause K lane L S L' S' ledger.limits home shape shard_shapes step.elsewhere (are_nodes h logs shards ledger)
          (are_nodes h logs' shards' step.ledger) step.log_nodes step.shard_nodes c.0 c.1 o told e stop

      pub resumed_fault : (came : Result ResumedBatch LaneFault) → ResumeLeft K o came (L (home_of K lane)) S (L' (home_of K lane)) S'
          → HaveCheckedJournals K logs shards
          → IfErr came (IsOpenCause K lane I J (HaveFailed (opened_of K logs' shards') (faults_of K logs' shards'))
          (MayHoldBytes (capacity_of K logs' shards')))
      resumed_fault (Ok r) is c = tt
      resumed_fault (Err e) is c = resumed_cause e is c

      quiet_behind : (IsBatchUnfinished o.phase K o (L (home_of K lane)) S
          → IsTakenUp K true o.batch (L (home_of K lane)) S (L' (home_of K lane)) S') → HaveCheckedJournals K logs shards → AreQuiet logs shards
          → AreQuiet logs' shards'
      quiet_behind taken c = quiet_on (resume_same K lane L S L' S' ledger.limits home shape shard_shapes step.elsewhere
          (are_nodes h logs shards ledger) (are_nodes h logs' shards' step.ledger) step.log_nodes step.shard_nodes step.next c.0 c.1 o told taken)

      pub resumed_quiet : (came : Result ResumedBatch LaneFault) → ResumeLeft K o came (L (home_of K lane)) S (L' (home_of K lane)) S'
          → HaveCheckedJournals K logs shards
          → OnOk came (AreQuiet logs shards → AreQuiet logs' shards')
      resumed_quiet (Ok r) is c = quiet_behind (λ stands. is.taken) c
      resumed_quiet (Err e) is c = tt

      pub resumed_launches : (came : Result ResumedBatch LaneFault) → ResumeLeft K o came (L (home_of K lane)) S (L' (home_of K lane)) S'
          → HaveCheckedJournals K logs shards → Launches K (λ _. Nothing) I J (flights_of K logs shards) (flights_of K logs' shards')
      resumed_launches (Ok r) is c = resume_launches K lane L S L' S' ledger.limits home shape shard_shapes step.elsewhere
          (are_nodes h logs shards ledger) (are_nodes h logs' shards' step.ledger) step.log_nodes step.shard_nodes step.next c.0 c.1 o told
          (λ stands. is.taken)
      resumed_launches (Err e) is c = left_launches K lane L S L' S' ledger.limits home shape shard_shapes step.elsewhere
          (are_nodes h logs shards ledger) (are_nodes h logs' shards' step.ledger) step.log_nodes step.shard_nodes step.next c.0 c.1 o told e is

      took_behind : (r : ResumedBatch) → IsBatchResumed o r
          → (IsBatchUnfinished o.phase K o (L (home_of K lane)) S → IsTakenUp K true o.batch (L (home_of K lane)) S (L' (home_of K lane)) S')
          → (IsBatchUnfinished o.phase K o (L (home_of K lane)) S → HasItsOutcomes o.phase o (L' (home_of K lane)).seen r)
          → OfKept K I (λ _ _. TookUp K lane I J (Some r))
      took_behind r resumed taken has =
          resume_took K lane L S L' S' some home shape step.elsewhere (are_nodes h logs shards ledger) (are_nodes h logs' shards' step.ledger)
          step.log_nodes step.shard_nodes o told r resumed taken has

      pub resumed_took : (came : Result ResumedBatch LaneFault) → ResumeLeft K o came (L (home_of K lane)) S (L' (home_of K lane)) S'
          → IfOk came (λ r. OfKept K I (λ _ _. TookUp K lane I J (Some r)))
      resumed_took (Ok r) is = took_behind r is.resumed (λ stands. is.taken) (λ stands. is.outcomes)
      resumed_took (Err e) is = tt

      pub all_opened : (came : Result ResumedBatch LaneFault) → ResumeLeft K o came (L (home_of K lane)) S (L' (home_of K lane)) S'
          → IfOk came (λ r. IsLanesOpenBatch K lane I (Some r))
      all_opened (Ok r) is = is_opened o told r is.resumed
      all_opened (Err e) is = tt

-- nothing is said of memory that ran out
pub any_want : (came : Result ResumedBatch LaneFault) → IfErr came (λ e. e.fault ≡ NoMemory → Unit {0})
any_want (Ok r) = tt
any_want (Err e) = λ want. tt
