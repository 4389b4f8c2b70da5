-- The nodes of a ledger behind a lane's driver.
use Rattle.std.proofs.Common.{◌≡◌, ◌≢◌, ◌⊎◌, inl, inr, ℕ, zero, suc, ◌-◌, ◌*◌, ◌/◌, ◌<◌, ◌≤◌, true, false, ◌==◌, nat_lt, if◌then◌else◌, List, [], ◌∷◌}
use Rattle.std.proofs.Common.{length, take, Some, None, refl, sym, ap, ◌∙◌, subst, arith}
use Rattle.std.specs.Prelude.{IfSome}
use Rattle.std.specs.List.{All}
use Rattle.std.proofs.lemmas.List.Elements.{All-nil, All-cons, All-head, All-tail, All-weaker}
use Rattle.std.proofs.lemmas.Nat.{div_below}
use Rattle.std.proofs.lemmas.Bool.Decides.{eqb_tells}
use Rattle.outside.specs.declared.disk.Disk.{Ghosts}
use Rattle.cbdc_types.specs.declared.batch.OpenLane.{OpenLane}
use Rattle.cbdc_model.specs.Records.{Header, txs_of}
use Rattle.cbdc_model.specs.Slots.{slot}
use Rattle.cbdc_model.specs.Due.{open_batch}
use Rattle.cbdc_model.specs.Ranges.{home_of, shard_node}
use Rattle.cbdc_model.specs.After.{After, IsJournal}
use Rattle.cbdc_model.specs.History.{header_of}
use Rattle.cbdc_model.specs.Sights.{Sight}
use Rattle.node_journal.specs.Nodes.{NodeOf, sight, HoldsJournal}
use Rattle.node_ports.specs.Nodes.{sight_at, IsNodeHeld, AreNodesHeld}
use Rattle.lane_driver.specs.Told.{IsLane, KeepsOtherLanes, KeepNodes, AreShardsOf}
use Rattle.run_laws.specs.Turns.{Elsewhere}
use Rattle.run_laws.proofs.Seen.{seen_log}
use Rattle.coord_log.specs.OpenLanes.{open_lane}
use Rattle.recovery.specs.Open.{IsLaneOpen}
use Rattle.thread_laws.specs.Nodes.{AreNodes, AreNext}
use Rattle.thread_laws.proofs.OpenThere.{told_is_open}
use Rattle.ledger_runs.specs.Turning.{IsLaneOf, KeepsLanes}
use Rattle.file_runs.specs.Ledgers.{IsLedger, FliesNext, node_journals, faults_of, AreStored}
use Rattle.file_runs.specs.Steps.{IsStep}

pub home_inside : (lane coordinators lanes : ℕ) → lane < coordinators * lanes → lane / lanes < coordinators
home_inside lane coordinators zero lt = absurd (omega (arith, lt))
home_inside lane coordinators (suc lanes) lt = div_below lane (suc lanes) coordinators (omega arith) lt

-- all of a list
pub take_whole : {A : Type 0} (xs : List A) (n : ℕ) → length xs ≤ n → take n xs ≡ xs
take_whole [] zero le = refl
take_whole [] (suc n) le = refl
take_whole (x ∷ xs) zero le = absurd (omega (arith, le))
take_whole (x ∷ xs) (suc n) le = ap (λ ys. x ∷ ys) (take_whole xs n (omega (arith, le)))

-- what is so at the coordinator that the driver was set to is so at the lane's
pub at_home : (F : Sight → Sight → Type 0) (logs logs' : ℕ → Sight) (at at' home : ℕ) → at ≡ home → at' ≡ at → F (logs at) (logs' at')
    → F (logs home) (logs' home)
at_home F logs logs' at at' home e s f = subst (λ n. F (logs n) (logs' n)) e (subst (λ n. F (logs at) (logs' n)) s f)

module _ {D : Type 0} where
  pub journal_at : (logs : List (NodeOf D)) → All (λ l. IsJournal l.header l.journal) logs → (n : ℕ) → n < length logs
      → IsJournal (sight_at sight logs n).header (sight_at sight logs n).seen
  journal_at [] all n lt = absurd (let z : n < 0 = lt in omega (arith, z))
  journal_at (l ∷ logs) all zero lt = All-head (λ l. IsJournal l.header l.journal) l logs all
  journal_at (l ∷ logs) all (suc n) lt = journal_at logs (All-tail (λ l. IsJournal l.header l.journal) l logs all) n (omega (arith, lt))

  next_at : (logs : List (NodeOf D)) → All FliesNext logs → (n : ℕ) → n < length logs
      → IfSome (sight_at sight logs n).flight (After (sight_at sight logs n).header (sight_at sight logs n).seen)
  next_at [] all n lt = absurd (let z : n < 0 = lt in omega (arith, z))
  next_at (l ∷ logs) all zero lt = All-head FliesNext l logs all
  next_at (l ∷ logs) all (suc n) lt = next_at logs (All-tail FliesNext l logs all) n (omega (arith, lt))

  pub all_held : (device : Ghosts D) (logs : List (NodeOf D)) → All (λ l. IsJournal l.header l.journal) logs → All (HoldsJournal device) logs
      → AreNodesHeld device logs
  all_held device [] js hs = All-nil (IsNodeHeld device)
  all_held device (l ∷ logs) js hs = All-cons (IsNodeHeld device) l logs
      (record { journal = All-head (λ l. IsJournal l.header l.journal) l logs js; held = All-head (HoldsJournal device) l logs hs })
      (all_held device logs (All-tail (λ l. IsJournal l.header l.journal) l logs js) (All-tail (HoldsJournal device) l logs hs))

  none_flies : (shards : List (NodeOf D)) (n : ℕ) → length shards ≤ n → (sight_at sight shards n).flight ≡ None
  none_flies [] n le = refl
  none_flies (s ∷ shards) zero le = absurd (omega (arith, le))
  none_flies (s ∷ shards) (suc n) le = none_flies shards n (omega (arith, le))

  none_there : (shards : List (NodeOf D)) (n : ℕ) → length shards ≤ n → (sight_at sight shards n).seen ≡ []
  none_there [] n le = refl
  none_there (s ∷ shards) zero le = absurd (omega (arith, le))
  none_there (s ∷ shards) (suc n) le = none_there shards n (omega (arith, le))

  pub are_nodes : (h : Header) (logs shards : List (NodeOf D)) → IsLedger h logs shards
      → AreNodes h.shape (sight_at sight logs) (sight_at sight shards)
  are_nodes h logs shards ledger = record {
    logs_are = λ n lt. journal_at logs ledger.log_journals n (subst (λ m. n < m) (sym ledger.coordinators) lt);
    shards_are = λ s lt. journal_at shards ledger.shard_journals s (subst (λ m. s < m) (sym ledger.shards_are) lt);
    beyond = λ s le. none_there shards s (subst (λ m. m ≤ s) (sym ledger.shards_are) le);
  }

  pub are_next : (h : Header) (logs shards : List (NodeOf D)) → length logs ≡ h.shape.coordinators → length shards ≡ h.shape.shards
      → All FliesNext logs → All FliesNext shards
      → AreNext h.shape (sight_at sight logs) (sight_at sight shards)
  are_next h logs shards log_count shard_count log_flights shard_flights = record {
    logs_are = λ n lt. next_at logs log_flights n (subst (λ m. n < m) (sym log_count) lt);
    shards_are = λ s lt. next_at shards shard_flights s (subst (λ m. s < m) (sym shard_count) lt);
    beyond = λ s le. none_flies shards s (subst (λ m. m ≤ s) (sym shard_count) le);
  }

  pub are_shards : (h : Header) (logs shards : List (NodeOf D)) → IsLedger h logs shards → AreShardsOf h.shape (sight_at sight shards)
  are_shards h logs shards ledger s lt =
      let e : (sight_at sight shards s).header ≡ header_of h.shape h.genesis (shard_node h.shape s) = ledger.shard_headers s lt in
      (ap (λ k. k.shape) e, ap (λ k. k.node) e)

  pub is_lane : (h : Header) (logs shards : List (NodeOf D)) (lane at : ℕ) → IsLedger h logs shards → IsLaneOf h.shape lane
      → at ≡ home_of h.shape lane
      → IsLane (sight_at sight logs at).header lane
  is_lane h logs shards lane at ledger lt e =
      subst (λ m. IsLane (sight_at sight logs m).header lane) (sym e)
      (subst (λ k. IsLane k lane) (sym (ledger.log_headers (home_of h.shape lane) (home_inside lane h.shape.coordinators h.shape.lanes lt)))
      (lt, refl))

  pub open_at : (h : Header) (logs shards : List (NodeOf D)) (lane at : ℕ) (o : OpenLane) → IsLedger h logs shards → IsLaneOf h.shape lane
      → at ≡ home_of h.shape lane
      → open_lane (sight_at sight logs (home_of h.shape lane)).seen lane ≡ Some o
      → IsLaneOpen (sight_at sight logs at).header (λ l. (slot (sight_at sight logs at).seen l).phase)
      (λ l. txs_of (sight_at sight logs at).seen (open_batch (sight_at sight logs at).seen l)) o
  open_at h logs shards lane at o ledger lt e told =
      told_is_open (sight_at sight logs at).header (sight_at sight logs at).seen lane o
      (journal_at logs ledger.log_journals at (subst (λ n. n < length logs) (sym e)
      (subst (λ m. home_of h.shape lane < m) (sym ledger.coordinators) (home_inside lane h.shape.coordinators h.shape.lanes lt))))
      (is_lane h logs shards lane at ledger lt e) (subst (λ n. open_lane (sight_at sight logs n).seen lane ≡ Some o) (sym e) told)

  module _ (device : Ghosts D) (h : Header) (lane at at' : ℕ) (logs shards : List (NodeOf D)) (logs' : List (NodeOf D)) (shards' : List (NodeOf D))
      (ledger : IsLedger h logs shards) (lt : IsLaneOf h.shape lane) (at_is : at ≡ home_of h.shape lane) (at_same : at' ≡ at)
      (named : ℕ) (named_is : named ≡ lane) (log_count : length logs' ≡ length logs) (shard_count : length shards' ≡ length shards)
      (elsewhere : (n : ℕ) → n ≢ at → sight_at sight logs' n ≡ sight_at sight logs n)
      (log_nodes : KeepNodes (sight_at sight logs) (sight_at sight logs'))
      (shard_nodes : KeepNodes (sight_at sight shards) (sight_at sight shards'))
      (others : KeepsOtherLanes (sight_at sight logs at).header named (λ l. (slot (sight_at sight logs at).seen l).phase)
      (λ l. (slot (sight_at sight logs' at').seen l).phase)
      (λ l. txs_of (sight_at sight logs at).seen (open_batch (sight_at sight logs at).seen l))
      (λ l. txs_of (sight_at sight logs' at').seen (open_batch (sight_at sight logs' at').seen l)))
      (log_holds : AreNodesHeld device logs → AreNodesHeld device logs') (shard_holds : AreNodesHeld device shards → AreNodesHeld device shards')
      (log_later : (n : ℕ) → (sight_at sight logs n).faults ≤ (sight_at sight logs' n).faults)
      (shard_later : (n : ℕ) → (sight_at sight shards n).faults ≤ (sight_at sight shards' n).faults)
      (log_journals : All (λ l. IsJournal l.header l.journal) logs') (shard_journals : All (λ s. IsJournal s.header s.journal) shards')
      (log_flights : All FliesNext logs') (shard_flights : All FliesNext shards') where
    here : (n : ℕ) → (n ≡ at) ⊎ (n ≢ at)
    here n = go (eqb_tells n at)
      where
        go : (((n == at) ≡ true) × (n ≡ at)) ⊎ (((n == at) ≡ false) × (n ≢ at)) → (n ≡ at) ⊎ (n ≢ at)
        go (inl (b, same)) = inl same
        go (inr (b, other)) = inr other

    pub still_ledger : IsLedger h logs' shards'
    still_ledger = record {
      limits = ledger.limits;
      coordinators = log_count ∙ ledger.coordinators;
      shards_are = shard_count ∙ ledger.shards_are;
      log_headers = λ n lt. (log_nodes n).header ∙ ledger.log_headers n lt;
      shard_headers = λ s lt. (shard_nodes s).header ∙ ledger.shard_headers s lt;
      log_journals = log_journals;
      shard_journals = shard_journals;
    }

    away : Elsewhere h.shape lane (sight_at sight logs) (sight_at sight logs')
    away n other = elsewhere n (λ e. other (e ∙ at_is))

    is_home : (l : ℕ) → home_of h.shape l ≡ at → l < h.shape.coordinators * h.shape.lanes → IsLane (sight_at sight logs at).header l
    is_home l e low = subst (λ k. IsLane k l) (sym (subst (λ m. (sight_at sight logs m).header ≡ header_of h.shape h.genesis m) (sym at_is)
        (ledger.log_headers (home_of h.shape lane) (home_inside lane h.shape.coordinators h.shape.lanes lt)))) (low, sym e)

    other_lanes : KeepsLanes h.shape lane (node_journals h.shape logs shards) (node_journals h.shape logs' shards')
    other_lanes l low other =
        let inside = home_inside l h.shape.coordinators h.shape.lanes low in
        ap (λ L. (slot L l).phase) (seen_log h.shape (sight_at sight logs') (sight_at sight shards') (home_of h.shape l) inside)
        ∙ at_home (here (home_of h.shape l))
        ∙ ap (λ L. (slot L l).phase) (sym (seen_log h.shape (sight_at sight logs) (sight_at sight shards) (home_of h.shape l) inside))
      where
        at_home : (home_of h.shape l ≡ at) ⊎ (home_of h.shape l ≢ at)
            → (slot (sight_at sight logs' (home_of h.shape l)).seen l).phase ≡ (slot (sight_at sight logs (home_of h.shape l)).seen l).phase
        at_home (inl e) = subst (λ m. (slot (sight_at sight logs' m).seen l).phase ≡ (slot (sight_at sight logs m).seen l).phase) (sym e)
            (subst (λ m. (slot (sight_at sight logs' m).seen l).phase ≡ (slot (sight_at sight logs at).seen l).phase) at_same
            (others l (is_home l e low) (λ is. other (is ∙ named_is))).0)
        at_home (inr n) = ap (λ s. (slot s.seen l).phase) (elsewhere (home_of h.shape l) n)

    stored : AreStored device logs shards → AreStored device logs' shards'
    stored s = record {
      logs_are = All-weaker (IsNodeHeld device) (HoldsJournal device) (λ l x. x.held) logs'
          (log_holds (all_held device logs ledger.log_journals s.logs_are));
      shards_are = All-weaker (IsNodeHeld device) (HoldsJournal device) (λ x y. y.held) shards'
          (shard_holds (all_held device shards ledger.shard_journals s.shards_are));
    }

    later : (n : ℕ) → faults_of h.shape logs shards n ≤ faults_of h.shape logs' shards' n
    later n = elim (nat_lt n h.shape.coordinators) as
        (λ c. (if c then (sight_at sight logs n).faults else (sight_at sight shards (n - h.shape.coordinators)).faults)
        ≤ (if c then (sight_at sight logs' n).faults else (sight_at sight shards' (n - h.shape.coordinators)).faults)) [
          | true ↦ log_later n
          | false ↦ shard_later (n - h.shape.coordinators)
        ]

    pub is_step : IsStep device h lane logs shards logs' shards'
    is_step = record {
      ledger = still_ledger;
      log_nodes = log_nodes;
      shard_nodes = shard_nodes;
      elsewhere = away;
      others = other_lanes;
      next = are_next h logs' shards' (log_count ∙ ledger.coordinators) (shard_count ∙ ledger.shards_are) log_flights shard_flights;
      stored = stored;
      later = later;
    }
