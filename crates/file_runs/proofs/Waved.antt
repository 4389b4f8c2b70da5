-- The nodes of a ledger behind a wave of its lanes.
use Rattle.std.proofs.Common.{◌≡◌, ◌⊎◌, inl, inr, ℕ, suc, ◌-◌, ◌*◌, ◌<◌, ◌≤◌, true, false, nat_lt, if◌then◌else◌, List, [], ◌∷◌, length, None, refl}
use Rattle.std.proofs.Common.{sym, ap, ◌∙◌, subst, arith}
use Rattle.std.specs.List.{All}
use Rattle.std.proofs.lemmas.List.Elements.{All-nil, All-cons, All-weaker}
use Rattle.outside.specs.declared.disk.Disk.{Ghosts}
use Rattle.cbdc_model.specs.Records.{Header, Shape}
use Rattle.cbdc_model.specs.Grammar.{IsCompact}
use Rattle.cbdc_model.specs.Ranges.{home_of, shard_node}
use Rattle.cbdc_model.specs.World.{AreIdle}
use Rattle.cbdc_model.specs.After.{IsJournal}
use Rattle.cbdc_model.specs.Sights.{Sight}
use Rattle.node_journal.specs.Nodes.{NodeOf, sight, HoldsJournal}
use Rattle.node_ports.specs.Nodes.{sight_at, IsNodeHeld}
use Rattle.run_laws.specs.Flights.{flying}
use Rattle.lane_driver.specs.Stops.{IsLaneSettled}
use Rattle.ledger_runs.specs.Waving.{AreWithin}
use Rattle.ledger_runs.specs.Lanes.{LaneOf}
use Rattle.thread_laws.specs.Running.{WaveNodes, WaveRan, AllSays}
use Rattle.thread_laws.proofs.Running.{fresh_settled_law, wave_ran_law}
use Rattle.lane_waves.specs.Waves.{AreNodesOf}
use Rattle.lane_waves.specs.Laws.{WentOn}
use Rattle.lane_waves.proofs.NodePlaces.{same_length, past_end, beyond, all_held}
use Rattle.file_runs.specs.Ledgers.{IsLedger, FliesNext, node_journals, HaveCheckedJournals, AreStored, AreQuiet}
use Rattle.file_runs.specs.Waving.{LedgerWaveLaw}
use Rattle.file_runs.proofs.Steps.{are_nodes, are_next, are_shards, all_held as all_held_there}

is_low : (a b : ℕ) → a < b → nat_lt a b ≡ true
is_low a b lt = grind (arith, lt)

is_high : (a b : ℕ) → b ≤ a → nat_lt a b ≡ false
is_high a b le = grind (arith, le)

below : (a b : ℕ) → (a < b) ⊎ (b ≤ a)
below a b = grind arith

-- what is in flight at a node, by its place
module _ (K : Shape) (logs shards : ℕ → Sight) where
  log_flight : (n : ℕ) → n < K.coordinators → flying K logs shards n ≡ (logs n).flight
  log_flight n lt = ap (λ c. if c then (logs n).flight else (shards (n - K.coordinators)).flight) (is_low n K.coordinators lt)

  shard_flight : (s : ℕ) → flying K logs shards (shard_node K s) ≡ (shards s).flight
  shard_flight s = ap (λ c. if c then (logs (shard_node K s)).flight else (shards (shard_node K s - K.coordinators)).flight)
      (is_high (shard_node K s) K.coordinators (omega arith)) ∙ ap (λ m. (shards m).flight) back
    where
      back : shard_node K s - K.coordinators ≡ s
      back = omega arith

module _ {D : Type 0} (device : Ghosts D) (h : Header) (logs shards : List (NodeOf D)) (logs' : List (NodeOf D)) (shards' : List (NodeOf D))
    (old new : List LaneOf) (ledger : IsLedger h logs shards) (places : length old ≡ h.shape.coordinators * h.shape.lanes)
    (ran : WaveRan h.shape (sight_at sight logs) (sight_at sight shards) (sight_at sight logs') (sight_at sight shards') old new)
    (logs_go : WentOn sight (λ a b. IsNodeHeld device a → IsNodeHeld device b) logs logs')
    (shards_go : WentOn sight (λ a b. IsNodeHeld device a → IsNodeHeld device b) shards shards')
    (log_journals : All (λ l. IsJournal l.header l.journal) logs') (log_flights : All FliesNext logs')
    (shard_journals : All (λ s. IsJournal s.header s.journal) shards') (shard_flights : All FliesNext shards') where
  abbrev K : Shape
  K = h.shape

  abbrev L : ℕ → Sight
  L = sight_at sight logs

  abbrev S : ℕ → Sight
  S = sight_at sight shards

  abbrev L' : ℕ → Sight
  L' = sight_at sight logs'

  abbrev S' : ℕ → Sight
  S' = sight_at sight shards'

  abbrev Goes : NodeOf D → NodeOf D → Type 0
  Goes a b = IsNodeHeld device a → IsNodeHeld device b

  log_count : length logs' ≡ length logs
  log_count = same_length sight Goes logs logs' logs_go

  shard_count : length shards' ≡ length shards
  shard_count = same_length sight Goes shards shards' shards_go

  still : IsLedger h logs' shards'
  still = record {
    limits = ledger.limits;
    coordinators = log_count ∙ ledger.coordinators;
    shards_are = shard_count ∙ ledger.shards_are;
    log_headers = λ n lt. (ran.log_ran n lt).same.header ∙ ledger.log_headers n lt;
    shard_headers = λ s lt. (ran.shard_ran s lt).same.header ∙ ledger.shard_headers s lt;
    log_journals = log_journals;
    shard_journals = shard_journals;
  }

  nodes : WaveNodes K L S L' S'
  nodes = record {
    limits = ledger.limits;
    before = are_nodes h logs shards ledger;
    behind = are_nodes h logs' shards' still;
    next = are_next h logs' shards' still.coordinators still.shards_are log_flights shard_flights;
    log_shapes = λ n lt. ap (λ k. k.shape) (ledger.log_headers n lt);
    shard_shapes = λ s lt. (are_shards h logs shards ledger s lt).0;
    beyond = λ s le. beyond sight Goes shards shards' shards_go s (subst (λ m. m ≤ s) (sym ledger.shards_are) le);
  }

  all : AllSays K L S L' S' old new
  all = wave_ran_law K L S L' S' old new nodes places ran

  stored : AreStored device logs shards → AreStored device logs' shards'
  stored s = record {
    logs_are = All-weaker (IsNodeHeld device) (HoldsJournal device) (λ l x. x.held) logs'
        (all_held sight (IsNodeHeld device) logs logs' logs_go (all_held_there device logs ledger.log_journals s.logs_are));
    shards_are = All-weaker (IsNodeHeld device) (HoldsJournal device) (λ x y. y.held) shards'
        (all_held sight (IsNodeHeld device) shards shards' shards_go (all_held_there device shards ledger.shard_journals s.shards_are));
  }

  -- nothing is in flight at any node, by its place or by its number
  was_quiet : AreQuiet logs shards → (n : ℕ) → flying K L S n ≡ None
  was_quiet q n = elim (nat_lt n K.coordinators) as (λ c. (if c then (L n).flight else (S (n - K.coordinators)).flight) ≡ None) [
    | true ↦ q.logs_are n
    | false ↦ q.shards_are (n - K.coordinators)
  ]

  now_quiet : ((n : ℕ) → flying K L' S' n ≡ None) → AreQuiet logs' shards'
  now_quiet none = record {
    logs_are = λ n. log_at n (below n K.coordinators);
    shards_are = λ s. sym (shard_flight K L' S' s) ∙ none (shard_node K s);
  }
    where
      log_at : (n : ℕ) → (n < K.coordinators) ⊎ (K.coordinators ≤ n) → (L' n).flight ≡ None
      log_at n (inl lt) = sym (log_flight K L' S' n lt) ∙ none n
      log_at n (inr le) = ap (λ x. x.flight) (past_end sight Goes logs' n (subst (λ m. m ≤ n) (sym still.coordinators) le))

pub wave_law : {D : Type 0} (device : Ghosts D) (h : Header) (logs shards : List (NodeOf D)) (logs' : List (NodeOf D)) (shards' : List (NodeOf D))
    (old new : List LaneOf) → LedgerWaveLaw device h logs shards logs' shards' old new
wave_law device h logs shards logs' shards' old new ledger places ran logs_go shards_go log_journals log_flights shard_journals shard_flights =
    let a = all device h logs shards logs' shards' old new ledger places ran logs_go shards_go log_journals log_flights shard_journals shard_flights
    in
    record {
      ledger = still device h logs shards logs' shards' old new ledger places ran logs_go shards_go log_journals log_flights shard_journals
          shard_flights;
      says = a.0;
      checked = λ c. (c.0, a.0.checked c.0 c.1);
      quiet = λ none q. now_quiet device h logs shards logs' shards' old new ledger places ran logs_go shards_go log_journals log_flights
          shard_journals shard_flights
          (a.0.quiet none (was_quiet device h logs shards logs' shards' old new ledger places ran logs_go shards_go log_journals log_flights
          shard_journals shard_flights q));
      keeps_ledger = record {
        shape_same = refl;
        opened_same = a.1.opened_same;
        later = a.1.later;
        capacity_same = a.1.capacity_same;
        held = stored device h logs shards logs' shards' old new ledger places ran logs_go shards_go log_journals log_flights shard_journals
            shard_flights;
      };
    }

-- ---- what a wave asks of the nodes and of the lanes

module _ {D : Type 0} (h : Header) (logs shards : List (NodeOf D)) (ledger : IsLedger h logs shards) where
  pub nodes_of : AreNodesOf h.shape (sight_at sight logs) (sight_at sight shards)
  nodes_of = record {
    logs_are = λ n lt. (ap (λ k. k.shape) (ledger.log_headers n lt), ap (λ k. k.node) (ledger.log_headers n lt));
    shards_are = are_shards h logs shards ledger;
  }

  pub all_settled : HaveCheckedJournals h.shape logs shards → AreIdle h.shape (node_journals h.shape logs shards) → (lane : ℕ)
      → lane < h.shape.coordinators * h.shape.lanes
      → IsLaneSettled h.shape lane (sight_at sight logs (home_of h.shape lane)) (sight_at sight shards)
  all_settled c idle lane lt = fresh_settled_law h.shape c.0 (sight_at sight logs) (sight_at sight shards) lane
      (sight_at sight logs (home_of h.shape lane)) (sight_at sight shards)
      ledger.limits lt (λ n low. (nodes_of.logs_are n low).0) c.1 idle (refl, refl) (λ s. refl)

pub all_within : (lanes : List LaneOf) → AreWithin lanes → All (λ x. All IsCompact x.txs) lanes
all_within [] within = All-nil (λ x. All IsCompact x.txs)
all_within (x ∷ lanes) within = All-cons (λ y. All IsCompact y.txs) x lanes (within 0 x refl)
    (all_within lanes (λ lane y there. within (suc lane) y there))
