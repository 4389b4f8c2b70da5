-- What is in flight behind a turn may come next at its node.
use Rattle.std.proofs.Common.{◌≡◌, inl, inr, ℕ, ◌-◌, ◌<◌, ◌≤◌, true, false, nat_lt, if◌then◌else◌, List, [], Option, Some, None, sym, ap, ◌∙◌, subst}
use Rattle.std.proofs.Common.{arith}
use Rattle.std.specs.Prelude.{IfSome}
use Rattle.std.proofs.lemmas.Bool.{lt-ltb, le-ltb}
use Rattle.cbdc_types.specs.declared.batch.OpenLane.{OpenLane}
use Rattle.cbdc_model.specs.Records.{Shape, Compact, Record}
use Rattle.cbdc_model.specs.Ranges.{home_of, shard_node}
use Rattle.cbdc_model.specs.After.{After, IsJournal}
use Rattle.cbdc_model.specs.Coins.{Output, FullTx}
use Rattle.cbdc_model.specs.Clean.{IsProperCompact}
use Rattle.cbdc_model.specs.History.{Minted, minted, header_of}
use Rattle.cbdc_model.specs.World.{KeptJournals}
use Rattle.cbdc_model.specs.Lanes.{AllPass, Seen}
use Rattle.cbdc_model.specs.Sights.{Sight}
use Rattle.ledger_laws.proofs.Cuts.{seen_grows}
use Rattle.lane_laws.specs.Batches.{Flown}
use Rattle.lane_laws.specs.Resuming.{IsTakenUp}
use Rattle.lane_driver.specs.declared.fault.LaneFault.{LaneFault}
use Rattle.lane_driver.specs.Told.{KeepNodes}
use Rattle.coord_log.specs.OpenLanes.{open_lane}
use Rattle.recovery.specs.Open.{IsBatchUnfinished, IsResumeStopped}
use Rattle.run_laws.specs.Checked.{CheckedJournals}
use Rattle.run_laws.specs.Runs.{seen_by}
use Rattle.run_laws.specs.Turns.{Elsewhere}
use Rattle.run_laws.specs.Flights.{flying, MayCome}
use Rattle.run_laws.proofs.Checked.{kept_is_checked_law}
use Rattle.run_laws.proofs.Seen.{seen_log, seen_shard}
use Rattle.run_laws.proofs.OpenLanes.{resume_law}
use Rattle.run_laws.proofs.Flights.{flown_law}
use Rattle.ledger_runs.specs.Turning.{OfKept, StaysKept}
use Rattle.ledger_runs.specs.Flying.{FliesOn}
use Rattle.thread_laws.specs.Nodes.{AreNodes, AreNext}
use Rattle.thread_laws.proofs.Headers.{header_is, which_node}
use Rattle.thread_laws.proofs.OpenThere.{told_lane, unfinished}
use Rattle.thread_laws.proofs.Turned.{pass_none, resume_keeps, left_keeps}

-- what is in flight at a node, by its place
pub log_flight : (K : Shape) (logs shards : ℕ → Sight) (n : ℕ) → n < K.coordinators → flying K logs shards n ≡ (logs n).flight
log_flight K logs shards n lt = ap (λ c. if c then (logs n).flight else (shards (n - K.coordinators)).flight) (lt-ltb n K.coordinators lt)

shard_flight : (K : Shape) (logs shards : ℕ → Sight) (n : ℕ) → K.coordinators ≤ n → flying K logs shards n ≡ (shards (n - K.coordinators)).flight
shard_flight K logs shards n le = ap (λ c. if c then (logs n).flight else (shards (n - K.coordinators)).flight) (le-ltb n K.coordinators le)

if_there : {A : Type 0} (o : Option A) (P : A → Type 0) (x : A) → IfSome o P → o ≡ Some x → P x
if_there o P x h e = subst (λ p. IfSome p P) e h

none_there : {A : Type 0} {X : Type 0} (o : Option A) (x : A) → o ≡ None → o ≡ Some x → X
none_there o x none e = cc

module _ (K : Shape) (logs shards : ℕ → Sight) (nodes : AreNodes K logs shards) (next : AreNext K logs shards) (m : Minted)
    (checked : CheckedJournals K m (seen_by K logs shards)) (n : ℕ) (r : Record) where
  abbrev Here : Type 0
  Here = After (header_of K m.id n) (seen_by K logs shards n) r

  at_log : n < K.coordinators → flying K logs shards n ≡ Some r → Here
  at_log lt e =
      let seen : seen_by K logs shards n ≡ (logs n).seen = seen_log K logs shards n lt in
      let h : (logs n).header ≡ header_of K m.id n =
      header_is K m (seen_by K logs shards) n (logs n).header checked (omega (arith, lt))
      (subst (IsJournal (logs n).header) (sym seen) (nodes.logs_are n lt)) in
      subst (λ L. After (header_of K m.id n) L r) (sym seen) (subst (λ k. After k (logs n).seen r) h
      (if_there (logs n).flight (After (logs n).header (logs n).seen) r (next.logs_are n lt) (sym (log_flight K logs shards n lt) ∙ e)))

  at_shard : K.coordinators ≤ n → n - K.coordinators < K.shards → flying K logs shards n ≡ Some r → Here
  at_shard le lt e =
      let s : ℕ = n - K.coordinators in
      let back : shard_node K s ≡ n = omega (arith, le) in
      let seen : seen_by K logs shards n ≡ (shards s).seen = ap (seen_by K logs shards) (sym back) ∙ seen_shard K logs shards s in
      let h : (shards s).header ≡ header_of K m.id n =
      header_is K m (seen_by K logs shards) n (shards s).header checked (omega (arith, lt, le))
      (subst (IsJournal (shards s).header) (sym seen) (nodes.shards_are s lt)) in
      subst (λ L. After (header_of K m.id n) L r) (sym seen) (subst (λ k. After k (shards s).seen r) h
      (if_there (shards s).flight (After (shards s).header (shards s).seen) r (next.shards_are s lt) (sym (shard_flight K logs shards n le) ∙ e)))

  -- a record in flight may come next at its node, whose header is the ledger's
  pub after_here : flying K logs shards n ≡ Some r → Here
  after_here e = elim (which_node K n) [
    | inl lt ↦ at_log lt e
    | inr (inl (le, lt)) ↦ at_shard le lt e
    | inr (inr (le, none)) ↦ none_there (shards (n - K.coordinators)).flight r (next.beyond (n - K.coordinators) none)
        (sym (shard_flight K logs shards n le) ∙ e)
  ]

module _ (K : Shape) (lane : ℕ) (logs shards logs' shards' : ℕ → Sight) (some : 0 < K.shards) (home : home_of K lane < K.coordinators)
    (shape : (logs (home_of K lane)).header.shape ≡ K) (elsewhere : Elsewhere K lane logs logs') (nodes : AreNodes K logs shards)
    (nodes' : AreNodes K logs' shards')
    (log_nodes : KeepNodes logs logs') (shard_nodes : KeepNodes shards shards') (next : AreNext K logs' shards') where
  abbrev I : ℕ → List Record
  I = seen_by K logs shards

  abbrev J : ℕ → List Record
  J = seen_by K logs' shards'

  abbrev F : ℕ → Option Record
  F = flying K logs shards

  abbrev G : ℕ → Option Record
  G = flying K logs' shards'

  abbrev log : Sight
  log = logs (home_of K lane)

  abbrev log' : Sight
  log' = logs' (home_of K lane)

  -- where a record was in flight nothing was written
  pub still_here : (n : ℕ) (r : Record) → F n ≡ Some r → J n ≡ I n
  still_here n r = elim (nat_lt n K.coordinators) as (λ c. (if c then (logs n).flight else (shards (n - K.coordinators)).flight) ≡ Some r
      → (if c then (logs' n).seen else (shards' (n - K.coordinators)).seen) ≡ (if c then (logs n).seen else (shards (n - K.coordinators)).seen)) [
        | true ↦ λ e. ((log_nodes n).flying r e).1
        | false ↦ λ e. ((shard_nodes (n - K.coordinators)).flying r e).1
      ]

  flies : (pieces : List (List Compact)) (mint : List Output) (submissions : List FullTx) → AllPass (IsProperCompact submissions) pieces
      → Flown K pieces lane log shards log' shards'
      → StaysKept K I J mint submissions → FliesOn K I J F G mint submissions
  flies pieces mint submissions pass flown stays may n r e =
      let after = after_here K logs' shards' nodes' next (minted mint) (kept_is_checked_law K mint submissions J stays.kept) n r e in
      elim (flown_law K submissions pieces lane logs shards logs' shards' home pass elsewhere flown n r e) [
        | inl was ↦
            let m : MayCome K mint submissions I n r = may n r was in
            record {
              after = after;
              seen = subst (λ rest. Seen K J n rest r) (sym (still_here n r was)) (seen_grows K I J n (I n) r stays.grows m.seen);
              passes = m.passes;
            }
        | inr new ↦ record { after = after; seen = new.0; passes = new.1 }
      ]

  -- nothing new was left in flight
  pub none_new : (pieces : List (List Compact)) → log'.flight ≡ log.flight → ((s : ℕ) → (shards' s).flight ≡ (shards s).flight)
      → Flown K pieces lane log shards log' shards'
  none_new pieces here there = record { log_flown = inl here; shard_flown = λ s. inl (there s) }

  pub none_done : (pieces : List (List Compact)) → log' ≡ log → shards' ≡ shards → Flown K pieces lane log shards log' shards'
  none_done pieces here there = none_new pieces (ap (λ s. s.flight) here) (λ s. ap (λ S. (S s).flight) there)

  module _ (o : OpenLane) (told : open_lane log.seen lane ≡ Some o) where
    still : (mint : List Output) (submissions : List FullTx) → KeptJournals K mint submissions I → IsBatchUnfinished o.phase K o log shards
    still mint submissions kept = unfinished K lane log shards o told (resume_law K mint submissions lane logs shards some home shape kept)

    pub resume_flies : (IsBatchUnfinished o.phase K o log shards → IsTakenUp K true o.batch log shards log' shards') → OfKept K I (FliesOn K I J F G)
    resume_flies taken mint submissions kept =
        let t = taken (still mint submissions kept) in
        flies [] mint submissions (pass_none (IsProperCompact submissions)) (none_new [] t.log_same t.shard_same)
        (resume_keeps K lane logs shards logs' shards' some home shape elsewhere nodes nodes' log_nodes shard_nodes o told taken mint submissions
        kept)

    pub left_flies : (e : LaneFault) → IsResumeStopped K true o log shards log' shards' e → OfKept K I (FliesOn K I J F G)
    left_flies e stop mint submissions kept =
        flies [] mint submissions (pass_none (IsProperCompact submissions)) (flown stop)
        (left_keeps K lane logs shards logs' shards' some home shape elsewhere nodes nodes' log_nodes shard_nodes o told e stop mint submissions kept)
      where
        flown : IsResumeStopped K true o log shards log' shards' e → Flown K [] lane log shards log' shards'
        flown s = subst (λ l. Flown K [] l log shards log' shards') (told_lane log.seen lane o told) (s (still mint submissions kept)).3.flown
