-- A lane's open batch is open as recovery wants it, by its coordinator's own journal.
use Rattle.std.proofs.Common.{◌≡◌, ℕ, ◌^◌, ◌<◌, ◌≤◌, true, List, length, Some, None, is_some, option_map, refl, sym, ap, ◌∙◌, subst, arith}
use Rattle.cbdc_types.specs.declared.batch.OpenLane.{OpenLane}
use Rattle.cbdc_types.specs.declared.batch.Phase.{Phase as OpenPhase}
use Rattle.cbdc_types.specs.declared.batch.Phase.TheVariants.{Prepared, Committed, Discarded}
use Rattle.cbdc_model.specs.Records.{Shape, Header, Batch, Record, record_of, txs_of, outcomes_of, Prepare}
use Rattle.cbdc_model.specs.Slots.{Phase, slot, slot_stamp, Idle, InLock, InFinish, InPrepare, InCommit, InDiscard}
use Rattle.cbdc_model.specs.Due.{open_batch}
use Rattle.cbdc_model.specs.Grammar.{IsInGrammar}
use Rattle.cbdc_model.specs.After.{IsJournal}
use Rattle.cbdc_model.specs.Sights.{Sight}
use Rattle.coord_log.specs.OpenLanes.{open_phase_of, open_lane_in, open_lane}
use Rattle.lane_driver.specs.Told.{IsLane}
use Rattle.recovery.specs.Open.{phase_of, HasOutcomes, IsLaneOpen, IsBatchUnfinished}
use Rattle.run_laws.specs.Open.{IsOpenBy}
use Rattle.run_laws.proofs.LastRecords.{LastStands, last_stands, IsShardPhase, of_shard, stamp_fits, prepare_stands}
use Rattle.thread_laws.proofs.OwnJournals.{OwnOk, own_ok}

pub never_idle : (p : OpenPhase) → phase_of p ≡ Idle → ⊥
never_idle Prepared e = absurd (let z : InPrepare ≡ Idle = e in cc)
never_idle Committed e = absurd (let z : InCommit ≡ Idle = e in cc)
never_idle Discarded e = absurd (let z : InDiscard ≡ Idle = e in cc)

module _ (h : Header) (J : List Record) (j : IsJournal h J) (lane : ℕ) (is_lane : IsLane h lane) where
  abbrev b : Batch
  b = open_batch J lane

  own : OwnOk h J
  own = own_ok h J j

  -- its Prepare stands, and its Commit where the phase says so
  stands : (p : OpenPhase) → (slot J lane).phase ≡ phase_of p
      → (is_some (record_of 6 J b) ≡ true) × HasOutcomes p (length (outcomes_of J b)) (length (txs_of J b))
  stands Prepared e = ((own.ok.prepared b e refl).0, tt)
  stands Committed e = let has = own.phases.commit_here b e refl in (has.0, own.matches b has.1)
  stands Discarded e = let has = own.phases.discard_here b e refl in (has.0, own.matches b has.1)

  module _ (busy : (slot J lane).phase ≡ Idle → ⊥) where
    last : LastStands J b
    last = last_stands J b refl busy

    last_grammar : IsInGrammar h last.last
    last_grammar = own.grammar _ b last.last last.stands

    no_shard : h.node < h.shape.coordinators → IsShardPhase (slot J lane).phase → ⊥
    no_shard lt p = let le : h.shape.coordinators ≤ h.node = of_shard h lane last.last last_grammar (subst IsShardPhase (sym last.phase) p) in
        omega (arith, le, lt)

    early : slot_stamp J lane < 2 ^ 63
    early = subst (λ t. t < 2 ^ 63) (sym last.stamp) (stamp_fits h last.last last_grammar)

  pub is_open : (p : OpenPhase) → (slot J lane).phase ≡ phase_of p
      → IsLaneOpen h (λ l. (slot J l).phase) (λ l. txs_of J (open_batch J l)) (open_lane_in J lane p)
  is_open p e =
      let has = stands p e in
      let prepare = prepare_stands J b has.0 in
      let grammar : IsInGrammar h (Prepare prepare.0 b (txs_of J b)) = own.grammar 6 b (Prepare prepare.0 b (txs_of J b)) prepare.1 in
      record {
        lane = is_lane;
        batch = grammar.1;
        phase_is = e;
        txs = refl;
        size = grammar.3;
        limits = grammar.4;
        stamp = early (λ i. never_idle p (sym e ∙ i));
        outcomes = has.1;
      }

  -- a coordinator's lane of which nothing is told is idle
  pub is_idle : h.node < h.shape.coordinators → open_lane J lane ≡ None → (slot J lane).phase ≡ Idle
  is_idle lt none = by (slot J lane).phase refl none
    where
      by : (p : Phase) → (slot J lane).phase ≡ p → option_map (open_lane_in J lane) (open_phase_of p) ≡ None → (slot J lane).phase ≡ Idle
      by Idle e n = e
      by InLock e n = absurd (no_shard (λ i. absurd (let z : InLock ≡ Idle = sym e ∙ i in cc)) lt (subst IsShardPhase (sym e) tt))
      by InFinish e n = absurd (no_shard (λ i. absurd (let z : InFinish ≡ Idle = sym e ∙ i in cc)) lt (subst IsShardPhase (sym e) tt))
      by InPrepare e n = absurd (let z : Some (open_lane_in J lane Prepared) ≡ None = n in cc)
      by InCommit e n = absurd (let z : Some (open_lane_in J lane Committed) ≡ None = n in cc)
      by InDiscard e n = absurd (let z : Some (open_lane_in J lane Discarded) ≡ None = n in cc)

-- what is told of a lane is its batch in the phase of its slot
pub told_open : (J : List Record) (lane : ℕ) (o : OpenLane) → open_lane J lane ≡ Some o
    → (p : OpenPhase) × (o ≡ open_lane_in J lane p) × ((slot J lane).phase ≡ phase_of p)
told_open J lane o told = by (slot J lane).phase refl told
  where
    same : (a c : OpenLane) → Some a ≡ Some c → c ≡ a
    same a c e = cc

    by : (p : Phase) → (slot J lane).phase ≡ p → option_map (open_lane_in J lane) (open_phase_of p) ≡ Some o
        → (p : OpenPhase) × (o ≡ open_lane_in J lane p) × ((slot J lane).phase ≡ phase_of p)
    by Idle e n = absurd (let z : None ≡ Some o = n in cc)
    by InLock e n = absurd (let z : None ≡ Some o = n in cc)
    by InFinish e n = absurd (let z : None ≡ Some o = n in cc)
    by InPrepare e n = (Prepared, same (open_lane_in J lane Prepared) o n, e)
    by InCommit e n = (Committed, same (open_lane_in J lane Committed) o n, e)
    by InDiscard e n = (Discarded, same (open_lane_in J lane Discarded) o n, e)

pub told_lane : (J : List Record) (lane : ℕ) (o : OpenLane) → open_lane J lane ≡ Some o → o.batch.lane ≡ lane
told_lane J lane o told = ap (λ x. x.batch.lane) (told_open J lane o told).1

-- what is told of an open lane is so
pub told_is_open : (h : Header) (J : List Record) (lane : ℕ) (o : OpenLane) → IsJournal h J → IsLane h lane → open_lane J lane ≡ Some o
    → IsLaneOpen h (λ l. (slot J l).phase) (λ l. txs_of J (open_batch J l)) o
told_is_open h J lane o j is told =
    let t = told_open J lane o told in
    subst (λ x. IsLaneOpen h (λ l. (slot J l).phase) (λ l. txs_of J (open_batch J l)) x) (sym t.1) (is_open h J j lane is t.0 t.2)

-- in the journals of all nodes it is unfinished
pub unfinished : (K : Shape) (lane : ℕ) (log : Sight) (shards : ℕ → Sight) (o : OpenLane) → open_lane log.seen lane ≡ Some o
    → IsOpenBy (slot log.seen lane).phase K (open_batch log.seen lane) log shards → IsBatchUnfinished o.phase K o log shards
unfinished K lane log shards o told by =
    let t = told_open log.seen lane o told in
    subst (λ x. IsBatchUnfinished x.phase K x log shards) (sym t.1) (at t.0 (subst (λ p. IsOpenBy p K (open_batch log.seen lane) log shards) t.2 by))
  where
    at : (p : OpenPhase) → IsOpenBy (phase_of p) K (open_batch log.seen lane) log shards
        → IsBatchUnfinished p K (open_lane_in log.seen lane p) log shards
    at Prepared h = h.1
    at Committed h = h.2
    at Discarded h = h.2
