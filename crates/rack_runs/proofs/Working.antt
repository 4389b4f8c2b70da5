-- A work behind the open batches of a ledger: what is said of both, from the journals at entry.
use Rattle.std.proofs.Common.{◌≡◌, inl, inr, ℕ, List, Option, Result, Ok, Err, refl, subst}
use Rattle.std.specs.Global.{Vec}
use Rattle.outside.specs.declared.disk.Disk.{Ghosts}
use Rattle.cbdc_types.specs.Limits.{IsWithinLimits}
use Rattle.cbdc_model.specs.Records.{Shape, Compact, Record}
use Rattle.ledger_laws.proofs.Cuts.{end_self, end_trans}
use Rattle.run_laws.proofs.NewBatches.{open_batches}
use Rattle.lane_driver.specs.declared.fault.LaneFault.{LaneFault}
use Rattle.lane_driver.specs.declared.fault.LaneFaultKind.TheVariants.{Memory as NoMemory}
use Rattle.recovery.specs.declared.resumed.ResumedBatch.{ResumedBatch}
use Rattle.ledger_runs.specs.Turning.{IsLaneOf, OfKept, StaysKept}
use Rattle.ledger_runs.specs.Flying.{FliesOn, Launches}
use Rattle.ledger_runs.specs.Telling.{SamePrepared}
use Rattle.ledger_runs.specs.Faults.{TakesInOrder, HaveFailed, MayHoldBytes, Nothing, LanesRest}
use Rattle.ledger_runs.proofs.Faulting.{run_moves}
use Rattle.ledger_runs.proofs.Keeping.{ledger_on}
use Rattle.ledger_runs.proofs.Launching.{launches_by, launches_on}
use Rattle.file_runs.specs.Ledgers.{LedgerOf, ledger_journals, ledger_flights, ledger_faults, ledger_opened, ledger_capacity}
use Rattle.file_runs.specs.Runs.{joined}
use Rattle.file_runs.proofs.Filing.{kept_more}
use Rattle.file_runs.proofs.Flying.{may_more}
use Rattle.file_runs.proofs.Whole.{when_whole, of_whole, of_fault}
use Rattle.rack_runs.specs.Resuming.{HasResumed}
use Rattle.rack_runs.specs.Works.{Deed, IsBehind, IsOpenOnly, LeavesWork, WorkEndsWell, EndsBadly, HasWorked, LeavesAll, AllWell, AllBadly}
use Rattle.rack_runs.specs.Works.{HasRunWork}
use Rattle.rack_runs.proofs.Lent.{on_ok_by, if_ok_by, if_err_by}
use Rattle.rack_runs.proofs.Resting.{rest_all, rests_behind}

-- where nothing was prepared newly, all new records of kept journals are of batches that were open
pub only_open : (K : Shape) (E M : ℕ → List Record) → IsWithinLimits K → SamePrepared K E M → OfKept K E (StaysKept K E M) → IsOpenOnly K E M
only_open K E M limits same keeps = record {
  limits = limits;
  unprepared = same;
  adds = λ mint submissions kept.
      let stays = keeps mint submissions kept in
      open_batches K mint submissions submissions E M limits.some_shard kept stays.kept stays.grows same;
}

module _ {Done : Type 0} (d : Deed Done) (K : Shape) (E M X : ℕ → List Record) (failed : ℕ → Type 0) (behind : IsBehind K E M) where
  -- what a work leaves it leaves of the journals at entry
  leaves_on : (F G L : ℕ → Option Record) → TakesInOrder K E M → OfKept K E (FliesOn K E M F G) → Launches K (λ _. Nothing) E M F G
      → LeavesWork d K M X G L failed → LeavesAll d K E X F L failed
  leaves_on F G L order flies launches w = record {
    grows = λ n. end_trans (E n) (M n) (X n) (behind.grows n) (w.grows n);
    keeps = λ mint submissions kept.
        let a = behind.keeps mint submissions kept in
        let b = w.keeps mint submissions a.kept in
        record { grows = λ n. end_trans (E n) (M n) (X n) (a.grows n) (b.grows n); kept = b.kept };
    flies = λ mint submissions kept may. w.flies mint submissions (behind.keeps mint submissions kept).kept (flies mint submissions kept may);
    launches = launches_on K (λ _. Nothing) (d.next K M X) (d.next K E X) E M X F G L (λ lane txs inside still none. absurd none)
        (λ lane txs inside is. w.since E behind lane txs inside is) launches w.launches;
    begun = λ limits. (inr (w.begun limits E behind), (M, order, inr (behind.idle, w.grows)));
  }

  -- and its fault is one of all
  badly_on : (opens counts holds : ℕ → ℕ) (e : LaneFault)
      → ((lane : ℕ) (txs : List Compact) → IsLaneOf K lane → d.next K M X lane txs → d.next K E X lane txs)
      → LanesRest K X (HaveFailed opens counts) → EndsBadly d K M X (HaveFailed opens counts) (MayHoldBytes holds) e
      → AllBadly d K E X (HaveFailed opens counts) (MayHoldBytes holds) e
  badly_on opens counts holds e since rests b = record {
    rests = rest_all K E X (HaveFailed opens counts) (e.fault ≡ NoMemory) rests;
    cause = run_moves K (d.next K M X) (d.next K E X) M E X (HaveFailed opens counts) (HaveFailed opens counts) (MayHoldBytes holds)
        (MayHoldBytes holds) behind.grows since (λ n did. did) (λ n c may. may) e b.cause;
    ends = inr (
      M,
      behind.grows,
      behind.unprepared,
      behind.idle,
      record {
        opened_at = opens;
        faults_at = counts;
        capacity_at = holds;
        fails = λ n inside did. did;
        holds = λ n c inside may. may;
        ends = b.ends;
      },
    );
  }

module _ {D Done : Type 0} (device : Ghosts D) (d : Deed Done) where
  -- a lane met a fault as open batches were brought to their end: no work was begun
  pub stopped_run : (before now : LedgerOf D) (resumed : List ResumedBatch) (came : Result (Vec ResumedBatch) LaneFault) (e : LaneFault)
      → came ≡ Err e
      → HasResumed device before now came → HasRunWork device d before now resumed (Err e)
  stopped_run before now resumed came e is r =
      let K : Shape = before.header.shape in
      let E : ℕ → List Record = ledger_journals before in
      let M : ℕ → List Record = ledger_journals now in
      let F : ℕ → Option Record = ledger_flights before in
      let G : ℕ → Option Record = ledger_flights now in
      let failed : ℕ → Type 0 = HaveFailed (ledger_opened now) (ledger_faults now) in
      let holds : ℕ → ℕ → Type 0 = MayHoldBytes (ledger_capacity now) in
      record {
        keeps_ledger = r.keeps_ledger;
        checked = r.checked;
        quiet = tt;
        leaves = record {
          grows = r.grows;
          keeps = λ mint submissions kept.
              let a = r.keeps mint submissions kept in
              record { grows = a.grows; kept = kept_more K mint submissions (joined d.handed) M a.kept };
          flies = λ mint submissions kept may. may_more K mint submissions (joined d.handed) M G (r.flies mint submissions kept may);
          launches = launches_by K (λ _. Nothing) (d.next K E M) E M F G (λ lane txs inside none. absurd none) r.launches;
          begun = λ limits. (inl (only_open K E M limits r.prepares r.keeps), (M, r.order, inl (λ n. refl)));
        };
        well = tt;
        badly = record {
          cause = run_moves K (λ _. Nothing) (d.next K E M) E E M failed failed holds holds (λ n. end_self (E n))
              (λ lane txs inside none. absurd none) (λ n did. did) (λ n c may. may) e
              (of_fault _ came e is r.fault);
          ends = inl (r.prepares, of_fault _ came e is r.least);
          rests = rests_behind K E M failed holds e (of_fault _ came e is r.least) (of_fault _ came e is r.rests);
        };
      }

  -- open batches are at their end, and the work was done behind that
  pub worked_run : (before middle now : LedgerOf D) (rs : Vec ResumedBatch) (came : Result (Vec ResumedBatch) LaneFault)
      (did : Result Done LaneFault) → came ≡ Ok rs
      → HasResumed device before middle came → HasWorked device d middle now did
      → HasRunWork device d before now rs.items did
  worked_run before middle now rs came did is r w =
      let K : Shape = before.header.shape in
      let E : ℕ → List Record = ledger_journals before in
      let M : ℕ → List Record = ledger_journals middle in
      let X : ℕ → List Record = ledger_journals now in
      let F : ℕ → Option Record = ledger_flights before in
      let G : ℕ → Option Record = ledger_flights middle in
      let L : ℕ → Option Record = ledger_flights now in
      let opens : ℕ → ℕ = ledger_opened now in
      let counts : ℕ → ℕ = ledger_faults now in
      let holds : ℕ → ℕ = ledger_capacity now in
      let same : middle.header.shape ≡ K = r.keeps_ledger.shape_same in
      let behind : IsBehind K E M = record {
        grows = r.grows;
        unprepared = r.prepares;
        idle = when_whole came rs is r.idle;
        keeps = r.keeps;
        resumed = when_whole came rs is r.resumed;
      } in
      let leaves : LeavesWork d K M X G L (HaveFailed opens counts) = subst (λ k. LeavesWork d k M X G L (HaveFailed opens counts)) same w.leaves in
      record {
        keeps_ledger = ledger_on r.keeps_ledger w.keeps_ledger;
        checked = w.checked;
        quiet = on_ok_by did (λ q was. q (when_whole came rs is r.quiet was)) w.quiet;
        leaves = leaves_on d K E M X (HaveFailed opens counts) behind F G L r.order r.flies r.launches leaves;
        well = if_ok_by (WorkEndsWell d middle.header.shape M X) (AllWell d K E X rs.items) did w.well
            (λ a ends. record {
              middle = M;
              behind = behind;
              batches = of_whole _ came rs is r.told;
              well = subst (λ k. WorkEndsWell d k M X a) same ends;
            });
        badly = if_err_by (EndsBadly d middle.header.shape M X (HaveFailed opens counts) (MayHoldBytes holds))
            (AllBadly d K E X (HaveFailed opens counts) (MayHoldBytes holds)) did
            (λ e ends. badly_on d K E M X (HaveFailed opens counts) behind opens counts holds e (leaves.since E behind) leaves.rests
            (subst (λ k. EndsBadly d k M X (HaveFailed opens counts) (MayHoldBytes holds) e) same ends)) w.badly;
      }
