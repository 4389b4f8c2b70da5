-- A run of client files: the resuming, and the files behind it.
use Rattle.std.proofs.Common.{◌≡◌, ◌<◌, ◌++◌, inl, inr, [], ℕ, List, length, Result, Ok, Err, refl, sym, subst}
use Rattle.std.specs.Global.{Vec}
use Rattle.std.proofs.lemmas.List.{append-nil}
use Rattle.outside.specs.declared.disk.Disk.{Ghosts}
use Rattle.cbdc_model.specs.Records.{Shape, Record}
use Rattle.cbdc_model.specs.Coins.{FullTx}
use Rattle.lane_driver.specs.declared.fault.LaneFault.{LaneFault}
use Rattle.lane_driver.specs.declared.fault.LaneFaultKind.TheVariants.{Memory as NoMemory}
use Rattle.recovery.specs.declared.resumed.ResumedBatch.{ResumedBatch}
use Rattle.submissions.specs.Checks.{VerdictsOf}
use Rattle.ledger_runs.specs.Turning.{OfKept, StaysKept}
use Rattle.ledger_runs.specs.Faults.{HaveFailed, MayHoldBytes}
use Rattle.file_runs.specs.declared.waves.Wave.{Wave}
use Rattle.file_runs.specs.Ledgers.{LedgerOf, ledger_journals, ledger_flights, ledger_faults, ledger_opened, ledger_capacity, KeepsLedgerOf}
use Rattle.file_runs.specs.Runs.{joined}
use Rattle.file_runs.specs.Telling.{TellFiles}
use Rattle.file_runs.specs.Stretches.{LedgerSight, ledger_sight, Deed, Stretch, Joins, Widens}
use Rattle.file_runs.specs.Deeds.{files_deed as filed}
use Rattle.file_runs.proofs.Filing.{kept_more}
use Rattle.file_runs.proofs.Flying.{may_more}
use Rattle.file_runs.proofs.Stretching.{stretch_on, stretch_cut, stretch_cut_as}
use Rattle.rack_runs.specs.Deeds.{files_deed}
use Rattle.rack_runs.specs.Endings.{EndsRun}
use Rattle.rack_runs.specs.Resuming.{HasResumed}
use Rattle.rack_runs.specs.Works.{EndsWork, LeavesAll, HasRunWork}
use Rattle.rack_runs.specs.RunDeeds.{resume_deed, RanAll, run_deed}
use Rattle.rack_runs.proofs.Filed.{over_keeps, over_cuts, cut_waves, resumed_begun, filed_begun, files_since}
use Rattle.rack_runs.proofs.Resting.{rest_all, rests_behind}
use Rattle.rack_runs.proofs.Working.{only_open}

-- the resuming is a stretch
pub resume_stretch : {D : Type 0} (device : Ghosts D) (before now : LedgerOf D) (rs : Vec ResumedBatch) → HasResumed device before now (Ok rs)
    → Stretch resume_deed (ledger_sight device before) (ledger_sight device now) (Ok rs.items)
resume_stretch device before now rs r = record {
  shape_same = r.keeps_ledger.shape_same;
  is = record {
    opened_same = r.keeps_ledger.opened_same;
    capacity_same = r.keeps_ledger.capacity_same;
    later = r.keeps_ledger.later;
    held = r.keeps_ledger.held;
    checked = r.checked;
    quiet = r.quiet;
    grows = r.grows;
    keeps = λ mint submissions kept.
        let stays = r.keeps mint submissions kept in
        record { grows = stays.grows; kept = kept_more before.header.shape mint submissions [] (ledger_journals now) stays.kept };
    flies = λ mint submissions kept may. may_more before.header.shape mint submissions [] (ledger_journals now) (ledger_flights now)
        (r.flies mint submissions kept may);
    launches = r.launches;
    begun = (
      r.prepares,
      r.order,
      λ limits. (only_open before.header.shape (ledger_journals before) (ledger_journals now) limits r.prepares r.keeps).adds,
    );
    did = record { idle = r.idle; resumed = r.resumed; told = r.told };
    cause = tt;
    ends = tt;
  };
}

-- nothing was handed in
plain_keeps : (K : Shape) (E M : ℕ → List Record) → OfKept K E (λ mint submissions. StaysKept K E M mint (submissions ++ []))
    → OfKept K E (StaysKept K E M)
plain_keeps K E M keeps mint submissions kept = subst (λ l. StaysKept K E M mint l) (append-nil submissions) (keeps mint submissions kept)

module _ (verdicts : VerdictsOf) (files : List (List FullTx)) where
  -- files behind it
  pub files_behind : (rs : List ResumedBatch) → 0 < length files
      → Joins resume_deed (filed verdicts files) (run_deed verdicts files) rs (λ ws ran. ran ≡ record { resumed = rs; waves = ws.items })
  files_behind rs some = record {
    handed = refl;
    next_still = λ K E M X lane txs at inside none piece. absurd piece;
    next_then = λ K E M X lane txs at inside piece. files_since verdicts files K E M X at.begun.0 lane txs inside piece;
    begun = λ K E M X at limits. (
      filed_begun K K verdicts files E M X refl at.begun.0 at.begins.0 limits.some_batch,
      cut_waves K verdicts files E X limits.some_shard limits.some_lane (over_keeps K K files E M X refl (plain_keeps K E M at.keeps) at.stays)
          (over_cuts K K verdicts files E M X refl some (plain_keeps K E M at.keeps) at.did.resumed at.begins.1),
      (M, at.begun.1, inr (at.did.idle, at.onward)),
    );
    did = λ K E M X ws ran at same did. subst (λ r. (run_deed verdicts files).did K E X r) (sym same)
        (record { middle = M; grows = at.grows; keeps = plain_keeps K E M at.keeps; unprepared = at.begun.0; back = at.did; behind = did });
    ends = λ K E M X failed holds f at ended. (
      inr (M, at.grows, at.begun.0, at.did.idle, ended.0),
      rest_all K E X failed (f.fault ≡ NoMemory) ended.1,
    );
  }

  -- a lane met a fault in it: no file was begun
  pub resume_cut : Widens resume_deed (run_deed verdicts files) (λ rs ran. ⊥)
  resume_cut = record {
    more = joined files;
    handed = refl;
    next = λ K E X lane txs inside piece. absurd piece;
    begun = λ K E X begun limits. (
      resumed_begun K verdicts files E X begun.0 limits.some_batch,
      λ mint submissions kept sound tells. inl (begun.2 limits mint submissions kept),
      (X, begun.1, inl (λ n. refl)),
    );
    did = λ K E X rs ran never did. absurd never;
    ends = λ K E X failed holds f begun ended. (inl (begun.0, ended.0), rests_behind K E X failed holds f ended.0 ended.1);
  }

  -- the resuming came through, and the files did, or a lane met a fault in them
  pub run_on : (a m b : LedgerSight) (rs : List ResumedBatch) (ws : Vec Wave) → 0 < length files → Stretch resume_deed a m (Ok rs)
      → Stretch (filed verdicts files) m b (Ok ws)
      → Stretch (run_deed verdicts files) a b (Ok (record { resumed = rs; waves = ws.items }))
  run_on a m b rs ws some one two =
      stretch_on resume_deed (filed verdicts files) (run_deed verdicts files) rs (λ ws ran. ran ≡ record { resumed = rs; waves = ws.items })
      (files_behind rs some) a m b ws (record { resumed = rs; waves = ws.items }) refl one two

  pub run_cut : (a m b : LedgerSight) (rs : List ResumedBatch) (e : LaneFault) → 0 < length files → Stretch resume_deed a m (Ok rs)
      → Stretch (filed verdicts files) m b (Err e) → Stretch (run_deed verdicts files) a b (Err e)
  run_cut a m b rs e some one two =
      stretch_cut resume_deed (filed verdicts files) (run_deed verdicts files) rs (λ ws ran. ran ≡ record { resumed = rs; waves = ws.items })
      (files_behind rs some) a m b e one two

  pub run_unbegun : (a m : LedgerSight) (e : LaneFault) → Stretch resume_deed a m (Err e) → Stretch (run_deed verdicts files) a m (Err e)
  run_unbegun a m e one = stretch_cut_as resume_deed (run_deed verdicts files) (λ rs ran. ⊥) resume_cut a m e one

  -- what is said of a work behind the resuming is said by it
  module _ {D : Type 0} (device : Ghosts D) (before now : LedgerOf D) where
    abbrev K : Shape
    K = before.header.shape

    abbrev E : ℕ → List Record
    E = ledger_journals before

    abbrev X : ℕ → List Record
    X = ledger_journals now

    abbrev failed : ℕ → Type 0
    failed = HaveFailed (ledger_opened now) (ledger_faults now)

    abbrev holds : ℕ → ℕ → Type 0
    holds = MayHoldBytes (ledger_capacity now)

    keeps_of : {Done : Type 0} (d : Deed Done) (came : Result Done LaneFault) → Stretch d (ledger_sight device before) (ledger_sight device now) came
        → KeepsLedgerOf device before now
    keeps_of d came s = record {
      shape_same = s.shape_same;
      opened_same = s.is.opened_same;
      later = s.is.later;
      capacity_same = s.is.capacity_same;
      held = s.is.held;
    }

    leaves_of : (came : Result RanAll LaneFault) → Stretch (run_deed verdicts files) (ledger_sight device before) (ledger_sight device now) came
        → LeavesAll (files_deed verdicts files) K E X (ledger_flights before) (ledger_flights now) failed
    leaves_of came s = record {
      grows = s.is.grows;
      keeps = s.is.keeps;
      flies = s.is.flies;
      launches = s.is.launches;
      begun = λ limits. (let begun = s.is.begun limits in (inr (begun.0, begun.1), begun.2));
    }

    pub run_worked : (ran : RanAll) (ws : Vec Wave) → ws.items ≡ ran.waves
        → Stretch (run_deed verdicts files) (ledger_sight device before) (ledger_sight device now) (Ok ran)
        → HasRunWork device (files_deed verdicts files) before now ran.resumed (Ok ws)
    run_worked ran ws same s =
        let did = s.is.did in
        record {
          keeps_ledger = keeps_of (run_deed verdicts files) (Ok ran) s;
          checked = s.is.checked;
          quiet = s.is.quiet;
          leaves = leaves_of (Ok ran) s;
          well = record {
            middle = did.middle;
            behind = record { grows = did.grows; unprepared = did.unprepared; idle = did.back.idle; keeps = did.keeps; resumed = did.back.resumed };
            batches = did.back.told;
            well = record {
              idle = did.behind.idle;
              did = λ mint submissions kept. (
                did.behind.waves mint submissions kept,
                subst (λ l. TellFiles K verdicts files did.middle X l) (sym same) (did.behind.told mint submissions kept),
              );
            };
          };
          badly = tt;
        }

    ends_work : (e : LaneFault) → EndsRun verdicts files K E X failed holds e → EndsWork (files_deed verdicts files) K E X failed holds e
    ends_work e (inl alone) = inl alone
    ends_work e (inr (middle, grows, unprepared, idle, ends)) = inr (
      middle,
      grows,
      unprepared,
      idle,
      record {
        opened_at = ledger_opened now;
        faults_at = ledger_faults now;
        capacity_at = ledger_capacity now;
        fails = λ n inside did. did;
        holds = λ n c inside may. may;
        ends = ends;
      },
    )

    pub run_stopped : (resumed : List ResumedBatch) (e : LaneFault)
        → Stretch (run_deed verdicts files) (ledger_sight device before) (ledger_sight device now) (Err e)
        → HasRunWork device (files_deed verdicts files) before now resumed (Err e)
    run_stopped resumed e s = record {
      keeps_ledger = keeps_of (run_deed verdicts files) (Err e) s;
      checked = s.is.checked;
      quiet = tt;
      leaves = leaves_of (Err e) s;
      well = tt;
      badly = record { cause = s.is.cause; ends = ends_work e s.is.ends.0; rests = s.is.ends.1 };
    }
