-- Stretches of work, one behind another.
use Rattle.std.proofs.Common.{◌≡◌, ◌++◌, ℕ, List, Result, Ok, Err, refl, sym, ap, ◌∙◌, subst, arith}
use Rattle.std.specs.Prelude.{IfOk, IfErr, OnOk}
use Rattle.std.proofs.lemmas.List.{append_assoc}
use Rattle.cbdc_model.specs.Records.{Record}
use Rattle.cbdc_model.specs.Coins.{FullTx}
use Rattle.cbdc_model.specs.Lanes.{IsEnd}
use Rattle.cbdc_model.specs.World.{KeptJournals}
use Rattle.ledger_laws.proofs.Cuts.{end_self, end_trans}
use Rattle.lane_driver.specs.declared.fault.LaneFault.{LaneFault}
use Rattle.lane_driver.specs.declared.fault.LaneFaultKind.TheVariants.{Memory as NoMemory}
use Rattle.ledger_runs.specs.Flying.{AllMayCome}
use Rattle.ledger_runs.specs.Turning.{OfKept, StaysKept}
use Rattle.ledger_runs.specs.Faults.{IsRunCause, IsSomeCauseOf}
use Rattle.ledger_runs.proofs.Faulting.{run_moves}
use Rattle.ledger_runs.proofs.Launching.{launches_begin, launches_by, launches_on}
use Rattle.file_runs.proofs.Filing.{kept_more, stays_more}
use Rattle.file_runs.proofs.Flying.{may_more, flies_none}
use Rattle.file_runs.specs.Stretches.{LedgerSight, Deed, failed_at, may_hold_at, StretchOf, Stretch, Joint, Joins, Widens}

-- nothing was done
pub stretch_none : {Done : Type 0} (d : Deed Done) (s : LedgerSight) (came : Result Done LaneFault) → s.checked
    → d.begun s.shape s.journals s.journals → IfOk came (d.did s.shape s.journals s.journals)
    → IfErr came (IsRunCause s.shape (d.next s.shape s.journals s.journals) s.journals s.journals (failed_at s) (may_hold_at s))
    → IfErr came (d.ends s.shape s.journals s.journals (failed_at s) (may_hold_at s)) → Stretch d s s came
stretch_none d s came checked begun did cause ends = record {
  shape_same = refl;
  is = record {
    opened_same = λ n. refl;
    capacity_same = λ n. refl;
    later = λ n. omega arith;
    held = λ stored. stored;
    checked = checked;
    quiet = still came;
    grows = λ n. end_self (s.journals n);
    keeps = stays_more s.shape s.journals d.handed;
    flies = flies_none s.shape d.handed s.journals s.flights;
    launches = launches_begin s.shape (d.next s.shape s.journals s.journals) s.journals s.flights;
    begun = begun;
    did = did;
    cause = cause;
    ends = ends;
  };
}
  where
    still : {A B : Type 0} (r : Result A B) → OnOk r (s.quiet → s.quiet)
    still (Ok x) = λ was. was
    still (Err e) = tt

-- memory ran out behind it
pub stretch_short : {Done : Type 0} (d : Deed Done) (a b : LedgerSight) (x : Done) (e : LaneFault) → e.fault ≡ NoMemory → Stretch d a b (Ok x)
    → d.ends a.shape a.journals b.journals (failed_at b) (may_hold_at b) e → Stretch d a b (Err e)
stretch_short d a b x e memory s ends = record {
  shape_same = s.shape_same;
  is = record {
    opened_same = s.is.opened_same;
    capacity_same = s.is.capacity_same;
    later = s.is.later;
    held = s.is.held;
    checked = s.is.checked;
    quiet = tt;
    grows = s.is.grows;
    keeps = s.is.keeps;
    flies = s.is.flies;
    launches = s.is.launches;
    begun = s.is.begun;
    did = tt;
    cause = subst (λ k. IsSomeCauseOf a.shape (d.next a.shape a.journals b.journals) a.journals b.journals (failed_at b) (may_hold_at b) e.node k)
        (sym memory) tt;
    ends = ends;
  };
}

-- ---- one behind another

module _ {A B C : Type 0} (d : Deed A) (e : Deed B) (c : Deed C) (x : A) (gives : B → C → Type 0) (joins : Joins d e c x gives) (a m b : LedgerSight)
  where
    abbrev At : (ℕ → List Record) → Type 0
    At X = Joint d e a.shape x a.journals m.journals X

    joint : {Y : Type 0} (came : Result Y LaneFault) (l : Deed Y) → StretchOf d a.shape a m (Ok x)
        → (grows : (n : ℕ) → IsEnd (m.journals n) (b.journals n))
        → OfKept a.shape m.journals (λ mint submissions. StaysKept a.shape m.journals b.journals mint (submissions ++ e.handed))
        → e.begun a.shape m.journals b.journals → At b.journals
    joint came l one grows keeps begun = record {
      grows = one.grows;
      onward = grows;
      keeps = one.keeps;
      stays = keeps;
      did = one.did;
      begun = one.begun;
      begins = begun;
    }

    -- whatever came
    both : (came : Result B LaneFault) (all : Result C LaneFault) → StretchOf d a.shape a m (Ok x) → StretchOf e a.shape m b came
        → OnOk all (a.quiet → b.quiet)
        → IfOk all (c.did a.shape a.journals b.journals)
        → IfErr all (IsRunCause a.shape (c.next a.shape a.journals b.journals) a.journals b.journals (failed_at b) (may_hold_at b))
        → IfErr all (c.ends a.shape a.journals b.journals (failed_at b) (may_hold_at b)) → StretchOf c a.shape a b all
    both came all one two quiet did cause ends = record {
      opened_same = λ n. two.opened_same n ∙ one.opened_same n;
      capacity_same = λ n. two.capacity_same n ∙ one.capacity_same n;
      later = λ n. omega (arith, one.later n, two.later n);
      held = λ stored. two.held (one.held stored);
      checked = two.checked;
      quiet = quiet;
      grows = λ n. end_trans (a.journals n) (m.journals n) (b.journals n) (one.grows n) (two.grows n);
      keeps = λ mint submissions kept.
          let first = one.keeps mint submissions kept in
          let next = two.keeps mint (submissions ++ d.handed) first.kept in
          record {
            grows = λ n. end_trans (a.journals n) (m.journals n) (b.journals n) (first.grows n) (next.grows n);
            kept = subst (λ l. KeptJournals a.shape mint l b.journals) (all_handed submissions) next.kept;
          };
      flies = λ mint submissions kept may.
          subst (λ l. AllMayCome a.shape mint l b.journals b.flights) (all_handed submissions)
          (two.flies mint (submissions ++ d.handed) (one.keeps mint submissions kept).kept (one.flies mint submissions kept may));
      launches = launches_on a.shape (d.next a.shape a.journals m.journals) (e.next a.shape m.journals b.journals)
          (c.next a.shape a.journals b.journals) a.journals m.journals b.journals a.flights m.flights b.flights
          (λ lane txs inside none is. joins.next_still a.shape a.journals m.journals b.journals lane txs at inside none is)
          (λ lane txs inside is. joins.next_then a.shape a.journals m.journals b.journals lane txs at inside is) one.launches two.launches;
      begun = joins.begun a.shape a.journals m.journals b.journals at;
      did = did;
      cause = cause;
      ends = ends;
    }
      where
        at : At b.journals
        at = joint came e one two.grows two.keeps two.begun

        all_handed : (submissions : List FullTx) → (submissions ++ d.handed) ++ e.handed ≡ submissions ++ c.handed
        all_handed submissions = append_assoc submissions d.handed e.handed ∙ ap (λ l. submissions ++ l) joins.handed

    -- it came through
    pub stretch_on : (y : B) (z : C) → gives y z → Stretch d a m (Ok x) → Stretch e m b (Ok y) → Stretch c a b (Ok z)
    stretch_on y z given one two =
        let next : StretchOf e a.shape m b (Ok y) = subst (λ k. StretchOf e k m b (Ok y)) one.shape_same two.is in
        let at : At b.journals = joint (Ok y) e one.is next.grows next.keeps next.begun in
        record {
          shape_same = two.shape_same ∙ one.shape_same;
          is = both (Ok y) (Ok z) one.is next (λ was. next.quiet (one.is.quiet was))
              (joins.did a.shape a.journals m.journals b.journals y z at given next.did) tt tt;
        }

    -- a lane's fault ended it
    pub stretch_cut : (f : LaneFault) → Stretch d a m (Ok x) → Stretch e m b (Err f) → Stretch c a b (Err f)
    stretch_cut f one two =
        let next : StretchOf e a.shape m b (Err f) = subst (λ k. StretchOf e k m b (Err f)) one.shape_same two.is in
        let at : At b.journals = joint (Err f) e one.is next.grows next.keeps next.begun in
        record {
          shape_same = two.shape_same ∙ one.shape_same;
          is = both (Err f) (Err f) one.is next tt tt
              (run_moves a.shape (e.next a.shape m.journals b.journals) (c.next a.shape a.journals b.journals) m.journals a.journals b.journals
              (failed_at b) (failed_at b) (may_hold_at b) (may_hold_at b) one.is.grows
              (λ lane txs inside is. joins.next_then a.shape a.journals m.journals b.journals lane txs at inside is) (λ n did. did) (λ n c may. may) f
              next.cause)
              (joins.ends a.shape a.journals m.journals b.journals (failed_at b) (may_hold_at b) f at next.ends);
        }

-- ---- the same of another deed, which may hand in more

module _ {A C : Type 0} (d : Deed A) (c : Deed C) (gives : A → C → Type 0) (widens : Widens d c gives) (a b : LedgerSight) where
  wider : (came : Result A LaneFault) (all : Result C LaneFault) → StretchOf d a.shape a b came → OnOk all (a.quiet → b.quiet)
      → IfOk all (c.did a.shape a.journals b.journals)
      → IfErr all (IsRunCause a.shape (c.next a.shape a.journals b.journals) a.journals b.journals (failed_at b) (may_hold_at b))
      → IfErr all (c.ends a.shape a.journals b.journals (failed_at b) (may_hold_at b)) → StretchOf c a.shape a b all
  wider came all s quiet did cause ends = record {
    opened_same = s.opened_same;
    capacity_same = s.capacity_same;
    later = s.later;
    held = s.held;
    checked = s.checked;
    quiet = quiet;
    grows = s.grows;
    keeps = λ mint submissions kept.
        let stays = s.keeps mint submissions kept in
        record {
          grows = stays.grows;
          kept = subst (λ l. KeptJournals a.shape mint l b.journals) (all_handed submissions)
              (kept_more a.shape mint (submissions ++ d.handed) widens.more b.journals stays.kept);
        };
    flies = λ mint submissions kept may.
        subst (λ l. AllMayCome a.shape mint l b.journals b.flights) (all_handed submissions)
        (may_more a.shape mint (submissions ++ d.handed) widens.more b.journals b.flights (s.flies mint submissions kept may));
    launches = launches_by a.shape (d.next a.shape a.journals b.journals) (c.next a.shape a.journals b.journals) a.journals b.journals a.flights
        b.flights (λ lane txs inside is. widens.next a.shape a.journals b.journals lane txs inside is) s.launches;
    begun = widens.begun a.shape a.journals b.journals s.begun;
    did = did;
    cause = cause;
    ends = ends;
  }
    where
      all_handed : (submissions : List FullTx) → (submissions ++ d.handed) ++ widens.more ≡ submissions ++ c.handed
      all_handed submissions = append_assoc submissions d.handed widens.more ∙ ap (λ l. submissions ++ l) widens.handed

  pub stretch_as : (y : A) (z : C) → gives y z → Stretch d a b (Ok y) → Stretch c a b (Ok z)
  stretch_as y z given s = record {
    shape_same = s.shape_same;
    is = wider (Ok y) (Ok z) s.is s.is.quiet (widens.did a.shape a.journals b.journals y z given s.is.did) tt tt;
  }

  pub stretch_cut_as : (f : LaneFault) → Stretch d a b (Err f) → Stretch c a b (Err f)
  stretch_cut_as f s = record {
    shape_same = s.shape_same;
    is = wider (Err f) (Err f) s.is tt tt
        (run_moves a.shape (d.next a.shape a.journals b.journals) (c.next a.shape a.journals b.journals) a.journals a.journals b.journals
        (failed_at b) (failed_at b) (may_hold_at b) (may_hold_at b) (λ n. end_self (a.journals n))
        (λ lane txs inside is. widens.next a.shape a.journals b.journals lane txs inside is) (λ n did. did) (λ n c may. may) f s.is.cause)
        (widens.ends a.shape a.journals b.journals (failed_at b) (may_hold_at b) f s.is.begun s.is.ends);
  }
