-- Client files as what a command does over a ledger: what they leave, and what that is of the journals at entry.
use Rattle.std.proofs.Common.{◌≡◌, inl, inr, ℕ, ◌*◌, ◌<◌, ◌==◌, false, List, [], ◌∷◌, ◌++◌, length, reverse, Bool, Option, Result, Ok, Err, refl, sym}
use Rattle.std.proofs.Common.{ap, ◌∙◌, subst, arith}
use Rattle.std.specs.Prelude.{IfOk, IfErr}
use Rattle.std.specs.Global.{Vec}
use Rattle.outside.specs.declared.disk.Disk.{Ghosts}
use Rattle.cbdc_model.specs.Records.{Shape, Compact, Record}
use Rattle.cbdc_model.specs.Coins.{Output, FullTx}
use Rattle.cbdc_model.specs.Lanes.{IsEnd}
use Rattle.cbdc_model.specs.World.{AreIdle, KeptJournals}
use Rattle.cbdc_model.specs.Waves.{IsResumed, Waves, sent_to}
use Rattle.ledger_laws.proofs.Cuts.{end_self, end_trans}
use Rattle.run_laws.proofs.NewBatches.{new_batches, open_batches}
use Rattle.run_laws.proofs.WaveTurns.{waves_begin_law}
use Rattle.lane_driver.specs.declared.fault.LaneFault.{LaneFault}
use Rattle.submissions.specs.Checks.{VerdictsOf, TellsSound}
use Rattle.submissions.specs.SoundTest.{sound_by}
use Rattle.submissions.proofs.Telling.{is_sound_law}
use Rattle.ledger_runs.specs.Turning.{IsLaneOf, OfKept, StaysKept}
use Rattle.ledger_runs.specs.Flying.{Launches}
use Rattle.ledger_runs.specs.Telling.{SamePrepared, TellResumed}
use Rattle.ledger_runs.specs.Faults.{IsRunCause, HaveFailed, MayHoldBytes, LanesRest}
use Rattle.ledger_runs.specs.Least.{IsLeastFault, IsLeastOpen}
use Rattle.ledger_runs.proofs.Launching.{launches_begin}
use Rattle.ledger_runs.proofs.Keeping.{ledger_same}
use Rattle.file_runs.specs.Ledgers.{LedgerOf, ledger_journals, ledger_flights, ledger_faults, ledger_opened, ledger_capacity, IsChecked}
use Rattle.file_runs.specs.Deeds.{DidFiles, files_deed as filed}
use Rattle.file_runs.specs.Stretches.{ledger_sight, Stretch}
use Rattle.file_runs.specs.declared.waves.Wave.{Wave}
use Rattle.file_runs.specs.declared.ran.Ran.{Ran}
use Rattle.file_runs.specs.Runs.{joined, IsSentPiece, HaveBegunFiles, IsFilesPiece, FliesWith}
use Rattle.file_runs.specs.Endings.{HasRunOrMet, EndsWave, EndsFirst, EndsFiles, AreRunOrCut}
use Rattle.file_runs.specs.Telling.{TellFiles}
use Rattle.file_runs.proofs.Filing.{stays_more}
use Rattle.file_runs.proofs.Flying.{flies_none}
use Rattle.file_runs.proofs.Pieces.{files_unbegun}
use Rattle.printed_lines.specs.Unspent.{IsUnspentCount}
use Rattle.cbdc_model.specs.Ranges.{node_count}
use Rattle.rack_runs.specs.Endings.{EndsRun, IsRunOrCut}
use Rattle.rack_runs.specs.Runs.{AllRan, AllResumed, IsCutWaves, NonePrepared, NothingNext, PieceNext, PiecesPrepared}
use Rattle.rack_runs.specs.Telling.{IsRunTold}
use Rattle.rack_runs.specs.Works.{LeavesWork, WorkEndsWell, EndsBadly, HasWorked, BeginsWork, EndsWork, CameThrough, HasEndedWork}
use Rattle.rack_runs.specs.Deeds.{files_deed, no_deed}
use Rattle.rack_runs.specs.declared.told.Told.{Told}
use Rattle.rack_runs.proofs.Answering.{cause_by}
use Rattle.rack_runs.proofs.Working.{only_open}

pub some_of : (n : ℕ) → (n == 0) ≡ false → 0 < n
some_of n e = grind (arith, e)

pub none_of : {A : Type 0} (xs : List A) → length xs ≡ 0 → xs ≡ []
none_of [] e = refl
none_of (x ∷ xs) e = absurd (omega (arith, e))

-- ---- behind a resuming

-- submissions of files that were run behind it
pub over_keeps : (K H : Shape) (files : List (List FullTx)) (I M J : ℕ → List Record) → H ≡ K → OfKept K I (StaysKept K I M)
    → OfKept H M (λ mint submissions. StaysKept H M J mint (submissions ++ joined files))
    → OfKept K I (λ mint submissions. StaysKept K I J mint (submissions ++ joined files))
over_keeps K H files I M J e one two mint submissions kept =
    let a = one mint submissions kept in
    let b = subst (λ k. OfKept k M (λ m s. StaysKept k M J m (s ++ joined files))) e two mint submissions a.kept in
    record { grows = λ n. end_trans (I n) (M n) (J n) (a.grows n) (b.grows n); kept = b.kept }

-- files behind the open batches, run or cut short
pub over_cuts : (K H : Shape) (verdicts : VerdictsOf) (files : List (List FullTx)) (I M J : ℕ → List Record) → H ≡ K → 0 < length files
    → OfKept K I (StaysKept K I M) → OfKept K I (λ _ _. IsResumed K I M)
    → OfKept H M (λ mint _. (sound : FullTx → Bool) (E : ℕ → List Record) → TellsSound verdicts sound → IsResumed H E M
    → AreRunOrCut H sound files mint E J)
    → OfKept K I (λ mint _. (sound : FullTx → Bool) → TellsSound verdicts sound → IsRunOrCut K sound files mint I J)
over_cuts K H verdicts files I M J e some one resumed two mint submissions kept sound tells = inr (
  some,
  subst (λ k. OfKept k M (λ mint _. (test : FullTx → Bool) (E : ℕ → List Record) → TellsSound verdicts test → IsResumed k E M
      → AreRunOrCut k test files mint E J)) e two mint submissions (one mint submissions kept).kept
      sound I tells (resumed mint submissions kept),
)

-- kept journals that were cut short have grown in the order of open batches and files
pub cut_waves : (K : Shape) (verdicts : VerdictsOf) (files : List (List FullTx)) (E X : ℕ → List Record) → 0 < K.shards → 0 < K.lanes
    → OfKept K E (λ mint submissions. StaysKept K E X mint (submissions ++ joined files))
    → OfKept K E (λ mint _. (sound : FullTx → Bool) → TellsSound verdicts sound → IsRunOrCut K sound files mint E X)
    → OfKept K E (λ _ _. (sound : FullTx → Bool) → TellsSound verdicts sound → IsCutWaves K sound files E X)
cut_waves K verdicts files E X shards lanes keeps cut mint submissions kept sound tells = elim (cut mint submissions kept sound tells) [
  | inl same ↦ inl (open_batches K mint submissions (submissions ++ joined files) E X shards kept stays.kept stays.grows same)
  | inr c ↦
      let a = c.1 in
      inr (
        c.0,
        a.done,
        a.more,
        a.middle,
        a.are,
        a.waves,
        new_batches K mint a.submissions (submissions ++ joined files) a.middle X shards a.kept stays.kept a.onward lanes a.idle,
        a.first,
      )
]
  where
    stays : StaysKept K E X mint (submissions ++ joined files)
    stays = keeps mint submissions kept

-- where open batches were brought to their end nothing was begun
pub resumed_begun : (K : Shape) (verdicts : VerdictsOf) (files : List (List FullTx)) (E M : ℕ → List Record) → SamePrepared K E M → 0 < K.batch
    → HaveBegunFiles K verdicts files E M
resumed_begun K verdicts files E M same some lane inside sound tells =
    let (done, more, pieces, none) = files_unbegun K verdicts files E some lane inside sound tells in (done, more, pieces, same lane ∙ none)

-- and what was begun behind that is begun of all
pub filed_begun : (K H : Shape) (verdicts : VerdictsOf) (files : List (List FullTx)) (E M X : ℕ → List Record) → H ≡ K → SamePrepared K E M
    → (0 < H.batch → HaveBegunFiles H verdicts files M X)
    → 0 < K.batch → HaveBegunFiles K verdicts files E X
filed_begun K H verdicts files E M X same unprepared begun some lane inside sound tells =
    let (done, more, pieces, has) = subst (λ k. 0 < k.batch → HaveBegunFiles k verdicts files M X) same begun some lane inside sound tells in
    (done, more, pieces, has ∙ ap (λ ps. reverse done ++ ps) (unprepared lane))

-- the next piece is so from the journals at entry
pub files_since : (verdicts : VerdictsOf) (files : List (List FullTx)) (K : Shape) (E M X : ℕ → List Record) → SamePrepared K E M
    → (lane : ℕ) (txs : List Compact) → IsLaneOf K lane → PieceNext verdicts files K M X lane txs → PieceNext verdicts files K E X lane txs
files_since verdicts files K E M X unprepared lane txs inside piece sound tells =
    let p = piece sound tells in
    (p.0, p.1, (p.2.0, p.2.1, p.2.2, p.2.3 ∙ ap (λ ps. reverse p.2.0 ++ ps) (unprepared lane)))

-- ---- what files leave

-- where there are none
pub none_leave : (verdicts : VerdictsOf) (files : List (List FullTx)) (K : Shape) (M : ℕ → List Record) (F : ℕ → Option Record) (failed : ℕ → Type 0)
    → AreIdle K M
    → LeavesWork (files_deed verdicts files) K M M F F failed
none_leave verdicts files K M F failed idle = record {
  grows = λ n. end_self (M n);
  keeps = stays_more K M (joined files);
  flies = flies_none K (joined files) M F;
  launches = launches_begin K (PieceNext verdicts files K M M) M F;
  rests = λ lane inside. inl (inl (idle lane inside));
  since = λ E behind. files_since verdicts files K E M M behind.unprepared;
  begun = λ limits E behind. (
    resumed_begun K verdicts files E M behind.unprepared limits.some_batch,
    λ mint submissions kept sound tells. inl ((only_open K E M limits behind.unprepared behind.keeps).adds mint submissions kept),
  );
}

pub none_end : (verdicts : VerdictsOf) (files : List (List FullTx)) (K : Shape) (M : ℕ → List Record) (waves : Vec Wave) → files ≡ []
    → waves.items ≡ [] → AreIdle K M
    → WorkEndsWell (files_deed verdicts files) K M M waves
none_end verdicts files K M waves none nothing idle = record {
  idle = idle;
  did = λ mint submissions kept. (
    λ sound E tells resumed. subst (λ fs. Waves K sound fs E M) (sym none) (waves_begin_law K sound E M resumed),
    subst (λ fs. TellFiles K verdicts fs M M waves.items) (sym none) (nothing, λ n. refl),
  );
}

-- where there are some
pub files_leave : (verdicts : VerdictsOf) (files : List (List FullTx)) (K : Shape) (M X : ℕ → List Record) (F G : ℕ → Option Record)
    (failed : ℕ → Type 0) → 0 < length files
    → ((n : ℕ) → IsEnd (M n) (X n)) → OfKept K M (λ mint submissions. StaysKept K M X mint (submissions ++ joined files))
    → OfKept K M (FliesWith K (joined files) M X F G)
    → Launches K (IsFilesPiece K verdicts files M X) M X F G → LanesRest K X failed → (0 < K.batch → HaveBegunFiles K verdicts files M X)
    → OfKept K M (λ mint _. (sound : FullTx → Bool) (E : ℕ → List Record) → TellsSound verdicts sound → IsResumed K E M
    → AreRunOrCut K sound files mint E X)
    → LeavesWork (files_deed verdicts files) K M X F G failed
files_leave verdicts files K M X F G failed some grows keeps flies launches rests begun cut = record {
  grows = grows;
  keeps = keeps;
  flies = flies;
  launches = launches;
  rests = rests;
  since = λ E behind. files_since verdicts files K E M X behind.unprepared;
  begun = λ limits E behind. (
    filed_begun K K verdicts files E M X refl behind.unprepared begun limits.some_batch,
    cut_waves K verdicts files E X limits.some_shard limits.some_lane (over_keeps K K files E M X refl behind.keeps keeps)
        (over_cuts K K verdicts files E M X refl some behind.keeps behind.resumed cut),
  );
}

-- and that is a work
pub files_worked : {D : Type 0} (device : Ghosts D) (verdicts : VerdictsOf) (files : List (List FullTx)) (l now : LedgerOf D)
    (came : Result (Vec Wave) LaneFault) → 0 < length files
    → Stretch (filed verdicts files) (ledger_sight device l) (ledger_sight device now) came → HasWorked device (files_deed verdicts files) l now came
files_worked device verdicts files l now came some s = record {
  keeps_ledger = record {
    shape_same = s.shape_same;
    opened_same = s.is.opened_same;
    later = s.is.later;
    capacity_same = s.is.capacity_same;
    held = s.is.held;
  };
  checked = s.is.checked;
  quiet = s.is.quiet;
  leaves = files_leave verdicts files K M X (ledger_flights l) (ledger_flights now) failed some s.is.grows s.is.keeps s.is.flies s.is.launches
      (rest came s.is.did s.is.ends) s.is.begun.0 s.is.begun.1;
  well = well came s.is.did;
  badly = badly came s.is.cause s.is.ends;
}
  where
    K : Shape
    K = l.header.shape

    M : ℕ → List Record
    M = ledger_journals l

    X : ℕ → List Record
    X = ledger_journals now

    failed : ℕ → Type 0
    failed = HaveFailed (ledger_opened now) (ledger_faults now)

    holds : ℕ → ℕ → Type 0
    holds = MayHoldBytes (ledger_capacity now)

    rest : (o : Result (Vec Wave) LaneFault) → IfOk o (λ ws. DidFiles K verdicts files M X ws.items)
        → IfErr o (λ e. EndsFiles K verdicts files M X failed holds e × LanesRest K X failed) → LanesRest K X failed
    rest (Ok ws) did ends lane inside = inl (inl (did.idle lane inside))
    rest (Err e) did ends lane inside = ends.1 lane inside

    well : (o : Result (Vec Wave) LaneFault) → IfOk o (λ ws. DidFiles K verdicts files M X ws.items)
        → IfOk o (WorkEndsWell (files_deed verdicts files) K M X)
    well (Ok ws) did = record { idle = did.idle; did = λ mint submissions kept. (did.waves mint submissions kept, did.told mint submissions kept) }
    well (Err e) did = tt

    badly : (o : Result (Vec Wave) LaneFault) → IfErr o (IsRunCause K (IsFilesPiece K verdicts files M X) M X failed holds)
        → IfErr o (λ e. EndsFiles K verdicts files M X failed holds e × LanesRest K X failed)
        → IfErr o (EndsBadly (files_deed verdicts files) K M X failed holds)
    badly (Ok ws) cause ends = tt
    badly (Err e) cause ends = record { cause = cause; ends = ends.0 }

-- ---- whose fault ends them, by what is known of the nodes of the ledger otherwise

module _ (K : Shape) (failed fails : ℕ → Type 0) (holds held : ℕ → ℕ → Type 0)
    (failed_on : (n : ℕ) → n < node_count K → failed n → fails n) (held_on : (n c : ℕ) → n < node_count K → holds n c → held n c) where
  met_by : (sent : ℕ → List Compact) (next : ℕ → List Compact → Type 0) (I J : ℕ → List Record) (lane : ℕ) → IsLaneOf K lane
      → HasRunOrMet K lane (sent lane) (next lane) I J failed holds → HasRunOrMet K lane (sent lane) (next lane) I J fails held
  met_by sent next I J lane inside (inl ran) = inl ran
  met_by sent next I J lane inside (inr (own, cause)) =
      inr (own, cause_by K failed fails holds held failed_on held_on lane (next lane) I J inside own.node own.fault cause)

  least_fault_by : (sent : ℕ → List Compact) (next : ℕ → List Compact → Type 0) (I J : ℕ → List Record) (e : LaneFault)
      → IsLeastFault K sent next I J failed holds e → IsLeastFault K sent next I J fails held e
  least_fault_by sent next I J e h = record {
    lane = h.lane;
    is_lane = h.is_lane;
    cause = cause_by K failed fails holds held failed_on held_on h.lane (next h.lane) I J h.is_lane e.node e.fault h.cause;
    lesser = h.lesser;
  }

  wave_by : (sent : ℕ → List Compact) (next : ℕ → List Compact → Type 0) (I J : ℕ → List Record) (e : LaneFault)
      → EndsWave K sent next I J failed holds e → EndsWave K sent next I J fails held e
  unfolding least_fault_by
  wave_by sent next I J e h = record {
    least = least_fault_by sent next I J e h.least;
    greater = λ lane inside low. met_by sent next I J lane inside (h.greater lane inside low);
  }

  first_by : (verdicts : VerdictsOf) (more : List (List FullTx)) (I J : ℕ → List Record) (e : LaneFault)
      → EndsFirst K verdicts more I J failed holds e → EndsFirst K verdicts more I J fails held e
  first_by verdicts [] I J e h = h
  first_by verdicts (file ∷ more) I J e (inl none, begun) = (inl none, begun)
  first_by verdicts (file ∷ more) I J e (inr least, begun) =
      (inr (λ sound tells. wave_by (sent_to K sound file) (IsSentPiece K verdicts file I J) I J e (least sound tells)), begun)

  files_by : (verdicts : VerdictsOf) (files : List (List FullTx)) (I J : ℕ → List Record) (e : LaneFault)
      → EndsFiles K verdicts files I J failed holds e → EndsFiles K verdicts files I J fails held e
  files_by verdicts files I J e h = record {
    done = h.done;
    more = h.more;
    are = h.are;
    middle = h.middle;
    grows = h.grows;
    onward = h.onward;
    before = h.before;
    idle = h.idle;
    ends = first_by verdicts h.more h.middle J e h.ends;
  }

pub ends_run : (verdicts : VerdictsOf) (files : List (List FullTx)) (K : Shape) (E X : ℕ → List Record) (failed : ℕ → Type 0)
    (holds : ℕ → ℕ → Type 0) (e : LaneFault)
    → EndsWork (files_deed verdicts files) K E X failed holds e → EndsRun verdicts files K E X failed holds e
ends_run verdicts files K E X failed holds e (inl alone) = inl alone
ends_run verdicts files K E X failed holds e (inr (middle, grows, unprepared, idle, by)) = inr (
  middle,
  grows,
  unprepared,
  idle,
  files_by K (HaveFailed by.opened_at by.faults_at) failed (MayHoldBytes by.capacity_at) holds by.fails by.holds verdicts files middle X e by.ends,
)

pub begun_run : (verdicts : VerdictsOf) (files : List (List FullTx)) (K : Shape) (E X : ℕ → List Record)
    → BeginsWork (files_deed verdicts files) K E X → PiecesPrepared verdicts files K E X
begun_run verdicts files K E X (inl alone, order) = (
  resumed_begun K verdicts files E X alone.unprepared alone.limits.some_batch,
  λ mint submissions kept sound tells. inl (alone.adds mint submissions kept),
  order,
)
begun_run verdicts files K E X (inr begun, order) = (begun.0, begun.1, order)

pub ends_none : (K : Shape) (E X : ℕ → List Record) (failed : ℕ → Type 0) (holds : ℕ → ℕ → Type 0) (e : LaneFault)
    → EndsWork no_deed K E X failed holds e → IsLeastOpen K E X failed holds e
ends_none K E X failed holds e (inl alone) = alone.1
ends_none K E X failed holds e (inr (middle, grows, unprepared, idle, by)) = absurd by.ends

pub begun_none : (K : Shape) (E X : ℕ → List Record) → BeginsWork no_deed K E X → NonePrepared K E X
begun_none K E X (inl alone, order) = (λ lane inside. alone.unprepared lane, alone.adds, order)
begun_none K E X (inr alone, order) = (λ lane inside. alone.unprepared lane, alone.adds, order)

pub through_run : (verdicts : VerdictsOf) (files : List (List FullTx)) (K : Shape) (E X : ℕ → List Record)
    → CameThrough (files_deed verdicts files) K E X → AllRan verdicts files K E X
through_run verdicts files K E X all =
    let w = all.well in (
      w.well.idle,
      λ mint submissions kept sound tells. (w.well.did mint submissions (w.behind.keeps mint submissions kept).kept).0 sound E tells
          (w.behind.resumed mint submissions kept),
    )

pub through_none : (K : Shape) (E X : ℕ → List Record) → CameThrough no_deed K E X → AllResumed K E X
through_none K E X all =
    let w = all.well in
    let ends : w.middle ≡ X = λ i n. sym (w.well.did n) i in
    (w.well.idle, λ mint submissions kept. subst (λ L. IsResumed K E L) ends (w.behind.resumed mint submissions kept))

-- ---- what they did

pub told_run : {D : Type 0} (device : Ghosts D) (held : ℕ → Option D) (verdicts : VerdictsOf) (files : List (List FullTx)) (told : Told (Vec Wave))
    (ran : Ran)
    → (ran.resumed ≡ told.resumed) × (ran.waves ≡ told.done) × (ran.unspent ≡ told.unspent)
    → (K : Shape) (mint : List Output) (submissions : List FullTx) (E : ℕ → List Record) → KeptJournals K mint submissions E
    → HasEndedWork device held (files_deed verdicts files) told K mint submissions E → IsRunTold device held verdicts files ran K mint submissions E
told_run device held verdicts files told ran same K mint submissions E kept h =
    let w = h.well in
    let did = w.well.did mint submissions (w.behind.keeps mint submissions kept).kept in
    let back : IsResumed K E w.middle = w.behind.resumed mint submissions kept in
    record {
      run = record {
        exit = h.exit;
        grown = h.grown;
        disks = h.disks;
        rooms = h.rooms;
        resumed = λ none.
            let none_ran : TellFiles K verdicts [] w.middle h.exit told.done.items =
            subst (λ fs. TellFiles K verdicts fs w.middle h.exit told.done.items) none did.1 in
            subst (λ L. IsResumed K E L) (λ i n. sym (none_ran.1 n) i) back;
        waves = did.0 (sound_by verdicts) E (is_sound_law verdicts) back;
        in_order = h.in_order;
        headline = h.headline;
      };
      tells = record {
        middle = w.middle;
        grows = w.behind.grows;
        batches = subst (λ rs. TellResumed K E w.middle (K.coordinators * K.lanes) rs.items) (sym same.0) (w.batches mint submissions kept);
        unprepared = w.behind.unprepared;
        told = subst (λ ws. TellFiles K verdicts files w.middle h.exit ws.items) (sym same.1) did.1;
      };
      unspent = subst (λ n. IsUnspentCount K h.exit n) (sym same.2) h.unspent;
    }

pub told_none : {D : Type 0} (device : Ghosts D) (held : ℕ → Option D) (verdicts : VerdictsOf) (told : Told (Unit {0})) (ran : Ran)
    → (ran.resumed ≡ told.resumed) × (ran.waves.items ≡ []) × (ran.unspent ≡ told.unspent)
    → (K : Shape) (mint : List Output) (submissions : List FullTx) (E : ℕ → List Record) → KeptJournals K mint submissions E
    → HasEndedWork device held no_deed told K mint submissions E → IsRunTold device held verdicts [] ran K mint submissions E
told_none device held verdicts told ran same K mint submissions E kept h =
    let w = h.well in
    let ends : w.middle ≡ h.exit = λ i n. sym (w.well.did n) i in
    let back : IsResumed K E h.exit = subst (λ L. IsResumed K E L) ends (w.behind.resumed mint submissions kept) in
    record {
      run = record {
        exit = h.exit;
        grown = h.grown;
        disks = h.disks;
        rooms = h.rooms;
        resumed = λ none. back;
        waves = waves_begin_law K (sound_by verdicts) E h.exit back;
        in_order = h.in_order;
        headline = h.headline;
      };
      tells = record {
        middle = w.middle;
        grows = w.behind.grows;
        batches = subst (λ rs. TellResumed K E w.middle (K.coordinators * K.lanes) rs.items) (sym same.0) (w.batches mint submissions kept);
        unprepared = w.behind.unprepared;
        told = (same.1, w.well.did);
      };
      unspent = subst (λ n. IsUnspentCount K h.exit n) (sym same.2) h.unspent;
    }

-- nothing is done: what that leaves
nothing_leaves : (K : Shape) (M : ℕ → List Record) (F : ℕ → Option Record) (failed : ℕ → Type 0) → AreIdle K M → LeavesWork no_deed K M M F F failed
nothing_leaves K M F failed idle = record {
  grows = λ n. end_self (M n);
  keeps = stays_more K M [];
  flies = flies_none K [] M F;
  launches = launches_begin K (NothingNext K M M) M F;
  rests = λ lane inside. inl (inl (idle lane inside));
  since = λ E behind lane txs inside none. none;
  begun = λ limits E behind. only_open K E M limits behind.unprepared behind.keeps;
}

-- and that is a work
pub nothing_worked : {D : Type 0} (device : Ghosts D) (l : LedgerOf D) → AreIdle l.header.shape (ledger_journals l) → IsChecked l
    → HasWorked device no_deed l l (Ok tt)
nothing_worked device l idle checked = record {
  keeps_ledger = ledger_same l;
  checked = checked;
  quiet = λ was. was;
  leaves = nothing_leaves l.header.shape (ledger_journals l) (ledger_flights l) (HaveFailed (ledger_opened l) (ledger_faults l)) idle;
  well = record { idle = idle; did = λ n. refl };
  badly = tt;
}
