-- What a workload's run and audit come to, over nodes in memory.
use Rattle.std.proofs.Common.{◌≡◌, Bool, inl, inr, ◌<◌, ◌≤◌, ◌+◌, ◌*◌, ◌++◌, ℕ, List, [], length, reverse, Option, Some, None, IsSome, refl, sym, ap}
use Rattle.std.proofs.Common.{◌∙◌, subst, arith}
use Rattle.std.proofs.lemmas.Bool.{cases_lt}
use Rattle.std.proofs.lemmas.List.FromFn.{length-map-range_with_len}
use Rattle.outside.specs.declared.disk.Disk.{Ghosts}
use Rattle.cbdc_types.specs.Limits.{IsWithinLimits}
use Rattle.cbdc_types.specs.declared.answer.Answer.{Answer}
use Rattle.cbdc_types.specs.declared.answer.Answer.TheVariants as answers
use Rattle.cbdc_types.specs.declared.answer.UnsoundKind.{UnsoundKind}
use Rattle.cbdc_model.specs.Records.{Shape, Record, Row, journal}
use Rattle.cbdc_model.specs.Coins.{Output, FullTx, genesis_id}
use Rattle.cbdc_model.specs.Due.{used_of}
use Rattle.cbdc_model.specs.History.{header_of}
use Rattle.cbdc_model.specs.Lanes.{IsEnd}
use Rattle.cbdc_model.specs.Ranges.{home_of, node_count}
use Rattle.cbdc_model.specs.Slots.{slot}
use Rattle.cbdc_model.specs.World.{KeptJournals, AreIdle}
use Rattle.mirror_devices.specs.declared.mirror_rack.MirrorRack.{MirrorRack}
use Rattle.mem_devices.specs.Places.{faults_at}
use Rattle.mirror_devices.specs.MirrorRacks.{PlainMirror, NoMirrorOut, mirror_at, plain_mirror}
use Rattle.ledger_laws.proofs.Recovery.{idle_law}
use Rattle.ledger_init.specs.Made.{HoldsFirst, first_record_of}
use Rattle.rack_ledgers.proofs.Once.{opens_once_law}
use Rattle.submissions.specs.SoundTest.{sound_by}
use Rattle.submissions.proofs.Telling.{is_sound_law}
use Rattle.submissions.specs.Checks.{TellsSound}
use Rattle.input_files.specs.Contents.{all_txs}
use Rattle.cbdc_types.specs.declared.answer.Totals.{Totals}
use Rattle.audit.specs.declared.verdict.Verdict.{Verdict}
use Rattle.audit.specs.declared.verdict.Verdict.TheVariants.{Sound, Unsound}
use Rattle.audit.specs.Verdicts.{IsVerdict}
use Rattle.rack_ledgers.specs.Caused.{IsToldHistory}
use Rattle.rack_ledgers.specs.Audited.{IsAudited}
use Rattle.rack_laws.specs.Shown.{Shows, HoldsEach}
use Rattle.rack_ledgers.specs.Racked.{SameRoom}
use Rattle.rack_runs.specs.Runs.{file_turns}
use Rattle.rack_runs.specs.Stops.{WhyNoTurns}
use Rattle.file_runs.specs.declared.ran.Ran.{Ran}
use Rattle.file_runs.specs.Telling.{TellsRun}
use Rattle.line_text.specs.Lines.{summary_text}
use Rattle.printed_lines.specs.Decided.{new_batches}
use Rattle.line_text.specs.Reports.{audit_text}
use Rattle.printed_lines.specs.Runs.{is_confirmed, is_rejected, is_refused, count_in}
use Rattle.printed_lines.specs.Unspent.{IsUnspentCount}
use Rattle.workload.specs.Generator.{mint_of, minted_of, joined_of, split_of, join_of}
use Rattle.audit_command.specs.Audits.{IsUnsoundBy}
use Rattle.command_answers.specs.Causes.{IsAnswerToRequest}
use Rattle.run_lines.specs.Told.{IsCountable, numbers_of}
use Rattle.audit.specs.declared.parts.PartVerdict.TheVariants.{Unsound as UnsoundPart}
use Rattle.requests.specs.declared.GenOptions.{GenOptions}
use Rattle.gen_command.specs.Watched.{cut_text, IsCutTold, WhyNoCut}
use Rattle.gen_command.specs.Generated.{all_good, files_of, all_submissions, made_for, IsWorkloadRun, HasVerdictOf, EndsWorkload, batches_for}
use Rattle.gen_command.specs.Generated.{IsWorkloadText, StandsOnMirrors, IsUnsoundWorkload, WhyNoWorkload}
use Rattle.submission_laws.specs.Files.{mint_journals}
use Rattle.gen_command.specs.InMemory.{AreDisksReady, AreMirrorsEmpty, HaveRoomForFiles, TellsRunOf, IsWorkloadResult, IsCheckedSound, IsUnchecked}
use Rattle.gen_command.specs.InMemory.{mirror_disks}
use Rattle.mirror_devices.proofs.Blank.{tells, holds_within}
use Rattle.gen_command.proofs.FirstShown.{kept_journal, kept_beyond, first_kept, first_shown}
use Rattle.gen_command.proofs.Memory.{none_rose, there}
use Rattle.rack_laws.specs.Ready.{NoneRises, ShowsKept, limit_at}
use Rattle.rack_laws.proofs.Caused.{unsound_none}
use Rattle.rack_runs.proofs.Lanes.{run_none}
use Rattle.rack_laws.proofs.Openings.{unopened_none}
use Rattle.rack_laws.proofs.KeptRooms.{ample_rooms, idle_rooms, more_room, used_within}
use Rattle.rack_laws.proofs.Sound.{never_unsound}
use Rattle.run_lines.proofs.Numbers.{run_numbers, countable}
use Rattle.gen_command.proofs.Cut.{batches_are_cut}
use Rattle.gen_command.proofs.Refused.{none_open, none_refused, all_decided}
use Rattle.gen_command.proofs.Workloads.{few}
use Rattle.gen_command.proofs.OneText.{one_text}
use Rattle.gen_command.proofs.Looked.{has_cut, is_value, never_unsound_cut, value_told}

-- a workload has so many transactions
all_few : (seed n : ℕ) → n ≤ 10000 → all_txs (files_of seed n) ≤ 1000000
all_few seed n small =
    let a = length-map-range_with_len (split_of seed n (genesis_id (mint_of seed n))) 0 (minted_of n) in
    let b = length-map-range_with_len (join_of seed n (genesis_id (mint_of seed n))) 0 (joined_of n) in
    omega (arith, small, a, b)

-- the ledger that disks show
module _ {D : Type 0} (device : Ghosts D) (held : ℕ → Option D) (K : Shape) (mint : List Output) (submissions : List FullTx) (X : ℕ → List Record)
    (within : IsWithinLimits K) (minted_few : length mint ≤ 1000000) (kept : KeptJournals K mint submissions X) where
  pub shown : HoldsEach device held K X → ((n : ℕ) → n < node_count K
      → (d : D) × (held n ≡ Some d) × ((c : List ℕ) × (device.content d ≡ Some c) × device.images d c)) → Shows device held K (genesis_id mint) X
  shown disks tells n inside =
      let t = tells n inside in (
        t.0,
        t.1,
        (
          t.2.0,
          t.2.1,
          record {
            opens = disks n inside t.0 t.1 t.2.0 t.2.2;
            limits = within;
            journal = kept_journal K mint within minted_few submissions X kept n inside;
            kind = tt;
          },
        ),
      )

  -- the history that was told is that of its journals
  module _ (shows : Shows device held K (genesis_id mint) X) (shape : Shape) (rows : List Row)
      (history : IsToldHistory device held shape (genesis_id mint) rows) where
    same_at : (n : ℕ) → n < node_count K → n < node_count shape
        → (header_of shape (genesis_id mint) n ≡ header_of K (genesis_id mint) n) × (journal n (reverse rows) ≡ X n)
    same_at n inside there =
        let s = shows n inside in
        let one = history.opened n there s.0 s.1 s.2.0 s.2.1 in
        opens_once_law (header_of shape (genesis_id mint) n) (header_of K (genesis_id mint) n) (journal n (reverse rows)) (X n) s.2.0 history.limits
        within one.journal s.2.2.journal one.opens s.2.2.opens

    pub shape_is : shape ≡ K
    shape_is =
        let limits = history.limits in
        ap (λ h. h.shape) (same_at 0 (omega (arith, within.some_coordinator)) (omega (arith, limits.some_coordinator))).0

    pub journals_are : (n : ℕ) → journal n (reverse rows) ≡ X n
    journals_are n = elim (cases_lt n (node_count K)) [
      | inl inside ↦ (same_at n inside (subst (λ k. n < node_count k) (sym shape_is) inside)).1
      | inr past ↦ history.others n (subst (λ k. node_count k ≤ n) (sym shape_is) past)
          ∙ sym (kept_beyond K mint within minted_few submissions X kept n past)
    ]

  pub verdict_of : Shows device held K (genesis_id mint) X → (handed : List FullTx) (verdict : Verdict) → IsAudited device held mint handed verdict
      → HasVerdictOf K mint handed X verdict
  verdict_of shows handed verdict audited = record {
    rows = audited.rows;
    journals_are = journals_are shows audited.shape audited.rows audited.history;
    ordered = audited.history.ordered;
    is = subst (λ k. IsVerdict k mint handed audited.rows verdict) (shape_is shows audited.shape audited.rows audited.history) audited.is;
  }

module _ (K : Shape) (seed n : ℕ) (within : IsWithinLimits K) (small : n ≤ 10000) (X : ℕ → List Record) (ran : Ran)
    (told : TellsRun K all_good (files_of seed n) (made_for K seed n) X ran.resumed.items ran.waves.items) where
  tests : TellsSound all_good (sound_by all_good)
  tests = is_sound_law all_good

  pub is_countable : IsCountable ran
  is_countable = countable K all_good (files_of seed n) (all_few seed n small) within (made_for K seed n) X ran told (sound_by all_good) tests

  pub ends_run : ((node : ℕ) → IsEnd (made_for K seed n node) (X node)) → IsUnspentCount K X ran.unspent → EndsWorkload K seed n X (numbers_of ran)
  ends_run grows counted =
      let E = made_for K seed n in
      let r = run_numbers K all_good (files_of seed n) (all_few seed n small) within (made_for K seed n) X ran told (sound_by all_good) tests in
      record {
        all = r.0;
        are = r.1;
        decided = all_decided K seed n (made_for K seed n) X r.0 r.1;
        unspent = ran.unspent;
        counted = counted;
        text_is = r.2 ∙ ap (λ m. summary_text m (new_batches K E X) (count_in is_confirmed r.0) (count_in is_rejected r.0) (count_in is_refused r.0)
            ran.unspent) (none_open K seed n (omega (arith, within.some_shard)))
            ∙ ap (λ m. summary_text 0 m (count_in is_confirmed r.0) (count_in is_rejected r.0) (count_in is_refused r.0) ran.unspent)
            (batches_are_cut K seed n within X ran grows told)
            ∙ ap (λ m. summary_text 0 (batches_for K n) (count_in is_confirmed r.0) (count_in is_rejected r.0) m ran.unspent)
            (none_refused K seed n (made_for K seed n) X r.0 r.1);
      }

-- ---- over a rack in memory

module _ (K : Shape) (mint : List Output) (few_coins : length mint ≤ 1000000) (limits : IsWithinLimits K) where
  -- what is in place tells its bytes
  pub told_there : (rack : MirrorRack) → NoMirrorOut rack → (n : ℕ) → n < node_count K
      → (d : PlainMirror) × (mirror_at rack n ≡ Some d) × ((c : List ℕ) × (plain_mirror.content d ≡ Some c) × plain_mirror.images d c)
  told_there rack all n inside =
      let d = there rack all n (omega (arith, inside, limits.coordinators, limits.shards)) in
      (d.0, d.1, tells d.0)

  -- the ledger that was made
  pub made_shown : (old mid : MirrorRack) → AreDisksReady K mint old → NoMirrorOut mid
      → ((n : ℕ) → n < node_count K → HoldsFirst plain_mirror (first_record_of K mint n) (mirror_at old n) (mirror_at mid n))
      → Shows plain_mirror (mirror_at mid) K (genesis_id mint) (mint_journals K mint)
  made_shown old mid ready all holds =
      first_shown K mint limits few_coins plain_mirror (mirror_at old) (mirror_at mid)
      (λ n inside. (let e = ready.empty n inside in (e.0, e.1, subst (λ o. IsSome o) (sym e.2) refl)))
      (λ n inside. (let d = told_there mid all n inside in (d.0, d.1))) holds

  -- no node in memory fails
  pub none_rises : (old new : MirrorRack) → NoneRises K (faults_at old.misses) (faults_at new.misses)
  none_rises old new n inside = none_rose old.misses new.misses n (omega (arith, inside, limits.coordinators, limits.shards))

  -- the disks of a ledger that was made have as much room as before
  pub room_still : (files : List (List FullTx)) (old mid : MirrorRack) → AreDisksReady K mint old → NoMirrorOut mid
      → ((n : ℕ) → n < node_count K → SameRoom plain_mirror (mirror_at old n) (mirror_at mid n)) → HaveRoomForFiles K mint files old
      → HaveRoomForFiles K mint files mid
  room_still files old mid ready all rooms ample =
      more_room K (sound_by all_good) (λ n. limit_at plain_mirror (mirror_at old n)) (λ n. limit_at plain_mirror (mirror_at mid n)) files
      (mint_journals K mint)
      (λ n inside. (let was = ready.empty n inside in let is = told_there mid all n inside in
      omega (arith, ap (limit_at plain_mirror) was.1, ap (limit_at plain_mirror) is.1, rooms n inside was.0 was.1 is.0 is.1))) ample

  module _ (files : List (List FullTx)) (mid new : MirrorRack)
      (shows : Shows plain_mirror (mirror_at mid) K (genesis_id mint) (mint_journals K mint)) (ample : HaveRoomForFiles K mint files mid) where
    ready : ShowsKept plain_mirror (mirror_at mid) K mint [] (mint_journals K mint)
    ready = record { limits = limits; shown = shows; kept = first_kept K mint limits few_coins }

    -- its files are run, unless memory runs out
    pub unrun : (a : Answer) → WhyNoTurns plain_mirror (mirror_disks mid) (mirror_disks new) (file_turns all_good files) a → a ≡ answers.Memory
    unrun a (inl (inl unopened, back)) =
        unopened_none plain_mirror (mirror_at mid) (faults_at mid.misses) (faults_at new.misses) K mint [] (mint_journals K mint) ready
        (ample_rooms K mint [] (mint_journals K mint) (λ n. limit_at plain_mirror (mirror_at mid n)) limits (first_kept K mint limits few_coins)
        (sound_by all_good) files ample) (none_rises mid new) None a tt unopened
    unrun a (inl (inr (inl unsound), back)) = absurd (unsound_none plain_mirror (mirror_at mid) K mint [] (mint_journals K mint) ready a unsound)
    unrun a (inl (inr (inr memory), back)) = memory
    unrun a (inr fault) =
        run_none plain_mirror (mirror_disks mid) (mirror_disks new) K mint [] (mint_journals K mint) ready (none_rises mid new) all_good files ample
        a fault

-- ---- a workload's run and audit

module _ (K : Shape) (seed n : ℕ) where
  pub memory_why : (watch : Bool) (a : Answer) → a ≡ answers.Memory → WhyNoWorkload K seed n watch a
  memory_why watch a memory = subst (WhyNoWorkload K seed n watch) (sym memory) tt

  module _ (small : n ≤ 10000) (limits : IsWithinLimits K) (rack : MirrorRack) (all : NoMirrorOut rack) (ran : Ran)
      (told : TellsRunOf K (mint_of seed n) (files_of seed n) rack ran) where
    is_run : IsWorkloadRun K seed n told.run.exit
    is_run = record { kept = told.run.grown.kept; waves = told.run.waves }

    shows : Shows plain_mirror (mirror_at rack) K (genesis_id (mint_of seed n)) told.run.exit
    shows = shown plain_mirror (mirror_at rack) K (mint_of seed n) (all_submissions seed n) told.run.exit limits (few seed n small)
        told.run.grown.kept told.run.disks (told_there K (mint_of seed n) (few seed n small) limits rack all)

    has_verdict : (verdict : Verdict) → IsAudited plain_mirror (mirror_at rack) (mint_of seed n) (all_submissions seed n) verdict
        → HasVerdictOf K (mint_of seed n) (all_submissions seed n) told.run.exit verdict
    has_verdict verdict audited =
        verdict_of plain_mirror (mirror_at rack) K (mint_of seed n) (all_submissions seed n) told.run.exit limits (few seed n small)
        told.run.grown.kept shows (all_submissions seed n) verdict audited

    idle : AreIdle K told.run.exit
    idle lane low =
        let last = told.run.waves.2.2 in
        ap (λ J. (slot J lane).phase) (last.2 (home_of K lane)) ∙ last.1.idle lane low

    -- what a disk holds is within its room
    fits : (k : ℕ) → k < node_count K → used_of (told.run.exit k) ≤ limit_at plain_mirror (mirror_at rack k)
    fits k inside =
        let s = shows k inside in
        omega (
          arith,
          used_within (header_of K (genesis_id (mint_of seed n)) k) (told.run.exit k) s.2.0 s.2.2,
          holds_within s.0 s.2.0 s.2.1,
          ap (limit_at plain_mirror) s.1,
        )

    -- what a crash leaves of each of a node's disks opens to its journal
    on_mirrors : (replicas : ℕ) (began : MirrorRack) → AreMirrorsEmpty K replicas n began → StandsOnMirrors K replicas told.run.exit
    on_mirrors replicas began empty = record {
      began = began;
      ended = rack;
      room = 4096 + 400 * n;
      made = empty;
      there = λ node inside. there rack all node (omega (arith, inside, limits.coordinators, limits.shards));
      holds = λ node inside m at k d is. told.run.disks node inside m at d.bytes.items (k, d, is, refl);
    }

    pub came_to : (options : GenOptions) (began : MirrorRack) → AreMirrorsEmpty K options.replicas n began → (totals : Totals)
        → IsCheckedSound rack (mint_of seed n) (all_submissions seed n) totals
        → (cut : Option ℕ) → IsCutTold K (mint_of seed n) (all_submissions seed n) ran.waves.items options.watch cut
        → IsWorkloadResult K seed n options ran totals cut
    came_to options began empty totals audited cut value = record {
      limits = limits;
      exit = told.run.exit;
      run = is_run;
      mirrors = on_mirrors options.replicas began empty;
      countable = is_countable K seed n limits small told.run.exit ran told.tells;
      ends = ends_run K seed n limits small told.run.exit ran told.tells told.run.grown.grows told.unspent;
      audited = has_verdict (Sound totals) audited;
      watched = is_value K seed n limits told.run.exit told.run.grown.kept told.tells.middle ran.waves.items told.tells.told options.watch cut value;
    }

    unsound_why : (watch : Bool) (place : ℕ) (kind : UnsoundKind)
        → IsAudited plain_mirror (mirror_at rack) (mint_of seed n) (all_submissions seed n) (Unsound place kind)
        → IsUnsoundWorkload K seed n watch place kind
    unsound_why watch place kind audited =
        let v = has_verdict (Unsound place kind) audited in
        record {
          exit = told.run.exit;
          run = is_run;
          audited = inl v;
          unclean = λ clean.
              never_unsound K (mint_of seed n) (all_submissions seed n) told.run.exit limits
              (kept_journal K (mint_of seed n) limits (few seed n small) (all_submissions seed n) told.run.exit told.run.grown.kept)
              told.run.grown.kept v.rows v.journals_are v.ordered idle
              (idle_law K (mint_of seed n) (all_submissions seed n) told.run.exit (omega (arith, limits.some_shard))
              (omega (arith, limits.some_lane)) clean told.run.grown.kept idle) place kind v.is;
        }

    wrong_why : (watch : Bool) (a : Answer) → IsUnsoundBy (IsAudited plain_mirror (mirror_at rack) (mint_of seed n) (all_submissions seed n)) a
        → WhyNoWorkload K seed n watch a
    wrong_why watch answers.Ok is = absurd is
    wrong_why watch answers.BadWords is = absurd is
    wrong_why watch (answers.BadInput file at what) is = absurd is
    wrong_why watch (answers.TooMuch total) is = absurd is
    wrong_why watch (answers.NotReady k) is = absurd is
    wrong_why watch (answers.Foreign k kept asked) is = absurd is
    wrong_why watch (answers.NotEmpty k) is = absurd is
    wrong_why watch (answers.Full k used need capacity) is = absurd is
    wrong_why watch (answers.Unsound place what) is = unsound_why watch place what is
    wrong_why watch (answers.ClockEnd k stamp) is = absurd is
    wrong_why watch (answers.Damaged k at) is = absurd is
    wrong_why watch (answers.ReadFault file) is = absurd is
    wrong_why watch answers.WriteFault is = absurd is
    wrong_why watch (answers.DiskFault k) is = absurd is
    wrong_why watch answers.Memory is = tt

    -- and what an audit of a cut found
    pub uncut_why : (watch : Bool) (a : Answer) → WhyNoCut K (mint_of seed n) (all_submissions seed n) ran.waves.items watch a
        → WhyNoWorkload K seed n watch a
    uncut_why watch answers.Ok why = absurd why
    uncut_why watch answers.BadWords why = absurd why
    uncut_why watch (answers.BadInput file at what) why = absurd why
    uncut_why watch (answers.TooMuch total) why = absurd why
    uncut_why watch (answers.NotReady k) why = absurd why
    uncut_why watch (answers.Foreign k kept asked) why = absurd why
    uncut_why watch (answers.NotEmpty k) why = absurd why
    uncut_why watch (answers.Full k used need capacity) why = absurd why
    uncut_why watch (answers.Unsound place what) (asked, lists, seen, cut) =
        let h = has_cut K seed n limits told.run.exit told.run.grown.kept told.tells.middle ran.waves.items told.tells.told lists seen
        (UnsoundPart place what) cut in
        record {
          exit = told.run.exit;
          run = is_run;
          audited = inr (asked, h);
          unclean = λ clean. never_unsound_cut K seed n limits told.run.exit told.run.grown.kept clean place what h;
        }
    uncut_why watch (answers.ClockEnd k stamp) why = absurd why
    uncut_why watch (answers.Damaged k at) why = absurd why
    uncut_why watch (answers.ReadFault file) why = absurd why
    uncut_why watch answers.WriteFault why = absurd why
    uncut_why watch (answers.DiskFault k) why = absurd why
    uncut_why watch answers.Memory why = tt

    pub unchecked_why : (watch : Bool) (new : MirrorRack) (a : Answer) → IsUnchecked rack new (mint_of seed n) (all_submissions seed n) a
        → WhyNoWorkload K seed n watch a
    unchecked_why watch new a (inl wrong) = wrong_why watch a wrong
    unchecked_why watch new a (inr (inl unopened)) =
        memory_why watch a (unopened_none plain_mirror (mirror_at rack) (faults_at rack.misses) (faults_at new.misses) K (mint_of seed n)
        (all_submissions seed n) told.run.exit
        (record { limits = limits; shown = shows; kept = told.run.grown.kept })
        (idle_rooms K (mint_of seed n) (all_submissions seed n) told.run.exit (λ k. limit_at plain_mirror (mirror_at rack k)) limits
        told.run.grown.kept idle fits)
        (none_rises K (mint_of seed n) (few seed n small) limits rack new) (Some (genesis_id (mint_of seed n))) a refl unopened)
    unchecked_why watch new a (inr (inr memory)) = memory_why watch a memory

  -- what was done is told
  pub why_done : (watch : Bool) (written : Type 0) (a : Answer) → WhyNoWorkload K seed n watch a → IsAnswerToRequest (λ file. ⊥) (λ file. ⊥) written a
  why_done watch written answers.Ok is = absurd is
  why_done watch written answers.BadWords is = absurd is
  why_done watch written (answers.BadInput file at what) is = absurd is
  why_done watch written (answers.TooMuch total) is = tt
  why_done watch written (answers.NotReady k) is = tt
  why_done watch written (answers.Foreign k kept asked) is = tt
  why_done watch written (answers.NotEmpty k) is = tt
  why_done watch written (answers.Full k used need capacity) is = tt
  why_done watch written (answers.Unsound place what) is = tt
  why_done watch written (answers.ClockEnd k stamp) is = tt
  why_done watch written (answers.Damaged k at) is = tt
  why_done watch written (answers.ReadFault file) is = absurd is
  why_done watch written answers.WriteFault is = absurd is
  why_done watch written (answers.DiskFault k) is = tt
  why_done watch written answers.Memory is = tt

  -- the text of a workload
  pub text_of : (options : GenOptions) (ran : Ran) (totals : Totals) (cut : Option ℕ) → IsWorkloadResult K seed n options ran totals cut
      → IsWorkloadText K seed n options ((numbers_of ran ++ audit_text totals) ++ cut_text cut)
  text_of options ran totals cut came = record {
    exit = came.exit;
    run = came.run;
    mirrors = came.mirrors;
    summary = numbers_of ran;
    ends = came.ends;
    totals = totals;
    audited = came.audited;
    cut = cut;
    watched = came.watched;
    text_is = refl;
    clean = λ clean.
        let one = one_text K seed n came.limits clean came.exit came.run.kept came.run.waves (numbers_of ran) came.ends totals came.audited in
        let value = value_told K seed n came.limits came.exit came.run.kept clean options.watch cut came.watched in
        λ i. one i ++ cut_text (value i);
  }
