-- Where nothing hinders what is asked, it is done, unless memory runs out.
use Rattle.std.proofs.Common.{◌≡◌, ◌⊎◌, inl, inr, ℕ, Bool, List, [], Some, None, Ok, refl, sym, ap, subst}
use Rattle.outside.specs.Images.{Tells}
use Rattle.outside.specs.declared.disk.Disk.{Ghosts}
use Rattle.line_text.specs.Lines.{Text}
use Rattle.cbdc_types.specs.declared.answer.Answer.{Answer}
use Rattle.cbdc_types.specs.declared.answer.Answer.TheVariants as answers
use Rattle.cbdc_types.specs.declared.answer.UnsoundKind.{UnsoundKind}
use Rattle.cbdc_model.specs.Records.{Shape}
use Rattle.cbdc_model.specs.Coins.{Output, FullTx, genesis_id}
use Rattle.command_line.specs.Asked.{WordsAskFor, AreWordsRefused}
use Rattle.requests.specs.declared.FileWord.{FileWord}
use Rattle.requests.specs.declared.Request.{Request}
use Rattle.requests.specs.declared.Request.TheVariants.{Init, Run, Recover, Status, Audit, Gen, Show}
use Rattle.requests.specs.declared.WordsFault.TheVariants.{Bad}
use Rattle.cbdc_model.specs.Clean.{Clean}
use Rattle.workload.specs.Generator.{mint_of}
use Rattle.submission_laws.specs.Files.{all_submissions}
use Rattle.command_line.specs.Refused.{AreWholeHashes, HasHashes}
use Rattle.command_line.specs.Single.{AreAlike, names_of}
use Rattle.command_line.proofs.Refused.{asked_law}
use Rattle.command_line.proofs.Single.{one_request_law}
use Rattle.input_files.specs.Contents.{mint_of_file, AreRead}
use Rattle.file_runs.specs.Runs.{joined}
use Rattle.audit.specs.declared.verdict.Verdict.TheVariants.{Unsound}
use Rattle.rack_ledgers.specs.Audited.{IsAudited}
use Rattle.run_laws.specs.Ample.{Ample}
use Rattle.rack_ledgers.specs.Caused.{IsUnresumed}
use Rattle.command_answers.specs.Scene.{Scene}
use Rattle.rack_runs.specs.Runs.{file_turns, open_turns}
use Rattle.submissions.specs.SoundTest.{sound_by}
use Rattle.submissions.specs.Checks.{VerdictsOf}
use Rattle.sentinel.specs.Files.{file_verdict}
use Rattle.rack_laws.specs.Making.{CanMake}
use Rattle.rack_laws.specs.Ready.{limit_at}
use Rattle.rack_laws.proofs.Audited.{audit_sound}
use Rattle.rack_laws.proofs.Files.{read_once, not_read_none, clients_once, clients_none}
use Rattle.rack_laws.proofs.Caused.{unsound_none}
use Rattle.rack_runs.proofs.Lanes.{recovery_none, run_none}
use Rattle.rack_laws.proofs.Making.{made}
use Rattle.rack_laws.proofs.Openings.{unopened_none}
use Rattle.rack_laws.proofs.KeptRooms.{ample_rooms, idle_rooms}
use Rattle.rack_laws.proofs.Verdicts.{verdicts_none, verdicts_once}
use Rattle.audit_command.specs.Audits.{IsUnsoundBy, WasAudited, WhyUnopened, WhyUnaudited, WhyNoAudit}
use Rattle.command_answers.specs.Causes.{HasToldCause, IsWell}
use Rattle.commands.specs.Complete.{AreReadyFor, CanInit, CanRun, CanAudit, IsUnhindered, none_sound}
use Rattle.gen_command.specs.Generated.{WhyNoWorkload}
use Rattle.init_command.specs.Outcomes.{WhyNoInit}
use Rattle.rack_runs.specs.Stops.{WhyNoTurns}
use Rattle.run_command.specs.Outcomes.{WhyNoRun}
use Rattle.status_command.specs.Outcomes.{WhyNoStatus}
use Rattle.commands.specs.Outcomes.{AskedWhy, Why}

module _ {D : Type 0} (device : Ghosts D) (before after : Scene D) where
  init_none : (shape : Shape) (file : FileWord) (answer : Answer) → CanInit device before after shape file.name.now
      → WhyNoInit device before after shape file answer → answer ≡ answers.Memory
  init_none shape file answer can (inl not_read) =
      not_read_none before.file before.file_faults after.file_faults file.place mint_of_file file.name.now can.mint answer can.holds not_read
  init_none shape file answer can (inr unmade) =
      let same : unmade.0 ≡ can.mint = read_once before.file before.file_faults after.file_faults mint_of_file file.name.now can.mint unmade.0
      can.holds unmade.1 in
      made device before.disks.held before.disks.faults after.disks.faults shape unmade.0 answer
      (subst (λ (m : List Output). CanMake device before.disks.held shape m) (sym same) can.can) can.steady unmade.2

  status_none : (answer : Answer) → AreReadyFor device before after none_sound [] → WhyNoStatus device before.disks after.disks answer
      → answer ≡ answers.Memory
  status_none answer ready why =
      let shows = ready.shows in
      let rooms = ample_rooms ready.shape ready.mint ready.submissions ready.journals (λ n. limit_at device (before.disks.held n)) shows.limits
      shows.kept none_sound [] ready.ample in
      unopened_none device before.disks.held before.disks.faults after.disks.faults ready.shape ready.mint ready.submissions ready.journals
      ready.shows rooms ready.steady None answer tt why.0

  -- what is not resumed
  unresumed : (sound : FullTx → Bool) (handed : List (List FullTx)) (answer : Answer) → AreReadyFor device before after sound handed
      → IsUnresumed device before.disks.held before.disks.faults after.disks.faults answer → answer ≡ answers.Memory
  unresumed sound handed answer ready (inl unopened) =
      let shows = ready.shows in
      let rooms = ample_rooms ready.shape ready.mint ready.submissions ready.journals (λ n. limit_at device (before.disks.held n)) shows.limits
      shows.kept sound handed ready.ample in
      unopened_none device before.disks.held before.disks.faults after.disks.faults ready.shape ready.mint ready.submissions ready.journals
      ready.shows rooms ready.steady None answer tt unopened
  unresumed sound handed answer ready (inr (inl unsound)) =
      absurd (unsound_none device before.disks.held ready.shape ready.mint ready.submissions ready.journals ready.shows answer unsound)
  unresumed sound handed answer ready (inr (inr memory)) = memory

  recover_none : (answer : Answer) → AreReadyFor device before after none_sound [] → WhyNoTurns device before.disks after.disks open_turns answer
      → answer ≡ answers.Memory
  recover_none answer ready (inl unbegun) = unresumed none_sound [] answer ready unbegun.0
  recover_none answer ready (inr lane) =
      recovery_none device before.disks after.disks ready.shape ready.mint ready.submissions ready.journals ready.shows ready.steady none_sound
      ready.ample answer lane

  module _ (verdicts : FileWord) (clients : List FileWord) (can : CanRun device before after verdicts.name.now (names_of clients)) where
    -- over the transactions and verdicts that the files hold
    turns_none : (handed : List (List FullTx)) (tells : VerdictsOf) (answer : Answer) → handed ≡ can.handed → tells ≡ file_verdict can.known
        → WhyNoTurns device before.disks after.disks (file_turns tells handed) answer → answer ≡ answers.Memory
    turns_none handed tells answer these known (inl unbegun) = unresumed (sound_by (file_verdict can.known)) can.handed answer can.ready unbegun.0
    turns_none handed tells answer these known (inr lane) =
        let ready = can.ready in
        run_none device before.disks after.disks ready.shape ready.mint ready.submissions ready.journals ready.shows ready.steady tells handed
        (subst (λ v. Ample ready.shape (sound_by v) (λ n. limit_at device (before.disks.held n)) handed ready.journals) (sym known)
        (subst (λ hs. Ample ready.shape (sound_by (file_verdict can.known)) (λ n. limit_at device (before.disks.held n)) hs ready.journals)
        (sym these) ready.ample)) answer lane

    run_unhindered : (answer : Answer) → WhyNoRun device before after verdicts clients answer → answer ≡ answers.Memory
    run_unhindered answer (inl not_read) = clients_none before.file before.file_faults after.file_faults clients can.handed answer can.holds not_read
    run_unhindered answer (inr (handed, read, inl unknown)) =
        verdicts_none before.file before.file_faults after.file_faults verdicts.name.now can.known can.knows verdicts.place answer unknown
    run_unhindered answer (inr (handed, read, inr (known, knows, why))) =
        turns_none handed (file_verdict known) answer
        (clients_once before.file before.file_faults after.file_faults clients 0 can.handed handed can.holds read)
        (verdicts_once before.file before.file_faults after.file_faults verdicts.name.now can.known can.knows known knows) why

  module _ (file : FileWord) (clients : List FileWord) (can : CanAudit device before after file.name.now (names_of clients)) where
    this_mint : (mint : List Output) → Tells (before.file file.name.now) (λ c. mint_of_file c ≡ Ok mint) → mint ≡ can.mint
    this_mint mint tells = read_once before.file before.file_faults after.file_faults mint_of_file file.name.now can.mint mint can.holds tells

    these_files : (handed : List (List FullTx)) → AreRead before.file 0 clients handed → handed ≡ can.handed
    these_files handed read = clients_once before.file before.file_faults after.file_faults clients 0 can.handed handed can.clients_hold read

    unopened : (mint : List Output) (answer : Answer) → mint ≡ can.mint → WhyUnopened device before.disks after.disks mint answer
        → answer ≡ answers.Memory
    unopened mint answer same (inr memory) = memory
    unopened mint answer same (inl why) =
        let shows = can.shows in
        let rooms = idle_rooms can.shape can.mint (joined can.handed) can.journals (λ n. limit_at device (before.disks.held n)) shows.limits
        shows.kept can.idle can.fits in
        unopened_none device before.disks.held before.disks.faults after.disks.faults can.shape can.mint (joined can.handed) can.journals can.shows
        rooms can.steady (Some (genesis_id mint)) answer (ap genesis_id same) why

    unaudited : (answer : Answer) → WhyUnaudited device before after file clients answer → answer ≡ answers.Memory
    unaudited answer (inl not_read) = not_read_none before.file before.file_faults after.file_faults file.place mint_of_file file.name.now can.mint
        answer can.holds not_read
    unaudited answer (inr (mint, read, inl not_read)) =
        clients_none before.file before.file_faults after.file_faults clients can.handed answer can.clients_hold not_read
    unaudited answer (inr (mint, read, inr (handed, are_read, why))) = unopened mint answer (this_mint mint read) why

    never_wrong : (place : ℕ) (kind : UnsoundKind) → WasAudited device before.file before.disks after.disks file clients (Unsound place kind) → ⊥
    never_wrong place kind was =
        audit_sound device before.disks.held can.shape can.mint (joined can.handed) can.journals can.shows can.idle can.clean place kind
        (subst (λ (m : List Output). IsAudited device before.disks.held m (joined can.handed) (Unsound place kind)) (this_mint was.mint was.read)
        (subst (λ (hs : List (List FullTx)). IsAudited device before.disks.held was.mint (joined hs) (Unsound place kind))
        (these_files was.handed was.clients_read) was.audited))

    unsound : (answer : Answer) → IsUnsoundBy (WasAudited device before.file before.disks after.disks file clients) answer → answer ≡ answers.Memory
    unsound (answers.Unsound place kind) was = absurd (never_wrong place kind was)
    unsound answers.Ok was = absurd was
    unsound answers.BadWords was = absurd was
    unsound (answers.BadInput file at kind) was = absurd was
    unsound (answers.TooMuch total) was = absurd was
    unsound (answers.NotReady n) was = absurd was
    unsound (answers.Foreign n kept asked) was = absurd was
    unsound (answers.NotEmpty n) was = absurd was
    unsound (answers.Full n used need capacity) was = absurd was
    unsound (answers.ClockEnd n stamp) was = absurd was
    unsound (answers.Damaged n at) was = absurd was
    unsound (answers.ReadFault file) was = absurd was
    unsound answers.WriteFault was = absurd was
    unsound (answers.DiskFault n) was = absurd was
    unsound answers.Memory was = absurd was

    audit_none : (answer : Answer) → WhyNoAudit device before after file clients answer → answer ≡ answers.Memory
    audit_none answer why = elim why.1 [
      | inl wrong ↦ unsound answer wrong
      | inr without ↦ unaudited answer without
    ]

  gen_none : (shape : Shape) (seed size : ℕ) (watch : Bool) (answer : Answer) → Clean (mint_of seed size) (all_submissions seed size)
      → WhyNoWorkload shape seed size watch answer → answer ≡ answers.Memory
  gen_none shape seed size watch (answers.Unsound place kind) clean unsound = absurd (unsound.unclean clean)
  gen_none shape seed size watch answers.Memory clean why = refl
  gen_none shape seed size watch answers.Ok clean why = absurd why
  gen_none shape seed size watch answers.BadWords clean why = absurd why
  gen_none shape seed size watch (answers.BadInput file at kind) clean why = absurd why
  gen_none shape seed size watch (answers.TooMuch total) clean why = absurd why
  gen_none shape seed size watch (answers.NotReady n) clean why = absurd why
  gen_none shape seed size watch (answers.Foreign n kept asked) clean why = absurd why
  gen_none shape seed size watch (answers.NotEmpty n) clean why = absurd why
  gen_none shape seed size watch (answers.Full n used need capacity) clean why = absurd why
  gen_none shape seed size watch (answers.ClockEnd n stamp) clean why = absurd why
  gen_none shape seed size watch (answers.Damaged n at) clean why = absurd why
  gen_none shape seed size watch (answers.ReadFault file) clean why = absurd why
  gen_none shape seed size watch answers.WriteFault clean why = absurd why
  gen_none shape seed size watch (answers.DiskFault n) clean why = absurd why

  abbrev Free : Request → Type 0
  Free r = IsUnhindered device before after r

  abbrev Caused : Request → Answer → Type 0
  Caused r answer = Why device before after r answer

  -- nothing but that memory ran out is the cause
  why_none : (r : Request) (answer : Answer) → Free r → Caused r answer → answer ≡ answers.Memory
  why_none (Init shape mint) answer free why = init_none shape mint answer free why
  why_none (Run verdicts clients options) answer free why = run_unhindered verdicts clients.items free answer why
  why_none Recover answer free why = recover_none answer free why
  why_none (Status hashes) answer free why = status_none answer free.1 why
  why_none (Audit mint clients) answer free why = audit_none mint clients.items free answer why
  why_none (Gen shape seed size options) answer free why = gen_none shape seed size options.watch answer free why.1
  why_none (Show text) answer free why = absurd why

  -- the same request is hindered no more
  free_alike : (r other : Request) → AreAlike r other → Free r → Free other
  free_alike (Init shape mint) (Init kind file) alike free =
      subst (λ (s : Shape). CanInit device before after s file.name.now) alike.0
      (subst (λ (name : Text). CanInit device before after shape name) alike.1 free)
  free_alike (Run verdicts clients options) (Run others words settings) alike free =
      subst (λ (names : List Text). CanRun device before after others.name.now names) alike.1
      (subst (λ (name : Text). CanRun device before after name (names_of clients.items)) alike.0 free)
  free_alike Recover Recover alike free = free
  free_alike (Status hashes) (Status sought) alike free = (subst AreWholeHashes alike free.0, free.1)
  free_alike (Audit mint clients) (Audit file others) alike free =
      subst (λ (names : List Text). CanAudit device before after file.name.now names) alike.1
      (subst (λ (name : Text). CanAudit device before after name (names_of clients.items)) alike.0 free)
  free_alike (Gen shape seed size options) (Gen kind number count others) alike free =
      subst (λ k. Clean (mint_of number k) (all_submissions number k)) alike.2
      (subst (λ k. Clean (mint_of k size) (all_submissions k size)) alike.1 free)
  free_alike (Show text) (Show other) alike free = tt
  free_alike _ _ alike free = absurd alike

  has_hashes : (r : Request) → Free r → HasHashes r
  has_hashes (Status hashes) free = free.0
  has_hashes (Init shape mint) free = tt
  has_hashes (Run verdicts clients options) free = tt
  has_hashes Recover free = tt
  has_hashes (Audit mint clients) free = tt
  has_hashes (Gen shape seed size options) free = tt
  has_hashes (Show text) free = tt

  module _ (words : List Text) (r : Request) (asked : WordsAskFor words r) (free : Free r) where
    told_none : (answer : Answer) → (other : Request) × WordsAskFor words other × Caused other answer → answer ≡ answers.Memory
    told_none answer told = why_none told.0 answer (free_alike r told.0 (one_request_law words r told.0 asked told.1) free) told.2

    pub complete : (answer : Answer) → HasToldCause (AskedWhy device before after words) answer
        → (answer ≡ answers.BadWords → AreWordsRefused words Bad) → IsWell answer ⊎ (answer ≡ answers.Memory)
    complete answers.Ok told bad = inl tt
    complete answers.Memory told bad = inr refl
    complete answers.BadWords told bad = absurd (asked_law words r (has_hashes r free) asked (bad refl))
    complete answers.WriteFault told bad = inl tt
    complete (answers.BadInput file at kind) told bad = inr (told_none (answers.BadInput file at kind) told)
    complete (answers.TooMuch total) told bad = inr (told_none (answers.TooMuch total) told)
    complete (answers.NotReady n) told bad = inr (told_none (answers.NotReady n) told)
    complete (answers.Foreign n kept other) told bad = inr (told_none (answers.Foreign n kept other) told)
    complete (answers.NotEmpty n) told bad = inr (told_none (answers.NotEmpty n) told)
    complete (answers.Full n used need capacity) told bad = inr (told_none (answers.Full n used need capacity) told)
    complete (answers.Unsound place kind) told bad = inr (told_none (answers.Unsound place kind) told)
    complete (answers.ClockEnd n stamp) told bad = inr (told_none (answers.ClockEnd n stamp) told)
    complete (answers.Damaged n at) told bad = inr (told_none (answers.Damaged n at) told)
    complete (answers.ReadFault file) told bad = inr (told_none (answers.ReadFault file) told)
    complete (answers.DiskFault n) told bad = inr (told_none (answers.DiskFault n) told)
