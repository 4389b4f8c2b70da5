-- Of a ledger that was opened, none of whose records is not caused, no refusal has its cause in the disks.
use Rattle.std.proofs.Common.{◌≡◌, ◌⊎◌, inl, inr, ⊎_elim, ℕ, List, reverse, Option, Some, None, Result, Ok, sym, ◌∙◌, subst, ap}
use Rattle.outside.specs.declared.disk.Disk.{Ghosts}
use Rattle.line_text.specs.Lines.{Text}
use Rattle.client_files.specs.declared.fault.BadFile.{BadFile}
use Rattle.cbdc_types.specs.Limits.{IsWithinLimits}
use Rattle.cbdc_types.specs.declared.answer.Answer.{Answer}
use Rattle.cbdc_types.specs.declared.answer.Answer.TheVariants as answers
use Rattle.cbdc_types.specs.declared.answer.UnsoundKind.{UnsoundKind}
use Rattle.cbdc_model.specs.Records.{Digest, Shape, Record, journal}
use Rattle.cbdc_model.specs.Coins.{Output, genesis_id}
use Rattle.cbdc_model.specs.History.{header_of}
use Rattle.command_line.specs.Asked.{WordsAskFor}
use Rattle.requests.specs.declared.FileWord.{FileWord}
use Rattle.requests.specs.declared.Request.{Request}
use Rattle.requests.specs.declared.Request.TheVariants.{Init, Run, Recover, Status, Audit, Gen, Show}
use Rattle.command_line.specs.Single.{AreAlike}
use Rattle.command_line.proofs.Single.{one_request_law}
use Rattle.input_files.specs.Contents.{mint_of_file}
use Rattle.audit.specs.declared.verdict.Verdict.{Verdict}
use Rattle.audit.specs.declared.verdict.Verdict.TheVariants.{Sound, Unsound}
use Rattle.audit_command.specs.Audits.{IsUnsoundBy, WasAudited}
use Rattle.rack_ledgers.specs.Ledgers.{IsUnopenedBy, IsMintOf}
use Rattle.rack_ledgers.specs.Caused.{IsCausedLedger, IsUnresumed}
use Rattle.rack_ledgers.specs.RefusalLaws.{AllTell, EachOpens, AllHaveRoom}
use Rattle.rack_ledgers.proofs.Refused.{none_refused, tell_told}
use Rattle.rack_ledgers.proofs.CausedOnce.{not_both}
use Rattle.commands.specs.Exact.{IsOfDisks, HasNoCause, IsUnopenedOf, IsExact, IsEndedLater}
use Rattle.commands.specs.Outcomes.{AskedDid, Did}
use Rattle.command_answers.specs.Scene.{Scene}
use Rattle.rack_ledgers.specs.Racked.{Disks}

same_mint : (r : Result (List Output) BadFile) (a b : List Output) → r ≡ Ok a → r ≡ Ok b → a ≡ b
same_mint r a b is also = let same = sym is ∙ also in cc

module _ {D : Type 0} (device : Ghosts D) (held : ℕ → Option D) where
  -- what is not opened is answered by no place of a history
  no_place : (before now : ℕ → ℕ) (id : Option Digest) (place : ℕ) (kind : UnsoundKind)
      → IsUnopenedBy device held before now id (answers.Unsound place kind) → ⊥
  no_place before now id place kind (inl (inl refused)) = refused.kind
  no_place before now None place kind (inl (inr (inl other))) = other.other
  no_place before now (Some id) place kind (inl (inr (inl other))) = let same = other.other.1 in absurd cc
  no_place before now id place kind (inl (inr (inr lacks))) = lacks.refused.kind
  no_place before now id place kind (inr lacks) = lacks.refused.kind

  module _ (K : Shape) (g : Digest) (J : ℕ → List Record) (limits : IsWithinLimits K) (opens : EachOpens device held K g J)
      (room : AllHaveRoom device held K J) (tell : AllTell device held K) where
    opened : (id : Option Digest) → IsMintOf id (header_of K g 0) → (before now : ℕ → ℕ) (answer : Answer) → IsOfDisks answer
        → IsUnopenedBy device held before now id answer → ⊥
    opened id mint before now (answers.Unsound place kind) of cause = no_place before now id place kind cause
    opened id mint before now answer of cause =
        none_refused device held before now K g J (tell_told device held K g J limits opens tell) answer of (λ full. room) id mint cause

  resumed : (ledger : IsCausedLedger device held) → AllHaveRoom device held ledger.shape (λ n. journal n (reverse ledger.rows))
      → HasNoCause device held (IsUnresumed device held)
  resumed ledger room = record {
    shape = ledger.shape;
    genesis = ledger.genesis;
    journals = λ n. journal n (reverse ledger.rows);
    limits = ledger.history.limits;
    opens = ledger.history.opened;
    none = λ tell before now answer of cause. elim cause [
      | inl unopened ↦ opened ledger.shape ledger.genesis (λ n. journal n (reverse ledger.rows)) ledger.history.limits ledger.history.opened room
          tell None tt before now answer of unopened
      | inr later ↦ ⊎_elim (λ unsound. not_both device held ledger answer tell unsound) (λ memory. subst IsOfDisks memory of) later
    ];
  }

module _ {D : Type 0} (device : Ghosts D) (before : Scene D) where
  audited : (after : Disks D) (file : FileWord) (clients : List FileWord) (verdict : Verdict)
      → WasAudited device before.file before.disks after file clients verdict
      → HasNoCause device before.disks.held (IsUnopenedOf device before file.name.now)
  audited after file clients verdict was =
      let is = was.audited in
      let J : ℕ → List Record = λ n. journal n (reverse is.rows) in
      record {
        shape = is.shape;
        genesis = genesis_id was.mint;
        journals = J;
        limits = is.history.limits;
        opens = is.history.opened;
        none = λ tell faults faults_now answer of cause.
            let (bytes, other, told, reads, unopened) = cause in
            let same : was.mint ≡ other = same_mint (mint_of_file bytes) was.mint other (was.read bytes told) reads in
            opened device before.disks.held is.shape (genesis_id was.mint) J is.history.limits is.history.opened was.room tell
            (Some (genesis_id other)) (ap genesis_id same) faults faults_now answer of unopened;
      }

  -- what was done
  did_exact : (after : Scene D) (answer : Answer) (r : Request) → Did device before after r answer → IsExact device before r
  did_exact after answer (Run verdicts clients options) did = resumed device before.disks.held did.caused.ledger did.caused.room
  did_exact after answer Recover did = resumed device before.disks.held did.0.ledger did.0.room
  did_exact after answer (Status hashes) did = record {
    shape = did.shape;
    genesis = did.genesis;
    journals = did.journals;
    limits = did.limits;
    opens = did.opened;
    none = λ tell faults faults_now told of cause. opened device before.disks.held did.shape did.genesis did.journals did.limits did.opened did.room
        tell None tt faults faults_now told of cause;
  }
  did_exact after answer (Audit mint clients) did = audited after.disks mint clients.items (Sound did.totals) did.was
  did_exact after answer (Init shape mint) did = tt
  did_exact after answer (Gen shape seed size options) did = tt
  did_exact after answer (Show text) did = tt

  -- what ended later
  unsound_exact : (after : Disks D) (file : FileWord) (clients : List FileWord) (answer : Answer)
      → IsUnsoundBy (WasAudited device before.file before.disks after file clients) answer
      → HasNoCause device before.disks.held (IsUnopenedOf device before file.name.now)
  unsound_exact after file clients (answers.Unsound place kind) was = audited after file clients (Unsound place kind) was
  unsound_exact after file clients answer was = absurd was

  later_exact : (after : Scene D) (r : Request) (answer : Answer) → IsEndedLater device before after r answer → IsExact device before r
  later_exact after (Run verdicts clients options) answer later = let lane = later.2 in resumed device before.disks.held lane.ledger lane.room
  later_exact after Recover answer lane = resumed device before.disks.held lane.ledger lane.room
  later_exact after (Audit mint clients) answer was = unsound_exact after.disks mint clients.items answer was
  later_exact after r answer later = absurd later

  -- the same request
  exact_alike : (r other : Request) → AreAlike r other → IsExact device before r → IsExact device before other
  exact_alike (Init shape mint) (Init kind file) alike exact = tt
  exact_alike (Run verdicts clients options) (Run told words settings) alike exact = exact
  exact_alike Recover Recover alike exact = exact
  exact_alike (Status hashes) (Status sought) alike exact = exact
  exact_alike (Audit mint clients) (Audit file words) alike exact =
      subst (λ (name : Text). HasNoCause device before.disks.held (IsUnopenedOf device before name)) alike.0 exact
  exact_alike (Gen shape seed size options) (Gen kind number count others) alike exact = tt
  exact_alike (Show text) (Show other) alike exact = tt
  exact_alike _ _ alike exact = absurd alike

  pub exact : (after : Scene D) (words : List Text) (r : Request) (answer : Answer) → WordsAskFor words r
      → AskedDid device before after words answer ⊎ IsEndedLater device before after r answer → IsExact device before r
  exact after words r answer asked (inl did) = exact_alike did.0 r (one_request_law words did.0 r did.1 asked) (did_exact after answer did.0 did.2)
  exact after words r answer asked (inr later) = later_exact after r answer later
