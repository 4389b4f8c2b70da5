-- What `audit` promises.
use Rattle.std.specs.Prelude.{◌≡◌, ◌⊎◌, ◌<◌, ◌≤◌, ℕ, List, Some, Ok}
use Rattle.outside.specs.declared.disk.Disk.{Ghosts}
use Rattle.line_text.specs.Lines.{Text}
use Rattle.cbdc_types.specs.declared.answer.Answer.{Answer}
use Rattle.cbdc_model.specs.Records.{Shape, Record}
use Rattle.cbdc_model.specs.Coins.{Output, FullTx, genesis_id}
use Rattle.cbdc_model.specs.Clean.{Clean}
use Rattle.cbdc_model.specs.Due.{used_of}
use Rattle.cbdc_model.specs.World.{AreIdle}
use Rattle.cbdc_model.specs.Ranges.{node_count}
use Rattle.requests.specs.declared.FileWord.{FileWord}
use Rattle.command_line.specs.Single.{names_of}
use Rattle.input_files.specs.Contents.{mint_of_file}
use Rattle.file_runs.specs.Runs.{joined}
use Rattle.command_answers.specs.Causes.{OneNamed}
use Rattle.command_answers.specs.Exact.{HasNoCause}
use Rattle.command_answers.specs.Promises.{Needs, Promise}
use Rattle.command_answers.specs.Scene.{Scene}
use Rattle.rack_ledgers.specs.Ledgers.{IsUnopenedBy}
use Rattle.rack_ledgers.specs.Racked.{AreDisksBack}
use Rattle.rack_laws.specs.Files.{HoldsFile, HoldClients}
use Rattle.rack_laws.specs.Ready.{ShowsKept, NoneRises, limit_at}
use Rattle.audit_command.specs.Audits.{AuditPlace, AuditRose, DidAudit, IsUnsoundBy, WasAudited, WhyNoAudit}

-- the ledger of the mint that a file is told to hold is not opened: the first node that can't be, or node 0 where another mint began it
abbrev pub IsUnopenedOf : {D : Type 0} → Ghosts D → Scene D → Text → (ℕ → ℕ) → (ℕ → ℕ) → Answer → Type 0
IsUnopenedOf device before name faults faults_now answer =
    (bytes : List ℕ) × (mint : List Output) × (before.file name ≡ Some bytes) × (mint_of_file bytes ≡ Ok mint)
    × IsUnopenedBy device before.disks.held faults faults_now (Some (genesis_id mint)) answer

-- the files hold a mint and transactions, no hashes of which clash; the disks show a kept ledger of this mint and these transactions, every lane of
-- which is idle; each disk may hold the bytes that its journal takes; and no count of faults of its nodes rises
pub record CanAudit {D : Type 0} (device : Ghosts D) (before after : Scene D) (name : Text) (clients : List Text) : Type 0 where
  pub mint : List Output
  pub handed : List (List FullTx)
  pub holds : HoldsFile before.file before.file_faults after.file_faults mint_of_file name mint
  pub clients_hold : HoldClients before.file before.file_faults after.file_faults 0 clients handed
  pub clean : Clean mint (joined handed)
  pub shape : Shape
  pub journals : ℕ → List Record
  pub shows : ShowsKept device before.disks.held shape mint (joined handed) journals
  pub idle : AreIdle shape journals
  pub fits : (n : ℕ) → n < node_count shape → used_of (journals n) ≤ limit_at device (before.disks.held n)
  pub steady : NoneRises shape before.disks.faults after.disks.faults

-- `audit` by the mint in this file, and these client files
abbrev pub audit_promise : {D : Type 0} → Ghosts D → FileWord → List FileWord → Promise D
audit_promise device mint clients = record {
  did = λ files before after printed. DidAudit device files before after printed mint clients;
  why = λ before after answer. WhyNoAudit device before after mint clients answer;
  leaves = λ before after answer. AreDisksBack device before.disks after.disks;
  ended = λ before after answer. IsUnsoundBy (WasAudited device before.file before.disks after.disks mint clients) answer;
  exact = λ before. HasNoCause device before.disks.held (IsUnopenedOf device before mint.name.now);
  unhindered = λ before after. CanAudit device before after mint.name.now (names_of clients);
}

-- what it needs
abbrev pub audit_needs : FileWord → List FileWord → Needs
audit_needs mint clients = record {
  place = λ place. AuditPlace mint clients place;
  names = λ place name. ((place ≡ mint.place) × (name ≡ mint.name.now)) ⊎ OneNamed clients place name;
  rose = λ before now place. AuditRose before now mint clients place;
  hands_in = λ files txs. ⊥;
  of_no_rack = ⊥;
  of_no_file = ⊥;
  sized = Unit {0};
}
