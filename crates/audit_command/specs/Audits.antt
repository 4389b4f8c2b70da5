-- What an audit was of, and why there was none.
use Rattle.std.specs.Prelude.{◌≡◌, ◌⊎◌, ℕ, List, Option, Some, Ok}
use Rattle.outside.specs.Images.{Tells}
use Rattle.outside.specs.declared.disk.Disk.{Ghosts}
use Rattle.line_text.specs.Lines.{Text}
use Rattle.cbdc_types.specs.declared.answer.Answer.{Answer}
use Rattle.cbdc_types.specs.declared.answer.Answer.TheVariants as answers
use Rattle.cbdc_model.specs.Coins.{Output, FullTx, genesis_id}
use Rattle.requests.specs.declared.FileWord.{FileWord}
use Rattle.input_files.specs.Contents.{mint_of_file, AreRead, IsNotRead, FirstNotRead}
use Rattle.cbdc_types.specs.declared.answer.Totals.{Totals}
use Rattle.audit.specs.declared.verdict.Verdict.{Verdict}
use Rattle.audit.specs.declared.verdict.Verdict.TheVariants.{Sound, Unsound}
use Rattle.rack_ledgers.specs.Audited.{IsAudited, HistoryHasRoom, HistoryIsHeld, IsAccountedFor}
use Rattle.file_runs.specs.Runs.{joined}
use Rattle.line_text.specs.Reports.{audit_text}
use Rattle.command_answers.specs.Causes.{FileRose, OnePlace, OneRose}
use Rattle.command_answers.specs.Scene.{Scene}
use Rattle.rack_ledgers.specs.Racked.{AreDisksBack, Disks, AreUnchanged}
use Rattle.rack_ledgers.specs.Ledgers.{IsUnopenedBy}

-- an audit of the history of the ledger that the disks tell has this verdict
pub record WasAudited {D : Type 0} (device : Ghosts D) (files : Text → Option (List ℕ)) (before after : Disks D)
    (file : FileWord) (clients : List FileWord) (verdict : Verdict) : Type 0 where
  -- the files held this mint and these transactions
  pub mint : List Output
  pub handed : List (List FullTx)
  pub read : Tells (files file.name.now) (λ c. mint_of_file c ≡ Ok mint)
  pub clients_read : AreRead files 0 clients handed
  -- with them it has this verdict
  pub audited : IsAudited device before.held mint (joined handed) verdict
  -- each of those disks had room for its journal of that history and for what is kept for the batches that are open there
  pub room : HistoryHasRoom device before.held audited.shape audited.rows
  -- each still holds that journal, and all disks are back unchanged
  pub holds : HistoryIsHeld device before.held after.held audited.shape (genesis_id mint) audited.rows
  pub unchanged : AreUnchanged device before.held after.held

-- an audit found all sound
pub record DidAudit {D : Type 0} (device : Ghosts D) (files : Text → Option (List ℕ)) (before after : Disks D) (printed : Text → Type 0)
    (file : FileWord) (clients : List FileWord) : Type 0 where
  pub totals : Totals
  pub was : WasAudited device files before after file clients (Sound totals)
  -- the money of the ledger that the disks tell is accounted for, if its first records are those of the mint, no hashes clash and each committed
  -- transaction has an input
  pub sentence : IsAccountedFor device before.held was.mint (joined was.handed) totals
  -- what it comes to was printed
  pub prints : printed (audit_text totals)

-- one of the files of an audit has this place
abbrev pub AuditPlace : FileWord → List FileWord → ℕ → Type 0
AuditPlace file clients place = (place ≡ file.place) ⊎ OnePlace clients place

-- the count of faults of one of its files rose, and it has this place
abbrev pub AuditRose : (Text → ℕ) → (Text → ℕ) → FileWord → List FileWord → ℕ → Type 0
AuditRose before now file clients place = FileRose before now file place ⊎ OneRose before now clients place

-- the ledger of this mint could not be opened: the first node that can't be, or node 0 where another mint began it; or memory ran out
abbrev pub WhyUnopened : {D : Type 0} → Ghosts D → Disks D → Disks D → List Output → Answer → Type 0
WhyUnopened device before after mint answer =
    IsUnopenedBy device before.held before.faults after.faults (Some (genesis_id mint)) answer ⊎ (answer ≡ answers.Memory)

-- there is no verdict: the mint is not read; or it is, and a client file is the first that is not; or all files were read, and the ledger could not
-- be opened
abbrev pub WhyUnaudited : {D : Type 0} → Ghosts D → Scene D → Scene D → FileWord → List FileWord → Answer → Type 0
WhyUnaudited device before after file clients answer =
    IsNotRead file.place (before.file file.name.now) mint_of_file (before.file_faults file.name.now) (after.file_faults file.name.now) answer
    ⊎ ((mint : List Output) × Tells (before.file file.name.now) (λ c. mint_of_file c ≡ Ok mint)
    × (FirstNotRead before.file before.file_faults after.file_faults clients answer
    ⊎ ((handed : List (List FullTx)) × AreRead before.file 0 clients handed × WhyUnopened device before.disks after.disks mint answer)))

-- the answer is Unsound, and so is the verdict, with this place and kind
abbrev pub IsUnsoundBy : (Verdict → Type 0) → Answer → Type 0
IsUnsoundBy was (answers.Unsound place kind) = was (Unsound place kind)
IsUnsoundBy was other = ⊥

-- something is unsound, or there is no verdict; and the disks are back as they were read
abbrev pub WhyNoAudit : {D : Type 0} → Ghosts D → Scene D → Scene D → FileWord → List FileWord → Answer → Type 0
WhyNoAudit device before after file clients answer =
    AreDisksBack device before.disks after.disks
    × (IsUnsoundBy (WasAudited device before.file before.disks after.disks file clients) answer
    ⊎ WhyUnaudited device before after file clients answer)
