-- What `gen` comes to: a ledger of the workload's mint is made in nodes of its own, the workload's files are run over it, and it is audited.
use Rattle.std.specs.List.{range_with_len}
use Rattle.std.specs.Prelude.{◌≡◌, ◌⊎◌, Bool, true, Option, ◌+◌, ◌-◌, ◌*◌, ◌/◌, ◌++◌, ◌<◌, ℕ, zero, suc, length, List, reverse, Some, slice_get}
use Rattle.line_text.specs.Lines.{Text, summary_text}
use Rattle.cbdc_types.specs.declared.answer.Answer.{Answer}
use Rattle.cbdc_types.specs.declared.answer.Answer.TheVariants as answers
use Rattle.cbdc_types.specs.declared.answer.UnsoundKind.{UnsoundKind}
use Rattle.cbdc_model.specs.Records.{Shape, Record, Row, journal}
use Rattle.cbdc_model.specs.Ranges.{node_count}
use Rattle.cbdc_model.specs.Coins.{Output, FullTx}
use Rattle.cbdc_model.specs.Clean.{Clean, value_out}
use Rattle.cbdc_model.specs.History.{IsOrdered}
use Rattle.cbdc_model.specs.World.{KeptJournals}
use Rattle.cbdc_model.specs.Waves.{Waves, share}
use Rattle.mem_devices.specs.declared.plain_disk.PlainDisk.{PlainDisk}
use Rattle.mirror_devices.specs.declared.mirror_rack.MirrorRack.{MirrorRack}
use Rattle.mirror_devices.specs.Empty.{copies_at}
use Rattle.mirror_devices.specs.MirrorRacks.{PlainMirror, mirror_at, IsEmptyAt}
use Rattle.record_log.specs.Held.{OpensTo}
use Rattle.submissions.specs.SoundTest.{sound_by}
use Rattle.cbdc_types.specs.declared.answer.Totals.{Totals}
use Rattle.audit.specs.declared.verdict.Verdict.{Verdict}
use Rattle.audit.specs.declared.verdict.Verdict.TheVariants.{Sound, Unsound}
use Rattle.audit.specs.Verdicts.{IsVerdict}
use Rattle.audit.specs.declared.parts.PartVerdict.TheVariants.{Unsound as UnsoundPart}
use Rattle.requests.specs.declared.GenOptions.{GenOptions}
use Rattle.gen_command.specs.Watched.{HasCut, IsCutValue, cut_text, told_if}
use Rattle.printed_lines.specs.declared.report.Report.{Report}
use Rattle.line_text.specs.Reports.{audit_text}
use Rattle.printed_lines.specs.Runs.{AreAllReports, is_confirmed, is_rejected, count_in}
use Rattle.printed_lines.specs.Unspent.{IsUnspentCount}
use Rattle.workload.specs.Generator.{mint_of, minted_of, joined_of}
use Rattle.submission_laws.specs.Whole.{left_of, totals_of}
pub use Rattle.submission_laws.specs.Files.{all_good, files_of, all_submissions, mint_journals, made_for}

-- these journals are kept, of the workload's mint and transactions, and from `made_for` on they have the waves of its files
pub record IsWorkloadRun (K : Shape) (seed n : ℕ) (X : ℕ → List Record) : Type 0 where
  pub kept : KeptJournals K (mint_of seed n) (all_submissions seed n) X
  pub waves : Waves K (sound_by all_good) (files_of seed n) (made_for K seed n) X

-- of the history of journals X an audit with a mint and these transactions has this verdict
pub record HasVerdictOf (K : Shape) (mint : List Output) (handed : List FullTx) (X : ℕ → List Record) (verdict : Verdict) : Type 0 where
  pub rows : List Row
  pub journals_are : (node : ℕ) → journal node (reverse rows) ≡ X node
  pub ordered : IsOrdered (reverse rows)
  pub is : IsVerdict K mint handed rows verdict

-- the journals stood on disks in memory that were written alike: they were made empty, one for a coordinator and so many more for a shard, and at the
-- end what a crash leaves of any of them opens to its node's journal
pub record StandsOnMirrors (K : Shape) (replicas : ℕ) (X : ℕ → List Record) : Type 0 where
  pub began : MirrorRack
  pub ended : MirrorRack
  pub room : ℕ
  pub made : (node : ℕ) → node < node_count K → IsEmptyAt began (copies_at K.coordinators replicas node) room node
  pub there : (node : ℕ) → node < node_count K → (m : PlainMirror) × (mirror_at ended node ≡ Some m)
  pub holds : (node : ℕ) → node < node_count K → (m : PlainMirror) → mirror_at ended node ≡ Some m
      → (k : ℕ) (d : PlainDisk) → slice_get m.disks.items k ≡ Some d → OpensTo (reverse (X node)) d.bytes.items

-- how many pieces of n a list of m is cut into, the last maybe shorter
abbrev pub rounded_up : ℕ → ℕ → ℕ
rounded_up m n = (m + n - 1) / n

-- how many of the first m places go to a lane
abbrev pub sent_of : Shape → ℕ → ℕ → ℕ
sent_of K m lane = length (share (K.coordinators * K.lanes) lane 0 (range_with_len 0 m))

-- how many batches the lanes below a number cut the two files of n transactions into
abbrev pub cut_below : Shape → ℕ → ℕ → ℕ
cut_below K n zero = 0
cut_below K n (suc lane) = cut_below K n lane + (rounded_up (sent_of K (minted_of n) lane) K.batch
    + rounded_up (sent_of K (joined_of n) lane) K.batch)

-- how many batches all lanes cut the two files of n transactions into
abbrev pub batches_for : Shape → ℕ → ℕ
batches_for K n = cut_below K n (K.coordinators * K.lanes)

-- the text is the six numbers that end a run of the workload to these journals: nothing was open before, the batches are `batches_for`, each
-- submission is confirmed or rejected by its outcome there, and none is refused
pub record EndsWorkload (K : Shape) (seed n : ℕ) (X : ℕ → List Record) (text : Text) : Type 0 where
  pub all : List (List Report)
  pub are : AreAllReports K all_good (sound_by all_good) (made_for K seed n) X (files_of seed n) all
  pub decided : count_in is_confirmed all + count_in is_rejected all ≡ n
  pub unspent : ℕ
  pub counted : IsUnspentCount K X unspent
  pub text_is : text ≡ summary_text 0 (batches_for K n) (count_in is_confirmed all) (count_in is_rejected all) 0 unspent

-- the text of a workload where no hashes of it clash, whatever the order of the lanes' turns: all n transactions are confirmed, so many hashes are
-- left unspent, and the audit's value is the value minted, and so is that of a cut
abbrev pub clean_text : Shape → ℕ → ℕ → Bool → Text
clean_text K seed n watch =
    (summary_text 0 (batches_for K n) n 0 0 (left_of n) ++ audit_text (totals_of seed n)) ++ cut_text (told_if watch (value_out (mint_of seed n)))

-- there are journals of such a run, on such disks. The text is the numbers that end it (`EndsWorkload`), behind them the totals with which an audit
-- finds it sound, and where an auditor was to look beside the first file's lanes the value of the cut of what it saw (`IsCutValue`). Where no hashes
-- of the workload clash it is `clean_text`
pub record IsWorkloadText (K : Shape) (seed n : ℕ) (options : GenOptions) (text : Text) : Type 0 where
  pub exit : ℕ → List Record
  pub run : IsWorkloadRun K seed n exit
  pub mirrors : StandsOnMirrors K options.replicas exit
  pub summary : Text
  pub ends : EndsWorkload K seed n exit summary
  pub totals : Totals
  pub audited : HasVerdictOf K (mint_of seed n) (all_submissions seed n) exit (Sound totals)
  pub cut : Option ℕ
  pub watched : IsCutValue K seed n exit options.watch cut
  pub text_is : text ≡ (summary ++ audit_text totals) ++ cut_text cut
  pub clean : Clean (mint_of seed n) (all_submissions seed n) → text ≡ clean_text K seed n options.watch

-- the text of a workload was printed
abbrev pub PrintsWorkload : (Text → Type 0) → Shape → ℕ → ℕ → GenOptions → Type 0
PrintsWorkload printed K seed n options = (text : Text) × IsWorkloadText K seed n options text × printed text

-- ---- why a workload was not done

-- an audit found this behind a run, or of the cut of what an auditor saw beside its first file, which it does only where two outputs of the workload
-- share a hash, or two transactions an id
pub record IsUnsoundWorkload (K : Shape) (seed n : ℕ) (watch : Bool) (place : ℕ) (kind : UnsoundKind) : Type 0 where
  pub exit : ℕ → List Record
  pub run : IsWorkloadRun K seed n exit
  pub audited : HasVerdictOf K (mint_of seed n) (all_submissions seed n) exit (Unsound place kind)
      ⊎ ((watch ≡ true) × HasCut K seed n exit (UnsoundPart place kind))
  pub unclean : Clean (mint_of seed n) (all_submissions seed n) → ⊥

-- why a workload was not done: its audit found something wrong, or memory ran out. No other answer comes: the workload fits, its nodes in memory have
-- room and stamps for all that it writes, none of them is at fault or in use, and no record is without its cause
abbrev pub WhyNoWorkload : Shape → ℕ → ℕ → Bool → Answer → Type 0
WhyNoWorkload K seed n watch (answers.Unsound place kind) = IsUnsoundWorkload K seed n watch place kind
WhyNoWorkload K seed n watch answers.Memory = Unit {0}
WhyNoWorkload K seed n watch other = ⊥
