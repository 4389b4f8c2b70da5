-- The parts of `gen`'s work over nodes in memory.
use Rattle.std.specs.Prelude.{◌≡◌, ◌⊎◌, ◌+◌, ◌*◌, ◌^◌, ◌<◌, ◌≤◌, ℕ, List, [], Option, Some}
use Rattle.cbdc_types.specs.Limits.{IsWithinLimits}
use Rattle.cbdc_types.specs.declared.answer.Answer.{Answer}
use Rattle.cbdc_model.specs.Records.{Shape, Record}
use Rattle.cbdc_model.specs.Clean.{value_out}
use Rattle.cbdc_model.specs.Coins.{Output, FullTx}
use Rattle.cbdc_model.specs.Room.{size_of}
use Rattle.mirror_devices.specs.declared.mirror_rack.MirrorRack.{MirrorRack}
use Rattle.mem_devices.specs.Places.{faults_at}
use Rattle.mirror_devices.specs.MirrorRacks.{PlainMirror, mirror_at, plain_mirror, IsEmptyAt}
use Rattle.mirror_devices.specs.Empty.{copies_at}
use Rattle.run_laws.specs.Ample.{Ample}
use Rattle.submissions.specs.SoundTest.{sound_by}
use Rattle.rack_laws.specs.Ready.{limit_at}
use Rattle.cbdc_model.specs.Ranges.{node_count}
use Rattle.ledger_init.specs.Made.{first_record_of}
use Rattle.cbdc_types.specs.declared.answer.Totals.{Totals}
use Rattle.audit.specs.declared.verdict.Verdict.TheVariants.{Sound}
use Rattle.rack_ledgers.specs.Audited.{IsAudited}
use Rattle.rack_ledgers.specs.Racked.{Disks}
use Rattle.rack_runs.specs.Telling.{IsRunTold}
use Rattle.file_runs.specs.declared.ran.Ran.{Ran}
use Rattle.workload.specs.Generator.{mint_of}
use Rattle.audit_command.specs.Audits.{IsUnsoundBy, WhyUnopened}
use Rattle.run_lines.specs.Told.{IsCountable, numbers_of}
use Rattle.requests.specs.declared.GenOptions.{GenOptions}
use Rattle.gen_command.specs.Watched.{IsCutValue}
use Rattle.gen_command.specs.Generated.{all_good, all_submissions, IsWorkloadRun, HasVerdictOf, EndsWorkload, StandsOnMirrors}
use Rattle.submission_laws.specs.Files.{mint_journals}

-- the disks of a rack of mirrors in memory, which never fail in the 80 places that it has
abbrev pub mirror_disks : MirrorRack → Disks PlainMirror
mirror_disks rack = record { held = mirror_at rack; faults = faults_at rack.misses }

-- empty mirrors, each with room for the first record of its node
pub record AreDisksReady (K : Shape) (mint : List Output) (rack : MirrorRack) : Type 0 where
  pub limits : IsWithinLimits K
  pub fits : value_out mint < 2 ^ 64
  pub empty : (node : ℕ) → node < node_count K → (d : PlainMirror) × (mirror_at rack node ≡ Some d) × (plain_mirror.content d ≡ Some [])
      × (size_of (first_record_of K mint node) + 1 ≤ plain_mirror.limit d)

-- each node's mirror is of so many empty disks, one for a coordinator and so many more for a shard, with room for so many transactions
abbrev pub AreMirrorsEmpty : Shape → ℕ → ℕ → MirrorRack → Type 0
AreMirrorsEmpty K replicas n rack = (node : ℕ) → node < node_count K → IsEmptyAt rack (copies_at K.coordinators replicas node) (4096 + 400 * n) node

-- they have room and stamps for every record that is to come of files
abbrev pub HaveRoomForFiles : Shape → List Output → List (List FullTx) → MirrorRack → Type 0
HaveRoomForFiles K mint files rack = Ample K (sound_by all_good) (λ n. limit_at plain_mirror (mirror_at rack n)) files (mint_journals K mint)

-- files were run over the ledger that a mint began in memory, and the run tells what it did
abbrev pub TellsRunOf : Shape → List Output → List (List FullTx) → MirrorRack → Ran → Type 0
TellsRunOf K mint files rack ran = IsRunTold plain_mirror (mirror_at rack) all_good files ran K mint [] (mint_journals K mint)

-- what a workload's run and audit tell is so, and the value of a cut
pub record IsWorkloadResult (K : Shape) (seed n : ℕ) (options : GenOptions) (ran : Ran) (totals : Totals) (cut : Option ℕ) : Type 0 where
  pub limits : IsWithinLimits K
  pub exit : ℕ → List Record
  pub run : IsWorkloadRun K seed n exit
  pub mirrors : StandsOnMirrors K options.replicas exit
  pub countable : IsCountable ran
  pub ends : EndsWorkload K seed n exit (numbers_of ran)
  pub audited : HasVerdictOf K (mint_of seed n) (all_submissions seed n) exit (Sound totals)
  pub watched : IsCutValue K seed n exit options.watch cut

-- the ledger of a mint was audited with the transactions that were handed in, and is sound with these totals
abbrev pub IsCheckedSound : MirrorRack → List Output → List FullTx → Totals → Type 0
IsCheckedSound rack mint handed totals = IsAudited plain_mirror (mirror_at rack) mint handed (Sound totals)

-- it is not: the audit found something wrong, or the ledger could not be opened
abbrev pub IsUnchecked : MirrorRack → MirrorRack → List Output → List FullTx → Answer → Type 0
IsUnchecked old new mint handed answer =
    IsUnsoundBy (IsAudited plain_mirror (mirror_at old) mint handed) answer
    ⊎ WhyUnopened plain_mirror (mirror_disks old) (mirror_disks new) mint answer
