-- A sound submission that nothing contends with is confirmed.
use Rattle.std.specs.Prelude.{◌≡◌, ◌≢◌, ℕ, ◌<◌, ◌*◌, true, false, List, Some, take, slice_get}
use Rattle.cbdc_model.specs.Records.{Digest, Shape, Batch, Record, Won}
use Rattle.cbdc_model.specs.Status.{has}
use Rattle.cbdc_model.specs.Coins.{Output, FullTx, compact, tx_id}
use Rattle.cbdc_model.specs.World.{KeptJournals, IsUnspent}
use Rattle.sentinel.specs.FirstRefusal.{IsSoundTx}
use Rattle.submissions.specs.Checks.{VerdictsOf}
use Rattle.submissions.specs.SoundTest.{sound_by}
use Rattle.printed_lines.specs.declared.report.Report.{Report}
use Rattle.printed_lines.specs.declared.report.Report.TheVariants.{Decided}
use Rattle.printed_lines.specs.Decided.{decided_at}
use Rattle.printed_lines.specs.Runs.{lane_at, turn, IsReport}
use Rattle.run_laws.specs.Between.{BeginsWave}
use Rattle.submission_laws.specs.Sent.{IsSent}

-- no other sound submission of the file spends an input of the one at place j
abbrev pub IsUncontended : VerdictsOf → List FullTx → ℕ → FullTx → Type 0
IsUncontended verdicts file j t = (i : ℕ) (u : FullTx) → slice_get file i ≡ Some u → i ≢ j → IsSoundTx u (verdicts (tx_id u))
    → (x : Digest) → has (compact t).inputs x ≡ true → has (compact u).inputs x ≡ false

-- it is committed, in some batch, and so told
pub record IsSubmissionConfirmed (K : Shape) (verdicts : VerdictsOf) (files : List (List FullTx)) (E X : ℕ → List Record) (k : ℕ)
    (file : List FullTx) (j : ℕ) (t : FullTx) : Type 0 where
  pub batch : Batch
  pub decided : decided_at K E X (lane_at K j) (turn K (sound_by verdicts) (take k files) file j) ≡ Some (batch, Won)
  pub told : (r : Report) → IsReport K verdicts (sound_by verdicts) E X (take k files) file j t r → r ≡ Decided batch Won

-- a sound submission whose inputs are unspent when its file's wave begins, and which no other sound submission of its file spends, is confirmed
abbrev pub AreFreeConfirmed : Shape → VerdictsOf → List (List FullTx) → (ℕ → List Record) → (ℕ → List Record) → Type 0
AreFreeConfirmed K verdicts files E X = (k j : ℕ) (t : FullTx) (it : IsSent verdicts files k j t) (M : ℕ → List Record)
    → BeginsWave K (sound_by verdicts) files k E X M → ((x : Digest) → has (compact t).inputs x ≡ true → IsUnspent K M x)
    → IsUncontended verdicts it.file j t
    → IsSubmissionConfirmed K verdicts files E X k it.file j t

-- so it is in every run from kept journals to kept journals
abbrev pub FreeConfirmedLaw : Type 0
FreeConfirmedLaw = (K : Shape) (mint : List Output) (submissions : List FullTx) (verdicts : VerdictsOf) (files : List (List FullTx))
    (E X : ℕ → List Record)
    → 0 < K.shards → 0 < K.coordinators * K.lanes → KeptJournals K mint submissions E → KeptJournals K mint submissions X
    → AreFreeConfirmed K verdicts files E X
