-- What a run of a workload comes to where no hashes of it clash.
use Rattle.std.specs.Prelude.{◌≡◌, ℕ, ◌-◌, ◌*◌, ◌<◌, List, reverse}
use Rattle.cbdc_model.specs.Records.{Shape, Record, Row, journal}
use Rattle.cbdc_model.specs.Coins.{FullTx}
use Rattle.cbdc_model.specs.Clean.{Clean, value_out}
use Rattle.cbdc_model.specs.History.{IsOrdered}
use Rattle.cbdc_model.specs.World.{KeptJournals}
use Rattle.cbdc_model.specs.Waves.{Waves}
use Rattle.submissions.specs.SoundTest.{sound_by}
use Rattle.cbdc_types.specs.declared.answer.Totals.{Totals}
use Rattle.audit.specs.Verdicts.{IsSoundHistory}
use Rattle.printed_lines.specs.Unspent.{IsUnspentCount}
use Rattle.submission_laws.specs.Sent.{IsSent}
use Rattle.submission_laws.specs.Free.{IsSubmissionConfirmed}
use Rattle.workload.specs.Generator.{mint_of, minted_of, joined_of}
use Rattle.submission_laws.specs.Files.{all_good, files_of, all_submissions, made_for}

-- how many hashes are unspent in the end: each split makes two, and each join takes two and makes one
abbrev pub left_of : ℕ → ℕ
left_of n = 2 * minted_of n - joined_of n

-- what an audit's totals are in the end: the value is the value minted, all n transactions are committed, all of it is money, nothing is issued and
-- nothing is redeemed
abbrev pub totals_of : ℕ → ℕ → Totals
totals_of seed n = record {
  coins = left_of n;
  value = value_out (mint_of seed n);
  minted = value_out (mint_of seed n);
  committed = n;
  money = value_out (mint_of seed n);
  issued = 0;
  redeemed = 0;
}

-- behind a run of a workload each of its transactions is confirmed, `left_of` hashes are unspent, and the totals of an audit that finds all sound
-- are `totals_of`
pub record IsWorkloadWhole (K : Shape) (seed n : ℕ) (X : ℕ → List Record) : Type 0 where
  pub confirmed : (k j : ℕ) (t : FullTx) (it : IsSent all_good (files_of seed n) k j t)
      → IsSubmissionConfirmed K all_good (files_of seed n) (made_for K seed n) X k it.file j t
  pub unspent : (m : ℕ) → IsUnspentCount K X m → m ≡ left_of n
  pub totals : (rows : List Row) (totals : Totals) → ((node : ℕ) → journal node (reverse rows) ≡ X node) → IsOrdered (reverse rows)
      → IsSoundHistory K (mint_of seed n) (all_submissions seed n) rows totals
      → totals ≡ totals_of seed n

-- so it is behind every run of the two files over the ledger of the mint
abbrev pub WholeLaw : Type 0
WholeLaw = (K : Shape) (seed n : ℕ) (X : ℕ → List Record) → 0 < K.shards → 0 < K.lanes → 0 < K.coordinators * K.lanes
    → Clean (mint_of seed n) (all_submissions seed n)
    → KeptJournals K (mint_of seed n) (all_submissions seed n) X → Waves K (sound_by all_good) (files_of seed n) (made_for K seed n) X
    → IsWorkloadWhole K seed n X
