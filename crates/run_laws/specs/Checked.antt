-- Journals as the program itself checks them.
use Rattle.std.specs.Prelude.{ℕ, List}
use Rattle.cbdc_model.specs.Records.{Shape, Record, Row}
use Rattle.cbdc_model.specs.Coins.{Output, FullTx}
use Rattle.cbdc_model.specs.History.{Minted, minted, IsSteady}
use Rattle.cbdc_model.specs.World.{IsHistory, KeptJournals}

-- the journals have a history in which each record is after its journal and caused, whatever hashes the first records hold and whatever
-- transactions are prepared: what the program itself checks
pub record CheckedJournals (K : Shape) (m : Minted) (J : ℕ → List Record) : Type 0 where
  pub later : List Row
  pub history : IsHistory K m J later
  pub checked : IsSteady K m (λ k. Unit {0}) later

-- kept journals are so
abbrev pub KeptIsCheckedLaw : Type 0
KeptIsCheckedLaw = (K : Shape) (mint : List Output) (submissions : List FullTx) (J : ℕ → List Record) → KeptJournals K mint submissions J
    → CheckedJournals K (minted mint) J
