-- Where journals have a kept history, the rows that are made of them are one.
use Rattle.std.proofs.Common.{◌≡◌, ℕ, ◌+◌, ◌≤◌, List, [], sym, ◌∙◌, subst}
use Rattle.cbdc_model.specs.Records.{Shape, Record, Row}
use Rattle.cbdc_model.specs.Coins.{Output, FullTx}
use Rattle.cbdc_model.specs.Clean.{IsProperCompact}
use Rattle.cbdc_model.specs.History.{minted, IsKept}
use Rattle.cbdc_model.specs.World.{IsHistory, KeptJournals}
use Rattle.plain_check.specs.Merging.{later_below}
use Rattle.plain_check.proofs.Firsts.{steady_none}
use Rattle.plain_check.proofs.Merging.{made_history, made_later}

no_others : (K : Shape) (mint : List Output) (submissions : List FullTx) (J : ℕ → List Record) → KeptJournals K mint submissions J
    → (n : ℕ) → K.coordinators + K.shards ≤ n → J n ≡ []
no_others K mint submissions J kept n le = sym (kept.history.journals_are n)
    ∙ steady_none K (minted mint) (IsProperCompact submissions) kept.later n kept.kept le

pub kept_history : (K : Shape) (mint : List Output) (submissions : List FullTx) (J : ℕ → List Record) → KeptJournals K mint submissions J
    → IsHistory K (minted mint) J (later_below J (K.coordinators + K.shards))
kept_history K mint submissions J kept = made_history K (minted mint) J kept.later kept.history (no_others K mint submissions J kept)

pub kept_rows : (K : Shape) (mint : List Output) (submissions : List FullTx) (J : ℕ → List Record) → KeptJournals K mint submissions J
    → IsKept K mint submissions (later_below J (K.coordinators + K.shards))
kept_rows K mint submissions J kept =
    subst (IsKept K mint submissions) (made_later K (minted mint) J kept.later kept.history (no_others K mint submissions J kept)) kept.kept

pub kept_by_history : (K : Shape) (mint : List Output) (submissions : List FullTx) (J : ℕ → List Record) (later : List Row)
    → IsHistory K (minted mint) J later
    → IsKept K mint submissions later → KeptJournals K mint submissions J
kept_by_history K mint submissions J later history kept = record { later = later; history = history; kept = kept }
