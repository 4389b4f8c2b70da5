-- Checked journals, and the lists of their records.
use Rattle.std.proofs.Common.{ℕ, ◌<◌, List, [], ◌∷◌, subst}
use Rattle.std.specs.List.{All}
use Rattle.cbdc_model.specs.Records.{Shape, Compact, Record, Row}
use Rattle.cbdc_model.specs.Clean.{IsProperCompact}
use Rattle.cbdc_model.specs.History.{Minted, minted, IsSteady}
use Rattle.ledger_laws.proofs.Next.{Steady}
use Rattle.ledger_laws.proofs.Ledger.{each_passes, SteadyJournals, SteadyLists, steady, is_steady}
use Rattle.ledger_laws.proofs.Together.{lists_of, steady_journals}
use Rattle.run_laws.specs.Checked.{CheckedJournals, KeptIsCheckedLaw}

-- any transaction passes
abbrev pub Any : Compact → Type 0
Any k = Unit {0}

pub any_txs : (txs : List Compact) → All Any txs
any_txs txs k d lt = tt

any_rows : (K : Shape) (m : Minted) (P : Compact → Type 0) (later : List Row) → IsSteady K m P later → IsSteady K m Any later
any_rows K m P [] h = tt
any_rows K m P (row ∷ later) h = (h.0, h.1, each_passes Any (λ t. tt) row.what, any_rows K m P later h.3)

pub kept_is_checked_law : KeptIsCheckedLaw
kept_is_checked_law K mint submissions J kept = record {
  later = kept.later;
  history = kept.history;
  checked = any_rows K (minted mint) (IsProperCompact submissions) kept.later kept.kept;
}

module _ (K : Shape) (m : Minted) (J : ℕ → List Record) where
  pub rows_of : (c : CheckedJournals K m J) → Steady K m Any c.later
  rows_of c = steady K m Any c.later c.checked

  pub to_lists : 0 < K.shards → CheckedJournals K m J → SteadyLists K m Any J
  to_lists some c = subst (λ X. SteadyLists K m Any X) (λ i n. c.history.journals_are n i) (lists_of K m Any some c.later (rows_of c))

  pub to_checked : 0 < K.shards → SteadyLists K m Any J → CheckedJournals K m J
  to_checked some lists =
      let s : SteadyJournals K m Any J = steady_journals K m Any some J lists in
      record {
        later = s.later;
        history = record { ordered = s.ordered; journals_are = s.history };
        checked = is_steady K m Any s.later s.kept;
      }
