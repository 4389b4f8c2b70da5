-- Journals as one fact for each record, and waves, as the functions state them.
use Rattle.std.proofs.Common.{ℕ, ◌<◌, List, refl, subst}
use Rattle.cbdc_model.specs.Records.{Shape, Record}
use Rattle.cbdc_model.specs.Coins.{Output, FullTx}
use Rattle.cbdc_model.specs.Clean.{IsProperCompact}
use Rattle.cbdc_model.specs.History.{minted}
use Rattle.cbdc_model.specs.World.{KeptJournals, journals}
use Rattle.ledger_laws.specs.Laws.{LocalLaw, WaveLaw, FlightLaw}
use Rattle.ledger_laws.proofs.Ledger.{SteadyJournals, SteadyLists, steady, is_steady, steady_lists, kept_lists}
use Rattle.ledger_laws.proofs.Together.{lists_of, steady_journals, wave_keeps, kept_world}
use Rattle.ledger_laws.proofs.Ledger.{next_behind, proper_of}
use Rattle.ledger_laws.proofs.FirstWorld.{to_kept}

to_lists : (K : Shape) (mint : List Output) (txs : List FullTx) (J : ℕ → List Record) → 0 < K.shards → KeptJournals K mint txs J
    → SteadyLists K (minted mint) (IsProperCompact txs) J
to_lists K mint txs J shards kept =
    subst (λ X. SteadyLists K (minted mint) (IsProperCompact txs) X) (λ i n. kept.history.journals_are n i)
    (lists_of K (minted mint) (IsProperCompact txs) shards kept.later (steady K (minted mint) (IsProperCompact txs) kept.later kept.kept))

to_journals : (K : Shape) (mint : List Output) (txs : List FullTx) (J : ℕ → List Record) → 0 < K.shards
    → SteadyLists K (minted mint) (IsProperCompact txs) J → KeptJournals K mint txs J
to_journals K mint txs J shards lists =
    let s : SteadyJournals K (minted mint) (IsProperCompact txs) J = steady_journals K (minted mint) (IsProperCompact txs) shards J lists in
    record {
      later = s.later;
      history = record { ordered = s.ordered; journals_are = s.history };
      kept = is_steady K (minted mint) (IsProperCompact txs) s.later s.kept;
    }

pub local_law : LocalLaw
local_law K mint txs J shards = (
  λ kept. kept_lists K (minted mint) (IsProperCompact txs) J (to_lists K mint txs J shards kept),
  λ lists. to_journals K mint txs J shards (steady_lists K (minted mint) (IsProperCompact txs) J lists),
)

pub wave_law : WaveLaw
wave_law K mint txs pieces E X shards pass kept wave =
    to_journals K mint txs X shards (wave_keeps K (minted mint) (IsProperCompact txs) shards pieces pass E X (to_lists K mint txs E shards kept) wave)

pub flight_law : FlightLaw
flight_law K mint txs w shards size kept flights =
    let lists : SteadyLists K (minted mint) (IsProperCompact txs) (journals w) = to_lists K mint txs (journals w) shards kept in
    to_kept K mint txs w size (kept_world K (minted mint) (IsProperCompact txs) shards (journals w) lists w (λ n. refl)
    (λ n r f.
    let g = flights n r f in
    (next_behind K (minted mint) n (journals w n) r (lists.begins n) g.0, g.1, proper_of (IsProperCompact txs) r g.2, g.0.0)))
