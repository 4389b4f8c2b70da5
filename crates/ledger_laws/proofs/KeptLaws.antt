-- What is kept, as the functions state it.
use Rattle.std.proofs.Common.{◌∙◌}
use Rattle.cbdc_model.specs.Clean.{IsProperCompact}
use Rattle.cbdc_model.specs.History.{minted}
use Rattle.cbdc_model.specs.World.{init}
use Rattle.ledger_laws.specs.Laws.{KeptLaw, StepLaw}
use Rattle.ledger_laws.proofs.FirstWorld.{init_kept, init_length, run_length, step_length, to_steady, to_kept}
use Rattle.ledger_laws.proofs.Worlds.{run_keeps, step_keeps}

pub kept_law : KeptLaw
kept_law K mint txs events w shards proper run =
    to_kept K mint txs w (run_length K (minted mint) (init K (minted mint)) w events run ∙ init_length K (minted mint) (IsProperCompact txs))
    (run_keeps K (minted mint) (IsProperCompact txs) shards (init K (minted mint)) w events (init_kept K (minted mint) (IsProperCompact txs)) proper
    run)

pub step_law : StepLaw
step_law K mint txs old new event shards kept proper step =
    to_kept K mint txs new (step_length K (minted mint) old new event step ∙ kept.size)
    (step_keeps K (minted mint) (IsProperCompact txs) shards old new event (to_steady K mint txs old kept) proper step)
