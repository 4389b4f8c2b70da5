use Rattle.std.proofs.Common.{◌≡◌, ◌&&◌, ◌||◌, ℕ, List, drop}
use Rattle.cbdc_model.specs.Records.{Digest, Record}
use Rattle.cbdc_model.specs.Outcomes.{won_txs}
use Rattle.cbdc_model.specs.History.{all_outputs}
use Rattle.cbdc_model.specs.Status.{has}
use Rattle.audit.specs.Rows.{read}
use Rattle.audit.specs.Knowing.{Knows}
use Rattle.audit.specs.Waiting.{is_due}
use Rattle.audit.proofs.sizes.add_coming.Given as goal

abbrev pub invariant-txs : goal.invariant-txs
invariant-txs l = (J : ℕ → List Record) → Knows (read l.journals) l.known J → (y : Digest)
    → (has l.owed.hashes y || (has (all_outputs (won_txs (drop l.at l.txs) (drop l.at l.outcomes))) y && is_due l.shape J l.batch y))
    ≡ (has l.initial.owed.hashes y || (has (all_outputs (won_txs l.txs l.outcomes)) y && is_due l.shape J l.batch y))
