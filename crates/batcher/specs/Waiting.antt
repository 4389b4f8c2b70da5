-- What contracts see of a batcher.
use Rattle.std.specs.Prelude.{ℕ, List}
use Rattle.cbdc_types.specs.declared.tx.CompactTx.{CompactTx}

-- its limit, and the transactions that wait, in order
pub record WaitingOf : Type 0 where
  pub limit : ℕ
  pub waiting : List CompactTx
