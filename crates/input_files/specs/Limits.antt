-- What every transaction of a client file keeps to.
use Rattle.std.specs.Prelude.{◌≤◌, length}
use Rattle.cbdc_types.specs.declared.tx.FullTx.{FullTx}

-- a transaction of at most 255 inputs and 255 outputs, as every one that was read is
pub record IsShort (t : FullTx) : Type 0 where
  pub inputs : length t.inputs ≤ 255
  pub outputs : length t.outputs ≤ 255
