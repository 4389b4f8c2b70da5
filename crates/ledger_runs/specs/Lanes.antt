-- What contracts see of a lane of a wave.
use Rattle.std.specs.Prelude.{ℕ, List, Option}
use Rattle.std.specs.Global.{Vec}
use Rattle.cbdc_model.specs.Records.{Compact}
use Rattle.lane_driver.specs.declared.fault.LaneFault.{LaneFault}
use Rattle.ledger_runs.specs.declared.lanes.Decided.{Decided}
use Rattle.ledger_runs.specs.declared.lanes.Lane.{Lane}

-- all that its source gives, how many times more each shard call is made, and its result
pub record LaneOf : Type 0 where
  pub txs : List Compact
  pub repeats : ℕ
  pub decided : Vec Decided
  pub batches : ℕ
  pub fault : Option LaneFault

-- a lane's result: what was decided, how many batches, and its fault, if it met one
abbrev pub came_of : LaneOf → Lane
came_of x = record { decided = x.decided; batches = x.batches; fault = x.fault }
