-- The lanes of a wave, ready for it, and with their results.
use Rattle.std.specs.Prelude.{◌≡◌, ◌≤◌, [], length, min, Some, None, Result, Ok, Err, vec_capacity}
use Rattle.lane_driver.specs.declared.fault.LaneFault.{LaneFault}
use Rattle.lane_driver.specs.declared.fault.LaneReport.{LaneReport}
use Rattle.lane_driver.specs.declared.fault.LaneFaultKind.TheVariants.{Memory}
use Rattle.ledger_runs.specs.Lanes.{LaneOf}
use Rattle.ledger_runs.specs.Telling.{kept_by}
use Rattle.thread_laws.specs.Telling.{told_in}

-- nothing is decided of the lane's transactions, there is room for an outcome of each, and it has not stopped
pub record IsLaneReady (x : LaneOf) : Type 0 where
  pub decided : x.decided.items ≡ []
  pub room : length x.txs ≤ vec_capacity x.decided
  pub batches : x.batches ≡ 0
  pub fault : x.fault ≡ None

-- it stopped because memory ran out, before its first call
abbrev pub HasStoppedForMemory : LaneOf → Type 0
HasStoppedForMemory x = x.fault ≡ Some (record { node = 0; fault = Memory })

-- it keeps what its batches came to, in order
pub record KeepsReport (x : LaneOf) (report : LaneReport) (y : LaneOf) : Type 0 where
  pub txs : y.txs ≡ x.txs
  pub fault : y.fault ≡ None
  pub kept : kept_by y.decided.items ≡ told_in report.batches
  pub count : y.batches ≡ min (length report.batches) 18446744073709551615

-- the lane with the result of its run
abbrev pub IsResultKept : LaneOf → Result LaneReport LaneFault → LaneOf → Type 0
IsResultKept x (Ok report) y = KeepsReport x report y
IsResultKept x (Err e) y = (y.txs ≡ x.txs) × (y.fault ≡ Some e)
