-- What a wave asks of its ledger and of its lanes, and what these are before it and behind it.
use Rattle.std.specs.Prelude.{◌≡◌, ◌*◌, Bool, true, false, List, [], length, Option, Some}
use Rattle.outside.specs.declared.disk.Disk.{Ghosts}
use Rattle.cbdc_model.specs.World.{AreIdle}
use Rattle.ledger_runs.specs.Lanes.{LaneOf}
use Rattle.ledger_runs.specs.Waving.{AreWithin}
use Rattle.file_runs.specs.Ledgers.{LedgerOf, ledger_journals, IsChecked}
use Rattle.file_runs.specs.Waving.{IsWave}
use Rattle.lane_sources.specs.Deals.{no_shape}

-- a lane for each of an idle ledger's whose journals are checked, and what the lanes get is within the limits
pub record CanWave {D : Type 0} (ledger : LedgerOf D) (lanes : List LaneOf) : Type 0 where
  pub lanes_are : length lanes ≡ ledger.header.shape.coordinators * ledger.header.shape.lanes
  pub idle : AreIdle ledger.header.shape (ledger_journals ledger)
  pub limits : AreWithin lanes
  pub checked : IsChecked ledger

-- before the wave they are those that it begins with, and behind it as a wave leaves them
abbrev pub WaveStands : {D : Type 0} → Ghosts D → LedgerOf D → List LaneOf → LedgerOf D → List LaneOf → Bool → Type 0
WaveStands device before lanes ledger works false = (ledger ≡ before) × (works ≡ lanes) × CanWave before lanes
WaveStands device before lanes ledger works true = IsWave device before ledger lanes works

-- and the ledger is there
pub record IsHeld {D : Type 0} (device : Ghosts D) (before : LedgerOf D) (lanes : List LaneOf)
    (ledger : Option (LedgerOf D)) (works : List LaneOf) (has_run : Bool) : Type 0 where
  pub now : LedgerOf D
  pub there : ledger ≡ Some now
  pub stands : WaveStands device before lanes now works has_run

-- what stands where no wave is picked
pub no_ledger : {D : Type 0} → LedgerOf D
no_ledger = record { header = record { node = 0; shape = no_shape; genesis = [] }; logs = []; shards = [] }
