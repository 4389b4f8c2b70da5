-- Disks of which a ledger can be made.
use Rattle.std.specs.Prelude.{◌≡◌, ℕ, ◌+◌, ◌^◌, ◌≤◌, ◌<◌, List, Option, Some}
use Rattle.outside.specs.declared.disk.Disk.{Ghosts}
use Rattle.cbdc_model.specs.Records.{Shape}
use Rattle.cbdc_model.specs.Coins.{Output}
use Rattle.cbdc_model.specs.Clean.{value_out}
use Rattle.cbdc_model.specs.Room.{size_of}
use Rattle.rack_ledgers.specs.Blank.{IsUnused}
use Rattle.cbdc_model.specs.Ranges.{node_count}
use Rattle.ledger_init.specs.Made.{first_record_of}

-- each node's disk tells its content, by which it is not in use, and has room for the node's first record and a closing gate; and the mint's values
-- fit
pub record CanMake {D : Type 0} (device : Ghosts D) (held : ℕ → Option D) (K : Shape) (mint : List Output) : Type 0 where
  pub fits : value_out mint < 2 ^ 64
  pub unused : (n : ℕ) → n < node_count K → (d : D) × (held n ≡ Some d) × ((c : List ℕ) × (device.content d ≡ Some c) × IsUnused n c)
      × (size_of (first_record_of K mint n) + 1 ≤ device.limit d)
