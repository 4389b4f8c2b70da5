-- A rack over which work can be done.
use Rattle.std.specs.Prelude.{ℕ, ◌+◌, ◌≤◌, ◌<◌, Bool, List, Option, Some, None}
use Rattle.outside.specs.Counts.{Rose}
use Rattle.outside.specs.declared.disk.Disk.{Ghosts}
use Rattle.cbdc_types.specs.Limits.{IsWithinLimits}
use Rattle.cbdc_model.specs.Records.{Shape, Record}
use Rattle.cbdc_model.specs.Coins.{Output, FullTx, genesis_id}
use Rattle.cbdc_model.specs.Room.{kept_room}
use Rattle.cbdc_model.specs.Due.{used_of}
use Rattle.cbdc_model.specs.World.{KeptJournals}
use Rattle.run_laws.specs.Ample.{Ample}
use Rattle.rack_laws.specs.Shown.{Shows}
use Rattle.rack_ledgers.specs.Racked.{Disks}
use Rattle.cbdc_model.specs.Ranges.{node_count}

-- how many bytes a disk that is told of may hold
abbrev pub limit_at : {D : Type 0} → Ghosts D → Option D → ℕ
limit_at device None = 0
limit_at device (Some d) = device.limit d

-- each node's disk of the ledger tells its content, which opens to its journal, and the journals are kept
pub record ShowsKept {D : Type 0} (device : Ghosts D) (held : ℕ → Option D) (K : Shape) (mint : List Output) (submissions : List FullTx)
    (E : ℕ → List Record) : Type 0 where
  pub limits : IsWithinLimits K
  pub shown : Shows device held K (genesis_id mint) E
  pub kept : KeptJournals K mint submissions E

-- each node's disk has room for its journal and for what is kept for its open batches
abbrev pub HasKeptRoom : Shape → (ℕ → List Record) → (ℕ → ℕ) → Type 0
HasKeptRoom K E capacity = (n : ℕ) → n < node_count K → used_of (E n) + kept_room K (E n) ≤ capacity n

-- no count of faults of a node rises
abbrev pub NoneRises : Shape → (ℕ → ℕ) → (ℕ → ℕ) → Type 0
NoneRises K before now = (n : ℕ) → n < node_count K → Rose (before n) (now n) → ⊥

-- the disks show a kept ledger, have room and stamps for every record that is still to come of these files, of which these submissions are sound, and
-- none of its nodes' counts of faults rises
pub record IsRackReady {D : Type 0} (device : Ghosts D) (before after : Disks D) (sound : FullTx → Bool) (files : List (List FullTx)) : Type 0 where
  pub shape : Shape
  pub mint : List Output
  pub submissions : List FullTx
  pub journals : ℕ → List Record
  pub shows : ShowsKept device before.held shape mint submissions journals
  pub ample : Ample shape sound (λ n. limit_at device (before.held n)) files journals
  pub steady : NoneRises shape before.faults after.faults
