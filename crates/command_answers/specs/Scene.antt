-- What a command finds outside, and what it leaves there.
use Rattle.std.specs.Prelude.{ℕ, List, Option, None}
use Rattle.outside.specs.declared.inbox.Inbox.{Ghosts as InboxGhosts}
use Rattle.outside.specs.declared.rack.Rack.{Ghosts as RackGhosts}
use Rattle.outside.specs.declared.sink.Sink.{Ghosts as SinkGhosts}
use Rattle.line_text.specs.Lines.{Text}
use Rattle.rack_ledgers.specs.Racked.{Disks, disks_in}

-- what stands outside a command at one moment
pub record Scene (D : Type 0) : Type 0 where
  -- what each file holds, where it is told, and how often it could not be read
  pub file : Text → Option (List ℕ)
  pub file_faults : Text → ℕ
  -- the disks that the rack holds and tells, and how often each place has failed
  pub disks : Disks D
  -- what the output took, where it tells, and how often it has failed
  pub printed : Option Text
  pub print_faults : ℕ

-- the scene of these files, these disks and this output
abbrev pub scene : {I R D O : Type 0} → InboxGhosts I → RackGhosts R D → SinkGhosts O → I → R → O → Scene D
scene inbox_of rack_of output_of inbox rack output = record {
  file = inbox_of.file inbox;
  file_faults = inbox_of.count inbox;
  disks = disks_in rack_of rack;
  printed = output_of.taken output;
  print_faults = output_of.count output;
}

-- the scene of files that tell this, this rack and this output: of a command that reads none
abbrev pub scene_with : {R D O : Type 0} → (Text → Option (List ℕ)) → (Text → ℕ) → RackGhosts R D → SinkGhosts O → R → O → Scene D
scene_with file faults rack_of output_of rack output = record {
  file = file;
  file_faults = faults;
  disks = disks_in rack_of rack;
  printed = output_of.taken output;
  print_faults = output_of.count output;
}

-- an output that tells nothing and never fails: for the scene of a part of the work that prints nothing
abbrev pub no_output : SinkGhosts (Unit {0})
no_output = record { taken = λ o. None; count = λ o. 0 }
