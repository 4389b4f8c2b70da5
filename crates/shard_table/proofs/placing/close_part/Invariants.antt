use Rattle.std.proofs.Common.{◌≡◌, ◌≢◌, ℕ, ◌<◌, ◌≤◌, length}
use Rattle.cbdc_model.specs.Records.{Digest}
use Rattle.shard_table.specs.Entries.{lookup}
use Rattle.shard_table.specs.Slots.{gather, IsOpen, IsShifted}
use Rattle.shard_table.proofs.placing.close_part.Given as goal

-- the gap may have moved; nothing that was gone through belongs before it
abbrev pub invariant-loop-at : goal.invariant-loop-at
invariant-loop-at g l = record {
  len : length l.slots ≡ length l.initial.slots;
  apart : (m : ℕ) → l.at ≤ m → m < l.to → m ≢ l.free;
  opened : IsOpen l.slots (length l.initial.slots) l.free l.at;
  shifted : IsShifted l.initial.slots l.slots l.gap l.from l.at l.free;
  kept : (x : Digest) → lookup (gather l.slots) x ≡ lookup (gather l.initial.slots) x;
  count : length (gather l.slots) ≡ length (gather l.initial.slots);
}
