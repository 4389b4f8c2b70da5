use Rattle.std.proofs.Common.{◌≡◌, length, take}
use Rattle.cbdc_model.specs.Records.{Digest}
use Rattle.shard_table.specs.Entries.{lookup}
use Rattle.shard_table.specs.Slots.{gather, IsSound}
use Rattle.shard_table.proofs.slots.fill_all.Given as goal

-- the hashes so far stand in the wider slots
abbrev pub invariant-loop-at : goal.invariant-loop-at
invariant-loop-at g l = record {
  len : length l.wider ≡ length l.initial.wider;
  sound : IsSound l.wider (length l.initial.wider);
  kept : (x : Digest) → lookup (gather l.wider) x ≡ lookup (gather (take l.at l.slots)) x;
  count : length (gather l.wider) ≡ length (gather (take l.at l.slots));
}
