use Rattle.std.proofs.Common.{◌≡◌, ◌-◌}
use Rattle.byte_fields.specs.Reading.{items_at}
use Rattle.client_files.specs.Files.{minted_at}
use Rattle.byte_fields.proofs.Loop.{with_front}
use Rattle.client_files.proofs.mint.outputs.Given as goal

abbrev pub invariant-items : goal.invariant-items
invariant-items l = with_front minted_at l.items (items_at minted_at (l.count - l.i) l.rest) ≡ items_at minted_at l.count l.bytes
