use Rattle.std.proofs.Common.{◌≡◌, ◌-◌}
use Rattle.byte_fields.specs.Reading.{items_at}
use Rattle.byte_fields.proofs.Loop.{with_front}
use Rattle.byte_fields.proofs.reading.items.Given as goal

abbrev pub invariant-items : goal.invariant-items
invariant-items g l = with_front g.T.Item.item_at l.items (items_at g.T.Item.item_at (l.count - l.i) l.rest)
    ≡ items_at g.T.Item.item_at l.count l.bytes
