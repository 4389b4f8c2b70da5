use Rattle.std.proofs.Common.{◌≡◌, ◌≤◌, ◌+◌, ◌++◌, take, length}
use Rattle.std.specs.List.{flat_map}
use Rattle.std.specs.Vec.{vec_len, vec_capacity}
use Rattle.byte_fields.proofs.writing.put_items.Given as goal

abbrev pub invariant-items : goal.invariant-items
invariant-items g l = record {
  items : l.out.items ≡ l.initial.out.items ++ flat_map g.T.Spell.spelled (take l.item-index l.items);
  len : vec_len l.out ≡ vec_len l.initial.out + length (flat_map g.T.Spell.spelled (take l.item-index l.items));
  capacity : vec_capacity l.initial.out ≤ vec_capacity l.out;
}
