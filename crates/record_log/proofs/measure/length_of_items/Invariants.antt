use Rattle.std.proofs.Common.{◌≡◌, ◌-◌, ◌^◌, min, take, length}
use Rattle.std.specs.List.{flat_map}
use Rattle.record_log.proofs.measure.length_of_items.Given as goal

abbrev pub invariant-items : goal.invariant-items
invariant-items g l = l.total ≡ min (length (flat_map g.T.Spell.spelled (take l.item-index l.items))) (2 ^ 64 - 1)
