use Rattle.std.proofs.Common.{◌+◌, ◌≤◌, length, take, arith}
use Rattle.std.specs.List.{flat_map}
use Rattle.std.proofs.lemmas.Result.{err_from_is_err_and}
use Rattle.std.proofs.lemmas.List.Folds.{length-flat_map-take}
use Rattle.byte_fields.proofs.writing.put_items.Goals as goal

pub returns-in_err-put-clause-full : goal.returns-in_err-put-clause-full
returns-in_err-put-clause-full g c =
    let p = err_from_is_err_and c.from_residual.result c.from_residual.ensures.1 in
    let few : length (flat_map g.T.Spell.spelled (take c.items.item-index c.args.items.now)) + length (g.T.Spell.spelled c.item-item.result)
    ≤ length (flat_map g.T.Spell.spelled c.args.items.now) =
    rw c.item-item.is (length-flat_map-take g.T.Spell.spelled c.args.items.now c.items.item-index c.item-item.result c.items-test.true) in
    rw p.1 (omega (arith, few, c.in_err-put.ensures.full, c.items.invariant.len, c.items.invariant.capacity))
