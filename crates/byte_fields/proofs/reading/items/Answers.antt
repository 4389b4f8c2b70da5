use Rattle.std.proofs.lemmas.Result.{err_from_is_err_and}
use Rattle.byte_fields.specs.Reading.{items_at}
use Rattle.byte_fields.proofs.Loop.{goes_on, ends, is_done}
use Rattle.byte_fields.proofs.reading.items.Goals as goal

pub returns-in_err-item : goal.returns-in_err-item
returns-in_err-item g c =
    let p = err_from_is_err_and c.from_residual-in_err-item.result c.from_residual-in_err-item.ensures.1 in
    rw (p.1, p.2) (ends g.T.Item.item_at c.in_err-item.field-0.0 c.items.items c.args.count c.items.i c.items.rest.now
    (items_at g.T.Item.item_at c.args.count c.args.bytes.now) c.items-test.true c.in_err-item.ensures c.items.invariant)

pub items-preserved : goal.items-preserved
items-preserved g c =
    rw c.in_ok-push.ensures.ok (goes_on g.T.Item.item_at c.items.items c.args.count c.items.i c.items.rest.now c.in_ok-item.item
    c.in_ok-item.after.now (items_at g.T.Item.item_at c.args.count c.args.bytes.now) c.items-test.true c.in_ok-item.ensures c.items.invariant)

pub returns : goal.returns
returns g c = is_done g.T.Item.item_at c.items.items c.args.count c.items.i c.items.rest.now
    (items_at g.T.Item.item_at c.args.count c.args.bytes.now) c.items-test.false c.items.invariant
