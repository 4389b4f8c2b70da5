use Rattle.byte_fields.specs.Reading.{items_at}
use Rattle.client_files.specs.Files.{minted_at}
use Rattle.byte_fields.proofs.Loop.{goes_on, ends, is_done}
use Rattle.client_files.proofs.mint.outputs.Goals as goal

pub returns-in-Err : goal.returns-in-Err
returns-in-Err c = ends minted_at c.in-Err.fault c.items.items c.args.count c.items.i c.items.rest.now
    (items_at minted_at c.args.count c.args.bytes.now) c.items-test.true c.in-Err.ensures c.items.invariant

pub items-preserved : goal.items-preserved
items-preserved c =
    rw c.in_ok-push-in-Ok.ensures.ok (goes_on minted_at c.items.items c.args.count c.items.i c.items.rest.now c.in-Ok.item c.in-Ok.after.now
    (items_at minted_at c.args.count c.args.bytes.now) c.items-test.true c.in-Ok.ensures c.items.invariant)

pub returns : goal.returns
returns c = is_done minted_at c.items.items c.args.count c.items.i c.items.rest.now (items_at minted_at c.args.count c.args.bytes.now)
    c.items-test.false c.items.invariant
