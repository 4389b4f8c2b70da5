use Rattle.std.proofs.Common.{◌≡◌, length, arith, refl, ◌∙◌}
use Rattle.shard_table.specs.Slots.{gather}
use Rattle.shard_table.proofs.Places.{open_wrap, round}
use Rattle.shard_table.proofs.placing.close_up.Goals as goal

pub close_part-requires-in-Some-clause-apart : goal.close_part-requires-in-Some-clause-apart
close_part-requires-in-Some-clause-apart g c =
    let low = (c.in-Some.ensures.opened c.in-Some.moved refl).1.low (omega arith) in
    λ m a b. omega (arith, low)

pub close_part-requires-in-Some-clause-opened : goal.close_part-requires-in-Some-clause-opened
close_part-requires-in-Some-clause-opened g c =
    let o = rw c.len-end.ensures at (c.in-Some.ensures.opened c.in-Some.moved refl).0 in
    rw c.close_part.ensures.len (open_wrap c.close_part.new.slots (length c.args.slots.now) c.in-Some.moved o)

pub returns-in-Some-clause-sound : goal.returns-in-Some-clause-sound
returns-in-Some-clause-sound g c =
    let p = rw c.len-end.ensures at (c.in-Some.ensures.opened c.in-Some.moved refl).1 in
    let e = c.close_part-in-Some.ensures in
    let len = c.close_part.ensures.len in
    let count : length (gather c.close_part-in-Some.new.slots) ≡ length (gather c.args.slots.now) = e.count ∙ c.close_part.ensures.count in
    round c.args.slots.now c.close_part.new.slots c.close_part-in-Some.new.slots c.args.gap c.in-Some.moved (length c.args.slots.now)
    c.close_part-in-Some.result
    (e.len ∙ len) (let r = c.requires.room in omega (arith, r, count)) p
    (rw len at e.closed) (rw len at e.opened)
