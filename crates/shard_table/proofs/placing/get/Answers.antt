use Rattle.std.proofs.Common.{◌≡◌, ◌<◌, length, Some, arith, refl, sym, ◌∙◌}
use Rattle.shard_table.specs.Slots.{slot_at}
use Rattle.shard_table.proofs.Places.{absent_lookup, here_lookup, for_this}
use Rattle.shard_table.proofs.placing.get.Goals as goal

pub returns-then-place-end : goal.returns-then-place-end
returns-then-place-end g c =
    let p = rw (c.home.ensures.value, c.len-end.ensures) at c.place_of-place.ensures in
    sym (absent_lookup c.args.slots.now (length c.args.slots.now) c.args.x.now c.place_of-place.result c.requires.sound refl p
    (λ l. let e = c.if-place-end.true in let d = c.len-end.ensures in absurd (omega (arith, e, d))))

pub returns-in-Some : goal.returns-in-Some
returns-in-Some g c =
    let p = rw (c.home.ensures.value, c.len-end.ensures) at c.place_of-place.ensures in
    let l : c.place_of-place.result < length c.args.slots.now = let h = p.high in let n = c.if-place-end.false in let d = c.len-end.ensures in
    omega (arith, h, n, d) in
    let is : slot_at c.args.slots.now c.place_of-place.result ≡ Some c.in-Some.kept = sym c.at.ensures ∙ c.in-Some.is in
    sym (here_lookup c.args.slots.now (length c.args.slots.now) (length c.args.slots.now) c.place_of-place.result c.in-Some.kept c.requires.sound is
    c.args.x.now
    (for_this (slot_at c.args.slots.now c.place_of-place.result) c.in-Some.kept c.args.x.now is (p.found l)))

pub returns-in-None : goal.returns-in-None
returns-in-None g c =
    let p = rw (c.home.ensures.value, c.len-end.ensures) at c.place_of-place.ensures in
    sym (absent_lookup c.args.slots.now (length c.args.slots.now) c.args.x.now c.place_of-place.result c.requires.sound refl p
    (λ m. sym c.at.ensures ∙ c.in-None.is))
