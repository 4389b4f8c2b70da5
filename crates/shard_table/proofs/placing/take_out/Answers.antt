use Rattle.std.proofs.Common.{◌≡◌, ◌<◌, length, None, Some, arith, refl, sym, ap, ◌∙◌}
use Rattle.std.proofs.lemmas.List.{length-set}
use Rattle.shard_table.specs.Slots.{slot_at, gather}
use Rattle.shard_table.proofs.Gathers.{freed_count}
use Rattle.shard_table.proofs.Places.{absent_lookup, here_lookup, for_this, absent_kept, freed_kept, open_start}
use Rattle.shard_table.proofs.placing.take_out.Goals as goal

pub returns-then-place-end-clause-value : goal.returns-then-place-end-clause-value
returns-then-place-end-clause-value g c =
    let p = rw (c.home.ensures.value, c.len-end.ensures) at c.place_of-place.ensures in
    sym (absent_lookup c.args.slots.now (length c.args.slots.now) c.args.x.now c.place_of-place.result c.requires.sound refl p
    (λ l. let e = c.if-place-end.true in let d = c.len-end.ensures in absurd (omega (arith, e, d))))

pub returns-then-place-end-clause-kept : goal.returns-then-place-end-clause-kept
returns-then-place-end-clause-kept g c =
    let p = rw (c.home.ensures.value, c.len-end.ensures) at c.place_of-place.ensures in
    absent_kept (gather c.args.slots.now) c.args.x.now
    (absent_lookup c.args.slots.now (length c.args.slots.now) c.args.x.now c.place_of-place.result c.requires.sound refl p
    (λ l. let e = c.if-place-end.true in let d = c.len-end.ensures in absurd (omega (arith, e, d))))

pub returns-in_default-clause-value : goal.returns-in_default-clause-value
returns-in_default-clause-value g c =
    let p = rw (c.home.ensures.value, c.len-end.ensures) at c.place_of-place.ensures in
    sym (absent_lookup c.args.slots.now (length c.args.slots.now) c.args.x.now c.place_of-place.result c.requires.sound refl p
    (λ m. sym c.at.ensures ∙ c.in_default.is))

pub returns-in_default-clause-kept : goal.returns-in_default-clause-kept
returns-in_default-clause-kept g c =
    let p = rw (c.home.ensures.value, c.len-end.ensures) at c.place_of-place.ensures in
    absent_kept (gather c.args.slots.now) c.args.x.now
    (absent_lookup c.args.slots.now (length c.args.slots.now) c.args.x.now c.place_of-place.result c.requires.sound refl p
    (λ m. sym c.at.ensures ∙ c.in_default.is))

pub close_up-requires-clause-opened : goal.close_up-requires-clause-opened
close_up-requires-clause-opened g c =
    let p = rw (c.home.ensures.value, c.len-end.ensures) at c.place_of-place.ensures in
    let l : c.place_of-place.result < length c.args.slots.now = let h = p.high in let n = c.if-place-end.false in let d = c.len-end.ensures in
    omega (arith, h, n, d) in
    rw (c.put.ensures, length-set c.args.slots.now c.place_of-place.result None)
    (open_start c.args.slots.now (length c.args.slots.now) c.place_of-place.result c.requires.sound refl l)

pub close_up-requires-clause-room : goal.close_up-requires-clause-room
close_up-requires-clause-room g c =
    let p = rw (c.home.ensures.value, c.len-end.ensures) at c.place_of-place.ensures in
    let l : c.place_of-place.result < length c.args.slots.now = let h = p.high in let n = c.if-place-end.false in let d = c.len-end.ensures in
    omega (arith, h, n, d) in
    let is : slot_at c.args.slots.now c.place_of-place.result ≡ Some c.in-Some.kept = sym c.at.ensures ∙ c.in-Some.is in
    let less = freed_count c.args.slots.now c.place_of-place.result c.in-Some.kept is in
    let room = c.requires.room in
    let same = length-set c.args.slots.now c.place_of-place.result None in
    rw c.put.ensures (omega (arith, less, room, same, l))

pub returns-clause-value : goal.returns-clause-value
returns-clause-value g c =
    let p = rw (c.home.ensures.value, c.len-end.ensures) at c.place_of-place.ensures in
    let l : c.place_of-place.result < length c.args.slots.now = let h = p.high in let n = c.if-place-end.false in let d = c.len-end.ensures in
    omega (arith, h, n, d) in
    let is : slot_at c.args.slots.now c.place_of-place.result ≡ Some c.in-Some.kept = sym c.at.ensures ∙ c.in-Some.is in
    sym (here_lookup c.args.slots.now (length c.args.slots.now) (length c.args.slots.now) c.place_of-place.result c.in-Some.kept c.requires.sound is
    c.args.x.now
    (for_this (slot_at c.args.slots.now c.place_of-place.result) c.in-Some.kept c.args.x.now is (p.found l)))

pub returns-clause-kept : goal.returns-clause-kept
returns-clause-kept g c =
    let p = rw (c.home.ensures.value, c.len-end.ensures) at c.place_of-place.ensures in
    let l : c.place_of-place.result < length c.args.slots.now = let h = p.high in let n = c.if-place-end.false in let d = c.len-end.ensures in
    omega (arith, h, n, d) in
    let is : slot_at c.args.slots.now c.place_of-place.result ≡ Some c.in-Some.kept = sym c.at.ensures ∙ c.in-Some.is in
    λ y. c.close_up.ensures.kept y ∙ rw c.put.ensures
    (freed_kept c.args.slots.now (length c.args.slots.now) c.place_of-place.result c.in-Some.kept c.requires.sound is c.args.x.now
    (for_this (slot_at c.args.slots.now c.place_of-place.result) c.in-Some.kept c.args.x.now is (p.found l)) y)

pub returns-clause-count : goal.returns-clause-count
returns-clause-count g c =
    let p = rw (c.home.ensures.value, c.len-end.ensures) at c.place_of-place.ensures in
    let l : c.place_of-place.result < length c.args.slots.now = let h = p.high in let n = c.if-place-end.false in let d = c.len-end.ensures in
    omega (arith, h, n, d) in
    let is : slot_at c.args.slots.now c.place_of-place.result ≡ Some c.in-Some.kept = sym c.at.ensures ∙ c.in-Some.is in
    let less = freed_count c.args.slots.now c.place_of-place.result c.in-Some.kept is in
    let same = c.close_up.ensures.count in
    let put = ap (λ (s : _). length (gather s)) c.put.ensures in
    omega (arith, less, same, put)
