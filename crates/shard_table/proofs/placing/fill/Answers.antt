use Rattle.std.proofs.Common.{length, refl}
use Rattle.shard_table.proofs.Places.{place_within, fill_sound, fill_kept, fill_count}
use Rattle.shard_table.proofs.placing.fill.Goals as goal

pub put-requires : goal.put-requires
put-requires g c = place_within c.args.slots.now c.home.result c.args.kept.hash c.place_of-place.result c.place_of-place.ensures c.requires.room

pub returns-clause-sound : goal.returns-clause-sound
returns-clause-sound g c =
    let l = place_within c.args.slots.now c.home.result c.args.kept.hash c.place_of-place.result c.place_of-place.ensures c.requires.room in
    let p = rw (c.home.ensures.value, c.len.ensures) at c.place_of-place.ensures in
    rw c.put.ensures (fill_sound c.args.slots.now (length c.args.slots.now) c.args.kept c.place_of-place.result c.requires.sound refl p l
    c.requires.absent)

pub returns-clause-kept : goal.returns-clause-kept
returns-clause-kept g c =
    let l = place_within c.args.slots.now c.home.result c.args.kept.hash c.place_of-place.result c.place_of-place.ensures c.requires.room in
    let p = rw (c.home.ensures.value, c.len.ensures) at c.place_of-place.ensures in
    rw c.put.ensures (fill_kept c.args.slots.now (length c.args.slots.now) c.args.kept c.place_of-place.result c.requires.sound refl p l
    c.requires.absent)

pub returns-clause-count : goal.returns-clause-count
returns-clause-count g c =
    let l = place_within c.args.slots.now c.home.result c.args.kept.hash c.place_of-place.result c.place_of-place.ensures c.requires.room in
    let p = rw (c.home.ensures.value, c.len.ensures) at c.place_of-place.ensures in
    rw c.put.ensures (fill_count c.args.slots.now (length c.args.slots.now) c.args.kept c.place_of-place.result c.requires.sound refl p l
    c.requires.absent)
