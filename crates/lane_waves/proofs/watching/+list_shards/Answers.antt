use Rattle.lane_waves.proofs.Looking.{first_looked, none_more, listed_more}
use Rattle.lane_waves.proofs.watching.+list_shards.Goals as goal

pub returns-in_default-clause-listed : goal.returns-in_default-clause-listed
returns-in_default-clause-listed g t c = none_more c.args.locks.now c.args.seats.now c.args.lists.now.items c.in_default.ensures.cases
    c.requires.seats

pub returns-in_err-all-clause-kept : goal.returns-in_err-all-clause-kept
returns-in_err-all-clause-kept g t c =
    let p = c.in-Some-split_first_mut in
    first_looked c.args.seats.now p.seat.now c.list_shard-all.new.seat p.rest.now c.list_shard-all.result p.ensures.cases.0
    c.list_shard-all.ensures.listed

pub returns-in_err-push-clause-kept : goal.returns-in_err-push-clause-kept
returns-in_err-push-clause-kept g t c =
    let p = c.in-Some-split_first_mut in
    first_looked c.args.seats.now p.seat.now c.list_shard-all.new.seat p.rest.now c.list_shard-all.result p.ensures.cases.0
    c.list_shard-all.ensures.listed

pub returns-clause-listed : goal.returns-clause-listed
returns-clause-listed g t c =
    listed_more c.list_shards.result c.args.lists.now.items c.push.new.self.items c.list_shards.new.lists.items c.in_ok-all.field-0
    c.list_shard-all.new.seat c.list_shards.new.seats
    c.in_ok-push.ensures.items c.in_ok-all.ensures.listed.listed c.list_shards.ensures.listed
