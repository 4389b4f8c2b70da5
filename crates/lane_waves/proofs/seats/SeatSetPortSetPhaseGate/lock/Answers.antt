use Rattle.lane_waves.proofs.seats.SeatSetPortSetPhaseGate.lock.Goals as goal

pub lock-requires-clause-shards : goal.lock-requires-clause-shards
lock-requires-clause-shards g c = c.requires.shards

pub lock-requires-clause-calls : goal.lock-requires-clause-calls
lock-requires-clause-calls g c = c.requires.calls

pub lock-requires-clause-mine : goal.lock-requires-clause-mine
lock-requires-clause-mine g c = c.requires.mine

pub lock-requires-clause-empty : goal.lock-requires-clause-empty
lock-requires-clause-empty g c = c.requires.empty

pub lock-requires-clause-room : goal.lock-requires-clause-room
lock-requires-clause-room g c = c.requires.room

pub returns : goal.returns
returns g c =
    let e = c.lock.ensures in
    let k = e.keeps in
    record {
      each = e.each;
      told = e.told;
      untouched = e.untouched;
      capacity = e.capacity;
      keeps = record { count_same = k.count_same; nodes = k.nodes; later = k.later; held = k.held; served = k.served };
    }
