use Rattle.lane_waves.proofs.seats.SeatSetPortSetPhaseGate.finish.Goals as goal

pub finish-requires-clause-shards : goal.finish-requires-clause-shards
finish-requires-clause-shards g c = c.requires.shards

pub finish-requires-clause-calls : goal.finish-requires-clause-calls
finish-requires-clause-calls g c = c.requires.calls

pub finish-requires-clause-mine : goal.finish-requires-clause-mine
finish-requires-clause-mine g c = c.requires.mine

pub finish-requires-clause-empty : goal.finish-requires-clause-empty
finish-requires-clause-empty g c = c.requires.empty

pub finish-requires-clause-room : goal.finish-requires-clause-room
finish-requires-clause-room g c = c.requires.room

pub returns : goal.returns
returns g c =
    let e = c.finish.ensures in
    let k = e.keeps in
    record {
      each = e.each;
      told = e.told;
      untouched = e.untouched;
      capacity = e.capacity;
      keeps = record { count_same = k.count_same; nodes = k.nodes; later = k.later; held = k.held; served = k.served };
    }
