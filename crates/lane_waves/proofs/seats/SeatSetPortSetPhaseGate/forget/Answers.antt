use Rattle.lane_waves.proofs.seats.SeatSetPortSetPhaseGate.forget.Goals as goal

pub forget-requires-clause-shards : goal.forget-requires-clause-shards
forget-requires-clause-shards g c = c.requires.shards

pub forget-requires-clause-calls : goal.forget-requires-clause-calls
forget-requires-clause-calls g c = c.requires.calls

pub forget-requires-clause-mine : goal.forget-requires-clause-mine
forget-requires-clause-mine g c = c.requires.mine

pub forget-requires-clause-empty : goal.forget-requires-clause-empty
forget-requires-clause-empty g c = c.requires.empty

pub forget-requires-clause-room : goal.forget-requires-clause-room
forget-requires-clause-room g c = c.requires.room

pub returns : goal.returns
returns g c =
    let e = c.forget.ensures in
    let k = e.keeps in
    record {
      each = e.each;
      told = e.told;
      untouched = e.untouched;
      capacity = e.capacity;
      keeps = record { count_same = k.count_same; nodes = k.nodes; later = k.later; held = k.held; served = k.served };
    }
