use Rattle.cbdc_model.specs.Calls.{IsLockCall}
use Rattle.phase_calls.specs.Phase.{Locks}
use Rattle.phase_calls.proofs.Telling.{all_taken, phase_so, made_of, asked_of}
use Rattle.phase_calls.proofs.phases.lock_phase.Goals as goal

pub make_each-requires-after_bounds : goal.make_each-requires-after_bounds
make_each-requires-after_bounds g c κs within =
    let P = g.P.ShardPort in
    let a = c.requires.asks in
    record {
      rising = a.shards.0;
      taken = all_taken P.sight _ (λ s d. IsLockCall s.header d) (λ d p. P.serves p d.batch.lane)
          (λ d p fit own port call e f. asked_of (λ x y. IsLockCall (P.sight y).header x) (λ x y. P.serves y x.batch.lane) call.now d port.now p f e
          fit own)
          c.args.ports.now c.args.calls.now a.shards.1 a.fit a.mine;
      empty = a.empty;
      room = a.room;
    }

pub returns : goal.returns
returns g c =
    let P = g.P.ShardPort in
    let makes = Locks P.sight P.serves P.alone P.at P.faults P.holds in
    let each = c.make_each.ensures in
    record {
      told = record {
        made = phase_so _ makes (λ d p q a m. made_of makes m.call.now d m.port.now p m.after_call.now q a m.call_is m.port_is m.left m.made)
            c.args.calls.now c.args.ports.now c.make_each.new.ports c.make_each.new.out.items each.made;
        capacity = each.capacity;
      };
    }
