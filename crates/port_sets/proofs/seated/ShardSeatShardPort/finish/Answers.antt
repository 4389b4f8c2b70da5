use Rattle.std.proofs.Common.{◌≡◌, false, refl, sym, ap, ◌∙◌, subst}
use Rattle.std.proofs.Math.Nat.{le_trans}
use Rattle.cbdc_model.specs.Records.{Header}
use Rattle.cbdc_model.specs.Sights.{Told}
use Rattle.node_lock.specs.Seats.{knows, opening_of}
use Rattle.node_lock.specs.Viewing.{viewed}
use Rattle.port_sets.specs.Nodes.{shard_sight}
use Rattle.port_sets.specs.Seated.{opening_sight, seat_sight}
use Rattle.port_sets.specs.Shards.{finish_owed}
use Rattle.port_sets.proofs.Keeping.{still_seen}
use Rattle.port_sets.proofs.Lifting.{lifted, writes_whole}
use Rattle.port_sets.proofs.seated.ShardSeatShardPort.finish.Goals as goal

pub returns-clause-told : goal.returns-clause-told
returns-clause-told g c =
    let sight = shard_sight g.S.Shard.sight in
    let first = sight (opening_of c.args.self.now.guarded.now) in
    let h = knows c.args.self.now.seat in
    let g' = knows c.call.new.seat in
    let called = c.in-Stamped.ensures.called in
    let lane = c.args.call.now.batch.lane in
    let old_is : seat_sight sight c.args.self.now.seat ≡ viewed first h = ap (λ o. viewed (opening_sight sight o) h) c.args.self.now.own.1 in
    let new_is : seat_sight sight c.call.new.seat ≡ viewed first g' = ap (λ o. viewed (opening_sight sight o) g') c.in-Stamped.ensures.seat.1 in
    let told = lifted first called.0 called.1 h g' called.3 lane false (finish_owed c.args.call.now) c.in-Stamped.answer c.requires.mine.mine
    c.requires.mine.since
    (λ b J a r e. writes_whole b _ a r e) called.2.journal called.2.told in
    subst (λ x. Told false lane false (finish_owed c.args.call.now x.header x.capacity) x (seat_sight sight c.call.new.seat) c.in-Stamped.answer)
    (sym old_is)
    (subst (λ y. Told false lane false (finish_owed c.args.call.now first.header first.capacity) (viewed first h) y c.in-Stamped.answer) (sym new_is)
    told)

pub returns-clause-keeps : goal.returns-clause-keeps
returns-clause-keeps g c =
    let sight = shard_sight g.S.Shard.sight in
    let first = sight (opening_of c.args.self.now.guarded.now) in
    let h = knows c.args.self.now.seat in
    let g' = knows c.call.new.seat in
    let called = c.in-Stamped.ensures.called in
    let old_is : seat_sight sight c.args.self.now.seat ≡ viewed first h = ap (λ o. viewed (opening_sight sight o) h) c.args.self.now.own.1 in
    let new_is : seat_sight sight c.call.new.seat ≡ viewed first g' = ap (λ o. viewed (opening_sight sight o) g') c.in-Stamped.ensures.seat.1 in
    let node = still_seen first called.0 called.1 h g' called.3 (seat_sight sight c.args.self.now.seat) (seat_sight sight c.call.new.seat) old_is
    new_is in
    record {
      at_same = refl;
      node = node;
      later = node.later;
      held = λ here. here ∙ ap (λ (k : Header). g.B.Locks.tables k.node) (sym node.header);
      served = λ l k. record { mine = called.3.made.0 ∙ k.mine; since = le_trans k.since node.later };
    }
