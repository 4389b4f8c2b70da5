use Rattle.std.proofs.Common.{◌≡◌, false, refl, sym, ap, ◌∙◌, subst}
use Rattle.cbdc_model.specs.Slots.{InDiscard}
use Rattle.cbdc_model.specs.Sights.{Told}
use Rattle.node_lock.specs.Seats.{knows, opening_of}
use Rattle.node_lock.specs.Viewing.{viewed}
use Rattle.port_sets.specs.Nodes.{log_sight}
use Rattle.port_sets.specs.Seated.{opening_sight, seat_sight, seen_at}
use Rattle.port_sets.specs.Logs.{done_owed}
use Rattle.port_sets.proofs.Keeping.{still_seen, seen_elsewhere, still_nodes}
use Rattle.port_sets.proofs.Lifting.{lifted, writes_whole}
use Rattle.port_sets.proofs.Seating.{seen_here, mine_of, not_discard}
use Rattle.port_sets.proofs.logged.LogSeatLogPort.done.Goals as goal

pub returns-clause-told : goal.returns-clause-told
returns-clause-told g c =
    let sight = log_sight {D = g.row.D.Denot} in
    let first = sight (opening_of c.args.self.now.guarded.now) in
    let at = c.args.self.now.node in
    let h = knows c.args.self.now.seat in
    let g' = knows c.call.new.seat in
    let called = c.in-Stamped.ensures.called in
    let lane = c.args.lane in
    let old_s = seat_sight sight c.args.self.now.seat in
    let new_s = seat_sight sight c.call.new.seat in
    let mine = mine_of h.lane old_s lane InDiscard not_discard c.requires.phase in
    let old_is : seen_at at old_s at ≡ viewed first h = seen_here at old_s ∙ ap (λ o. viewed (opening_sight sight o) h) c.args.self.now.own.1 in
    let new_is : seen_at at new_s at ≡ viewed first g' = seen_here at new_s ∙ ap (λ o. viewed (opening_sight sight o) g') c.in-Stamped.ensures.seat.1
    in
    let told = lifted first called.0 called.1 h g' called.3 lane false (done_owed c.args.lane c.args.cause) c.in-Stamped.answer mine
    c.args.self.now.since
    (λ b J a r e. writes_whole b _ a r e) called.2.journal called.2.told in
    subst (λ x. Told false lane false (done_owed c.args.lane c.args.cause x.header x.capacity) x (seen_at at new_s at) c.in-Stamped.answer)
    (sym old_is)
    (subst (λ y. Told false lane false (done_owed c.args.lane c.args.cause first.header first.capacity) (viewed first h) y c.in-Stamped.answer)
    (sym new_is) told)

pub returns-clause-keeps : goal.returns-clause-keeps
returns-clause-keeps g c =
    let sight = log_sight {D = g.row.D.Denot} in
    let first = sight (opening_of c.args.self.now.guarded.now) in
    let at = c.args.self.now.node in
    let h = knows c.args.self.now.seat in
    let g' = knows c.call.new.seat in
    let called = c.in-Stamped.ensures.called in
    let old_s = seat_sight sight c.args.self.now.seat in
    let new_s = seat_sight sight c.call.new.seat in
    let old_is : old_s ≡ viewed first h = ap (λ o. viewed (opening_sight sight o) h) c.args.self.now.own.1 in
    let new_is : new_s ≡ viewed first g' = ap (λ o. viewed (opening_sight sight o) g') c.in-Stamped.ensures.seat.1 in
    let still = still_seen first called.0 called.1 h g' called.3 old_s new_s old_is new_is in
    record {
      at_same = refl;
      header_same = still.header;
      count_same = called.3.made.0;
      elsewhere = seen_elsewhere at old_s new_s;
      nodes = still_nodes at old_s new_s still;
      later = λ n. still.later;
      held = λ here. here;
    }
