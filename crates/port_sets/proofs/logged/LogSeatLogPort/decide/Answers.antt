use Rattle.std.proofs.Common.{◌≡◌, false, ℕ, List, length, refl, sym, ap, ◌∙◌, subst, rules}
use Rattle.std.specs.Prelude.{Option}
use Rattle.std.specs.Result.{OnOk}
use Rattle.cbdc_model.specs.Records.{Header, Record}
use Rattle.cbdc_model.specs.Slots.{InPrepare}
use Rattle.cbdc_model.specs.Due.{Due, decide_due}
use Rattle.cbdc_model.specs.Sights.{Finds as Found}
use Rattle.lane_laws.specs.Answers.{AreRepliedTo, DecideAnswer}
use Rattle.node_lock.specs.Seats.{knows, opening_of}
use Rattle.node_lock.specs.Viewing.{viewed}
use Rattle.port_sets.specs.declared.coordinators.LogCall.TheVariants.{Decide}
use Rattle.port_sets.specs.Nodes.{log_sight}
use Rattle.port_sets.specs.Seated.{opening_sight, seat_sight, seen_at}
use Rattle.port_sets.specs.Logs.{Decides, txs_at}
use Rattle.port_sets.specs.Asking.{same_txs}
use Rattle.port_sets.proofs.Deciding.{outs_of, decided}
use Rattle.port_sets.proofs.Keeping.{still_seen, seen_elsewhere, still_nodes}
use Rattle.port_sets.proofs.Lifting.{lifted, found_of, writes_whole}
use Rattle.port_sets.proofs.Seating.{seen_here, mine_of, not_prepare}
use Rattle.port_sets.proofs.logged.LogSeatLogPort.decide.Goals as goal

pub returns-clause-outcomes : goal.returns-clause-outcomes
returns-clause-outcomes g c =
    let sight = log_sight {D = g.row.D.Denot} in
    let first = sight (opening_of c.args.self.now.guarded.now) in
    let h = knows c.args.self.now.seat in
    let g' = knows c.call.new.seat in
    let called = c.in-Stamped.ensures.called in
    let lane = c.args.lane in
    let mine = mine_of h.lane (seat_sight sight c.args.self.now.seat) lane InPrepare not_prepare c.requires.phase in
    let d : Decides lane c.args.replies.now called.0 called.1 (outs_of c.call.new.call) c.in-Stamped.answer =
    decided called.0 called.1 (Decide lane c.args.replies record
    { ref_ptr = c.args.out.ref_ptr; ghost_name = c.made-1.given; now = c.args.out.now }) c.call.new.call c.in-Stamped.answer called.2 in
    let f = subst (λ l. Found false l h.seen called.0.seen) mine (found_of first called.0 called.1 h g' called.3) in
    let fact : OnOk c.in-Stamped.answer (length c.in-Decide._out.now.items ≡ length (txs_at h.seen lane)) =
    subst (λ os. OnOk c.in-Stamped.answer (length os ≡ length (txs_at h.seen lane))) (ap outs_of c.in-Decide.is)
    (subst (λ xs. OnOk c.in-Stamped.answer (length (outs_of c.call.new.call) ≡ length xs)) (same_txs lane h.seen called.0.seen f) d.outcomes) in
    search (rules, fact)

pub returns-clause-told : goal.returns-clause-told
returns-clause-told g c =
    let sight = log_sight {D = g.row.D.Denot} in
    let first = sight (opening_of c.args.self.now.guarded.now) in
    let at = c.args.self.now.node in
    let h = knows c.args.self.now.seat in
    let g' = knows c.call.new.seat in
    let called = c.in-Stamped.ensures.called in
    let lane = c.args.lane in
    let replies = c.args.replies.now in
    let old_s = seat_sight sight c.args.self.now.seat in
    let new_s = seat_sight sight c.call.new.seat in
    let mine = mine_of h.lane old_s lane InPrepare not_prepare c.requires.phase in
    let old_is : seen_at at old_s at ≡ viewed first h = seen_here at old_s ∙ ap (λ o. viewed (opening_sight sight o) h) c.args.self.now.own.1 in
    let new_is : seen_at at new_s at ≡ viewed first g' = seen_here at new_s ∙ ap (λ o. viewed (opening_sight sight o) g') c.in-Stamped.ensures.seat.1
    in
    let d : Decides lane c.args.replies.now called.0 called.1 (outs_of c.call.new.call) c.in-Stamped.answer =
    decided called.0 called.1 (Decide lane c.args.replies record
    { ref_ptr = c.args.out.ref_ptr; ghost_name = c.made-1.given; now = c.args.out.now }) c.call.new.call c.in-Stamped.answer called.2 in
    let f = subst (λ l. Found false l h.seen called.0.seen) mine (found_of first called.0 called.1 h g' called.3) in
    let owed : Header → ℕ → Option ℕ → List Record → Due ℕ = λ k n. decide_due k.shape lane replies in
    let told : DecideAnswer false lane replies (viewed first h) (viewed first g') c.in-Stamped.answer = λ are.
    lifted first called.0 called.1 h g' called.3 lane false owed c.in-Stamped.answer mine c.args.self.now.since (λ b J a r e. writes_whole b _ a r e)
    d.journal
    (d.told (subst (λ xs. AreRepliedTo called.0.header.shape xs replies) (sym (same_txs lane h.seen called.0.seen f))
    (subst (λ k. AreRepliedTo k.shape (txs_at h.seen lane) replies) (sym called.3.found.header) are))) in
    subst (λ x. DecideAnswer false lane replies x (seen_at at new_s at) c.in-Stamped.answer) (sym old_is)
    (subst (λ y. DecideAnswer false lane replies (viewed first h) y c.in-Stamped.answer) (sym new_is) told)

pub returns-clause-keeps : goal.returns-clause-keeps
returns-clause-keeps g c =
    let sight = log_sight {D = g.row.D.Denot} in
    let first = sight (opening_of c.args.self.now.guarded.now) in
    let at = c.args.self.now.node in
    let h = knows c.args.self.now.seat in
    let g' = knows c.call.new.seat in
    let called = c.in-Stamped.ensures.called in
    let old_s = seat_sight sight c.args.self.now.seat in
    let new_s = seat_sight sight c.call.new.seat in
    let old_is : old_s ≡ viewed first h = ap (λ o. viewed (opening_sight sight o) h) c.args.self.now.own.1 in
    let new_is : new_s ≡ viewed first g' = ap (λ o. viewed (opening_sight sight o) g') c.in-Stamped.ensures.seat.1 in
    let still = still_seen first called.0 called.1 h g' called.3 old_s new_s old_is new_is in
    record {
      at_same = refl;
      header_same = still.header;
      count_same = called.3.made.0;
      elsewhere = seen_elsewhere at old_s new_s;
      nodes = still_nodes at old_s new_s still;
      later = λ n. still.later;
      held = λ here. here;
    }
