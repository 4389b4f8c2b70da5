use Rattle.std.proofs.Common.{[], ◌∷◌, ◌++◌, subst}
use Rattle.node_lock.specs.Tickets.{Done}
use Rattle.node_lock.specs.Seats.{all_known, knows, table_of, opening_of, lanes_of}
use Rattle.node_lock.proofs.Dealing.{known-append}
use Rattle.node_lock.proofs.Watching.{unwatched, watched_front, all_more}
use Rattle.node_lock.proofs.lock.Guarded.close_watched.Goals as goal

pub returns-clause-done : goal.returns-clause-done
returns-clause-done g c = λ lanes e.
    unwatched (g.N.Sighted.sight (opening_of c.args.self)) lanes (all_known c.args.seats.items) (knows c.args.watcher)
    (g.N.Sighted.sight c.joined.result)
    (subst (λ hs. Done (g.N.Sighted.sight (opening_of c.args.self)) (lanes ++ (knows c.args.watcher).lane ∷ []) hs
    (g.N.Sighted.sight c.joined.result)) (known-append c.args.seats.items c.args.watcher)
    (subst (λ ls. Done (g.N.Sighted.sight (opening_of c.args.self)) ls (all_known (c.args.seats.items ++ c.args.watcher ∷ []))
    (g.N.Sighted.sight c.joined.result)) e c.joined.ensures.done))
    c.requires.looked.0 c.requires.looked.1

pub returns-clause-front : goal.returns-clause-front
returns-clause-front g c =
    watched_front (g.N.Sighted.sight (opening_of c.args.self)) (lanes_of c.args.self) (all_known c.args.seats.items) (knows c.args.watcher)
    (g.N.Sighted.sight c.joined.result)
    (subst (λ hs. Done (g.N.Sighted.sight (opening_of c.args.self)) (lanes_of c.args.self) hs (g.N.Sighted.sight c.joined.result))
    (known-append c.args.seats.items c.args.watcher) c.joined.ensures.done)

pub joined-requires-clause-seats : goal.joined-requires-clause-seats
joined-requires-clause-seats g c = all_more (table_of c.args.self) c.args.seats.items c.args.watcher c.requires.seats.0 c.requires.watcher
