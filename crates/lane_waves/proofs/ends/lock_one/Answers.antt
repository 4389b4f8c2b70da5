use Rattle.std.proofs.Common.{rules, ◌≡◌, ℕ, List, length, ◌++◌, [], ◌∷◌, ◌<◌, ◌≤◌, ap, ◌∙◌, subst, sym, arith}
use Rattle.node_lock.specs.Seats.{AreFresh, table_of}
use Rattle.node_lock.specs.Tickets.{times}
use Rattle.lane_waves.proofs.Locking.{fresh_at}
use Rattle.lane_waves.proofs.Beside.{some_beside, apart_beside, watcher_of}
use Rattle.lane_waves.proofs.ends.lock_one.Goals as goal

pub new-requires-clause-apart : goal.new-requires-clause-apart
new-requires-clause-apart g c = subst (λ (ls : List ℕ). (x : ℕ) → times x ls ≤ 1) (sym (c.as_slice.ensures.value ∙ c.in-Ok.ensures.items))
    (apart_beside c.args.watcher c.args.row.items c.requires)

pub unreachable-requires : goal.unreachable-requires
unreachable-requires g c =
    let lanes = c.as_slice.ensures.value ∙ c.in-Ok.ensures.items in
    let fresh_seats = subst (λ ls. AreFresh (g.N.Sighted.sight c.args.node) c.args.node (table_of c.in-Ok-new.lock) ls c.in-Ok-new.seats.items) lanes
    c.in-Ok-new.ensures.seats in
    let many = (fresh_at g.N.Sighted.sight (g.N.Sighted.sight c.args.node) c.args.node c.in-Ok-new.lock (c.args.row.items ++ c.args.watcher ∷ [])
    c.in-Ok-new.seats.items fresh_seats).1 in
    let some = some_beside c.args.watcher c.args.row.items in
    let empty : length c.in-Ok-new.seats.items ≡ 0 = search (rules, c.in_default-pop.ensures.cases) in
    omega (arith, many, some, empty)

pub returns-in-Ok-new-clause-lanes : goal.returns-in-Ok-new-clause-lanes
returns-in-Ok-new-clause-lanes g c =
    let lanes = c.as_slice.ensures.value ∙ c.in-Ok.ensures.items in
    let sight = g.N.Sighted.sight in
    let id = table_of c.in-Ok-new.lock in
    let all = subst (λ ss. AreFresh (sight c.args.node) c.args.node id (c.args.row.items ++ c.args.watcher ∷ []) ss) c.in-Some.ensures.items
    (subst (λ ls. AreFresh (sight c.args.node) c.args.node id ls c.in-Ok-new.seats.items) lanes c.in-Ok-new.ensures.seats) in
    (watcher_of sight c.args.watcher c.args.row.items c.args.node c.in-Ok-new.lock c.pop.new.self.items c.in-Some.watch c.in-Ok-new.ensures.opening.0
    (c.in-Ok-new.ensures.opening.1 ∙ lanes) all).0

pub returns-in-Ok-new-clause-seats : goal.returns-in-Ok-new-clause-seats
returns-in-Ok-new-clause-seats g c =
    let lanes = c.as_slice.ensures.value ∙ c.in-Ok.ensures.items in
    let sight = g.N.Sighted.sight in
    let id = table_of c.in-Ok-new.lock in
    let all = subst (λ ss. AreFresh (sight c.args.node) c.args.node id (c.args.row.items ++ c.args.watcher ∷ []) ss) c.in-Some.ensures.items
    (subst (λ ls. AreFresh (sight c.args.node) c.args.node id ls c.in-Ok-new.seats.items) lanes c.in-Ok-new.ensures.seats) in
    (watcher_of sight c.args.watcher c.args.row.items c.args.node c.in-Ok-new.lock c.pop.new.self.items c.in-Some.watch c.in-Ok-new.ensures.opening.0
    (c.in-Ok-new.ensures.opening.1 ∙ lanes) all).1

pub returns-in-Ok-new-clause-watcher : goal.returns-in-Ok-new-clause-watcher
returns-in-Ok-new-clause-watcher g c =
    let lanes = c.as_slice.ensures.value ∙ c.in-Ok.ensures.items in
    let sight = g.N.Sighted.sight in
    let id = table_of c.in-Ok-new.lock in
    let all = subst (λ ss. AreFresh (sight c.args.node) c.args.node id (c.args.row.items ++ c.args.watcher ∷ []) ss) c.in-Some.ensures.items
    (subst (λ ls. AreFresh (sight c.args.node) c.args.node id ls c.in-Ok-new.seats.items) lanes c.in-Ok-new.ensures.seats) in
    (watcher_of sight c.args.watcher c.args.row.items c.args.node c.in-Ok-new.lock c.pop.new.self.items c.in-Some.watch c.in-Ok-new.ensures.opening.0
    (c.in-Ok-new.ensures.opening.1 ∙ lanes) all).2
