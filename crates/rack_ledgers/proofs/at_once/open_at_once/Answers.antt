use Rattle.std.proofs.Common.{◌≡◌, ◌≤◌, ◌<◌, ◌+◌, ◌-◌, ℕ, List, length, inl, inr, sym, ◌∙◌, ap, subst, arith, ⊎_elim}
use Rattle.std.proofs.lemmas.Bool.{cases_lt}
use Rattle.rack_ledgers.specs.Places.{EachFrom, MayReturn}
use Rattle.rack_ledgers.specs.Racked.{OfTold}
use Rattle.rack_ledgers.proofs.Each.{each_weaker}
use Rattle.rack_ledgers.proofs.Others.{kept_same, kept_wider, kept_then}
use Rattle.rack_ledgers.proofs.Told.{back_later}
use Rattle.rack_ledgers.specs.Slots.{OpensAt}
use Rattle.rack_ledgers.proofs.Beside.{each_append, fails_later}
use Rattle.rack_ledgers.proofs.at_once.open_at_once.Goals as goal

pub close_all-requires-clause-out : goal.close_all-requires-clause-out
close_all-requires-clause-out g c =
    let P = MayReturn (λ x. g.R.Disk.Disk.count (g.N.OnDisk.disk_of x)) (g.R.Rack.can_put c.args.rack.now) in
    let Q = MayReturn (λ x. g.R.Disk.Disk.count (g.N.OnDisk.disk_of x)) (g.R.Rack.can_put c.open_behind.new.rack) in
    subst (λ (l : List g.row.N.Denot). EachFrom Q c.args.first l) (sym c.in-Err.ensures.same)
    (each_weaker P Q c.args.first c.args.nodes.items
    (λ k x ge lt may m le. c.open_behind.ensures.others.puts k m (inl (omega (arith, lt, c.len-from.ensures, c.args.nodes.ok))) (may m le))
    c.requires.out)

pub returns-in-Ok-clause-opened : goal.returns-in-Ok-clause-opened
returns-in-Ok-clause-opened g c =
    let d = g.R.Disk.Disk in
    let n = g.N.OnDisk in
    let P = OpensAt d n.disk_of n.opens n.fits n.refusals n.refused c.args.ledger.now (g.R.Rack.held c.args.rack.now)
    (g.R.Rack.count c.args.rack.now) in
    let M = MayReturn (λ x. d.count (n.disk_of x)) (g.R.Rack.can_put c.open_behind.new.rack) in
    let start = c.args.first + c.len-from.result in
    let all = c.in-Ok.ensures.opened in
    let place : start ≡ c.args.first + length c.args.nodes.items = omega (arith, c.len-from.ensures, c.args.nodes.ok) in
    record {
      more = all.more;
      parts = all.parts;
      each = subst (λ (k : ℕ). EachFrom P k all.more) place (each_weaker (λ k x. P k x × M k x) P start all.more (λ k x ge lt is. is.0) all.each);
    }

pub returns-in-Ok-clause-out : goal.returns-in-Ok-clause-out
returns-in-Ok-clause-out g c =
    let d = g.R.Disk.Disk in
    let n = g.N.OnDisk in
    let P = OpensAt d n.disk_of n.opens n.fits n.refusals n.refused c.args.ledger.now (g.R.Rack.held c.args.rack.now)
    (g.R.Rack.count c.args.rack.now) in
    let L = MayReturn (λ x. d.count (n.disk_of x)) (g.R.Rack.can_put c.args.rack.now) in
    let M = MayReturn (λ x. d.count (n.disk_of x)) (g.R.Rack.can_put c.open_behind.new.rack) in
    let start = c.args.first + c.len-from.result in
    let all = c.in-Ok.ensures.opened in
    let place : start ≡ c.args.first + length c.args.nodes.items = omega (arith, c.len-from.ensures, c.args.nodes.ok) in
    subst (λ (l : List g.row.N.Denot). EachFrom M c.args.first l) (sym all.parts)
    (each_append M c.args.first c.args.nodes.items all.more
    (each_weaker L M c.args.first c.args.nodes.items
    (λ k x ge lt may m le. c.open_behind.ensures.others.puts k m (inl (omega (arith, lt, place))) (may m le)) c.requires.out)
    (subst (λ (k : ℕ). EachFrom M k all.more) place (each_weaker (λ k x. P k x × M k x) M start all.more (λ k x ge lt is. is.1) all.each)))

pub returns-in-Err-clause-refusal : goal.returns-in-Err-clause-refusal
returns-in-Err-clause-refusal g c =
    let d = g.R.Disk.Disk in
    let n = g.N.OnDisk in
    let start = c.args.first + c.len-from.result in
    fails_later d n.disk_of n.opens n.fits n.refusals n.refused c.args.ledger.now (g.R.Rack.held c.args.rack.now)
    (g.R.Rack.count c.args.rack.now) (g.R.Rack.count c.open_behind.new.rack) (g.R.Rack.count c.close_all.new.rack)
    start (c.args.first + length c.args.nodes.items) (start + (c.args.count - c.len-from.result)) (c.args.first + c.args.count) c.in-Err.fault
    (omega (arith, c.len-from.ensures, c.args.nodes.ok)) (omega (arith, c.len-from.ensures, c.args.nodes.ok, c.requires.some))
    c.close_all.ensures.others.later c.in-Err.ensures.refusal

pub returns-in-Err-clause-closed : goal.returns-in-Err-clause-closed
returns-in-Err-clause-closed g c =
    subst (λ (l : List g.row.N.Denot). EachFrom (λ n x. OfTold (g.R.Rack.held c.close_all.new.rack n) (λ now. now ≡ g.N.OnDisk.disk_of x))
    c.args.first l) c.in-Err.ensures.same c.close_all.ensures.closed

pub returns-in-Err-clause-held : goal.returns-in-Err-clause-held
returns-in-Err-clause-held g c = λ k ge lt was is now is_now.
    let d = g.R.Disk.Disk in
    let behind : c.args.first + length c.in-Err.nodes.items ≤ k = omega (arith, ge, ap length c.in-Err.ensures.same) in
    let here = c.in-Err.ensures.held k (omega (arith, ge, c.len-from.ensures, c.args.nodes.ok))
    (omega (arith, lt, c.len-from.ensures, c.args.nodes.ok, c.requires.some)) in
    let before = g.R.Rack.count c.args.rack.now k in
    back_later d {before = before} {mid = before} {now = g.R.Rack.count c.open_behind.new.rack k} {later = g.R.Rack.count c.close_all.new.rack k}
    (g.R.Rack.held c.args.rack.now k) (g.R.Rack.held c.open_behind.new.rack k) (omega arith) (c.close_all.ensures.others.later k) here was is now
    (sym (c.close_all.ensures.others.held k (inr behind)) ∙ is_now)

pub returns-then-from-count-clause-others : goal.returns-then-from-count-clause-others
returns-then-from-count-clause-others g c = kept_same

pub returns-in-Ok-clause-others : goal.returns-in-Ok-clause-others
returns-in-Ok-clause-others g c =
    kept_wider (omega arith) (omega (arith, c.len-from.ensures, c.args.nodes.ok, c.requires.some)) c.open_behind.ensures.others

pub returns-in-Err-clause-others : goal.returns-in-Err-clause-others
returns-in-Err-clause-others g c = kept_then
    (kept_wider (omega arith) (omega (arith, c.len-from.ensures, c.args.nodes.ok, c.requires.some)) c.open_behind.ensures.others)
    (kept_wider (omega arith) (omega (arith, ap length c.in-Err.ensures.same, c.requires.some)) c.close_all.ensures.others)

pub returns-in-Err-clause-back : goal.returns-in-Err-clause-back
returns-in-Err-clause-back g c = λ k ge lt. ⊎_elim
    (λ (below : k < c.args.first + length c.in-Err.nodes.items). c.close_all.ensures.back k ge below)
    (λ (above : c.args.first + length c.in-Err.nodes.items ≤ k). c.close_all.ensures.others.takes k (inr above)
    (c.in-Err.ensures.back k (omega (arith, above, ap length c.in-Err.ensures.same, c.len-from.ensures, c.args.nodes.ok))
    (omega (arith, lt, c.len-from.ensures, c.args.nodes.ok, c.requires.some))))
    (cases_lt k (c.args.first + length c.in-Err.nodes.items))
