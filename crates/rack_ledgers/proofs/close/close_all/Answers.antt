use Rattle.std.proofs.Common.{◌≡◌, ◌≢◌, ◌≤◌, le_trans, ◌+◌, ◌∷◌, [], ℕ, suc, length, sym, ◌∙◌, ap, subst, arith, ⊎_elim, length-append}
use Rattle.std.proofs.lemmas.Bool.{cases_eq}
use Rattle.std.proofs.lemmas.List.{nil_from_length}
use Rattle.rack_ledgers.specs.Places.{EachFrom, MayReturn}
use Rattle.rack_ledgers.specs.Racked.{OfTold}
use Rattle.rack_ledgers.proofs.Each.{each_front, each_last, each_weaker}
use Rattle.rack_ledgers.proofs.Others.{kept_same, kept_but, kept_wider, kept_then}
use Rattle.rack_ledgers.proofs.Told.{of_told}
use Rattle.rack_ledgers.proofs.Closing.{closed_more, closed_none, closed_whole}
use Rattle.rack_ledgers.proofs.close.close_all.Goals as goal

pub put-requires : goal.put-requires
put-requires g c =
    let P = MayReturn (λ n. g.R.Disk.Disk.count (g.N.OnDisk.disk_of n)) (g.R.Rack.can_put c.nodes.rack) in
    let whole = subst (λ l. EachFrom P c.args.first l) c.in-Some.ensures.items c.nodes.invariant.out in
    let last = each_last P c.args.first c.pop.new.self.items c.in-Some.node whole in
    let here : c.args.first + length c.pop.new.self.items ≡ c.args.first + c.len.result = omega (arith, c.len.ensures, c.pop.new.self.ok) in
    subst (λ (k : ℕ). P k c.in-Some.node) here last (g.R.Disk.Disk.count c.give_disk.result)
    (omega (arith, ap g.R.Disk.Disk.count c.give_disk.ensures))

pub nodes-preserved : goal.nodes-preserved
nodes-preserved g c =
    let node = c.args.first + c.len.result in
    let place : node ≡ c.args.first + length c.pop.new.self.items = omega (arith, c.len.ensures, c.pop.new.self.ok) in
    let older : length c.nodes.nodes.items ≡ suc (length c.pop.new.self.items) =
    omega (arith, ap length c.in-Some.ensures.items, length-append c.pop.new.self.items (c.in-Some.node ∷ [])) in
    let P = MayReturn (λ n. g.R.Disk.Disk.count (g.N.OnDisk.disk_of n)) (g.R.Rack.can_put c.nodes.rack) in
    let Q = MayReturn (λ n. g.R.Disk.Disk.count (g.N.OnDisk.disk_of n)) (g.R.Rack.can_put c.put.new.self) in
    let whole = subst (λ l. EachFrom P c.args.first l) c.in-Some.ensures.items c.nodes.invariant.out in
    record {
      few = omega (arith, older, c.nodes.invariant.few);
      fewer = omega (arith, older, c.nodes.invariant.fewer);
      out = each_weaker P Q c.args.first c.pop.new.self.items
          (λ k d ge lt may m le. let other : k ≢ node = omega (arith, place) in c.put.ensures.others_out k m other (may m le))
          (each_front P c.args.first c.pop.new.self.items c.in-Some.node whole);
      closed = closed_more
          (λ n x. OfTold (g.R.Rack.held c.nodes.rack n) (λ now. now ≡ g.N.OnDisk.disk_of x))
          (λ n x. OfTold (g.R.Rack.held c.put.new.self n) (λ now. now ≡ g.N.OnDisk.disk_of x))
          c.args.first c.nodes.nodes.items c.pop.new.self.items _ c.in-Some.node node place c.in-Some.ensures.items
          (λ k d other told now is. told now (sym (c.put.ensures.others k other) ∙ is))
          (λ now is. of_told _ _ c.put.ensures.disk now is ∙ c.give_disk.ensures)
          c.nodes.invariant.closed;
      counted = closed_more
          (λ n x. g.R.Disk.Disk.count (g.N.OnDisk.disk_of x) ≤ g.R.Rack.count c.nodes.rack n)
          (λ n x. g.R.Disk.Disk.count (g.N.OnDisk.disk_of x) ≤ g.R.Rack.count c.put.new.self n)
          c.args.first c.nodes.nodes.items c.pop.new.self.items _ c.in-Some.node node place c.in-Some.ensures.items
          (λ k d other le. le_trans le (c.put.ensures.later k))
          (subst (λ (d : _). g.R.Disk.Disk.count d ≤ g.R.Rack.count c.put.new.self node) c.give_disk.ensures c.put.ensures.count)
          c.nodes.invariant.counted;
      back = λ n ge lt. ⊎_elim
          (λ same. subst (λ (k : ℕ). g.R.Rack.can_take c.put.new.self k) (sym same) c.put.ensures.back)
          (λ other. c.put.ensures.others_in n other (c.nodes.invariant.back n (omega (arith, older, place)) lt))
          (cases_eq n node);
      others = kept_then c.nodes.invariant.others
          (kept_wider (omega (arith, place)) (omega (arith, place, older, c.nodes.invariant.fewer))
          (kept_but c.put.ensures.others c.put.ensures.others_in c.put.ensures.others_out c.put.ensures.later));
    }

pub nodes-init : goal.nodes-init
nodes-init g c = record {
  few = c.requires.few;
  fewer = omega arith;
  out = c.requires.out;
  closed = closed_none _ c.args.first c.args.nodes.items;
  counted = closed_none _ c.args.first c.args.nodes.items;
  back = λ n ge lt. absurd (omega (arith, ge, lt));
  others = kept_same;
}

pub returns-clause-closed : goal.returns-clause-closed
returns-clause-closed g c = closed_whole _ c.args.first c.nodes.nodes.items c.args.nodes.items
    (nil_from_length c.nodes.nodes.items (omega (arith, c.in_default.ensures.cases.0, c.nodes.nodes.ok))) c.nodes.invariant.closed

pub returns-clause-counted : goal.returns-clause-counted
returns-clause-counted g c = closed_whole _ c.args.first c.nodes.nodes.items c.args.nodes.items
    (nil_from_length c.nodes.nodes.items (omega (arith, c.in_default.ensures.cases.0, c.nodes.nodes.ok))) c.nodes.invariant.counted

pub returns-clause-others : goal.returns-clause-others
returns-clause-others g c = c.nodes.invariant.others
