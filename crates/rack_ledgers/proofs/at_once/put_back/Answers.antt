use Rattle.std.proofs.Common.{◌≡◌, ◌≢◌, ◌≤◌, le_trans, ◌+◌, ◌∷◌, [], ℕ, suc, length, sym, ◌∙◌, ap, subst, arith, ⊎_elim, length-append}
use Rattle.std.proofs.lemmas.Bool.{cases_eq}
use Rattle.std.proofs.lemmas.List.{nil_from_length}
use Rattle.rack_ledgers.specs.Places.{EachFrom}
use Rattle.rack_ledgers.specs.Racked.{OfTold}
use Rattle.rack_ledgers.proofs.Each.{each_front, each_last, each_weaker}
use Rattle.rack_ledgers.proofs.Others.{kept_same, kept_but, kept_wider, kept_then}
use Rattle.rack_ledgers.proofs.Told.{of_told}
use Rattle.rack_ledgers.proofs.Closing.{closed_more, closed_none, closed_whole}
use Rattle.rack_ledgers.specs.Slots.{faults_in, MayPut, IsDiskIn}
use Rattle.rack_ledgers.proofs.Beside.{faults_of, has_disk, may_put, may_still}
use Rattle.rack_ledgers.proofs.at_once.put_back.Goals as goal

pub into_disk-requires : goal.into_disk-requires
into_disk-requires g c =
    let P = MayPut g.R.Disk.Disk g.N.OnDisk.disk_of (g.R.Rack.can_put c.slots.rack) in
    let whole = subst (λ l. EachFrom P c.args.first l) c.in-Some.ensures.items c.slots.invariant.out in
    has_disk g.R.Disk.Disk g.N.OnDisk.disk_of (g.R.Rack.can_put c.slots.rack) (c.args.first + length c.pop.new.self.items) c.in-Some.slot
    (each_last P c.args.first c.pop.new.self.items c.in-Some.slot whole)

pub put-requires : goal.put-requires
put-requires g c =
    let P = MayPut g.R.Disk.Disk g.N.OnDisk.disk_of (g.R.Rack.can_put c.slots.rack) in
    let whole = subst (λ l. EachFrom P c.args.first l) c.in-Some.ensures.items c.slots.invariant.out in
    let last = each_last P c.args.first c.pop.new.self.items c.in-Some.slot whole in
    let here : c.args.first + length c.pop.new.self.items ≡ c.args.first + c.len.result = omega (arith, c.len.ensures, c.pop.new.self.ok) in
    may_put g.R.Disk.Disk g.N.OnDisk.disk_of (g.R.Rack.can_put c.slots.rack) (c.args.first + c.len.result) c.in-Some.slot c.into_disk.result
    c.into_disk.ensures (subst (λ (k : ℕ). P k c.in-Some.slot) here last)

pub slots-preserved : goal.slots-preserved
slots-preserved g c =
    let node = c.args.first + c.len.result in
    let place : node ≡ c.args.first + length c.pop.new.self.items = omega (arith, c.len.ensures, c.pop.new.self.ok) in
    let older : length c.slots.slots.items ≡ suc (length c.pop.new.self.items) =
    omega (arith, ap length c.in-Some.ensures.items, length-append c.pop.new.self.items (c.in-Some.slot ∷ [])) in
    let P = MayPut g.R.Disk.Disk g.N.OnDisk.disk_of (g.R.Rack.can_put c.slots.rack) in
    let Q = MayPut g.R.Disk.Disk g.N.OnDisk.disk_of (g.R.Rack.can_put c.put.new.self) in
    let whole = subst (λ l. EachFrom P c.args.first l) c.in-Some.ensures.items c.slots.invariant.out in
    record {
      few = omega (arith, older, c.slots.invariant.few);
      fewer = omega (arith, older, c.slots.invariant.fewer);
      out = each_weaker P Q c.args.first c.pop.new.self.items
          (λ k s ge lt may. let other : k ≢ node = omega (arith, place) in
          may_still g.R.Disk.Disk g.N.OnDisk.disk_of (g.R.Rack.can_put c.slots.rack) (g.R.Rack.can_put c.put.new.self) k s
          (λ m can. c.put.ensures.others_out k m other can) may)
          (each_front P c.args.first c.pop.new.self.items c.in-Some.slot whole);
      closed = closed_more
          (λ n s. OfTold (g.R.Rack.held c.slots.rack n) (IsDiskIn g.N.OnDisk.disk_of s))
          (λ n s. OfTold (g.R.Rack.held c.put.new.self n) (IsDiskIn g.N.OnDisk.disk_of s))
          c.args.first c.slots.slots.items c.pop.new.self.items _ c.in-Some.slot node place c.in-Some.ensures.items
          (λ k s other told now is. told now (sym (c.put.ensures.others k other) ∙ is))
          (λ now is. subst (λ (d : _). IsDiskIn g.N.OnDisk.disk_of c.in-Some.slot d) (sym (of_told _ _ c.put.ensures.disk now is))
          c.into_disk.ensures)
          c.slots.invariant.closed;
      counted = closed_more
          (λ n s. faults_in g.R.Disk.Disk g.N.OnDisk.disk_of s ≤ g.R.Rack.count c.slots.rack n)
          (λ n s. faults_in g.R.Disk.Disk g.N.OnDisk.disk_of s ≤ g.R.Rack.count c.put.new.self n)
          c.args.first c.slots.slots.items c.pop.new.self.items _ c.in-Some.slot node place c.in-Some.ensures.items
          (λ k s other le. le_trans le (c.put.ensures.later k))
          (omega (arith, faults_of g.R.Disk.Disk g.N.OnDisk.disk_of c.in-Some.slot c.into_disk.result c.into_disk.ensures, c.put.ensures.count))
          c.slots.invariant.counted;
      back = λ n ge lt. ⊎_elim
          (λ same. subst (λ (k : ℕ). g.R.Rack.can_take c.put.new.self k) (sym same) c.put.ensures.back)
          (λ other. c.put.ensures.others_in n other (c.slots.invariant.back n (omega (arith, older, place)) lt))
          (cases_eq n node);
      others = kept_then c.slots.invariant.others
          (kept_wider (omega (arith, place)) (omega (arith, place, older, c.slots.invariant.fewer))
          (kept_but c.put.ensures.others c.put.ensures.others_in c.put.ensures.others_out c.put.ensures.later));
    }

pub slots-init : goal.slots-init
slots-init g c = record {
  few = c.requires.few;
  fewer = omega arith;
  out = c.requires.out;
  closed = closed_none _ c.args.first c.args.slots.items;
  counted = closed_none _ c.args.first c.args.slots.items;
  back = λ n ge lt. absurd (omega (arith, ge, lt));
  others = kept_same;
}

pub returns-clause-closed : goal.returns-clause-closed
returns-clause-closed g c = closed_whole _ c.args.first c.slots.slots.items c.args.slots.items
    (nil_from_length c.slots.slots.items (omega (arith, c.in_default.ensures.cases.0, c.slots.slots.ok))) c.slots.invariant.closed

pub returns-clause-counted : goal.returns-clause-counted
returns-clause-counted g c = closed_whole _ c.args.first c.slots.slots.items c.args.slots.items
    (nil_from_length c.slots.slots.items (omega (arith, c.in_default.ensures.cases.0, c.slots.slots.ok))) c.slots.invariant.counted

pub returns-clause-others : goal.returns-clause-others
returns-clause-others g c = c.slots.invariant.others
