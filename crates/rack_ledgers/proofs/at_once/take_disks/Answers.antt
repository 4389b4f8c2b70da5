use Rattle.std.proofs.Common.{◌≡◌, ◌≢◌, ◌+◌, ◌∷◌, [], ℕ, length, refl, sym, ◌∙◌, ap, subst, arith, ⊎_elim, inr, length-append}
use Rattle.std.proofs.lemmas.Bool.{cases_eq}
use Rattle.rack_ledgers.specs.Places.{EachFrom}
use Rattle.rack_ledgers.proofs.Each.{each_push, each_weaker}
use Rattle.rack_ledgers.proofs.Others.{kept_but, kept_same, kept_wider, kept_then}
use Rattle.rack_ledgers.proofs.Told.{of_told}
use Rattle.rack_ledgers.specs.declared.slots.Slot.{Slot}
use Rattle.rack_ledgers.specs.declared.slots.Slot.TheVariants as slots
use Rattle.rack_ledgers.specs.Slots.{IsTakenSlot, MayPut}
use Rattle.rack_ledgers.proofs.Beside.{may_still}
use Rattle.outside.specs.Counts.{Rose}
use Rattle.rack_ledgers.proofs.at_once.take_disks.Goals as goal

pub returns-in-Err-clause-out : goal.returns-in-Err-clause-out
returns-in-Err-clause-out g c =
    let place = c.places.invariant.place in
    let node = c.args.first + c.places.place in
    each_weaker (MayPut g.R.Disk.Disk g.N.OnDisk.disk_of (g.R.Rack.can_put c.places.rack))
    (MayPut g.R.Disk.Disk g.N.OnDisk.disk_of (g.R.Rack.can_put c.take.new.self)) c.args.first c.places.slots.items
    (λ k s ge lt may. let other : k ≢ node = omega (arith, place) in
    may_still g.R.Disk.Disk g.N.OnDisk.disk_of (g.R.Rack.can_put c.places.rack) (g.R.Rack.can_put c.take.new.self) k s
    (λ m can. c.take.ensures.others_out k m other can) may)
    c.places.invariant.out

pub returns-in-Err-clause-untaken : goal.returns-in-Err-clause-untaken
returns-in-Err-clause-untaken g c =
    let node = c.args.first + c.places.place in
    let place = c.places.invariant.place in
    let refused = c.in-Err.ensures.refused in
    record {
      held = λ n ge lt. ⊎_elim
          (λ (same : n ≡ node). subst (λ (k : ℕ). g.R.Rack.held c.take.new.self k ≡ g.R.Rack.held c.places.rack k) (sym same) refused.1
          ∙ c.places.invariant.others.held n (inr ge))
          (λ (other : n ≢ node). c.take.ensures.others n other ∙ c.places.invariant.others.held n (inr ge))
          (cases_eq n node);
      takes = λ n ge lt can. ⊎_elim
          (λ (same : n ≡ node). subst (λ (k : ℕ). g.R.Rack.can_take c.take.new.self k) (sym same) refused.0)
          (λ (other : n ≢ node). c.take.ensures.others_in n other (c.places.invariant.others.takes n (inr ge) can))
          (cases_eq n node);
    }

pub returns-in-Err-clause-others : goal.returns-in-Err-clause-others
returns-in-Err-clause-others g c =
    let place = c.places.invariant.place in
    kept_then
    (kept_wider (omega arith) (omega (arith, place, c.places-test.true)) c.places.invariant.others)
    (kept_wider (omega arith) (omega (arith, c.places-test.true))
    (kept_but c.take.ensures.others c.take.ensures.others_in c.take.ensures.others_out c.take.ensures.later))

pub returns-clause-untaken : goal.returns-clause-untaken
returns-clause-untaken g c = record {
  held = λ n ge lt. absurd (omega (arith, ge, lt, c.places.invariant.place, c.places-test.false));
  takes = λ n ge lt can. absurd (omega (arith, ge, lt, c.places.invariant.place, c.places-test.false));
}

pub returns-clause-others : goal.returns-clause-others
returns-clause-others g c = kept_wider (omega arith) (omega (arith, c.places.invariant.place, c.places-test.false)) c.places.invariant.others

pub places-preserved : goal.places-preserved
places-preserved g c =
    let place = c.places.invariant.place in
    let node = c.args.first + c.places.place in
    let slot : Slot g.row.R-Disk.Denot g.row.N.Denot = slots.Waiting node c.in-Ok.disk in
    let longer : length c.push_reserved.new.self.items ≡ c.places.place + 1 =
    omega (arith, ap length c.push_reserved.ensures.items, length-append c.places.slots.items (slot ∷ []), place) in
    let T = IsTakenSlot {N = g.row.N.Denot} g.R.Disk.Disk (g.R.Rack.held c.args.rack.now) (g.R.Rack.count c.args.rack.now) in
    let P = MayPut g.R.Disk.Disk g.N.OnDisk.disk_of (g.R.Rack.can_put c.places.rack) in
    let Q = MayPut g.R.Disk.Disk g.N.OnDisk.disk_of (g.R.Rack.can_put c.take.new.self) in
    let before = c.places.invariant.others.held node (inr (omega (arith, place))) in
    let here : T (c.args.first + length c.places.slots.items) slot =
    subst (λ (k : ℕ). T k slot) (omega (arith, place)) (
      refl,
      record {
        told = λ was is. of_told _ _ c.in-Ok.ensures.disk was (before ∙ is);
        counted = omega (arith, c.in-Ok.ensures.count, c.places.invariant.others.later node);
      },
    ) in
    record {
      place = longer;
      room = omega (arith, c.push_reserved.ensures.capacity, c.places.invariant.room);
      taken = subst (λ l. EachFrom T c.args.first l) (sym c.push_reserved.ensures.items)
          (each_push T c.args.first c.places.slots.items slot c.places.invariant.taken here);
      out = subst (λ l. EachFrom Q c.args.first l) (sym c.push_reserved.ensures.items)
          (each_push Q c.args.first c.places.slots.items slot
          (each_weaker P Q c.args.first c.places.slots.items
          (λ k s ge lt may. let other : k ≢ node = omega (arith, place) in
          may_still g.R.Disk.Disk g.N.OnDisk.disk_of (g.R.Rack.can_put c.places.rack) (g.R.Rack.can_put c.take.new.self) k s
          (λ m can. c.take.ensures.others_out k m other can) may)
          c.places.invariant.out)
          (subst (λ (k : ℕ). Q k slot) (omega (arith, place)) c.in-Ok.ensures.out));
      others = kept_then
          (kept_wider (omega arith) (omega (arith, longer, place)) c.places.invariant.others)
          (kept_wider (omega (arith, place)) (omega (arith, longer))
          (kept_but c.take.ensures.others c.take.ensures.others_in c.take.ensures.others_out c.take.ensures.later));
    }

pub places-init : goal.places-init
places-init g c = record {
  place = ap length c.requires.empty;
  room = c.requires.room;
  taken = subst (λ l. EachFrom (IsTakenSlot {N = g.row.N.Denot} g.R.Disk.Disk (g.R.Rack.held c.args.rack.now) (g.R.Rack.count c.args.rack.now))
      c.args.first l) (sym c.requires.empty) tt;
  out = subst (λ l. EachFrom (MayPut g.R.Disk.Disk g.N.OnDisk.disk_of (g.R.Rack.can_put c.args.rack.now)) c.args.first l) (sym c.requires.empty) tt;
  others = kept_same;
}

pub take-requires : goal.take-requires
take-requires g c =
    let place = c.places.invariant.place in
    let node = c.args.first + c.places.place in
    c.places.invariant.others.takes node (inr (omega (arith, place))) (c.requires.waiting node (omega arith) (omega (arith, c.places-test.true)))

pub returns-in-Err-clause-some : goal.returns-in-Err-clause-some
returns-in-Err-clause-some g c = omega (arith, c.places.invariant.place, c.places-test.true)

pub returns-in-Err-clause-taken : goal.returns-in-Err-clause-taken
returns-in-Err-clause-taken g c = c.places.invariant.taken

pub returns-in-Err-clause-failed : goal.returns-in-Err-clause-failed
returns-in-Err-clause-failed g c = λ lt.
    let node = c.args.first + c.places.place in
    let place = c.places.invariant.place in
    let rose : Rose (g.R.Rack.count c.args.rack.now node) (g.R.Rack.count c.take.new.self node) =
    omega (arith, c.in-Err.ensures.failed, c.places.invariant.others.later node) in
    subst (λ (k : ℕ). Rose (g.R.Rack.count c.args.rack.now k) (g.R.Rack.count c.take.new.self k)) (omega (arith, place)) rose

pub returns-clause-some : goal.returns-clause-some
returns-clause-some g c = omega (arith, c.places.invariant.place, c.places-test.false)

pub returns-clause-taken : goal.returns-clause-taken
returns-clause-taken g c = c.places.invariant.taken

pub returns-clause-failed : goal.returns-clause-failed
returns-clause-failed g c = λ lt. absurd (omega (arith, lt, c.places.invariant.place, c.places-test.false))

pub returns-clause-out : goal.returns-clause-out
returns-clause-out g c = c.places.invariant.out
