use Rattle.std.proofs.Common.{◌≤◌, ◌<◌, ◌+◌, ◌++◌, [], List, length, Some, inr, refl, sym, ◌∙◌, ap, subst, arith, ⊎_elim}
use Rattle.std.proofs.lemmas.Bool.{cases_lt}
use Rattle.cbdc_types.specs.declared.answer.Answer.{Answer}
use Rattle.rack_ledgers.specs.Places.{MayReturn}
use Rattle.rack_ledgers.proofs.Others.{kept_same, kept_wider, kept_then}
use Rattle.rack_ledgers.proofs.Told.{back_same}
use Rattle.rack_ledgers.specs.Slots.{nodes_in, AreNodesOpen, AreNotRefused, IsFirstNodeFault, OpensAt, FailsAt}
use Rattle.rack_ledgers.proofs.Beside.{each_both, count_of, each_out, each_back, are_open, each_open, refused_first, fails_behind}
use Rattle.rack_ledgers.proofs.at_once.open_behind.Goals as goal

pub returns-in-Err-clause-refusal : goal.returns-in-Err-clause-refusal
returns-in-Err-clause-refusal g c = record {
  node = c.args.first;
  from_on = omega arith;
  inside = omega (arith, c.requires.some);
  before = [];
  places = omega arith;
  opened = tt;
  fails = (
    ((g.N.OnDisk.may_fail c.args.first).0, tt),
    λ was is bytes told. (g.N.OnDisk.free c.args.first (Some c.args.ledger.now) (g.R.Disk.Disk.limit was) bytes).0,
  );
}

pub nodes_onto-requires-clause-opened : goal.nodes_onto-requires-clause-opened
nodes_onto-requires-clause-opened g c =
    let d = g.R.Disk.Disk in
    let n = g.N.OnDisk in
    let slots = c.open_taken-slots.result.items in
    let none : AreNotRefused slots = subst (λ l. AreNotRefused l) c.as_slice.ensures.value c.in-None.ensures.0 in
    are_open d n.disk_of n.opens n.fits n.refusals n.refused c.args.ledger.now (g.R.Rack.held c.args.rack.now) (g.R.Rack.count c.args.rack.now)
    c.args.first slots c.open_taken-slots.ensures.came none

pub returns-in-None-clause-opened : goal.returns-in-None-clause-opened
returns-in-None-clause-opened g c =
    let d = g.R.Disk.Disk in
    let n = g.N.OnDisk in
    let held = g.R.Rack.held c.args.rack.now in
    let before = g.R.Rack.count c.args.rack.now in
    let can_put = g.R.Rack.can_put c.open_taken-slots.new.rack in
    let slots = c.open_taken-slots.result.items in
    let none : AreNotRefused slots = subst (λ l. AreNotRefused l) c.as_slice.ensures.value c.in-None.ensures.0 in
    let are : AreNodesOpen slots = are_open d n.disk_of n.opens n.fits n.refusals n.refused c.args.ledger.now held before c.args.first slots
    c.open_taken-slots.ensures.came none in
    record {
      more = nodes_in slots;
      parts = c.nodes_onto.ensures ∙ ap (λ (l : List g.row.N.Denot). l ++ nodes_in slots) c.in-Ok.ensures.kept;
      all = omega (arith, count_of slots are, c.open_taken-slots.ensures.some, c.in-None.ensures.1, ap length c.as_slice.ensures.value);
      each = each_both (OpensAt d n.disk_of n.opens n.fits n.refusals n.refused c.args.ledger.now held before)
          (MayReturn (λ y. d.count (n.disk_of y)) can_put) c.args.first (nodes_in slots)
          (each_open d n.disk_of n.opens n.fits n.refusals n.refused c.args.ledger.now held before c.args.first slots c.open_taken-slots.ensures.came
          are)
          (each_out d n.disk_of can_put c.args.first slots are c.open_taken-slots.ensures.out);
    }

pub returns-in-Some-clause-refusal : goal.returns-in-Some-clause-refusal
returns-in-Some-clause-refusal g c =
    let d = g.R.Disk.Disk in
    let n = g.N.OnDisk in
    let held = g.R.Rack.held c.args.rack.now in
    let before = g.R.Rack.count c.args.rack.now in
    let now = g.R.Rack.count c.put_back.new.rack in
    let slots = c.open_taken-slots.result.items in
    let end = c.args.first + c.args.count in
    let node = c.args.first + length slots in
    let why : IsFirstNodeFault c.args.first c.args.count slots c.in-Some.fault =
    subst (λ l. IsFirstNodeFault c.args.first c.args.count l c.in-Some.fault) c.as_slice.ensures.value c.in-Some.ensures in
    ⊎_elim
    (λ refused. refused_first d n.disk_of n.opens n.fits n.refusals n.refused c.args.ledger.now held before now c.args.first end slots c.in-Some.fault
    (omega (arith, c.open_taken-slots.ensures.some)) c.open_taken-slots.ensures.came c.put_back.ensures.counted refused)
    (λ missed. fails_behind d n.disk_of n.opens n.fits n.refusals n.refused c.args.ledger.now held before now c.args.first end slots c.in-Some.fault
    (omega (arith, missed.1)) c.open_taken-slots.ensures.came
    (are_open d n.disk_of n.opens n.fits n.refusals n.refused c.args.ledger.now held before c.args.first slots c.open_taken-slots.ensures.came
    missed.0)
    (subst (λ (a : Answer). FailsAt d n.disk_of n.opens n.fits n.refusals n.refused c.args.ledger.now held before now node a) (sym missed.2) (
      ((n.may_fail node).1, (refl, omega (arith, c.open_taken-slots.ensures.failed missed.1, c.put_back.ensures.others.later node))),
      λ was is bytes told. (n.free node (Some c.args.ledger.now) (d.limit was) bytes).1,
    )))
    why

pub returns-in-Some-clause-held : goal.returns-in-Some-clause-held
returns-in-Some-clause-held g c =
    let d = g.R.Disk.Disk in
    let n = g.N.OnDisk in
    let held = g.R.Rack.held c.args.rack.now in
    let new = g.R.Rack.held c.put_back.new.rack in
    let before = g.R.Rack.count c.args.rack.now in
    let now = g.R.Rack.count c.put_back.new.rack in
    let slots = c.open_taken-slots.result.items in
    λ k ge lt. ⊎_elim
    (λ (below : k < c.args.first + length slots). each_back d n.disk_of n.opens n.fits n.refusals n.refused c.args.ledger.now held new before now
    c.args.first slots
    c.open_taken-slots.ensures.came c.put_back.ensures.closed c.put_back.ensures.counted k ge below)
    (λ (above : c.args.first + length slots ≤ k). back_same d (before k) (now k) (held k) (new k)
    (c.put_back.ensures.others.held k (inr above) ∙ c.open_taken-slots.ensures.untaken.held k above lt))
    (cases_lt k (c.args.first + length slots))

pub returns-in-Some-clause-back : goal.returns-in-Some-clause-back
returns-in-Some-clause-back g c = λ k ge lt.
    let end = c.args.first + length c.open_taken-slots.result.items in
    ⊎_elim
    (λ (below : k < end). c.put_back.ensures.back k ge below)
    (λ (above : end ≤ k). c.put_back.ensures.others.takes k (inr above)
    (c.open_taken-slots.ensures.untaken.takes k above lt (c.requires.waiting k ge lt)))
    (cases_lt k end)

pub returns-in-Err-clause-others : goal.returns-in-Err-clause-others
returns-in-Err-clause-others g c = kept_same

pub returns-in-None-clause-others : goal.returns-in-None-clause-others
returns-in-None-clause-others g c = c.open_taken-slots.ensures.others

pub returns-in-Some-clause-others : goal.returns-in-Some-clause-others
returns-in-Some-clause-others g c =
    kept_then c.open_taken-slots.ensures.others (kept_wider (omega arith) (omega (arith, c.open_taken-slots.ensures.some)) c.put_back.ensures.others)
