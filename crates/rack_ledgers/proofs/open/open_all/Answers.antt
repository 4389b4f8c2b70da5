use Rattle.std.proofs.Common.{◌≡◌, ◌≢◌, ◌≤◌, ◌<◌, ◌+◌, ◌∷◌, [], ℕ, length, sym, ◌∙◌, ap, subst, arith, ⊎_elim, inr, length-append}
use Rattle.std.proofs.lemmas.Bool.{cases_eq, cases_lt}
use Rattle.std.specs.Option.{option_copied}
use Rattle.rack_ledgers.specs.Places.{EachFrom, MayReturn}
use Rattle.rack_ledgers.specs.Racked.{OfTold}
use Rattle.rack_ledgers.proofs.Each.{each_push, each_weaker}
use Rattle.rack_ledgers.proofs.Range.{opening_later}
use Rattle.rack_ledgers.proofs.Others.{outside_one, kept_same, kept_but, kept_wider, kept_then}
use Rattle.rack_ledgers.proofs.Told.{of_told, back_opened, back_later}
use Rattle.rack_ledgers.proofs.Closing.{closed_none, goes_push, goes_front}
use Rattle.rack_ledgers.proofs.Backs.{all_back}
use Rattle.rack_ledgers.proofs.open.open_all.Goals as goal

pub open_one-requires : goal.open_one-requires
open_one-requires g c =
    let so_far = c.places.invariant.opened in
    let node = c.args.first + c.places.place in
    let long : length c.places.nodes.items ≡ length c.args.nodes.items + length so_far.more =
    ap length so_far.parts ∙ length-append c.args.nodes.items so_far.more in
    c.places.invariant.others.takes node (inr (omega (arith, c.places.invariant.place)))
    (c.requires.waiting node (omega (arith, long, c.places.invariant.place)) (omega (arith, c.places-test.true)))

pub close_all-requires-clause-out : goal.close_all-requires-clause-out
close_all-requires-clause-out g c =
    let place = c.places.invariant.place in
    let node = c.args.first + c.places.place in
    let P = MayReturn (λ n. g.R.Disk.Disk.count (g.N.OnDisk.disk_of n)) (g.R.Rack.can_put c.places.rack) in
    let Q = MayReturn (λ n. g.R.Disk.Disk.count (g.N.OnDisk.disk_of n)) (g.R.Rack.can_put c.put.new.self) in
    subst (λ l. EachFrom Q c.args.first l) (sym c.in-Err-push.ensures.items)
    (each_weaker P Q c.args.first c.places.nodes.items
    (λ k d ge lt may m le. let other : k ≢ node = omega (arith, place) in
    c.put.ensures.others_out k m other (c.open_one.ensures.others.puts k m (outside_one other) (may m le)))
    c.places.invariant.out)

pub close_all-requires-in-Err-clause-out : goal.close_all-requires-in-Err-clause-out
close_all-requires-in-Err-clause-out g c =
    let place = c.places.invariant.place in
    let node = c.args.first + c.places.place in
    let P = MayReturn (λ n. g.R.Disk.Disk.count (g.N.OnDisk.disk_of n)) (g.R.Rack.can_put c.places.rack) in
    let Q = MayReturn (λ n. g.R.Disk.Disk.count (g.N.OnDisk.disk_of n)) (g.R.Rack.can_put c.open_one.new.rack) in
    each_weaker P Q c.args.first c.places.nodes.items
    (λ k d ge lt may m le. let other : k ≢ node = omega (arith, place) in c.open_one.ensures.others.puts k m (outside_one other) (may m le))
    c.places.invariant.out

pub returns-in-Err-push-clause-fault : goal.returns-in-Err-push-clause-fault
returns-in-Err-push-clause-fault g c = (c.args.first + c.places.place, omega arith, omega (arith, c.places-test.true), tt)

pub returns-in-Err-clause-fault : goal.returns-in-Err-clause-fault
returns-in-Err-clause-fault g c =
    let node = c.args.first + c.places.place in (
      node,
      omega arith,
      omega (arith, c.places-test.true),
      opening_later node (g.R.Rack.count c.args.rack.now node) (g.R.Rack.count c.places.rack node) (g.R.Rack.count c.open_one.new.rack node)
          (g.R.Rack.count c.close_all-in-Err.new.rack node) c.in-Err.fault (c.places.invariant.others.later node)
          (c.close_all-in-Err.ensures.others.later node) c.in-Err.ensures.fault,
    )

pub returns-in-Err-push-clause-refusal : goal.returns-in-Err-push-clause-refusal
returns-in-Err-push-clause-refusal g c =
    let so_far = c.places.invariant.opened in
    let long : length c.places.nodes.items ≡ length c.args.nodes.items + length so_far.more =
    ap length so_far.parts ∙ length-append c.args.nodes.items so_far.more in
    record {
      node = c.args.first + c.places.place;
      from_on = omega (arith, long, c.places.invariant.place);
      inside = omega (arith, c.places-test.true);
      before = so_far.more;
      places = omega (arith, long, c.places.invariant.place);
      opened = so_far.each;
      fails = (
        ((g.N.OnDisk.may_fail (c.args.first + c.places.place)).0, tt),
        λ was is bytes told. (g.N.OnDisk.free (c.args.first + c.places.place) (option_copied c.args.ledger) (g.R.Disk.Disk.limit was) bytes).0,
      );
    }

pub returns-in-Err-clause-refusal : goal.returns-in-Err-clause-refusal
returns-in-Err-clause-refusal g c =
    let so_far = c.places.invariant.opened in
    let node = c.args.first + c.places.place in
    let long : length c.places.nodes.items ≡ length c.args.nodes.items + length so_far.more =
    ap length so_far.parts ∙ length-append c.args.nodes.items so_far.more in
    let same = c.places.invariant.others.held node (inr (omega (arith, c.places.invariant.place))) in
    record {
      node = node;
      from_on = omega (arith, long, c.places.invariant.place);
      inside = omega (arith, c.places-test.true);
      before = so_far.more;
      places = omega (arith, long, c.places.invariant.place);
      opened = so_far.each;
      fails = (
        (
          c.in-Err.ensures.kind,
          opening_later node (g.R.Rack.count c.args.rack.now node) (g.R.Rack.count c.places.rack node) (g.R.Rack.count c.open_one.new.rack node)
              (g.R.Rack.count c.close_all-in-Err.new.rack node) c.in-Err.fault (c.places.invariant.others.later node)
              (c.close_all-in-Err.ensures.others.later node) c.in-Err.ensures.fault,
        ),
        λ was is bytes told. c.in-Err.ensures.refusal was (same ∙ is) bytes told,
      );
    }

pub returns-in-Err-push-clause-closed : goal.returns-in-Err-push-clause-closed
returns-in-Err-push-clause-closed g c =
    let Q : ℕ → g.row.N.Denot → Type 0 = λ n x. OfTold (g.R.Rack.held c.close_all.new.rack n) (λ now. now ≡ g.N.OnDisk.disk_of x) in
    (goes_front _ Q c.args.first c.args.nodes.items c.places.nodes.items c.places.invariant.opened
    (subst (λ l. EachFrom Q c.args.first l) c.in-Err-push.ensures.items c.close_all.ensures.closed)).0

pub returns-in-Err-clause-closed : goal.returns-in-Err-clause-closed
returns-in-Err-clause-closed g c =
    (goes_front _ _ c.args.first c.args.nodes.items c.places.nodes.items c.places.invariant.opened c.close_all-in-Err.ensures.closed).0

pub returns-in-Err-push-clause-held : goal.returns-in-Err-push-clause-held
returns-in-Err-push-clause-held g c =
    let so_far = c.places.invariant.opened in
    let node = c.args.first + c.places.place in
    let start = c.args.first + length c.args.nodes.items in
    let shorter : length c.push.new.self.items ≡ c.places.place = omega (arith, ap length c.in-Err-push.ensures.items, c.places.invariant.place) in
    let place : node ≡ start + length so_far.more =
    omega (arith, ap length so_far.parts, length-append c.args.nodes.items so_far.more, c.places.invariant.place) in
    let Q : ℕ → g.row.N.Denot → Type 0 = λ n x. OfTold (g.R.Rack.held c.close_all.new.rack n) (λ now. now ≡ g.N.OnDisk.disk_of x) in
    let closed = (goes_front _ Q c.args.first c.args.nodes.items c.places.nodes.items so_far
    (subst (λ l. EachFrom Q c.args.first l) c.in-Err-push.ensures.items c.close_all.ensures.closed)).1 in
    let before = c.places.invariant.others.held node (inr (omega (arith, c.places.invariant.place))) in
    let behind = c.close_all.ensures.others.held node (inr (omega (arith, shorter))) in
    let here = back_opened g.R.Disk.Disk (g.R.Rack.count c.args.rack.now node) (g.R.Rack.count c.close_all.new.rack node) g.N.OnDisk.disk_of
    g.N.OnDisk.opens (g.R.Rack.held c.args.rack.now node) (g.R.Rack.held c.close_all.new.rack node) c.in-Ok.node
    (λ was is. c.in-Ok.ensures.opened was (before ∙ is))
    (λ now is. of_told _ _ c.put.ensures.disk now (sym behind ∙ is) ∙ c.give_disk.ensures
    ∙ ap g.N.OnDisk.disk_of c.in-Err-push.ensures.value_returned) in
    all_back g.R.Disk.Disk g.N.OnDisk.disk_of g.N.OnDisk.opens
    (λ n x. g.N.OnDisk.fits n (option_copied c.args.ledger) x × (g.R.Rack.count c.args.rack.now n ≤ g.R.Disk.Disk.count (g.N.OnDisk.disk_of x)))
    (g.R.Rack.count c.args.rack.now) (g.R.Rack.count c.close_all.new.rack) (λ n. g.R.Rack.held c.args.rack.now n)
    (λ n. g.R.Rack.held c.close_all.new.rack n) (c.args.first + c.args.count)
    start node so_far.more place so_far.each closed here
    (λ n above below. let other : n ≢ node = omega (arith, above) in
    c.close_all.ensures.others.held n (inr (omega (arith, shorter, above))) ∙ c.put.ensures.others n other
    ∙ c.open_one.ensures.others.held n (outside_one other)
    ∙ c.places.invariant.others.held n (inr (omega (arith, c.places.invariant.place, above))))

pub returns-in-Err-clause-held : goal.returns-in-Err-clause-held
returns-in-Err-clause-held g c =
    let so_far = c.places.invariant.opened in
    let node = c.args.first + c.places.place in
    let start = c.args.first + length c.args.nodes.items in
    let place : node ≡ start + length so_far.more =
    omega (arith, ap length so_far.parts, length-append c.args.nodes.items so_far.more, c.places.invariant.place) in
    let closed = (goes_front _ (λ n x. OfTold (g.R.Rack.held c.close_all-in-Err.new.rack n) (λ now. now ≡ g.N.OnDisk.disk_of x)) c.args.first
    c.args.nodes.items c.places.nodes.items so_far c.close_all-in-Err.ensures.closed).1 in
    let before = c.places.invariant.others.held node (inr (omega (arith, c.places.invariant.place))) in
    let behind = c.close_all-in-Err.ensures.others.held node (inr (omega (arith, c.places.invariant.place))) in
    all_back g.R.Disk.Disk g.N.OnDisk.disk_of g.N.OnDisk.opens
    (λ n x. g.N.OnDisk.fits n (option_copied c.args.ledger) x × (g.R.Rack.count c.args.rack.now n ≤ g.R.Disk.Disk.count (g.N.OnDisk.disk_of x)))
    (g.R.Rack.count c.args.rack.now) (g.R.Rack.count c.close_all-in-Err.new.rack) (λ n. g.R.Rack.held c.args.rack.now n)
    (λ n. g.R.Rack.held c.close_all-in-Err.new.rack n) (c.args.first + c.args.count)
    start node so_far.more place so_far.each closed
    (λ was is d is_now. back_later g.R.Disk.Disk _ _ (c.places.invariant.others.later node) (c.close_all-in-Err.ensures.others.later node)
    c.in-Err.ensures.held was (before ∙ is) d (sym behind ∙ is_now))
    (λ n above below. let other : n ≢ node = omega (arith, above) in
    c.close_all-in-Err.ensures.others.held n (inr (omega (arith, c.places.invariant.place, above)))
    ∙ c.open_one.ensures.others.held n (outside_one other)
    ∙ c.places.invariant.others.held n (inr (omega (arith, c.places.invariant.place, above))))

pub places-preserved : goal.places-preserved
places-preserved g c =
    let place = c.places.invariant.place in
    let node = c.args.first + c.places.place in
    let longer : length c.push.new.self.items ≡ c.places.place + 1 =
    omega (arith, ap length c.in-Ok-push.ensures.items, length-append c.places.nodes.items (c.in-Ok.node ∷ []), place) in
    let P = MayReturn (λ n. g.R.Disk.Disk.count (g.N.OnDisk.disk_of n)) (g.R.Rack.can_put c.places.rack) in
    let Q = MayReturn (λ n. g.R.Disk.Disk.count (g.N.OnDisk.disk_of n)) (g.R.Rack.can_put c.open_one.new.rack) in
    let earlier = each_weaker P Q c.args.first c.places.nodes.items
    (λ k d ge lt may m le. let other : k ≢ node = omega (arith, place) in c.open_one.ensures.others.puts k m (outside_one other) (may m le))
    c.places.invariant.out in
    let before = c.places.invariant.others.held node (inr (omega (arith, place))) in
    let long : length c.places.nodes.items ≡ length c.args.nodes.items + length c.places.invariant.opened.more =
    ap length c.places.invariant.opened.parts ∙ length-append c.args.nodes.items c.places.invariant.opened.more in
    record {
      place = longer;
      opened = goes_push _ c.args.first c.args.nodes.items c.places.nodes.items c.push.new.self.items c.in-Ok.node node (omega (arith, place))
          c.in-Ok-push.ensures.items (
            (c.in-Ok.ensures.fits, omega (arith, c.in-Ok.ensures.since, c.places.invariant.others.later node)),
            λ was is. c.in-Ok.ensures.opened was (before ∙ is),
          ) c.places.invariant.opened;
      out = subst (λ l. EachFrom Q c.args.first l) (sym c.in-Ok-push.ensures.items)
          (each_push Q c.args.first c.places.nodes.items c.in-Ok.node earlier
          (subst (λ (k : ℕ). Q k c.in-Ok.node) (omega (arith, place)) c.in-Ok.ensures.out));
      others = kept_then
          (kept_wider (omega arith) (omega (arith, longer, place)) c.places.invariant.others)
          (kept_wider (omega (arith, long, place)) (omega (arith, longer)) c.open_one.ensures.others);
    }

pub places-init : goal.places-init
places-init g c = record {
  place = omega (arith, c.len-from.ensures, c.args.nodes.ok);
  opened = closed_none _ c.args.first c.args.nodes.items;
  out = c.requires.out;
  others = kept_same;
}

pub returns-in-Err-push-clause-others : goal.returns-in-Err-push-clause-others
returns-in-Err-push-clause-others g c =
    let place = c.places.invariant.place in
    let so_far = c.places.invariant.opened in
    let long : length c.places.nodes.items ≡ length c.args.nodes.items + length so_far.more =
    ap length so_far.parts ∙ length-append c.args.nodes.items so_far.more in
    let shorter : length c.push.new.self.items ≡ c.places.place = omega (arith, ap length c.in-Err-push.ensures.items, place) in
    let put = kept_but c.put.ensures.others c.put.ensures.others_in c.put.ensures.others_out c.put.ensures.later in
    kept_then
    (kept_wider (omega arith) (omega (arith, place, c.places-test.true)) c.places.invariant.others)
    (kept_then (kept_wider (omega arith) (omega (arith, c.places-test.true)) (kept_then c.open_one.ensures.others put))
    (kept_wider (omega arith) (omega (arith, shorter, c.places-test.true)) c.close_all.ensures.others))

pub returns-in-Err-clause-others : goal.returns-in-Err-clause-others
returns-in-Err-clause-others g c =
    let place = c.places.invariant.place in
    kept_then
    (kept_wider (omega arith) (omega (arith, place, c.places-test.true)) c.places.invariant.others)
    (kept_then (kept_wider (omega arith) (omega (arith, c.places-test.true)) c.open_one.ensures.others)
    (kept_wider (omega arith) (omega (arith, place, c.places-test.true)) c.close_all-in-Err.ensures.others))

pub returns-in-Err-push-clause-back : goal.returns-in-Err-push-clause-back
returns-in-Err-push-clause-back g c = λ n ge lt.
    let place = c.places.invariant.place in
    let node = c.args.first + c.places.place in
    let so_far = c.places.invariant.opened in
    let long : length c.places.nodes.items ≡ length c.args.nodes.items + length so_far.more =
    ap length so_far.parts ∙ length-append c.args.nodes.items so_far.more in
    let shorter : length c.push.new.self.items ≡ c.places.place = omega (arith, ap length c.in-Err-push.ensures.items, place) in
    ⊎_elim
    (λ (below : n < node). c.close_all.ensures.back n ge (omega (arith, below, shorter)))
    (λ (above : node ≤ n). c.close_all.ensures.others.takes n (inr (omega (arith, above, shorter))) (⊎_elim
    (λ (same : n ≡ node). subst (λ (k : ℕ). g.R.Rack.can_take c.put.new.self k) (sym same) c.put.ensures.back)
    (λ (other : n ≢ node). c.put.ensures.others_in n other (c.open_one.ensures.others.takes n (outside_one other)
    (c.places.invariant.others.takes n (inr (omega (arith, above, place))) (c.requires.waiting n (omega (arith, above, long, place)) lt))))
    (cases_eq n node)))
    (cases_lt n node)

pub returns-in-Err-clause-back : goal.returns-in-Err-clause-back
returns-in-Err-clause-back g c = λ n ge lt.
    let place = c.places.invariant.place in
    let node = c.args.first + c.places.place in
    let so_far = c.places.invariant.opened in
    let long : length c.places.nodes.items ≡ length c.args.nodes.items + length so_far.more =
    ap length so_far.parts ∙ length-append c.args.nodes.items so_far.more in
    ⊎_elim
    (λ (below : n < node). c.close_all-in-Err.ensures.back n ge (omega (arith, below, place)))
    (λ (above : node ≤ n). c.close_all-in-Err.ensures.others.takes n (inr (omega (arith, above, place))) (⊎_elim
    (λ (same : n ≡ node). subst (λ (k : ℕ). g.R.Rack.can_take c.open_one.new.rack k) (sym same) c.in-Err.ensures.back)
    (λ (other : n ≢ node). c.open_one.ensures.others.takes n (outside_one other)
    (c.places.invariant.others.takes n (inr (omega (arith, above, place))) (c.requires.waiting n (omega (arith, above, long, place)) lt)))
    (cases_eq n node)))
    (cases_lt n node)

pub returns-clause-others : goal.returns-clause-others
returns-clause-others g c = kept_wider (omega arith)
    (omega (arith, c.places.invariant.place, c.places.auto.place-end (omega (arith, c.len-from.ensures, c.args.nodes.ok, c.requires.some))))
    c.places.invariant.others
