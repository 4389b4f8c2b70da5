use Rattle.std.proofs.Common.{◌≡◌, ◌≢◌, ◌≤◌, le_trans, ◌+◌, ◌<◌, ◌∷◌, [], ℕ, suc, length, sym, ◌∙◌, ap, subst, arith, ⊎_elim, inr, length-append}
use Rattle.std.proofs.lemmas.Bool.{cases_eq, cases_lt}
use Rattle.std.proofs.lemmas.List.{nil_from_length}
use Rattle.cbdc_model.specs.World.{first_record}
use Rattle.rack_ledgers.specs.Places.{EachFrom, MayReturn}
use Rattle.rack_ledgers.proofs.Each.{each_front, each_last, each_weaker}
use Rattle.rack_ledgers.proofs.Closing.{closed_more, closed_whole}
use Rattle.ledger_init.specs.Places.{minted_by, IsFirstWritten}
use Rattle.ledger_init.proofs.Written.{stops, done_still, stopped_still}
use Rattle.ledger_init.proofs.writing.write_firsts.Goals as goal

pub write_at-requires : goal.write_at-requires
write_at-requires g c =
    let P = MayReturn (λ b. g.R.Disk.Disk.count b.disk) (g.R.Rack.can_put c.blanks.rack) in
    let whole = subst (λ l. EachFrom P 0 l) c.in-Some.ensures.items c.blanks.invariant.out in
    let last = each_last P 0 c.pop.new.self.items c.in-Some.blank whole in
    let here : 0 + length c.pop.new.self.items ≡ c.len.result = omega (arith, c.len.ensures, c.pop.new.self.ok) in
    subst (λ (k : ℕ). P k c.in-Some.blank) here last

pub close_all-requires-clause-out : goal.close_all-requires-clause-out
close_all-requires-clause-out g c =
    let node = c.len.result in
    let place : node ≡ length c.pop.new.self.items = omega (arith, c.len.ensures, c.pop.new.self.ok) in
    let P = MayReturn (λ b. g.R.Disk.Disk.count b.disk) (g.R.Rack.can_put c.blanks.rack) in
    let Q = MayReturn (λ b. g.R.Disk.Disk.count b.disk) (g.R.Rack.can_put c.write_at.new.rack) in
    let whole = subst (λ l. EachFrom P 0 l) c.in-Some.ensures.items c.blanks.invariant.out in
    each_weaker P Q 0 c.pop.new.self.items
    (λ k d ge lt may m le. let other : k ≢ node = omega (arith, place) in c.write_at.ensures.others_out k m other (may m le))
    (each_front P 0 c.pop.new.self.items c.in-Some.blank whole)

pub returns-in-Err-clause-stopped : goal.returns-in-Err-clause-stopped
returns-in-Err-clause-stopped g c =
    let node = c.len.result in
    let place : node ≡ length c.pop.new.self.items = omega (arith, c.len.ensures, c.pop.new.self.ok) in
    stops _ _
    (λ n b. IsFirstWritten g.R.Disk.Disk (first_record c.args.shape.now (minted_by c.args.genesis.now) n) b.disk (g.R.Rack.held c.blanks.rack n))
    _ c.blanks.blanks.items c.pop.new.self.items c.args.blanks.items c.in-Some.blank node place c.in-Some.ensures.items c.blanks.invariant.done
    (λ k d above is. let other : k ≢ node = omega (arith, above) in
    done_still g.R.Disk.Disk (first_record c.args.shape.now (minted_by c.args.genesis.now) k) d.disk (g.R.Rack.held c.blanks.rack k)
    (g.R.Rack.held c.close_all.new.rack k)
    (c.close_all.ensures.others.held k (inr (omega (arith, place, above))) ∙ c.write_at.ensures.others_held k other) is)
    (stopped_still g.R.Disk.Disk node (first_record c.args.shape.now (minted_by c.args.genesis.now) node) c.in-Err.fault
    (g.R.Rack.count c.write_at.new.rack node) (g.R.Rack.count c.close_all.new.rack node)
    c.in-Some.blank.disk (g.R.Rack.held c.write_at.new.rack node) (g.R.Rack.held c.close_all.new.rack node)
    (c.close_all.ensures.others.held node (inr (omega (arith, place)))) (c.close_all.ensures.others.later node) c.in-Err.ensures.stopped)
    c.close_all.ensures.closed

pub blanks-preserved : goal.blanks-preserved
blanks-preserved g c =
    let node = c.len.result in
    let place : node ≡ length c.pop.new.self.items = omega (arith, c.len.ensures, c.pop.new.self.ok) in
    let older : length c.blanks.blanks.items ≡ suc (length c.pop.new.self.items) =
    omega (arith, ap length c.in-Some.ensures.items, length-append c.pop.new.self.items (c.in-Some.blank ∷ [])) in
    let P = MayReturn (λ b. g.R.Disk.Disk.count b.disk) (g.R.Rack.can_put c.blanks.rack) in
    let Q = MayReturn (λ b. g.R.Disk.Disk.count b.disk) (g.R.Rack.can_put c.write_at.new.rack) in
    let whole = subst (λ l. EachFrom P 0 l) c.in-Some.ensures.items c.blanks.invariant.out in
    record {
      few = omega (arith, older, c.blanks.invariant.few);
      fewer = omega (arith, older, c.blanks.invariant.fewer);
      out = each_weaker P Q 0 c.pop.new.self.items
          (λ k d ge lt may m le. let other : k ≢ node = omega (arith, place) in c.write_at.ensures.others_out k m other (may m le))
          (each_front P 0 c.pop.new.self.items c.in-Some.blank whole);
      done = closed_more
          (λ n b. IsFirstWritten g.R.Disk.Disk (first_record c.args.shape.now (minted_by c.args.genesis.now) n) b.disk
          (g.R.Rack.held c.blanks.rack n))
          (λ n b. IsFirstWritten g.R.Disk.Disk (first_record c.args.shape.now (minted_by c.args.genesis.now) n) b.disk
          (g.R.Rack.held c.write_at.new.rack n))
          0 c.blanks.blanks.items c.pop.new.self.items c.args.blanks.items c.in-Some.blank node (omega (arith, place)) c.in-Some.ensures.items
          (λ k d other is. done_still g.R.Disk.Disk (first_record c.args.shape.now (minted_by c.args.genesis.now) k) d.disk
          (g.R.Rack.held c.blanks.rack k) (g.R.Rack.held c.write_at.new.rack k) (c.write_at.ensures.others_held k other) is)
          c.in-Ok.ensures.done c.blanks.invariant.done;
      others_held = λ n ge. let other : n ≢ node = omega (arith, ge, place, older, c.blanks.invariant.fewer) in
          c.write_at.ensures.others_held n other ∙ c.blanks.invariant.others_held n ge;
      back = λ n ge lt. ⊎_elim
          (λ same. subst (λ (k : ℕ). g.R.Rack.can_take c.write_at.new.rack k) (sym same) c.write_at.ensures.back)
          (λ other. c.write_at.ensures.others_in n other (c.blanks.invariant.back n (omega (arith, older, place)) lt))
          (cases_eq n node);
      others_in = λ n outside can. let other : n ≢ node = omega (arith, place, older, c.blanks.invariant.fewer) in
          c.write_at.ensures.others_in n other (c.blanks.invariant.others_in n outside can);
      later = λ n. omega (arith, c.blanks.invariant.later n, c.write_at.ensures.later n);
    }

pub returns-clause-done : goal.returns-clause-done
returns-clause-done g c = closed_whole _ 0 c.blanks.blanks.items c.args.blanks.items
    (nil_from_length c.blanks.blanks.items (omega (arith, c.in_default.ensures.cases.0, c.blanks.blanks.ok))) c.blanks.invariant.done

pub returns-in-Err-clause-others_held : goal.returns-in-Err-clause-others_held
returns-in-Err-clause-others_held g c = λ n ge.
    let node = c.len.result in
    let place : node ≡ length c.pop.new.self.items = omega (arith, c.len.ensures, c.pop.new.self.ok) in
    let older : length c.blanks.blanks.items ≡ suc (length c.pop.new.self.items) =
    omega (arith, ap length c.in-Some.ensures.items, length-append c.pop.new.self.items (c.in-Some.blank ∷ [])) in
    let other : n ≢ node = omega (arith, ge, place, older, c.blanks.invariant.fewer) in
    c.close_all.ensures.others.held n (inr (omega (arith, ge, older, c.blanks.invariant.fewer))) ∙ c.write_at.ensures.others_held n other
    ∙ c.blanks.invariant.others_held n ge

pub returns-in-Err-clause-back : goal.returns-in-Err-clause-back
returns-in-Err-clause-back g c = λ n lt.
    let node = c.len.result in
    let place : node ≡ length c.pop.new.self.items = omega (arith, c.len.ensures, c.pop.new.self.ok) in
    let older : length c.blanks.blanks.items ≡ suc (length c.pop.new.self.items) =
    omega (arith, ap length c.in-Some.ensures.items, length-append c.pop.new.self.items (c.in-Some.blank ∷ [])) in
    ⊎_elim
    (λ (below : n < node). c.close_all.ensures.back n (omega arith) (omega (arith, below, place)))
    (λ (above : node ≤ n). c.close_all.ensures.others.takes n (inr (omega (arith, above, place))) (⊎_elim
    (λ (same : n ≡ node). subst (λ (k : ℕ). g.R.Rack.can_take c.write_at.new.rack k) (sym same) c.write_at.ensures.back)
    (λ (other : n ≢ node). c.write_at.ensures.others_in n other (c.blanks.invariant.back n (omega (arith, above, other, place, older)) lt))
    (cases_eq n node)))
    (cases_lt n node)

pub returns-in-Err-clause-others_in : goal.returns-in-Err-clause-others_in
returns-in-Err-clause-others_in g c = λ n ge can.
    let node = c.len.result in
    let place : node ≡ length c.pop.new.self.items = omega (arith, c.len.ensures, c.pop.new.self.ok) in
    let older : length c.blanks.blanks.items ≡ suc (length c.pop.new.self.items) =
    omega (arith, ap length c.in-Some.ensures.items, length-append c.pop.new.self.items (c.in-Some.blank ∷ [])) in
    let other : n ≢ node = omega (arith, ge, place, older, c.blanks.invariant.fewer) in
    c.close_all.ensures.others.takes n (inr (omega (arith, ge, older, c.blanks.invariant.fewer)))
    (c.write_at.ensures.others_in n other (c.blanks.invariant.others_in n ge can))

pub returns-in-Err-clause-later : goal.returns-in-Err-clause-later
returns-in-Err-clause-later g c = λ n. le_trans (c.blanks.invariant.later n)
    (le_trans (c.write_at.ensures.later n) (c.close_all.ensures.others.later n))
