use Rattle.std.proofs.Common.{◌≡◌, ◌≤◌, le_trans, ◌<◌, ◌+◌, ℕ, List, length, ◌∙◌, sym, subst, ap, arith, inr, ⊎_elim}
use Rattle.std.proofs.lemmas.Bool.{cases_lt}
use Rattle.std.specs.Option.{option_copied}
use Rattle.cbdc_model.specs.Records.{Header}
use Rattle.node_journal.specs.Nodes.{NodeOf}
use Rattle.coord_log.specs.Opening.{IsCoord}
use Rattle.rack_ledgers.specs.Places.{EachFrom}
use Rattle.rack_ledgers.specs.Racked.{OfTold, IsDiskBack}
use Rattle.rack_ledgers.specs.Ledgers.{IsNodeAt, IsMintOf}
use Rattle.rack_ledgers.proofs.Others.{outside_one}
use Rattle.rack_ledgers.proofs.Opened.{led_whole, logs_since, node_back}
use Rattle.rack_ledgers.proofs.LedgerBacks.{taken_one, back_one, back_parts}
use Rattle.rack_ledgers.proofs.Lacks.{lacks_log}
use Rattle.rack_ledgers.proofs.opening.open_logs.Goals as goal

pub open_at_once-requires-clause-waiting : goal.open_at_once-requires-clause-waiting
open_at_once-requires-clause-waiting g c κs within = λ n ge lt.
    let some : 1 ≤ n = omega (arith, ge, ap length c.in-Ok-lead_alone.ensures.alone) in
    c.in-Ok-lead_alone.ensures.others.takes n (inr some) (c.in-Ok.ensures.others.takes n (inr some) (c.requires n))

pub returns-in-Ok-open_at_once-clause-later : goal.returns-in-Ok-open_at_once-clause-later
returns-in-Ok-open_at_once-clause-later g c = λ n. omega
    (arith, c.in-Ok.ensures.others.later n, c.in-Ok-lead_alone.ensures.others.later n, c.in-Ok-open_at_once.ensures.others.later n)

pub returns-in-Err-open_at_once-clause-refusal : goal.returns-in-Err-open_at_once-clause-refusal
returns-in-Err-open_at_once-clause-refusal g c =
    inr (inr (lacks_log g.R.Disk.Disk (g.R.Rack.held c.args.rack.now) (g.R.Rack.held c.lead_alone.new.rack)
    (g.R.Rack.count c.args.rack.now) (g.R.Rack.count c.lead_alone.new.rack) (g.R.Rack.count c.open_at_once.new.rack)
    (g.R.Rack.count c.open_at_once.new.rack)
    c.header.result.now c.in-Ok.lead (option_copied c.args.id) (0 + length c.in-Ok-lead_alone.alone.items) (0 + c.coordinators-count.result)
    c.in-Err-open_at_once.fault
    (omega (arith, ap length c.in-Ok-lead_alone.ensures.alone)) (omega (arith, c.coordinators-count.ensures.value))
    (λ n some. c.in-Ok-lead_alone.ensures.others.held n (inr some) ∙ c.in-Ok.ensures.others.held n (inr some))
    (λ n. omega (arith, c.in-Ok.ensures.others.later n, c.in-Ok-lead_alone.ensures.others.later n)) (λ n. omega arith)
    (ap (λ (k : Header). k.node) c.header.ensures.header ∙ c.in-Ok.ensures.opened.0) c.coordinators-count.ensures.limits
    (subst (λ (k : Header). IsMintOf (option_copied c.args.id) k) (sym c.header.ensures.header) c.in-Ok.ensures.minted)
    (subst (λ (k : Header). IsNodeAt g.R.Disk.Disk (g.R.Rack.held c.args.rack.now) IsCoord k 0 c.in-Ok.lead) (sym c.header.ensures.header)
    c.in-Ok.ensures.opened.1)
    c.in-Err-open_at_once.ensures.refusal))

pub returns-in-Ok-open_at_once-clause-minted : goal.returns-in-Ok-open_at_once-clause-minted
returns-in-Ok-open_at_once-clause-minted g c = subst (λ (k : Header). IsMintOf (option_copied c.args.id) k) (sym c.header.ensures.header)
    c.in-Ok.ensures.minted

pub returns-in-Err-clause-later : goal.returns-in-Err-clause-later
returns-in-Err-clause-later g c = c.in-Err.ensures.others.later

pub returns-in-Err-lead_alone-clause-later : goal.returns-in-Err-lead_alone-clause-later
returns-in-Err-lead_alone-clause-later g c = λ n. le_trans (c.in-Ok.ensures.others.later n) (c.in-Err-lead_alone.ensures.others.later n)

pub returns-in-Err-open_at_once-clause-later : goal.returns-in-Err-open_at_once-clause-later
returns-in-Err-open_at_once-clause-later g c =
    λ n. le_trans (c.in-Ok.ensures.others.later n)
    (le_trans (c.in-Ok-lead_alone.ensures.others.later n) (c.in-Err-open_at_once.ensures.others.later n))

pub returns-in-Ok-open_at_once-clause-opened : goal.returns-in-Ok-open_at_once-clause-opened
returns-in-Ok-open_at_once-clause-opened g c =
    let limits = c.coordinators-count.ensures.limits in
    let value = c.coordinators-count.ensures.value in
    let lead = c.in-Ok.ensures.others in
    let alone = c.in-Ok-lead_alone.ensures.others in
    let others = c.in-Ok-open_at_once.ensures.others in
    record {
      first = ap (λ (k : Header). k.node) c.header.ensures.header ∙ c.in-Ok.ensures.opened.0;
      limits = limits;
      few = omega (arith, c.node_count-nodes.ensures.value, c.node_count-nodes.ensures.bound);
      coordinators = c.in-Ok-open_at_once.ensures.all ∙ value;
      logs_at = led_whole g.R.Disk.Disk IsCoord (g.R.Rack.held c.args.rack.now) (g.R.Rack.held c.lead_alone.new.rack)
          (g.R.Rack.count c.lead_alone.new.rack)
          c.header.result.now c.in-Ok.lead c.in-Ok-lead_alone.alone.items c.in-Ok-open_at_once.logs.items c.in-Ok-lead_alone.ensures.alone
          (λ n some. alone.held n (inr some) ∙ lead.held n (inr some))
          (subst (λ (k : Header). IsNodeAt g.R.Disk.Disk (g.R.Rack.held c.args.rack.now) IsCoord k 0 c.in-Ok.lead) (sym c.header.ensures.header)
          c.in-Ok.ensures.opened.1)
          c.in-Ok-open_at_once.ensures.opened;
      since = logs_since g.R.Disk.Disk IsCoord (g.R.Rack.held c.lead_alone.new.rack) (g.R.Rack.count c.args.rack.now)
          (g.R.Rack.count c.lead_alone.new.rack)
          c.header.result.now c.in-Ok.lead c.in-Ok-lead_alone.alone.items c.in-Ok-open_at_once.logs.items c.in-Ok-lead_alone.ensures.alone
          (λ n. le_trans (lead.later n) (alone.later n)) c.in-Ok.ensures.since c.in-Ok-open_at_once.ensures.opened;
      others_held = λ n ge.
          let some : 1 ≤ n = omega (arith, ge, limits.some_coordinator) in
          others.held n (inr (omega (arith, ge, value))) ∙ alone.held n (inr some) ∙ lead.held n (inr some);
      logs = c.in-Ok-open_at_once.ensures.out;
      others_in = λ n ge.
          let some : 1 ≤ n = omega (arith, ge, limits.some_coordinator) in
          others.takes n (inr (omega (arith, ge, value))) (alone.takes n (inr some) (lead.takes n (inr some) (c.requires n)));
    }

pub returns-in-Err-clause-back : goal.returns-in-Err-clause-back
returns-in-Err-clause-back g c =
    let others = c.in-Err.ensures.others in
    record {
      held = back_one g.R.Disk.Disk (g.R.Rack.count c.args.rack.now) (g.R.Rack.count c.open_lead.new.rack) (λ n. g.R.Rack.held c.args.rack.now n)
          (λ n. g.R.Rack.held c.open_lead.new.rack n) c.in-Err.ensures.held (λ n other. others.held n (outside_one other));
      takes = taken_one (g.R.Rack.can_take c.open_lead.new.rack) c.in-Err.ensures.back (λ n some. others.takes n (inr some) (c.requires n));
    }

pub returns-in-Err-lead_alone-clause-back : goal.returns-in-Err-lead_alone-clause-back
returns-in-Err-lead_alone-clause-back g c =
    let lead = c.in-Ok.ensures.others in
    let alone = c.in-Err-lead_alone.ensures.others in
    record {
      held = back_one g.R.Disk.Disk (g.R.Rack.count c.args.rack.now) (g.R.Rack.count c.lead_alone.new.rack) (g.R.Rack.held c.args.rack.now)
          (g.R.Rack.held c.lead_alone.new.rack)
          (node_back g.R.Disk.Disk IsCoord (g.R.Rack.held c.args.rack.now) (g.R.Rack.held c.lead_alone.new.rack) (g.R.Rack.count c.args.rack.now 0)
          (g.R.Rack.count c.lead_alone.new.rack 0) c.in-Ok.lead.header 0 c.in-Ok.lead c.in-Ok.ensures.opened.1 c.in-Err-lead_alone.ensures.closed)
          (λ n other. alone.held n (outside_one other) ∙ lead.held n (outside_one other));
      takes = taken_one (g.R.Rack.can_take c.lead_alone.new.rack) c.in-Err-lead_alone.ensures.back
          (λ n some. alone.takes n (inr some) (lead.takes n (inr some) (c.requires n)));
    }

pub returns-in-Err-open_at_once-clause-back : goal.returns-in-Err-open_at_once-clause-back
returns-in-Err-open_at_once-clause-back g c =
    let lead_node = subst (λ (k : Header). IsNodeAt g.R.Disk.Disk (g.R.Rack.held c.args.rack.now) IsCoord k 0 c.in-Ok.lead)
    (sym c.header.ensures.header) c.in-Ok.ensures.opened.1 in
    let Q : ℕ → NodeOf g.row.R-Disk.Denot → Type 0 = λ n x. OfTold (g.R.Rack.held c.open_at_once.new.rack n) (λ now. now ≡ x.disk) in
    let put : OfTold (g.R.Rack.held c.open_at_once.new.rack 0) (λ now. now ≡ c.in-Ok.lead.disk) =
    (subst (λ (l : List (NodeOf g.row.R-Disk.Denot)). EachFrom Q 0 l) c.in-Ok-lead_alone.ensures.alone c.in-Err-open_at_once.ensures.closed).0 in
    let before = g.R.Rack.count c.args.rack.now in
    let after = g.R.Rack.count c.open_at_once.new.rack in
    let here : IsDiskBack g.R.Disk.Disk (before 0) (after 0) (g.R.Rack.held c.args.rack.now 0) (g.R.Rack.held c.open_at_once.new.rack 0) =
    node_back g.R.Disk.Disk IsCoord (g.R.Rack.held c.args.rack.now) (g.R.Rack.held c.open_at_once.new.rack) (before 0) (after 0) c.header.result.now
    0 c.in-Ok.lead lead_node put in
    let lead = c.in-Ok.ensures.others in
    let alone = c.in-Ok-lead_alone.ensures.others in
    let others = c.in-Err-open_at_once.ensures.others in
    record {
      held = back_parts g.R.Disk.Disk before after (g.R.Rack.count c.lead_alone.new.rack) after (g.R.Rack.held c.args.rack.now)
          (g.R.Rack.held c.lead_alone.new.rack) (g.R.Rack.held c.open_at_once.new.rack) 1 c.coordinators-count.result
          (λ n. le_trans (lead.later n) (alone.later n)) (λ n. omega arith)
          (λ n some. alone.held n (inr some) ∙ lead.held n (inr some))
          (λ n small. let none : 0 ≡ n = omega (arith, small) in
          subst (λ (k : ℕ). IsDiskBack g.R.Disk.Disk (before k) (after k) (g.R.Rack.held c.args.rack.now k)
          (g.R.Rack.held c.open_at_once.new.rack k)) none here)
          (λ n ge lt. c.in-Err-open_at_once.ensures.held n (omega (arith, ge, ap length c.in-Ok-lead_alone.ensures.alone)) (omega (arith, lt)))
          (λ n ge above. others.held n (inr (omega (arith, above))));
      takes = λ n. ⊎_elim
          (λ (below : n < 0 + c.coordinators-count.result). c.in-Err-open_at_once.ensures.back n (omega arith) below)
          (λ (above : 0 + c.coordinators-count.result ≤ n).
          let some : 1 ≤ n = omega (arith, above, c.coordinators-count.ensures.limits.some_coordinator, c.coordinators-count.ensures.value) in
          others.takes n (inr above) (alone.takes n (inr some) (lead.takes n (inr some) (c.requires n))))
          (cases_lt n (0 + c.coordinators-count.result));
    }
