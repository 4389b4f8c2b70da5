use Rattle.std.proofs.Common.{◌≡◌, ◌≤◌, le_trans, ◌<◌, ◌∙◌, ◌+◌, ℕ, length, sym, subst, ap, arith, inl, inr, ⊎_elim}
use Rattle.std.proofs.lemmas.Bool.{cases_lt}
use Rattle.std.specs.Option.{option_copied}
use Rattle.node_journal.specs.Nodes.{NodeOf}
use Rattle.coord_log.specs.Opening.{IsCoord}
use Rattle.shard_node.specs.Opening.{IsShardHeader}
use Rattle.rack_ledgers.specs.Places.{EachFrom, MayReturn}
use Rattle.rack_ledgers.specs.Racked.{OfTold, IsDiskBack}
use Rattle.rack_ledgers.proofs.Each.{each_weaker}
use Rattle.rack_ledgers.proofs.Closing.{closed_whole}
use Rattle.rack_ledgers.specs.Ledgers.{IsNodeAt}
use Rattle.rack_ledgers.proofs.Places.{by_place, by_two}
use Rattle.rack_ledgers.proofs.Opened.{OpensNode, nodes_at, nodes_since, node_back}
use Rattle.rack_ledgers.proofs.LedgerBacks.{back_parts}
use Rattle.rack_ledgers.proofs.Lacks.{lacks_shard}
use Rattle.rack_ledgers.proofs.opening.open_ledger.Goals as goal

pub close_all-requires-clause-out : goal.close_all-requires-clause-out
close_all-requires-clause-out g c =
    let P = MayReturn (λ x. g.R.Disk.Disk.count x.disk) (g.R.Rack.can_put c.open_logs.new.rack) in
    let Q = MayReturn (λ x. g.R.Disk.Disk.count x.disk) (g.R.Rack.can_put c.open_at_once.new.rack) in
    each_weaker P Q 0 c.in-Ok.opened.1.items
    (λ k d ge lt may m le. c.open_at_once.ensures.others.puts k m
    (inl (omega (arith, lt, c.in-Ok.ensures.opened.coordinators, c.coordinators-first.ensures.value))) (may m le)) c.in-Ok.ensures.opened.logs

pub returns-in-Ok-open_at_once-clause-later : goal.returns-in-Ok-open_at_once-clause-later
returns-in-Ok-open_at_once-clause-later g c = λ n. omega (arith, c.open_logs.ensures.later n, c.open_at_once.ensures.others.later n)

pub returns-in-Err-open_at_once-clause-refusal : goal.returns-in-Err-open_at_once-clause-refusal
returns-in-Err-open_at_once-clause-refusal g c =
    inr (lacks_shard g.R.Disk.Disk (g.R.Rack.held c.args.rack.now) (g.R.Rack.held c.open_logs.new.rack)
    (g.R.Rack.count c.args.rack.now) (g.R.Rack.count c.open_logs.new.rack) (g.R.Rack.count c.open_at_once.new.rack)
    (g.R.Rack.count c.close_all.new.rack)
    c.in-Ok.opened.0 c.in-Ok.opened.1.items (option_copied c.args.id) (c.coordinators-first.result + length c.new.result.items)
    (c.coordinators-first.result + c.shards-count.result) c.in-Err-open_at_once.fault
    (omega (arith, ap length c.new.ensures.items, c.coordinators-first.ensures.value))
    (omega (arith, c.coordinators-first.ensures.value, c.shards-count.ensures.value))
    c.in-Ok.ensures.opened.others_held (λ n. c.in-Ok.ensures.later n) (λ n. c.close_all.ensures.others.later n)
    c.in-Ok.ensures.opened.first c.in-Ok.ensures.opened.limits c.in-Ok.ensures.minted c.in-Ok.ensures.opened.coordinators
    c.in-Ok.ensures.opened.logs_at
    c.in-Err-open_at_once.ensures.refusal)

pub returns-in-Err-clause-refusal : goal.returns-in-Err-clause-refusal
returns-in-Err-clause-refusal g c = inl c.in-Err.ensures.refusal

pub returns-in-Ok-open_at_once-clause-minted : goal.returns-in-Ok-open_at_once-clause-minted
returns-in-Ok-open_at_once-clause-minted g c = c.in-Ok.ensures.minted

pub returns-in-Ok-open_at_once-clause-opened : goal.returns-in-Ok-open_at_once-clause-opened
returns-in-Ok-open_at_once-clause-opened g c =
    let led = c.in-Ok.ensures.opened in
    let others = c.in-Ok-open_at_once.ensures.others in
    let value = c.coordinators-first.ensures.value in
    let count = led.coordinators in
    let h = c.in-Ok.opened.0 in
    let logs = c.in-Ok.opened.1.items in
    let shards = c.in-Ok-open_at_once.shards.items in
    let was = g.R.Rack.held c.args.rack.now in
    let before = g.R.Rack.count c.args.rack.now in
    let mid = g.R.Rack.held c.open_logs.new.rack in
    let between = g.R.Rack.count c.open_logs.new.rack in
    let could = MayReturn (λ x. g.R.Disk.Disk.count x.disk) (g.R.Rack.can_put c.open_logs.new.rack) in
    let can = MayReturn (λ x. g.R.Disk.Disk.count x.disk) (g.R.Rack.can_put c.open_at_once.new.rack) in
    let P = OpensNode g.R.Disk.Disk IsShardHeader mid between h in
    let all : EachFrom P c.coordinators-first.result shards =
    closed_whole P c.coordinators-first.result c.new.result.items shards c.new.ensures.items c.in-Ok-open_at_once.ensures.opened in
    let from : EachFrom P h.shape.coordinators shards = subst (λ (k : ℕ). EachFrom P k shards) value all in
    let shards_are : length shards ≡ h.shape.shards = c.in-Ok-open_at_once.ensures.all ∙ c.shards-count.ensures.value in
    record {
      nodes = record {
        first = led.first;
        limits = led.limits;
        coordinators = count;
        shards_are = shards_are;
        logs_at = led.logs_at;
        shards_at = nodes_at g.R.Disk.Disk IsShardHeader was mid between h h.shape.coordinators shards led.others_held from;
      };
      logs_since = led.since;
      shards_since = nodes_since g.R.Disk.Disk IsShardHeader mid before between h h.shape.coordinators shards c.in-Ok.ensures.later from;
      others_held = λ n ge. others.held n (inr (omega (arith, ge, c.in-Ok-open_at_once.ensures.all, count, value)))
          ∙ led.others_held n (omega (arith, ge, count));
      may_close = record {
        few = omega (arith, led.few, count, shards_are);
        logs = each_weaker could can 0 logs (λ k d ge lt may m le. others.puts k m (inl (omega (arith, lt, count, value))) (may m le)) led.logs;
        shards = subst (λ (k : ℕ). EachFrom can k shards) (value ∙ sym count) c.in-Ok-open_at_once.ensures.out;
        others = λ n ge. others.takes n (inr (omega (arith, ge, c.in-Ok-open_at_once.ensures.all, count, value)))
            (led.others_in n (omega (arith, ge, count)));
      };
    }

pub returns-in-Err-open_at_once-clause-back : goal.returns-in-Err-open_at_once-clause-back
returns-in-Err-open_at_once-clause-back g c =
    let Q : ℕ → NodeOf g.row.R-Disk.Denot → Type 0 = λ n x. OfTold (g.R.Rack.held c.close_all.new.rack n) (λ now. now ≡ x.disk) in
    let led = c.in-Ok.ensures.opened in
    let count = led.coordinators in
    let first = c.coordinators-first.ensures.value in
    let end = c.coordinators-first.result + c.shards-count.result in
    let logs = c.in-Ok.opened.1.items in
    let was = g.R.Rack.held c.args.rack.now in
    let is = g.R.Rack.held c.close_all.new.rack in
    let before = g.R.Rack.count c.args.rack.now in
    let after = g.R.Rack.count c.close_all.new.rack in
    let put = c.close_all.ensures.others in
    let others = c.in-Err-open_at_once.ensures.others in
    record {
      held = back_parts g.R.Disk.Disk before after (g.R.Rack.count c.open_logs.new.rack) (g.R.Rack.count c.open_at_once.new.rack) was
          (g.R.Rack.held c.open_logs.new.rack) is
          c.in-Ok.opened.0.shape.coordinators end
          c.in-Ok.ensures.later put.later
          led.others_held
          (λ n small. by_two (IsNodeAt g.R.Disk.Disk was IsCoord c.in-Ok.opened.0) Q
          (λ k. IsDiskBack g.R.Disk.Disk (before k) (after k) (was k) (is k)) logs
          (λ k x at closed. node_back g.R.Disk.Disk IsCoord was is (before k) (after k) c.in-Ok.opened.0 k x at closed)
          led.logs_at (by_place Q logs c.close_all.ensures.closed) n (omega (arith, small, count)))
          (λ n ge lt was is now is_now. c.in-Err-open_at_once.ensures.held n (omega (arith, ge, first, ap length c.new.ensures.items)) lt was is now
          (sym (put.held n (inr (omega (arith, ge, count)))) ∙ is_now))
          (λ n ge above. put.held n (inr (omega (arith, ge, count))) ∙ others.held n (inr (omega (arith, above))));
      takes = λ n. ⊎_elim
          (λ (small : n < length logs). c.close_all.ensures.back n (omega arith) (omega (arith, small)))
          (λ (large : length logs ≤ n). put.takes n (inr (omega (arith, large))) (⊎_elim
          (λ (below : n < end). c.in-Err-open_at_once.ensures.back n (omega (arith, large, count, first)) below)
          (λ (above : end ≤ n). others.takes n (inr above) (led.others_in n (omega (arith, large, count))))
          (cases_lt n end)))
          (cases_lt n (length logs));
    }

pub returns-in-Err-clause-back : goal.returns-in-Err-clause-back
returns-in-Err-clause-back g c = c.in-Err.ensures.back

pub returns-in-Err-open_at_once-clause-later : goal.returns-in-Err-open_at_once-clause-later
returns-in-Err-open_at_once-clause-later g c =
    λ n. le_trans (c.in-Ok.ensures.later n) (le_trans (c.in-Err-open_at_once.ensures.others.later n) (c.close_all.ensures.others.later n))
