use Rattle.std.proofs.Common.{ℕ, Option, subst, inl, inr}
use Rattle.std.specs.Prelude.{MatchOption}
use Rattle.rack_ledgers.specs.Caused.{listed_journals, AreCaused, HasUncaused}
use Rattle.rack_ledgers.proofs.Told.{same_back}
use Rattle.rack_ledgers.proofs.Closed.{all_same}
use Rattle.rack_ledgers.proofs.caused.open_caused.Goals as goal
use Rattle.rack_ledgers.proofs.caused.open_caused.Goals.{in-Ok-Some, in-Err-first_uncaused}

pub first_uncaused-requires-clause-logs : goal.first_uncaused-requires-clause-logs
first_uncaused-requires-clause-logs g c n x is = (c.in-Ok.ensures.opened.nodes.logs_at n x is).journal

pub first_uncaused-requires-clause-shards : goal.first_uncaused-requires-clause-shards
first_uncaused-requires-clause-shards g c n x is = (c.in-Ok.ensures.opened.nodes.shards_at n x is).journal

pub returns-clause-refusal : goal.returns-clause-refusal
returns-clause-refusal g c = elim c.match-first_uncaused.branch [
  | in-Ok-Some w ↦ inr (inl (record {
    header = c.in-Ok.nodes.header;
    logs = c.in-Ok.nodes.logs.items;
    shards = c.in-Ok.nodes.shards.items;
    opened = c.in-Ok.ensures.opened.nodes;
    place = w.in-Ok-Some.place;
    told = w.fault-is;
    uncaused = subst (λ (o : Option ℕ). MatchOption o
        (AreCaused c.in-Ok.nodes.header.shape (listed_journals c.in-Ok.nodes.logs.items c.in-Ok.nodes.shards.items))
        (HasUncaused c.in-Ok.nodes.header.shape (listed_journals c.in-Ok.nodes.logs.items c.in-Ok.nodes.shards.items))) w.in-Ok-Some.field-0-is
        w.in-Ok-Some.ensures;
  }))
  | in-Err-first_uncaused w ↦ inr (inr w.fault-is)
]

pub close_nodes-requires : goal.close_nodes-requires
close_nodes-requires g c = c.in-Ok.ensures.opened.may_close

pub returns-clause-back : goal.returns-clause-back
returns-clause-back g c =
    let held = g.R.Rack.held c.args.rack.now in
    let now = g.R.Rack.held c.close_nodes.new.rack in
    let led = c.in-Ok.ensures.opened in
    record {
      held = λ n. same_back g.R.Disk.Disk (g.R.Rack.count c.args.rack.now n) (g.R.Rack.count c.close_nodes.new.rack n) (held n) (now n)
          (all_same g.R.Disk.Disk held (g.R.Rack.held c.open_nodes.new.rack) now c.in-Ok.nodes.header c.in-Ok.nodes.logs.items
          c.in-Ok.nodes.shards.items
          led.nodes led.others_held c.close_nodes.ensures.closed_logs c.close_nodes.ensures.closed_shards c.close_nodes.ensures.others_held n);
      takes = c.close_nodes.ensures.back;
    }
