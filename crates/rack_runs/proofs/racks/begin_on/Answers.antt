use Rattle.std.proofs.Common.{inl, inr, [], Err, refl, sym, subst, arith}
use Rattle.file_runs.specs.Ledgers.{ledger_journals, IsChecked}
use Rattle.rack_runs.specs.Resuming.{HasResumed}
use Rattle.rack_runs.specs.Works.{entry_ledger}
use Rattle.rack_runs.proofs.Behind.{is_ledger}
use Rattle.rack_runs.proofs.Checking.{opened_checked}
use Rattle.rack_runs.proofs.Testing.{may_close as may_close_first, not_begun}
use Rattle.rack_runs.proofs.Lent.{ledger_of}
use Rattle.rack_runs.proofs.Closing.{at_entry, is_open, stopped_come, may_close, closed}
use Rattle.rack_runs.proofs.racks.begin_on.Goals as goal

pub ledger_of-ledger-requires : goal.ledger_of-ledger-requires
ledger_of-ledger-requires g c =
    is_ledger g.R.Disk.Disk (g.R.Rack.held c.args.rack.now) c.in-Ok.nodes.header c.in-Ok.nodes.logs.items c.in-Ok.nodes.shards.items
    c.in-Ok.ensures.opened.nodes

pub test-requires : goal.test-requires
test-requires g c = subst (λ l. IsChecked l) (sym c.ledger_of-ledger.ensures)
    (opened_checked g.R.Disk.Disk (g.R.Rack.held c.args.rack.now) c.in-Ok.nodes.header c.in-Ok.nodes.logs.items c.in-Ok.nodes.shards.items
    c.in-Ok.ensures.opened.nodes c.in-Ok.ensures.caused)

-- ---- the work's own test refuses the ledger

pub close_nodes-requires : goal.close_nodes-requires
close_nodes-requires g c =
    let o = c.in-Ok.ensures in
    let e = at_entry (g.R.Rack.held c.args.rack.now) (g.R.Rack.count c.args.rack.now) c.in-Ok.nodes.header c.in-Ok.nodes.logs.items
    c.in-Ok.nodes.shards.items in
    let begun = is_open g.R.Disk.Disk g.R.Rack c.args.rack.now c.open_caused.new.rack c.in-Ok.nodes.header c.in-Ok.nodes.logs.items
    c.in-Ok.nodes.shards.items o.opened o.caused in
    may_close_first g.R.Disk.Disk e (g.R.Rack.held c.open_caused.new.rack) (g.R.Rack.can_put c.open_caused.new.rack)
    (g.R.Rack.can_take c.open_caused.new.rack) begun c.ledger_of-ledger.result
    (ledger_of c.nodes_of.result.header c.nodes_of.result.logs.items c.nodes_of.result.shards.items) c.ledger_of-ledger.ensures
    c.nodes_of.ensures.same

pub returns-in-Err-test-clause-stopped : goal.returns-in-Err-test-clause-stopped
returns-in-Err-test-clause-stopped g c =
    let o = c.in-Ok.ensures in
    let e = at_entry (g.R.Rack.held c.args.rack.now) (g.R.Rack.count c.args.rack.now) c.in-Ok.nodes.header c.in-Ok.nodes.logs.items
    c.in-Ok.nodes.shards.items in
    let begun = is_open g.R.Disk.Disk g.R.Rack c.args.rack.now c.open_caused.new.rack c.in-Ok.nodes.header c.in-Ok.nodes.logs.items
    c.in-Ok.nodes.shards.items o.opened o.caused in
    not_begun g.R.Disk.Disk e (g.R.Rack.held c.open_caused.new.rack) (g.R.Rack.can_put c.open_caused.new.rack)
    (g.R.Rack.can_take c.open_caused.new.rack) begun c.ledger_of-ledger.result
    (ledger_of c.nodes_of.result.header c.nodes_of.result.logs.items c.nodes_of.result.shards.items) c.ledger_of-ledger.ensures
    c.nodes_of.ensures.same (g.R.Rack.held c.close_nodes.new.rack)
    (record { logs = c.close_nodes.ensures.closed_logs; shards = c.close_nodes.ensures.closed_shards; others = c.close_nodes.ensures.others_held })
    (g.K.Work.deed c.args.work.now) (g.K.Work.tests c.args.work.now) (g.R.Rack.count c.close_nodes.new.rack) c.in-Err-test.refusal
    c.in-Err-test.ensures.refuses

pub returns-in-Err-test-clause-later : goal.returns-in-Err-test-clause-later
returns-in-Err-test-clause-later g c n = omega (arith, c.in-Ok.ensures.later n, c.close_nodes.ensures.later n)

-- ---- the resuming

pub resume_ledger-ledger-requires : goal.resume_ledger-ledger-requires
resume_ledger-ledger-requires g c = record {
  checked = subst (λ l. IsChecked l) (sym c.ledger_of-ledger.ensures)
      (opened_checked g.R.Disk.Disk (g.R.Rack.held c.args.rack.now) c.in-Ok.nodes.header c.in-Ok.nodes.logs.items c.in-Ok.nodes.shards.items
      c.in-Ok.ensures.opened.nodes c.in-Ok.ensures.caused);
}

pub returns-in-Err-clause-stopped : goal.returns-in-Err-clause-stopped
returns-in-Err-clause-stopped g c = inl (inl (c.in-Err.ensures.refusal, c.in-Err.ensures.back.held))

pub returns-in-Ok-came-clause-begun : goal.returns-in-Ok-came-clause-begun
returns-in-Ok-came-clause-begun g c =
    let o = c.in-Ok.ensures in
    let e = at_entry (g.R.Rack.held c.args.rack.now) (g.R.Rack.count c.args.rack.now) c.in-Ok.nodes.header c.in-Ok.nodes.logs.items
    c.in-Ok.nodes.shards.items in
    let begun = is_open g.R.Disk.Disk g.R.Rack c.args.rack.now c.open_caused.new.rack c.in-Ok.nodes.header c.in-Ok.nodes.logs.items
    c.in-Ok.nodes.shards.items o.opened o.caused in (
      e,
      refl,
      begun,
      subst (λ k. HasResumed g.R.Disk.Disk (entry_ledger e) c.resume_ledger-ledger.result.ledger k) c.in-Ok-came.is
          (subst (λ l. HasResumed g.R.Disk.Disk l c.resume_ledger-ledger.result.ledger c.resume_ledger-ledger.result.came) c.ledger_of-ledger.ensures
          c.resume_ledger-ledger.ensures),
      subst (λ l. (g.K.Work.tests c.args.work.now).passes l.header.shape (ledger_journals l)) c.ledger_of-ledger.ensures c.in_default.ensures.passes,
    )

pub close_nodes-requires-2 : goal.close_nodes-requires-2
close_nodes-requires-2 g c =
    let o = c.in-Ok.ensures in
    let e = at_entry (g.R.Rack.held c.args.rack.now) (g.R.Rack.count c.args.rack.now) c.in-Ok.nodes.header c.in-Ok.nodes.logs.items
    c.in-Ok.nodes.shards.items in
    let begun = is_open g.R.Disk.Disk g.R.Rack c.args.rack.now c.open_caused.new.rack c.in-Ok.nodes.header c.in-Ok.nodes.logs.items
    c.in-Ok.nodes.shards.items o.opened o.caused in
    let has = stopped_come g.R.Disk.Disk e (g.R.Rack.held c.open_caused.new.rack) (g.R.Rack.can_put c.open_caused.new.rack)
    (g.R.Rack.can_take c.open_caused.new.rack) (g.K.Work.deed c.args.work.now) begun c.ledger_of-ledger.result
    c.resume_ledger-ledger.result.ledger c.ledger_of-ledger.ensures
    c.resume_ledger-ledger.result.came c.in-Err-came.fault c.in-Err-came.is c.resume_ledger-ledger.ensures in
    may_close g.R.Disk.Disk (g.K.Work.deed c.args.work.now) e (g.R.Rack.held c.open_caused.new.rack) (g.R.Rack.can_put c.open_caused.new.rack)
    (g.R.Rack.can_take c.open_caused.new.rack) c.nodes_of-nodes.result.header c.nodes_of-nodes.result.logs.items
    c.nodes_of-nodes.result.shards.items
    c.nodes_of-nodes.ensures.ledger c.nodes_of-nodes.ensures.seen c.resume_ledger-ledger.result.ledger c.nodes_of-nodes.ensures.same []
    (Err c.in-Err-came.fault) has

pub returns-clause-stopped : goal.returns-clause-stopped
returns-clause-stopped g c =
    let o = c.in-Ok.ensures in
    let e = at_entry (g.R.Rack.held c.args.rack.now) (g.R.Rack.count c.args.rack.now) c.in-Ok.nodes.header c.in-Ok.nodes.logs.items
    c.in-Ok.nodes.shards.items in
    let begun = is_open g.R.Disk.Disk g.R.Rack c.args.rack.now c.open_caused.new.rack c.in-Ok.nodes.header c.in-Ok.nodes.logs.items
    c.in-Ok.nodes.shards.items o.opened o.caused in
    let has = stopped_come g.R.Disk.Disk e (g.R.Rack.held c.open_caused.new.rack) (g.R.Rack.can_put c.open_caused.new.rack)
    (g.R.Rack.can_take c.open_caused.new.rack) (g.K.Work.deed c.args.work.now) begun c.ledger_of-ledger.result
    c.resume_ledger-ledger.result.ledger c.ledger_of-ledger.ensures
    c.resume_ledger-ledger.result.came c.in-Err-came.fault c.in-Err-came.is c.resume_ledger-ledger.ensures in
    inl (closed g.R.Disk.Disk (g.K.Work.deed c.args.work.now) e (g.R.Rack.held c.open_caused.new.rack) (g.R.Rack.can_put c.open_caused.new.rack)
    (g.R.Rack.can_take c.open_caused.new.rack) c.nodes_of-nodes.result.header c.nodes_of-nodes.result.logs.items
    c.nodes_of-nodes.result.shards.items
    c.nodes_of-nodes.ensures.ledger c.nodes_of-nodes.ensures.seen c.resume_ledger-ledger.result.ledger c.nodes_of-nodes.ensures.same []
    (Err c.in-Err-came.fault) has
    (g.R.Rack.held c.close_nodes-2.new.rack) c.close_nodes-2.ensures.closed_logs c.close_nodes-2.ensures.closed_shards
    (g.R.Rack.count c.close_nodes-2.new.rack) c.close_nodes-2.ensures.counted_logs c.close_nodes-2.ensures.counted_shards
    c.close_nodes-2.ensures.others_held (Err c.answer_of.result) (inr (c.in-Err-came.fault, refl, c.answer_of.ensures)) tt tt c.requires.fit).stopped

pub returns-in-Err-clause-back : goal.returns-in-Err-clause-back
returns-in-Err-clause-back g c = c.in-Err.ensures.back.takes
