use Rattle.std.proofs.Common.{◌≡◌, ◌*◌, List, length, sym, subst}
use Rattle.std.specs.List.{All}
use Rattle.cbdc_model.specs.After.{IsJournal}
use Rattle.cbdc_model.specs.World.{AreIdle}
use Rattle.node_journal.specs.Nodes.{NodeOf}
use Rattle.file_runs.specs.Ledgers.{FliesNext, node_journals, HaveCheckedJournals}
use Rattle.file_runs.proofs.Waved.{nodes_of, all_settled, all_within, wave_law}
use Rattle.file_runs.proofs.Looks.{if_looks}
use Rattle.file_runs.proofs.waving.run_wave.Goals as goal

pub wave-logs-requires-clause-ledger : goal.wave-logs-requires-clause-ledger
wave-logs-requires-clause-ledger g c κs k = nodes_of c.ledger.inside.header c.ledger.inside.logs.items c.ledger.inside.shards.items
    c.ledger.invariant.ledger

pub wave-logs-requires-clause-settled : goal.wave-logs-requires-clause-settled
wave-logs-requires-clause-settled g c κs k = all_settled c.ledger.inside.header c.ledger.inside.logs.items c.ledger.inside.shards.items
    c.ledger.invariant.ledger
    (subst (λ v. HaveCheckedJournals v.header.shape v.logs v.shards) (sym c.ledger.view_is) c.requires.checked)
    (subst (λ v. AreIdle v.header.shape (node_journals v.header.shape v.logs v.shards)) (sym c.ledger.view_is) c.requires.idle)

pub wave-logs-requires-clause-limits : goal.wave-logs-requires-clause-limits
wave-logs-requires-clause-limits g c κs k = all_within c.args.lanes.now.items c.requires.limits

pub invariant_of-result : goal.invariant_of-result
invariant_of-result g c = record {
  ledger = (wave_law g.D.Disk c.ledger.inside.header c.ledger.inside.logs.items c.ledger.inside.shards.items c.wave-logs.result.logs.items
      c.wave-logs.result.shards.items
      c.args.lanes.now.items c.wave-logs.new.lanes.items c.ledger.invariant.ledger
      (subst (λ v. length c.args.lanes.now.items ≡ v.header.shape.coordinators * v.header.shape.lanes) (sym c.ledger.view_is) c.requires.count)
      c.wave-logs.ensures.ran c.wave-logs.ensures.logs_go c.wave-logs.ensures.shards_go
      (subst (λ (ls : List (NodeOf g.row.D.Denot)). All (λ l. IsJournal l.header l.journal) ls) c.as_slice.ensures.value c.see_logs.ensures.journals)
      (subst (λ (ls : List (NodeOf g.row.D.Denot)). All FliesNext ls) c.as_slice.ensures.value c.see_logs.ensures.next)
      (subst (λ (ss : List (NodeOf g.row.D.Denot)). All (λ s. IsJournal s.header s.journal) ss) c.as_slice-2.ensures.value
      c.see_shards.ensures.journals)
      (subst (λ (ss : List (NodeOf g.row.D.Denot)). All FliesNext ss) c.as_slice-2.ensures.value c.see_shards.ensures.next)).ledger;
  looks = if_looks c.ledger.inside.header c.ledger.inside.logs.items c.ledger.inside.shards.items c.wave-logs.result.logs.items
      c.wave-logs.result.shards.items
      c.ledger.invariant.ledger c.wave-logs.new.watch c.wave-logs.ensures.looked;
}

pub returns-clause-wave : goal.returns-clause-wave
returns-clause-wave g c = rw (← c.ledger.view_is)
    (wave_law g.D.Disk c.ledger.inside.header c.ledger.inside.logs.items c.ledger.inside.shards.items c.wave-logs.result.logs.items
    c.wave-logs.result.shards.items
    c.args.lanes.now.items c.wave-logs.new.lanes.items c.ledger.invariant.ledger
    (subst (λ v. length c.args.lanes.now.items ≡ v.header.shape.coordinators * v.header.shape.lanes) (sym c.ledger.view_is) c.requires.count)
    c.wave-logs.ensures.ran c.wave-logs.ensures.logs_go c.wave-logs.ensures.shards_go
    (subst (λ (ls : List (NodeOf g.row.D.Denot)). All (λ l. IsJournal l.header l.journal) ls) c.as_slice.ensures.value c.see_logs.ensures.journals)
    (subst (λ (ls : List (NodeOf g.row.D.Denot)). All FliesNext ls) c.as_slice.ensures.value c.see_logs.ensures.next)
    (subst (λ (ss : List (NodeOf g.row.D.Denot)). All (λ s. IsJournal s.header s.journal) ss) c.as_slice-2.ensures.value
    c.see_shards.ensures.journals)
    (subst (λ (ss : List (NodeOf g.row.D.Denot)). All FliesNext ss) c.as_slice-2.ensures.value c.see_shards.ensures.next))
