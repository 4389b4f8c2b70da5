use Rattle.rack_ledgers.proofs.Lending.{lent_more}
use Rattle.rack_ledgers.proofs.lent.lend_logs.Goals as goal

pub logs-preserved : goal.logs-preserved
logs-preserved g c =
    lent_more (λ x. x.journal) c.logs.all.items c.push.new.self.items c.records.result _ c.args.logs.now c.logs.log-index c.log-item.result
    c.logs-test.true c.log-item.is c.in_ok-push.ensures.items c.records.ensures.records c.logs.invariant
