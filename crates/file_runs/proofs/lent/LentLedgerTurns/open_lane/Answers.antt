use Rattle.std.proofs.Common.{subst, sym}
use Rattle.ledger_runs.specs.Turning.{IsLaneOf}
use Rattle.file_runs.proofs.Opens.{is_found}
use Rattle.file_runs.proofs.lent.LentLedgerTurns.open_lane.Goals as goal

pub returns : goal.returns
returns g c = rw (← c.self.view_is) (record {
  found = is_found g.D.Disk c.self.inside.header c.args.lane c.self.inside.ports.log.logs.items c.self.inside.ports.shards.nodes.items
      c.self.invariant
      (subst (λ v. IsLaneOf v.header.shape c.args.lane) (sym c.self.view_is) c.requires.lane) c.home-at.result c.index.result.now
      c.home-at.ensures.place c.index.ensures c.open_lane.result c.open_lane.ensures;
})
