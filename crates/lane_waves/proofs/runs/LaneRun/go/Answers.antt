use Rattle.std.proofs.Common.{refl, sym, ap, ◌∙◌, subst, Some}
use Rattle.std.specs.List.{All}
use Rattle.cbdc_model.specs.Grammar.{IsCompact}
use Rattle.lane_waves.proofs.Going.{has_run}
use Rattle.lane_waves.proofs.runs.LaneRun.go.Goals as goal

pub returns : goal.returns
returns g c =
    let e = c.run_over-came.ensures in
    let r = c.args.self.now in
    record {
      ends = record {
        seated = record { log = e.keeps.to_log.held c.requires.begins.seated.log; shards = e.keeps.to_shards.held c.requires.begins.seated.shards };
        lane = refl;
        work = ap (λ txs. record {
          txs = txs;
          repeats = c.work.inside.repeats;
          decided = c.work.inside.lane.decided;
          batches = c.work.inside.lane.batches;
          fault = c.work.inside.lane.fault;
        }) (c.end_ahead.ensures ∙ e.same) ∙ c.work.view_is;
        at = e.keeps.to_log.at_same;
        count_is = e.keeps.to_shards.count_same;
        of_lane = e.keeps.to_shards.served;
        own_lane = e.keeps.to_log.count_same;
        log_nodes = e.keeps.to_log.nodes;
        nodes = e.keeps.to_shards.nodes;
        has_run = has_run g.S.Shard.sight g.B.Locks.tables c.args.shape.now r _ (g.X.Source.all c.work.inside.source)
            (ap (λ w. w.txs) c.work.view_is) c.work.inside.repeats (ap (λ w. w.repeats) c.work.view_is) c.run_over-came.result e.outcome e.idle
            e.report;
      };
    }

pub run_over-came-requires-clause-limits : goal.run_over-came-requires-clause-limits
run_over-came-requires-clause-limits g c κs within = subst (λ txs. All IsCompact txs) (sym (ap (λ w. w.txs) c.work.view_is)) c.requires.begins.limits
