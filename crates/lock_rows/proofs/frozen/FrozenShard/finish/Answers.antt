use Rattle.std.proofs.Common.{sym}
use Rattle.lock_rows.proofs.Freezing.{finish_gives}
use Rattle.lock_rows.proofs.frozen.FrozenShard.finish.Goals as goal

pub returns-clause-gives : goal.returns-clause-gives
returns-clause-gives c = finish_gives c.self.inside.core c.self.inside.records.items c.self.invariant c.args.self.now (sym c.self.view_is)
    c.args._call.now c.requires.batch.1
