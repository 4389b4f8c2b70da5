use Rattle.std.proofs.Common.{sym}
use Rattle.lock_rows.proofs.Freezing.{lock_gives}
use Rattle.lock_rows.proofs.frozen.FrozenShard.lock.Goals as goal

pub returns-clause-gives : goal.returns-clause-gives
returns-clause-gives c = lock_gives c.self.inside.core c.self.inside.records.items c.self.invariant c.args.self.now (sym c.self.view_is)
    c.args._call.now
