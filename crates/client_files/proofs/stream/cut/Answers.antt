use Rattle.std.proofs.Common.{◌-◌}
use Rattle.client_files.proofs.Streaming.{cut_here}
use Rattle.client_files.proofs.stream.cut.Goals as goal

pub returns-in-Ok-clause-fault : goal.returns-in-Ok-clause-fault
returns-in-Ok-clause-fault g c =
    cut_here (g.I.Inbox.file c.args.inbox.now c.args.name.now) c.args.had (c.args.had - c.args.at) (g.I.Inbox.count c.args.inbox.now c.args.name.now)
    (g.I.Inbox.count c.is_cut_off.new.inbox c.args.name.now)
    c.in-Ok.more c.bad.result c.bad.ensures c.requires.end (c.in-Ok.ensures.more c.requires.end)
