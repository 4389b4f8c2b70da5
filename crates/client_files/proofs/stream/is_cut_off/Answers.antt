use Rattle.client_files.proofs.Streaming.{not_cut_off}
use Rattle.client_files.proofs.stream.is_cut_off.Goals as goal

pub returns-then-had-lt-LIMIT-clause-more : goal.returns-then-had-lt-LIMIT-clause-more
returns-then-had-lt-LIMIT-clause-more g c = not_cut_off (g.I.Inbox.file c.args.inbox.now c.args.name.now) c.args.had c.if-had-lt-LIMIT.true
