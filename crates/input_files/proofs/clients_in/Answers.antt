use Rattle.std.proofs.Common.{Ok}
use Rattle.input_files.proofs.Limits.{file_few, file_short}
use Rattle.input_files.proofs.Reading.{held, stream_not_read}
use Rattle.input_files.proofs.clients_in.Goals as goal

pub returns-in-Ok-clause-read : goal.returns-in-Ok-clause-read
returns-in-Ok-clause-read g c = held (g.I.Inbox.file c.args.inbox.now c.args.file.now.name.now) c.args.before (Ok c.in-Ok.txs) c.in-Ok.ensures.read

pub returns-in-Ok-clause-few : goal.returns-in-Ok-clause-few
returns-in-Ok-clause-few g c = let h = c.in-Ok.ensures.read in file_few c.args.before h.more h.bytes c.in-Ok.txs h.is

pub returns-in-Ok-clause-short : goal.returns-in-Ok-clause-short
returns-in-Ok-clause-short g c = let h = c.in-Ok.ensures.read in file_short c.args.before h.more h.bytes c.in-Ok.txs h.is

pub returns-in-Err-clause-fault : goal.returns-in-Err-clause-fault
returns-in-Err-clause-fault g c =
    let name = c.args.file.now.name.now in
    stream_not_read c.args.file.now.place (g.I.Inbox.file c.args.inbox.now name) c.args.before (g.I.Inbox.count c.args.inbox.now name)
    (g.I.Inbox.count c.stream_clients.new.inbox name)
    c.in-Err.fault c.stream_answer.result c.stream_answer.ensures c.in-Err.ensures.fault
