use Rattle.std.proofs.Common.{take, arith}
use Rattle.client_files.proofs.PieceLemmas.{fitting, room_for}
use Rattle.client_files.proofs.Streaming.{one_more_at}
use Rattle.client_files.proofs.stream.read_next.Goals as goal

pub returns-in-Ok-put-clause-more : goal.returns-in-Ok-put-clause-more
returns-in-Ok-put-clause-more g c =
    let piece = take c.min-len.result c.args.buf.now in
    let fits = fitting c.args.buf.now c.min-len.result c.args.room c.min-len.ensures c.requires.some.1 c.requires.some.0 in
    one_more_at (g.I.Inbox.file c.args.inbox.now c.args.name.now) c.args.window.now c.put.new.self piece c.read.new.buf c.in-Ok.n c.had.result
    c.had.ensures.value
    c.in-Ok.ensures.bound (omega arith) fits.0 (room_for c.args.window.now.had c.args.room piece fits.1 c.requires.room) c.in-Ok.ensures.bytes
    c.in-Ok.ensures.inside c.in-Ok-put.ensures

pub returns-in-Ok-put-clause-later : goal.returns-in-Ok-put-clause-later
returns-in-Ok-put-clause-later g c = c.read.ensures.later

pub returns-in-Err-put-clause-later : goal.returns-in-Err-put-clause-later
returns-in-Err-put-clause-later g c = c.read.ensures.later

pub returns-in-Err-clause-later : goal.returns-in-Err-clause-later
returns-in-Err-clause-later g c = c.read.ensures.later
