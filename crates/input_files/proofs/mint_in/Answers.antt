use Rattle.std.proofs.Common.{◌∙◌}
use Rattle.client_files.specs.Files.{mint_in as read_file}
use Rattle.input_files.proofs.Limits.{mint_few}
use Rattle.input_files.proofs.Reading.{not_read}
use Rattle.input_files.proofs.mint_in.Goals as goal

pub returns-in-Ok-clause-fault : goal.returns-in-Ok-clause-fault
returns-in-Ok-clause-fault g c =
    let name = c.args.file.now.name.now in
    not_read c.args.file.now.place (g.I.Inbox.file c.args.inbox.now name) read_file (g.I.Inbox.count c.args.inbox.now name)
    (g.I.Inbox.count c.bytes_of.new.inbox name)
    c.in-Ok.field-0.more c.as_slice.result.now c.in-Err-read_mint.fault c.answer_of.result c.answer_of.ensures
    (λ bytes told. (c.as_slice.ensures ∙ (c.in-Ok.ensures.bytes bytes told).0, (c.in-Ok.ensures.bytes bytes told).1)) c.in-Err-read_mint.ensures

pub returns-in-Ok-read_mint-clause-few : goal.returns-in-Ok-read_mint-clause-few
returns-in-Ok-read_mint-clause-few g c = mint_few c.in-Ok.field-0.more c.as_slice.result.now _ c.in-Ok-read_mint.ensures
