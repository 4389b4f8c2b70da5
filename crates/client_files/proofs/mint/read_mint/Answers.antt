use Rattle.std.proofs.Common.{rules, ◌≡◌, ◌-◌, length, ap, ◌∙◌, Ok, Err, sym}
use Rattle.byte_fields.specs.Reading.{list_at}
use Rattle.byte_fields.specs.Transactions.{transaction_at}
use Rattle.client_files.specs.Files.{minted_at}
use Rattle.client_files.specs.declared.fault.BadFile.{BadFile}
use Rattle.client_files.proofs.Ends.{file_ok, file_extra, file_fault}
use Rattle.client_files.proofs.mint.read_mint.Goals as goal

pub returns-in-None : goal.returns-in-None
returns-in-None c = file_ok (length c.args.bytes.now) c.args.more (list_at 1000000 minted_at c.args.bytes.now) c.in-Ok.outputs c.in-Ok.rest.now
    (search rules) c.in-None.ensures

pub returns-in-Some : goal.returns-in-Some
returns-in-Some c = file_extra (length c.args.bytes.now) c.args.more (list_at 1000000 minted_at c.args.bytes.now) c.in-Ok.outputs c.in-Ok.rest.now
    c.in-Some.fault (search rules) c.in-Some.ensures ∙ ap (λ (b : BadFile). Err b) (sym c.place.ensures)
