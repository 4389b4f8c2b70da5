use Rattle.std.proofs.Common.{rules, ◌≡◌, ◌-◌, length, ap, ◌∙◌, Ok, Err, sym}
use Rattle.client_files.specs.Files.{counted_behind}
use Rattle.client_files.specs.declared.fault.BadFile.{BadFile}
use Rattle.client_files.proofs.Ends.{file_ok, file_extra, file_fault}
use Rattle.client_files.proofs.clients.read_clients.Goals as goal

pub returns-in-None : goal.returns-in-None
returns-in-None c = file_ok (length c.args.bytes.now) c.args.more (counted_behind c.args.before c.args.bytes.now) c.in-Ok.txs c.in-Ok.rest.now
    (search rules) c.in-None.ensures

pub returns-in-Some : goal.returns-in-Some
returns-in-Some c = file_extra (length c.args.bytes.now) c.args.more (counted_behind c.args.before c.args.bytes.now) c.in-Ok.txs c.in-Ok.rest.now
    c.in-Some.fault (search rules) c.in-Some.ensures ∙ ap (λ (b : BadFile). Err b) (sym c.place.ensures)
