use Rattle.line_text.specs.Reports.{recovery_text}
use Rattle.plain_check.proofs.Pages.{printed}
use Rattle.plain_check.proofs.recovering.put_numbers.Goals as goal

pub returns : goal.returns
returns c = printed c.args.page.now.text.items c.write_recovery.new.out.text.items (recovery_text c.args.resumed c.args.unspent)
    c.write_recovery.result c.write_recovery.ensures.prints
