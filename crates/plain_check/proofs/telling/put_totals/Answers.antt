use Rattle.line_text.specs.Reports.{audit_text}
use Rattle.plain_check.proofs.Pages.{printed}
use Rattle.plain_check.proofs.telling.put_totals.Goals as goal

pub returns : goal.returns
returns c = printed c.args.page.now.text.items c.write_audit.new.out.text.items (audit_text c.args.totals.now) c.write_audit.result
    c.write_audit.ensures.prints
