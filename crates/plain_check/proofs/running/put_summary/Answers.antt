use Rattle.line_text.specs.Lines.{summary_text}
use Rattle.plain_check.proofs.Pages.{printed}
use Rattle.plain_check.proofs.running.put_summary.Goals as goal

pub returns : goal.returns
returns c = printed c.args.page.now.text.items c.write_summary.new.out.text.items
    (summary_text c.args.s.now.resumed c.args.s.now.batches c.args.s.now.confirmed c.args.s.now.rejected c.args.s.now.refused c.args.s.now.unspent)
    c.write_summary.result c.write_summary.ensures.prints
