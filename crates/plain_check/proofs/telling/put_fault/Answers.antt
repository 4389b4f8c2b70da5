use Rattle.line_text.specs.Faults.{fault_text}
use Rattle.plain_check.proofs.Pages.{printed}
use Rattle.plain_check.proofs.telling.put_fault.Goals as goal

pub returns : goal.returns
returns c = printed c.args.page.now.text.items c.write_fault.new.out.text.items (fault_text c.args.answer.now c.args.name.now) c.write_fault.result
    c.write_fault.ensures.prints
