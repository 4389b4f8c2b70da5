use Rattle.std.proofs.Common.{◌≡◌, ap, subst, sym}
use Rattle.cbdc_types.specs.declared.answer.Answer.{Answer}
use Rattle.line_text.specs.Faults.{fault_text}
use Rattle.line_text.specs.Spells.{Spells}
use Rattle.line_text.proofs.faults.text_of.Goals as goal

pub returns-in-BadInput : goal.returns-in-BadInput
returns-in-BadInput c = subst (λ (a : Answer). Spells c.bad_file.result (λ name. fault_text a name)) (sym c.in-BadInput.is) c.bad_file.ensures
