use Rattle.std.proofs.Common.{◌∙◌, sym}
use Rattle.clap.specs.Words.{found_of}
use Rattle.clap.proofs.WalkLemmas.{first_value-rows}
use Rattle.command_line.proofs.request.number_up_to.Goals as goal

pub returns-in-Some-up_to_in-clause-number : goal.returns-in-Some-up_to_in-clause-number
returns-in-Some-up_to_in-clause-number c =
    (c.in-Some.text.now, sym (first_value-rows (found_of c.args.inner.now) c.args.option.now) ∙ sym c.in-Some.ensures, c.in-Some-up_to_in.ensures)

pub returns-in-None-clause-none : goal.returns-in-None-clause-none
returns-in-None-clause-none c = λ bad.
    (c.in-Some.text.now, sym (first_value-rows (found_of c.args.inner.now) c.args.option.now) ∙ sym c.in-Some.ensures, c.in-None.ensures)
