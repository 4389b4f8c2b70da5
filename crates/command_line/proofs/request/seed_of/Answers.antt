use Rattle.std.proofs.Common.{◌∙◌, sym, codes}
use Rattle.clap.specs.Words.{found_of}
use Rattle.clap.proofs.WalkLemmas.{first_value-rows}
use Rattle.command_line.proofs.request.seed_of.Goals as goal

pub returns-in-Some-whole_in-clause-seed : goal.returns-in-Some-whole_in-clause-seed
returns-in-Some-whole_in-clause-seed c =
    (c.in-Some.text.now, sym (first_value-rows (found_of c.args.inner.now) (codes "seed")) ∙ sym c.in-Some.ensures, c.in-Some-whole_in.ensures)

pub returns-in-None-clause-none : goal.returns-in-None-clause-none
returns-in-None-clause-none c = λ bad.
    (c.in-Some.text.now, sym (first_value-rows (found_of c.args.inner.now) (codes "seed")) ∙ sym c.in-Some.ensures, c.in-None.ensures)
