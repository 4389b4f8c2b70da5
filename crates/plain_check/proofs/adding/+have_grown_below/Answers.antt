use Rattle.std.proofs.Common.{arith}
use Rattle.plain_check.specs.Journals.{journals_in}
use Rattle.plain_check.specs.Adding.{MayAdd, GrowsByNew}
use Rattle.plain_check.proofs.Below.{next_below}
use Rattle.plain_check.proofs.adding.+have_grown_below.Goals as goal

pub returns-then-has_grown : goal.returns-then-has_grown
returns-then-has_grown t c =
    next_below (λ k. GrowsByNew (MayAdd c.args.resumes c.args.shape.now (journals_in c.args.old.now) (journals_in c.args.new.now))
    (journals_in c.args.old.now k) (journals_in c.args.new.now k))
    c.args.n c.have_grown_below.result (omega arith) (c.has_grown.ensures.0 c.if-has_grown.true) c.have_grown_below.ensures
