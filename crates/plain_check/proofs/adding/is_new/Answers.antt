use Rattle.plain_check.specs.Adding.{MayAdd}
use Rattle.plain_check.specs.Journals.{journals_in}
use Rattle.plain_check.proofs.Batches.{new_by}
use Rattle.plain_check.proofs.adding.is_new.Goals as goal

pub returns-in-Some : goal.returns-in-Some
returns-in-Some c =
    new_by (MayAdd c.args.resumes c.args.shape.now (journals_in c.args.old.now) (journals_in c.args.new.now)) c.args.r.now c.in-Some.batch
    c.may_add.result
    c.in-Some.ensures.batch c.may_add.ensures
