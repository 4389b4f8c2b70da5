use Rattle.std.proofs.Common.{◌≤◌, length, arith}
use Rattle.plain_check.specs.Journals.{journals_in}
use Rattle.plain_check.specs.Adding.{MayAdd}
use Rattle.plain_check.proofs.Growing.{adds_by, past_end}
use Rattle.plain_check.proofs.adding.adds.Goals as goal

pub returns : goal.returns
returns c =
    let old : length c.args.old.now ≤ c.max.result = omega arith in
    let new : length c.args.new.now ≤ c.max.result = omega arith in
    adds_by (MayAdd c.args.resumes c.args.shape.now (journals_in c.args.old.now) (journals_in c.args.new.now)) (journals_in c.args.old.now)
    (journals_in c.args.new.now)
    c.max.result c.have_grown_below.result (λ k le. past_end c.args.old.now c.max.result k old le)
    (λ k le. past_end c.args.new.now c.max.result k new le) c.have_grown_below.ensures
