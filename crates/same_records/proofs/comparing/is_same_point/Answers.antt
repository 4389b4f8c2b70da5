use Rattle.std.proofs.Common.{◌∙◌}
use Rattle.same_records.proofs.Keys.{same_point_is}
use Rattle.same_records.proofs.comparing.is_same_point.Goals as goal

pub returns : goal.returns
returns c = c.has_same_fields.ensures ∙ same_point_is c.args.p.now c.args.q.now
