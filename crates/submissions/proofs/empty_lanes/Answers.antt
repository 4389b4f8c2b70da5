use Rattle.std.proofs.Common.{◌∷◌, [], ◌+◌, ◌∙◌, length, length-append, ap}
use Rattle.submissions.proofs.Placing.{empty_more}
use Rattle.submissions.proofs.empty_lanes.Goals as goal

pub lanes-preserved : goal.lanes-preserved
lanes-preserved c = record {
  count = ap length c.in_ok-push.ensures.items ∙ length-append c.lanes.lanes.items (c.new.result ∷ []) ∙ ap (λ n. n + 1) c.lanes.invariant.count;
  empty = empty_more c.lanes.lanes.items _ c.new.result c.in_ok-push.ensures.items c.new.ensures.items c.lanes.invariant.empty;
}
