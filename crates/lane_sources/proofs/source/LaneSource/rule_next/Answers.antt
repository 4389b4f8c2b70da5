use Rattle.std.proofs.Common.{◌<◌, length, sym, ◌∙◌, subst, arith}
use Rattle.std.specs.Prelude.{IfOk, IfErr}
use Rattle.std.proofs.lemmas.Grind.{common_steps}
use Rattle.lane_sources.specs.Sources.{left_at, LeavesBehind}
use Rattle.lane_sources.proofs.Noting.{ruled_left, sound_some}
use Rattle.lane_sources.proofs.source.LaneSource.rule_next.Goals as goal

pub returns-clause-ruled : goal.returns-clause-ruled
returns-clause-ruled g c = grind (arith, common_steps)

pub returns-clause-left : goal.returns-clause-left
returns-clause-left g c =
    let same = c.self.view_is ∙ c.next_found-found.ensures in
    let inside : c.self.inside.at < length g.F.Deals.file = subst (λ s. s.at < length g.F.Deals.file) (sym same) c.requires in
    subst (λ s. IfOk c.found_or_now.result (λ r. LeavesBehind g.F.Deals.shape g.F.Deals.verdicts g.F.Deals.file s.lane s.at r.ruling)) same
    (ruled_left g.F.Deals.shape g.F.Deals.verdicts g.F.Deals.file c.self.inside.lane c.self.inside.at c.self.inside.sent
    c.self.inside.checked.items c.self.invariant.come inside c.found_or_now.result c.found_or_now.ensures.ruled)

pub returns-clause-some : goal.returns-clause-some
returns-clause-some g c =
    let same = c.self.view_is ∙ c.next_found-found.ensures in
    let inside : c.self.inside.at < length g.F.Deals.file = subst (λ s. s.at < length g.F.Deals.file) (sym same) c.requires in
    subst (λ s. IfErr c.found_or_now.result (λ _. 0 < length (left_at g.F.Deals.shape g.F.Deals.verdicts g.F.Deals.file s.lane s.at))) same
    (sound_some g.F.Deals.shape g.F.Deals.verdicts g.F.Deals.file c.self.inside.lane c.self.inside.at c.self.inside.sent
    c.self.inside.checked.items c.self.invariant.come inside c.found_or_now.result c.found_or_now.ensures.sound)
