use Rattle.std.proofs.Common.{◌≡◌, ap, ◌∙◌, subst, arith, Some}
use Rattle.std.specs.Prelude.{slice_get}
use Rattle.std.proofs.lemmas.Grind.{common_steps}
use Rattle.submissions.specs.Checks.{IsRuled}
use Rattle.lane_sources.proofs.Noting.{ruled_sound}
use Rattle.lane_sources.proofs.source.LaneSource.take_next.Goals as goal

pub note_sound-requires-clause-sound : goal.note_sound-requires-clause-sound
note_sound-requires-clause-sound g c t there =
    let at : c.self.inside.at ≡ c.args.self.now.at = ap (λ s. s.at) (c.self.view_is ∙ c.rule_next.ensures.same) in
    let ruled : IsRuled g.F.Deals.verdicts t c.in_ok-id.field-0 =
    c.in_ok-id.ensures.ruled t (subst (λ a. slice_get g.F.Deals.file a ≡ Some t) at there) in
    (ruled.0, (ruled_sound g.F.Deals.verdicts t c.in_ok-id.field-0 c.in-Sound.own ruled c.in-Sound.is).1)

pub returns-in_ok-push-in-Sound-clause-given : goal.returns-in_ok-push-in-Sound-clause-given
returns-in_ok-push-in-Sound-clause-given g c = grind (arith, common_steps)
