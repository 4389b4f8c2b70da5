use Rattle.std.proofs.Common.{◌≡◌, ◌+◌, ◌*◌, ◌<◌, length, sym, ap, ◌∙◌, subst, Some}
use Rattle.cbdc_model.specs.Coins.{tx_id as spec_id}
use Rattle.lane_sources.specs.Sources.{count_of_lanes, SubmissionAt}
use Rattle.std.proofs.lemmas.Option.{slice_get-get_or}
use Rattle.submissions.specs.Checks.{IsSaid}
use Rattle.lane_sources.proofs.Noting.{index_in}
use Rattle.lane_sources.proofs.source.LaneSource.said.Goals as goal

pub returns : goal.returns
returns g c =
    let n = count_of_lanes g.F.Deals.shape in
    let low : c.args.index < length c.self.inside.checked.items =
    index_in n c.self.inside.lane (length c.self.inside.checked.items) c.self.inside.at c.args.index c.self.invariant.come.at_is
    (subst (λ s. s.lane + n * c.args.index < s.at) (sym c.self.view_is) c.requires) in
    subst (λ l. SubmissionAt g.F.Deals.file (l + n * c.args.index)
    (λ t. (c.index.result.now.id ≡ spec_id t) × IsSaid g.F.Deals.shape g.F.Deals.verdicts g.F.Deals.file (l + n * c.args.index) t
    c.index.result.now.judgement)) (ap (λ s. s.lane) c.self.view_is)
    (λ t there. c.self.invariant.come.said c.args.index c.index.result.now t
    (slice_get-get_or c.self.inside.checked.items c.args.index c.index.result.now low ∙ ap (λ x. Some x) (sym c.index.ensures)) there)
