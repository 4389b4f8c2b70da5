use Rattle.std.proofs.Common.{◌≡◌, sym, subst}
use Rattle.lane_sources.specs.Sources.{all_for_lane, left_at}
use Rattle.lane_sources.proofs.Leaving.{left_begin}
use Rattle.submissions.specs.SoundTest.{sound_by}
use Rattle.lane_sources.proofs.source.LaneSourceSource.begin.Goals as goal

pub returns-clause-rest : goal.returns-clause-rest
returns-clause-rest g c =
    let lane : c.start.new.self.lane ≡ c.self.inside.lane = c.start.ensures.lane in
    let at : c.start.new.self.at ≡ c.self.inside.lane = c.start.ensures.at in
    subst (λ l. left_at g.F.Deals.shape g.F.Deals.verdicts g.F.Deals.file l c.start.new.self.at
    ≡ all_for_lane g.F.Deals.shape g.F.Deals.verdicts g.F.Deals.file l) (sym lane)
    (subst (λ a. left_at g.F.Deals.shape g.F.Deals.verdicts g.F.Deals.file c.self.inside.lane a
    ≡ all_for_lane g.F.Deals.shape g.F.Deals.verdicts g.F.Deals.file c.self.inside.lane) (sym at)
    (sym (left_begin g.F.Deals.shape (sound_by g.F.Deals.verdicts) g.F.Deals.file c.self.inside.lane c.self.invariant.come.within)))
