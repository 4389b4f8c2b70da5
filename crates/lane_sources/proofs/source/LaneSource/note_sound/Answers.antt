use Rattle.std.proofs.Common.{◌≡◌, ◌+◌, ◌*◌, ◌<◌, ◌≤◌, length, sym, ap, subst, arith}
use Rattle.cbdc_model.specs.Coins.{tx_id as spec_id}
use Rattle.sentinel.specs.FirstRefusal.{IsSoundTx}
use Rattle.lane_sources.specs.Sources.{count_of_lanes, HasComeTo, SubmissionAt}
use Rattle.lane_sources.proofs.Noting.{noted_sound, sent_fits}
use Rattle.lane_sources.proofs.source.LaneSource.note_sound.Goals as goal

pub overflow_add-self : goal.overflow_add-self
overflow_add-self g c =
    let at : c.self.inside.at ≡ c.args.self.now.at = ap (λ s. s.at) c.self.view_is in
    let inside : c.self.inside.at < length g.F.Deals.file = subst (λ a. a < length g.F.Deals.file) (sym at) c.requires.inside in
    let said : SubmissionAt g.F.Deals.file c.self.inside.at (λ t. (c.args.id ≡ spec_id t) × IsSoundTx t (g.F.Deals.verdicts (spec_id t))) =
    subst (λ a. SubmissionAt g.F.Deals.file a (λ t. (c.args.id ≡ spec_id t) × IsSoundTx t (g.F.Deals.verdicts (spec_id t)))) (sym at)
    c.requires.sound in
    let few : c.self.inside.sent + 1 ≤ length g.F.Deals.file =
    sent_fits g.F.Deals.shape g.F.Deals.verdicts g.F.Deals.file c.self.inside.lane c.self.inside.at c.self.inside.sent
    c.self.inside.checked.items c.self.invariant.come inside c.args.id said in
    let fits = c.lanes-lanes.ensures.fits in
    omega (arith, few, fits)

pub invariant_of-self : goal.invariant_of-self
invariant_of-self g c =
    let at : c.self.inside.at ≡ c.args.self.now.at = ap (λ s. s.at) c.self.view_is in
    let inside : c.self.inside.at < length g.F.Deals.file = subst (λ a. a < length g.F.Deals.file) (sym at) c.requires.inside in
    let said : SubmissionAt g.F.Deals.file c.self.inside.at (λ t. (c.args.id ≡ spec_id t) × IsSoundTx t (g.F.Deals.verdicts (spec_id t))) =
    subst (λ a. SubmissionAt g.F.Deals.file a (λ t. (c.args.id ≡ spec_id t) × IsSoundTx t (g.F.Deals.verdicts (spec_id t)))) (sym at)
    c.requires.sound in
    record {
      come = subst (λ n. HasComeTo g.F.Deals.shape g.F.Deals.verdicts g.F.Deals.file c.self.inside.lane (c.self.inside.at + n)
          (c.self.inside.sent + 1) c.push_reserved.new.self.items) (sym c.lanes-lanes.ensures.lanes)
          (subst (λ xs. HasComeTo g.F.Deals.shape g.F.Deals.verdicts g.F.Deals.file c.self.inside.lane
          (c.self.inside.at + count_of_lanes g.F.Deals.shape) (c.self.inside.sent + 1) xs) (sym c.push_reserved.ensures.items)
          (noted_sound g.F.Deals.shape g.F.Deals.verdicts g.F.Deals.file c.self.inside.lane c.self.inside.at c.self.inside.sent
          c.self.inside.checked.items c.self.invariant.come inside c.args.id said));
      room = subst (λ m. length g.F.Deals.file ≤ count_of_lanes g.F.Deals.shape * m) (sym c.push_reserved.ensures.capacity) c.self.invariant.room;
    }
