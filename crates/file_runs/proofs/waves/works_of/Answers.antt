use Rattle.std.proofs.Common.{rules, ◌+◌, [], ◌∷◌, length, length-append, sym, ap, ◌∙◌, subst}
use Rattle.lane_sources.specs.Sources.{all_for_lane}
use Rattle.file_runs.proofs.Sending.{AreBegun, one_more, none_yet, all_begun}
use Rattle.file_runs.proofs.waves.works_of.Goals as goal

pub lanes-init : goal.lanes-init
lanes-init g c = record {
  count = ap (λ xs. length xs) c.in_ok-works.ensures.items;
  begun = subst (λ xs. AreBegun g.F.Deals.shape g.F.Deals.verdicts g.F.Deals.file xs) (sym c.in_ok-works.ensures.items)
      (none_yet g.F.Deals.shape g.F.Deals.verdicts g.F.Deals.file);
}

pub lanes-preserved : goal.lanes-preserved
lanes-preserved g c =
    let x = c.new-in-lanes.result in
    let e = c.new-in-lanes.ensures in
    record {
      count = ap (λ xs. length xs) c.in_ok-push.ensures.items
          ∙ (length-append c.lanes.works.items (x ∷ []) ∙ ap (λ n. n + 1) c.lanes.invariant.count);
      begun = subst (λ xs. AreBegun g.F.Deals.shape g.F.Deals.verdicts g.F.Deals.file xs) (sym c.in_ok-push.ensures.items)
          (one_more g.F.Deals.shape g.F.Deals.verdicts g.F.Deals.file c.lanes.works.items x c.lanes.invariant.begun
          (e.txs.0 ∙ ap (λ l. all_for_lane g.F.Deals.shape g.F.Deals.verdicts g.F.Deals.file l)
          (c.in_ok-source.ensures ∙ sym c.lanes.invariant.count)) e.fault e.fresh);
    }

pub returns : goal.returns
returns g c = all_begun g.F.Deals.shape g.F.Deals.verdicts g.F.Deals.file c.lanes.works.items (search rules) c.lanes.invariant.begun
