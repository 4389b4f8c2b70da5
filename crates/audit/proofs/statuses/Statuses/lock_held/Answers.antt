use Rattle.std.proofs.Common.{◌+◌, ◌&&◌, if◌then◌else◌, [], drop, ap, ◌∙◌, sym}
use Rattle.cbdc_model.specs.Status.{has, held_inputs, Locked}
use Rattle.audit.specs.Standing.{says, is_here}
use Rattle.audit.proofs.Standing.{drop_at, over_step, over_none, held_more, held_same}
use Rattle.audit.proofs.statuses.Statuses.lock_held.Goals as goal
use Rattle.audit.proofs.statuses.Statuses.lock_held.Goals.{then-is_held+in_ok-set_here, else-is_held}

pub entries-preserved : goal.entries-preserved
entries-preserved c = λ y.
    let es = c.args.es.now in
    let at = c.entries.at in
    let a = c.index-es-at.result in
    let h = is_here c.args.shape.now c.args.node y in
    let v = Locked c.args.batch.now in
    let cut = drop_at es at a c.entries-test.true c.index-es-at.is in
    let before = c.entries.invariant y in
    elim c.if-is_held.branch [
      | then-is_held+in_ok-set_here w ↦
          over_step _ _ _ h v (says c.entries.self y) _ (held_more es [] at a cut y (sym c.is_held.ensures ∙ w.if-is_held.true))
          (ap (λ s. says s y) w.self-is ∙ w.in_ok-set_here.ensures y
          ∙ ap (λ l. if has l y && h then v else says c.entries.self y) w.as_slice-inputs.ensures) ∙ before
      | else-is_held w ↦
          ap (λ s. if has (held_inputs (drop (at + 1) es)) y && h then v else says s y) w.self-is
          ∙ over_none _ _ h v (says c.entries.self y) (held_same es [] at a cut y (sym c.is_held.ensures ∙ w.if-is_held.false)) ∙ before
    ]
