use Rattle.std.proofs.Common.{◌<◌, ◌+◌, ◌&&◌, if◌then◌else◌, length, drop, ap, ◌∙◌, sym, arith}
use Rattle.cbdc_model.specs.Status.{has, made_outputs, Unspent}
use Rattle.audit.specs.Standing.{says, is_here}
use Rattle.audit.proofs.Spendings.{there}
use Rattle.audit.proofs.Standing.{drop_at, drop_bool, over_step, over_none, made_more, made_same, no_made}
use Rattle.audit.proofs.statuses.Statuses.make_committed.Goals as goal
use Rattle.audit.proofs.statuses.Statuses.make_committed.Goals.{then-ds-at+in_ok-set_here, else-ds-at}

pub entries-preserved : goal.entries-preserved
entries-preserved c = λ y.
    let es = c.args.es.now in
    let ds = c.args.ds.now in
    let at = c.entries.at in
    let lt : at < length es = omega arith in
    let less : at < length ds = omega arith in
    let h = is_here c.args.shape.now c.args.node y in
    let before = c.entries.invariant y in
    elim c.if-ds-at.branch [
      | then-ds-at+in_ok-set_here w ↦
          let a = w.index-es-at.result in
          over_step _ _ _ h Unspent (says c.entries.self y) _
          (made_more es ds at a (drop_at es at a lt w.index-es-at.is) y (drop_bool ds at _ less w.if-ds-at.true))
          (ap (λ s. says s y) w.self-is ∙ w.in_ok-set_here.ensures y
          ∙ ap (λ l. if has l y && h then Unspent else says c.entries.self y)
          (w.as_slice-outputs.ensures ∙ ap (λ e. e.entry.outputs) (sym w.index-es-at.is))) ∙ before
      | else-ds-at w ↦
          let a = there es at lt in
          ap (λ s. if has (made_outputs (drop (at + 1) es) (drop (at + 1) ds)) y && h then Unspent else says s y) w.self-is
          ∙ over_none _ _ h Unspent (says c.entries.self y)
          (made_same es ds at a.0 (drop_at es at a.0 lt a.1) y (drop_bool ds at _ less w.if-ds-at.false)) ∙ before
    ]

pub returns : goal.returns
returns c = λ y.
    let h = is_here c.args.shape.now c.args.node y in
    ap (λ l. if has l y && h then Unspent else says c.entries.self y)
    (sym (no_made c.args.es.now c.args.ds.now c.entries.at (λ p q. omega (arith, p, q)))) ∙ c.entries.invariant y
