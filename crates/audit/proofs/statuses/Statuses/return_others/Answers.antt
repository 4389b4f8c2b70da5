use Rattle.std.proofs.Common.{◌≡◌, ◌<◌, ◌+◌, false, not, ◌&&◌, if◌then◌else◌, length, drop, get_or, refl, ap, ◌∙◌, sym, arith}
use Rattle.cbdc_model.specs.Records.{is_held}
use Rattle.cbdc_model.specs.Status.{has, returned_inputs, Unspent}
use Rattle.audit.specs.Standing.{says, is_here}
use Rattle.audit.proofs.Sizing.{and_true, and_false, and_false_left}
use Rattle.audit.proofs.Standing.{drop_at, drop_bool, over_step, over_none, returned_more, returned_same, no_returned}
use Rattle.audit.proofs.statuses.Statuses.return_others.Goals as goal
use Rattle.audit.proofs.statuses.Statuses.return_others.Goals.{then-not-ds-at+then-is_held+in_ok-set_here, else-not-ds-at}
use Rattle.audit.proofs.statuses.Statuses.return_others.Goals.{else-not-ds-at-via-then-not-ds-at+else-is_held, else-not-ds-at-via-else-not-ds-at}

pub entries-preserved : goal.entries-preserved
entries-preserved c = λ y.
    let es = c.args.es.now in
    let ds = c.args.ds.now in
    let at = c.entries.at in
    let lt : at < length es = omega arith in
    let less : at < length ds = omega arith in
    let a = c.index-es-at.result in
    let d = get_or ds at false in
    let es_cut = drop_at es at a lt c.index-es-at.is in
    let ds_cut = drop_bool ds at d less refl in
    let h = is_here c.args.shape.now c.args.node y in
    let before = c.entries.invariant y in
    elim c.if-not-ds-at.branch [
      | then-not-ds-at+then-is_held+in_ok-set_here w ↦
          over_step _ _ _ h Unspent (says c.entries.self y) _
          (returned_more es ds at a es_cut y d ds_cut (and_true (not d) (is_held a.reply) (ap not w.if-not-ds-at.true)
          (sym w.is_held.ensures ∙ w.if-is_held.true)))
          (ap (λ s. says s y) w.self-is ∙ w.in_ok-set_here.ensures y
          ∙ ap (λ l. if has l y && h then Unspent else says c.entries.self y) w.as_slice-inputs.ensures) ∙ before
      | else-not-ds-at w ↦
          let no : (not d && is_held a.reply) ≡ false = elim w.else-not-ds-at.branch [
            | else-not-ds-at-via-then-not-ds-at+else-is_held v ↦ and_false (not d) (is_held a.reply) (sym v.is_held.ensures ∙ v.if-is_held.false)
            | else-not-ds-at-via-else-not-ds-at v ↦ and_false_left (not d) (is_held a.reply) (ap not v.if-not-ds-at.false)
          ] in
          ap (λ s. if has (returned_inputs (drop (at + 1) es) (drop (at + 1) ds)) y && h then Unspent else says s y) w.self-is
          ∙ over_none _ _ h Unspent (says c.entries.self y) (returned_same es ds at a es_cut y d ds_cut no) ∙ before
    ]

pub returns : goal.returns
returns c = λ y.
    let h = is_here c.args.shape.now c.args.node y in
    ap (λ l. if has l y && h then Unspent else says c.entries.self y)
    (sym (no_returned c.args.es.now c.args.ds.now c.entries.at (λ p q. omega (arith, p, q)))) ∙ c.entries.invariant y
