use Rattle.std.proofs.Common.{◌≡◌, true, false, Bool, ◌&&◌, ap, ◌∙◌, sym}
use Rattle.cbdc_model.specs.Records.{Digest}
use Rattle.cbdc_model.specs.Status.{has}
use Rattle.audit.specs.Standing.{says, is_here, is_locked_by}
use Rattle.audit.proofs.Standing.{drop_at}
use Rattle.audit.proofs.Sizing.{and_true, add_found, pass_found, and_false, and_false_left}
use Rattle.audit.proofs.sizes.add_locked.Goals as goal
use Rattle.audit.proofs.sizes.add_locked.Goals.{then-is_here+then-is_locked_by+in_ok-add, else-is_here}
use Rattle.audit.proofs.sizes.add_locked.Goals.{else-is_here-via-then-is_here+else-is_locked_by, else-is_here-via-else-is_here}

pub hashes-preserved : goal.hashes-preserved
hashes-preserved c = λ y.
    let K = c.args.shape.now in
    let x = c.index-xs-at.result in
    let held : Digest → Bool = λ z. is_here K c.args.node z && is_locked_by c.args.batch.now (says c.args.statuses.now z) in
    let cut = drop_at c.args.xs.now c.hashes.at x c.hashes-test.true c.index-xs-at.is in
    let before = c.hashes.invariant y in
    elim c.if-is_here.branch [
      | then-is_here+then-is_locked_by+in_ok-add w ↦
          let passes : held x ≡ true = and_true _ _ (sym c.is_here.ensures ∙ w.if-is_here.true) (sym w.is_locked_by.ensures ∙ w.if-is_locked_by.true)
          in
          add_found held x y _ _ _ _ cut passes (ap (λ t. has t.hashes y) w.held-is ∙ w.in_ok-add.ensures y) ∙ before
      | else-is_here w ↦
          let fails : held x ≡ false = elim w.else-is_here.branch [
            | else-is_here-via-then-is_here+else-is_locked_by v ↦ and_false _ _ (sym v.is_locked_by.ensures ∙ v.if-is_locked_by.false)
            | else-is_here-via-else-is_here v ↦ and_false_left _ _ (sym c.is_here.ensures ∙ v.if-is_here.false)
          ] in
          pass_found held x y _ _ _ _ cut fails (ap (λ t. has t.hashes y) w.held-is) ∙ before
    ]
