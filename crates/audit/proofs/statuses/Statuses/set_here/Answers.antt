use Rattle.std.proofs.Common.{ap, ◌∙◌, sym}
use Rattle.audit.specs.Standing.{says, is_here}
use Rattle.audit.proofs.Standing.{drop_at, hash_here, hash_away}
use Rattle.audit.proofs.statuses.Statuses.set_here.Goals as goal
use Rattle.audit.proofs.statuses.Statuses.set_here.Goals.{then-is_here+in_ok-set, else-is_here}

pub hashes-preserved : goal.hashes-preserved
hashes-preserved c = λ y.
    let K = c.args.shape.now in
    let x = c.index-xs-at.result in
    let cut = drop_at c.args.xs.now c.hashes.at x c.hashes-test.true c.index-xs-at.is in
    let before = c.hashes.invariant y in
    elim c.if-is_here.branch [
      | then-is_here+in_ok-set w ↦
          hash_here (is_here K c.args.node) x y _ _ _ _ _ _ cut (sym c.is_here.ensures ∙ w.if-is_here.true) (ap (λ s. says s y) w.self-is)
          (w.in_ok-set.ensures y) ∙ before
      | else-is_here w ↦ hash_away (is_here K c.args.node) x y _ _ _ _ _ cut (sym c.is_here.ensures ∙ w.if-is_here.false)
          (ap (λ s. says s y) w.self-is) ∙ before
    ]
