use Rattle.std.proofs.Common.{◌≡◌, true, false, ◌+◌, not, is_some, ap, ◌∙◌, subst}
use Rattle.cbdc_model.specs.Records.{record_of, finish_kind}
use Rattle.cbdc_model.specs.Ranges.{shard_of}
use Rattle.cbdc_model.specs.Status.{has}
use Rattle.audit.specs.Waiting.{is_due}
use Rattle.audit.proofs.Standing.{drop_at}
use Rattle.audit.proofs.Sizing.{add_found, pass_found, is_missing, is_found}
use Rattle.audit.proofs.sizes.add_due.Goals as goal
use Rattle.audit.proofs.sizes.add_due.Goals.{then-is_none+in_ok-add, else-is_none}

pub hashes-preserved : goal.hashes-preserved
hashes-preserved c = λ J knows y.
    let K = c.args.shape.now in
    let b = c.args.batch.now in
    let x = c.index-xs-at.result in
    let node : c.coordinators.result + c.shard_of.result ≡ K.coordinators + shard_of K x =
    ap (λ n. n + c.shard_of.result) c.coordinators.ensures.value
    ∙ ap (λ n. K.coordinators + n) c.shard_of.ensures.value in
    let cut = drop_at c.args.xs.now c.hashes.at x c.hashes-test.true c.index-xs-at.is in
    let before = c.hashes.invariant J knows y in
    elim c.if-is_none.branch [
      | then-is_none+in_ok-add w ↦
          add_found (is_due K J b) x y _ _ _ _ cut
          (subst (λ n. not (is_some (record_of finish_kind (J n) b)) ≡ true) node
          (is_missing c.found.result _ c.is_none.result (c.found.ensures J knows) c.is_none.ensures w.if-is_none.true))
          (ap (λ t. has t.hashes y) w.owed-is ∙ w.in_ok-add.ensures y) ∙ before
      | else-is_none w ↦
          pass_found (is_due K J b) x y _ _ _ _ cut
          (subst (λ n. not (is_some (record_of finish_kind (J n) b)) ≡ false) node
          (is_found c.found.result _ c.is_none.result (c.found.ensures J knows) c.is_none.ensures w.if-is_none.false))
          (ap (λ t. has t.hashes y) w.owed-is) ∙ before
    ]
