use Rattle.std.proofs.Common.{◌<◌, ◌+◌, ◌&&◌, ◌||◌, length, drop, ap, ◌∙◌, sym, arith}
use Rattle.cbdc_model.specs.Records.{txs_of, outcomes_of}
use Rattle.cbdc_model.specs.Ranges.{home_of}
use Rattle.cbdc_model.specs.Outcomes.{won_txs}
use Rattle.cbdc_model.specs.History.{all_outputs}
use Rattle.cbdc_model.specs.Status.{has}
use Rattle.audit.specs.Waiting.{is_due}
use Rattle.audit.proofs.Spendings.{there}
use Rattle.audit.proofs.Standing.{drop_at}
use Rattle.audit.proofs.Sizing.{more_step, none_step, or_false, outputs_more, outputs_same, no_outputs}
use Rattle.audit.proofs.sizes.add_coming.Goals as goal
use Rattle.audit.proofs.sizes.add_coming.Goals.{then-is_won+in_ok-add_due, else-is_won}

pub txs-preserved : goal.txs-preserved
txs-preserved c = λ J knows y.
    let K = c.args.shape.now in
    let ts = c.txs_of-txs.result.now in
    let os = c.outcomes_of-outcomes.result.now in
    let at = c.txs.at in
    let lt : at < length ts = omega arith in
    let less : at < length os = omega arith in
    let o = c.index-outcomes-at.result in
    let os_cut = drop_at os at o less c.index-outcomes-at.is in
    let before = c.txs.invariant J knows y in
    elim c.if-is_won.branch [
      | then-is_won+in_ok-add_due w ↦
          let t = w.index-txs-at.result in
          more_step _ _ _ _ _ _ (outputs_more ts os at t o (drop_at ts at t lt w.index-txs-at.is) os_cut y (sym c.is_won.ensures ∙ w.if-is_won.true))
          (ap (λ s. has s.hashes y) w.owed-is ∙ w.in_ok-add_due.ensures J knows y
          ∙ ap (λ l. has c.txs.owed.hashes y || (has l y && is_due K J c.args.batch.now y))
          (w.as_slice-outputs.ensures ∙ ap (λ q. q.outputs) (sym w.index-txs-at.is))) ∙ before
      | else-is_won w ↦
          let t = there ts at lt in
          ap (λ s. has s.hashes y || (has (all_outputs (won_txs (drop (at + 1) ts) (drop (at + 1) os))) y && is_due K J c.args.batch.now y)) w.owed-is
          ∙ none_step _ _ _ _ (outputs_same ts os at t.0 o (drop_at ts at t.0 lt t.1) os_cut y (sym c.is_won.ensures ∙ w.if-is_won.false)) ∙ before
    ]

pub returns : goal.returns
returns c = λ J knows y.
    let K = c.args.shape.now in
    let b = c.args.batch.now in
    let ts = c.txs_of-txs.result.now in
    let os = c.outcomes_of-outcomes.result.now in
    let none = no_outputs ts os c.txs.at (λ p q. omega (arith, p, q)) in
    sym (or_false (has c.txs.owed.hashes y)) ∙ ap (λ l. has c.txs.owed.hashes y || (has l y && is_due K J b y)) (sym none) ∙ c.txs.invariant J knows y
    ∙ ap (λ l. has c.args.owed.now.hashes y || (has (all_outputs (won_txs l os)) y && is_due K J b y))
    (c.txs_of-txs.ensures J knows ∙ ap (λ n. txs_of (J n) b) c.home_of-home.ensures)
    ∙ ap (λ l. has c.args.owed.now.hashes y || (has (all_outputs (won_txs (txs_of (J (home_of K b.lane)) b) l)) y && is_due K J b y))
    (c.outcomes_of-outcomes.ensures J knows ∙ ap (λ n. outcomes_of (J n) b) c.home_of-home.ensures)
