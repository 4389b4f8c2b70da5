use Rattle.std.proofs.Common.{◌≡◌, ◌+◌, true, false, not, ◌&&◌, ◌||◌, drop, ap, ◌∙◌, sym}
use Rattle.cbdc_model.specs.Status.{has}
use Rattle.audit.specs.Standing.{says, is_here, is_locked_by}
use Rattle.audit.specs.Waiting.{waiting_inputs, waits}
use Rattle.audit.proofs.Standing.{drop_at}
use Rattle.audit.proofs.Sizing.{and_true, and_false, and_false_left, more_step, none_step, waiting_more, waiting_same}
use Rattle.audit.proofs.sizes.add_waiting.Goals as goal
use Rattle.audit.proofs.sizes.add_waiting.Goals.{then-is_held+then-not-won_at+in_ok-add_locked, else-is_held}
use Rattle.audit.proofs.sizes.add_waiting.Goals.{else-is_held-via-then-is_held+else-not-won_at, else-is_held-via-else-is_held}

pub entries-preserved : goal.entries-preserved
entries-preserved c = λ y.
    let K = c.args.shape.now in
    let es = c.lock_of-es.result.now in
    let os = c.outcomes_of-outcomes.result.now in
    let at = c.entries.at in
    let a = c.index-es-at.result in
    let cut = drop_at es at a c.entries-test.true c.index-es-at.is in
    let held = is_here K c.args.node y && is_locked_by c.args.batch.now (says c.args.standing.now.statuses y) in
    let before = c.entries.invariant y in
    elim c.if-is_held.branch [
      | then-is_held+then-not-won_at+in_ok-add_locked w ↦
          let yet : waits os a ≡ true = and_true _ _ (sym c.is_held.ensures ∙ w.if-is_held.true)
          (ap not (sym w.won_at.ensures ∙ w.if-not-won_at.true)) in
          more_step _ _ _ _ _ _ (waiting_more os es at a cut y yet)
          (ap (λ s. has s.hashes y) w.held-is ∙ w.in_ok-add_locked.ensures y
          ∙ ap (λ l. has c.entries.held.hashes y || (has l y && held)) w.as_slice-inputs.ensures) ∙ before
      | else-is_held w ↦
          let no : waits os a ≡ false = elim w.else-is_held.branch [
            | else-is_held-via-then-is_held+else-not-won_at v ↦ and_false _ _ (ap not (sym v.won_at.ensures ∙ v.if-not-won_at.false))
            | else-is_held-via-else-is_held v ↦ and_false_left _ _ (sym c.is_held.ensures ∙ v.if-is_held.false)
          ] in
          ap (λ s. has s.hashes y || (has (waiting_inputs os (drop (at + 1) es)) y && held)) w.held-is
          ∙ none_step _ _ _ _ (waiting_same os es at a cut y no) ∙ before
    ]
