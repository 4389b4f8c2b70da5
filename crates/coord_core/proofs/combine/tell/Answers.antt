use Rattle.std.proofs.lemmas.Grind.{common_steps}
use Rattle.std.proofs.Common.{arith, sym, subst, Some, ◌∙◌}
use Rattle.std.proofs.lemmas.List.Elements.{All-set}
use Rattle.std.proofs.lemmas.Nat.Bits.{shr_and_one}
use Rattle.cbdc_model.specs.Records.{Won, Reply, Outcome}
use Rattle.cbdc_model.specs.Outcomes.{outcome_by}
use Rattle.cbdc_model.specs.Grammar.{IsOutcome}
use Rattle.coord_core.specs.Hashes.{NamesBatch}
use Rattle.coord_core.proofs.Walks.{told_takes, told_passes, told_ends}
use Rattle.coord_core.proofs.combine.tell.Goals as goal
use Rattle.coord_core.proofs.combine.tell.Goals.{then-next-replies+then-masks-k-eq1, else-next-replies}
use Rattle.coord_core.proofs.combine.tell.Goals.{else-next-replies-via-then-next-replies+else-masks-k-eq1, else-next-replies-via-else-next-replies}

pub loop-k-preserved : goal.loop-k-preserved
loop-k-preserved c =
    elim c.if-next-replies.branch [
      | then-next-replies+then-masks-k-eq1 w ↦
          rw (w.next-is, w.outcomes-is, w.outcome_with.ensures.value) (record {
            told = told_takes c.args.shard c.loop-k.k c.loop-k.next c.args.masks.now c.args.replies.now c.loop-k.outcomes.items
                w.index-replies-next.result w.index.result.now
                c.loop-k-test.true (omega arith) w.if-next-replies.true (sym (shr_and_one _ _) ∙ w.if-masks-k-eq1.true) w.index-replies-next.is
                w.index.ensures ∙ c.loop-k.invariant.told;
            same_length = c.loop-k.invariant.same_length;
            within = omega arith;
            grammar = λ K below named old.
                let here : NamesBatch K w.index-replies-next.result = let P : Reply
                → Type 0 = λ r. NamesBatch K r in subst P (sym w.index-replies-next.is)
                (named c.loop-k.next w.index-replies-next.result w.if-next-replies.true) in
                let all = c.loop-k.invariant.grammar K below named old in
                let rest : IsOutcome K w.index.result.now = let P : Outcome
                → Type 0 = λ o. IsOutcome K o in subst P (sym w.index.ensures) (all c.loop-k.k w.index.result.now (omega arith)) in
                let next : IsOutcome K (outcome_by (Some w.index-replies-next.result) c.args.shard w.index.result.now) =
                let P : Outcome → Type 0 = λ o. IsOutcome K o in
                subst P w.outcome_with.ensures.value (w.outcome_with.ensures.grammar K below here rest) in
                let Q : Outcome → Type 0 = λ o. IsOutcome K o in All-set Q c.loop-k.outcomes.items c.loop-k.k _ next all;
          })
      | else-next-replies w ↦
          elim w.else-next-replies.branch [
            | else-next-replies-via-then-next-replies+else-masks-k-eq1 w' ↦
                rw (w.next-is, w.outcomes-is) (record {
                  told = told_passes c.args.shard c.loop-k.k c.loop-k.next c.args.masks.now c.args.replies.now c.loop-k.outcomes.items Won
                      c.loop-k-test.true (omega arith)
                      (λ h. w'.if-masks-k-eq1.false (shr_and_one _ _ ∙ h)) ∙ c.loop-k.invariant.told;
                  same_length = c.loop-k.invariant.same_length;
                  within = c.loop-k.invariant.within;
                  grammar = c.loop-k.invariant.grammar;
                })
            | else-next-replies-via-else-next-replies w' ↦
                rw (w.next-is, w.outcomes-is) (record {
                  told = told_ends c.args.shard c.loop-k.k c.loop-k.next c.args.masks.now c.args.replies.now c.loop-k.outcomes.items
                      w'.if-next-replies.false ∙ c.loop-k.invariant.told;
                  same_length = c.loop-k.invariant.same_length;
                  within = c.loop-k.invariant.within;
                  grammar = c.loop-k.invariant.grammar;
                })
          ]
    ]

pub returns-clause-items : goal.returns-clause-items
returns-clause-items c = grind (arith, common_steps)
