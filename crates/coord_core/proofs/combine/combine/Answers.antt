use Rattle.std.proofs.Common.{arith, ◌-◌, List, subst, sym}
use Rattle.coord_core.proofs.Walks.{rises_at, held_step}
use Rattle.coord_core.proofs.Outcomes.{won_outcomes, named_at}
use Rattle.cbdc_model.specs.Grammar.{IsOutcome}
use Rattle.cbdc_model.specs.Records.{Outcome, Reply}
use Rattle.coord_core.specs.Hashes.{NamesBatch}
use Rattle.std.specs.Prelude.{All}
use Rattle.std.proofs.lemmas.Grind.{common_steps}
use Rattle.coord_core.proofs.combine.combine.Goals as goal

pub loop-preserved : goal.loop-preserved
loop-preserved c = record {
  held = held_step c.args.masks.now c.loop.index c.loop.outcomes.items c.push_reserved.new.self.items c.loop-test.true c.loop.invariant.held
      c.push_reserved.ensures.items;
  count = omega arith;
  room = omega arith;
}

pub tell-requires-clause-limit : goal.tell-requires-clause-limit
tell-requires-clause-limit c = rises_at 0 64 c.args.replies.now (c.loop-i.i - 1) c.index-replies-i.result c.requires.rising (omega arith)

pub loop-i-init : goal.loop-i-init
loop-i-init c = record {
  combined = grind (arith, common_steps);
  count = omega arith;
  within = omega arith;
  grammar = λ K rise named. let P : List Outcome → Type 0 = λ os. All (λ o. IsOutcome K o) os in
      subst P (sym c.loop.invariant.held) (won_outcomes K _);
}

pub loop-i-preserved : goal.loop-i-preserved
loop-i-preserved c = record {
  combined = grind (arith, common_steps);
  count = c.tell.ensures.same_length;
  within = omega arith;
  grammar = λ K rise named.
      c.tell.ensures.grammar K (rises_at 0 K.shards c.args.replies.now (c.loop-i.i - 1) c.index-replies-i.result rise (omega arith))
      (let P : List Reply → Type 0 = λ rs. All (λ r. NamesBatch K r) rs in
      subst P (sym c.as_slice.ensures) (named_at K c.args.replies.now (c.loop-i.i - 1) c.index-replies-i-in-loop-i.result named (omega arith)))
      (c.loop-i.invariant.grammar K rise named);
}
