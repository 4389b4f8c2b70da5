use Rattle.std.proofs.Common.{◌+◌, ◌<◌, ◌++◌, ◌∷◌, ◌∙◌, [], ℕ, true, take, length, sym, subst, refl, arith, rules}
use Rattle.std.specs.List.{AllZip}
use Rattle.std.proofs.lemmas.List.{take_all}
use Rattle.std.proofs.lemmas.Slice.Zip.{all_zipped_more}
use Rattle.cbdc_types.specs.declared.calls.FinishCall.{FinishCall}
use Rattle.cbdc_model.specs.Calls.{IsFinishCall}
use Rattle.cbdc_model.specs.Sights.{Sight}
use Rattle.lane_laws.specs.Answers.{FinishAnswer, EachTold, Others}
use Rattle.lane_driver.specs.Told.{StampTold}
use Rattle.lane_driver.proofs.Fitting.{nodes_same, nodes_on}
use Rattle.node_journal.specs.Nodes.{sight}
use Rattle.node_ports.specs.Nodes.{sight_at}
use Rattle.node_ports.proofs.Walking.{longer, as_found0, told_more, others_more, next_fits}
use Rattle.node_ports.proofs.shards.NodeShardsPortSet.finish.Goals as goal

pub calls-preserved : goal.calls-preserved
calls-preserved g c =
    record {
      each = subst (λ ys. AllZip (StampTold {C = FinishCall}) ys c.push_reserved.new.self.items)
          (sym (longer (FinishAnswer true) c.args.calls.now c.calls.shard-index c.calls-item.result c.calls-test.true c.calls-item.is))
          (subst (λ ys. AllZip (StampTold {C = FinishCall}) (take c.calls.shard-index c.args.calls.now ++ c.calls-item.result ∷ []) ys)
          (sym c.push_reserved.ensures.items) (all_zipped_more (StampTold {C = FinishCall}) (take c.calls.shard-index c.args.calls.now)
          c.calls.out.items c.calls-item.result c.finish_one-answer.result c.calls.invariant.each c.finish_one-answer.ensures.told));
      told = subst (λ ys. EachTold (FinishAnswer true) (take (c.calls.shard-index + 1) c.args.calls.now) ys
          (sight_at sight c.args.self.now.nodes.items) (sight_at sight c.finish_one-answer.new.self.nodes.items)) (sym c.push_reserved.ensures.items)
          (told_more (FinishAnswer true) c.args.calls.now c.calls.shard-index c.calls-item.result c.calls-test.true c.calls-item.is
          (sight_at sight c.args.self.now.nodes.items) (sight_at sight c.calls.self.nodes.items)
          (sight_at sight c.finish_one-answer.new.self.nodes.items) c.requires.shards.0 c.finish_one-answer.ensures.elsewhere
          c.finish_one-answer.result c.calls.out.items c.calls.invariant.told c.calls.invariant.untouched c.finish_one-answer.ensures.answer);
      untouched = others_more (FinishAnswer true) c.args.calls.now c.calls.shard-index c.calls-item.result c.calls-test.true c.calls-item.is
          (sight_at sight c.args.self.now.nodes.items) (sight_at sight c.calls.self.nodes.items)
          (sight_at sight c.finish_one-answer.new.self.nodes.items) c.requires.shards.0 c.finish_one-answer.ensures.elsewhere
          c.calls.invariant.untouched;
      nodes = nodes_on (sight_at sight c.args.self.now.nodes.items) (sight_at sight c.calls.self.nodes.items)
          (sight_at sight c.finish_one-answer.new.self.nodes.items) c.calls.invariant.nodes c.finish_one-answer.ensures.nodes;
      filled = omega (arith, c.push_reserved.ensures.len, c.calls.invariant.filled);
      capacity = c.push_reserved.ensures.capacity ∙ c.calls.invariant.capacity;
      count = c.finish_one-answer.ensures.count ∙ c.calls.invariant.count;
      later = λ n. omega (arith, c.calls.invariant.later n, c.finish_one-answer.ensures.later n);
      holds = λ h. c.finish_one-answer.ensures.holds (c.calls.invariant.holds h);
    }

pub finish_one-answer-requires-clause-call : goal.finish_one-answer-requires-clause-call
finish_one-answer-requires-clause-call g c =
    let P : Sight → Type 0 = λ a. IsFinishCall a.header c.calls-item.result.1 in
    subst P (sym (as_found0 (FinishAnswer true) c.args.calls.now c.calls.shard-index c.calls-item.result c.calls-test.true c.calls-item.is
    (sight_at sight c.args.self.now.nodes.items) (sight_at sight c.calls.self.nodes.items) c.requires.shards.0 c.calls.invariant.untouched))
    (subst (λ d. IsFinishCall ((sight_at sight c.args.self.now.nodes.items) d.0).header d.1) (sym c.calls-item.is)
    (c.requires.calls c.calls.shard-index c.calls-item.result c.calls-test.true))

pub finish_one-answer-requires-clause-place : goal.finish_one-answer-requires-clause-place
finish_one-answer-requires-clause-place g c =
    let P : ℕ → Type 0 = λ n. n < length c.calls.self.nodes.items in
    subst (λ d. d.0 < length c.calls.self.nodes.items) (sym c.calls-item.is)
    (omega (arith, c.requires.shards.1 c.calls.shard-index c.calls-item.result c.calls-test.true, c.calls.invariant.count))

pub calls-init : goal.calls-init
calls-init g c =
    record {
      each = search rules;
      told = subst (λ answers. EachTold (FinishAnswer true) [] answers (sight_at sight c.args.self.now.nodes.items)
          (sight_at sight c.args.self.now.nodes.items)) (sym c.requires.empty) tt;
      untouched = λ s not. refl;
      nodes = nodes_same (sight_at sight c.args.self.now.nodes.items);
      filled = search rules;
      capacity = refl;
      count = refl;
      later = λ n. omega arith;
      holds = λ h. h;
    }

pub returns-clause-keeps : goal.returns-clause-keeps
returns-clause-keeps g c = record {
  count_same = c.calls.invariant.count;
  nodes = c.calls.invariant.nodes;
  later = c.calls.invariant.later;
  held = c.calls.invariant.holds;
  served = λ l mine. mine;
}

pub push_reserved-requires : goal.push_reserved-requires
push_reserved-requires g c = next_fits _ c.calls.shard-index (length c.args.calls.now) _ _ c.calls.invariant.filled c.calls-test.true c.requires.room
    c.calls.invariant.capacity

pub returns-clause-each : goal.returns-clause-each
returns-clause-each g c = subst (λ xs. AllZip (StampTold {C = FinishCall}) xs c.calls.out.items)
    (take_all c.calls.shard-index c.args.calls.now c.calls-test.false) c.calls.invariant.each

pub returns-clause-told : goal.returns-clause-told
returns-clause-told g c =
    subst (λ xs. EachTold (FinishAnswer true) xs c.calls.out.items (sight_at sight c.args.self.now.nodes.items)
    (sight_at sight c.calls.self.nodes.items)) (take_all c.calls.shard-index c.args.calls.now c.calls-test.false) c.calls.invariant.told

pub returns-clause-untouched : goal.returns-clause-untouched
returns-clause-untouched g c = subst (λ xs. Others xs (sight_at sight c.args.self.now.nodes.items) (sight_at sight c.calls.self.nodes.items))
    (take_all c.calls.shard-index c.args.calls.now c.calls-test.false) c.calls.invariant.untouched

pub returns-clause-capacity : goal.returns-clause-capacity
returns-clause-capacity g c = c.calls.invariant.capacity
