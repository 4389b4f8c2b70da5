use Rattle.std.proofs.Common.{refl, ◌≡◌, true, false, subst, arith}
use Rattle.std.specs.Result.{OnOk}
use Rattle.std.proofs.lemmas.List.{length-set}
use Rattle.cbdc_model.specs.Sights.{Sight, Told}
use Rattle.cbdc_model.specs.Slots.{slot, Idle, InDiscard}
use Rattle.cbdc_model.specs.Due.{done_due}
use Rattle.node_journal.specs.Nodes.{sight}
use Rattle.lane_driver.specs.Told.{IsLane}
use Rattle.node_ports.specs.Nodes.{KeepsRest, IsNodeHeld}
use Rattle.node_ports.proofs.Places.{lane_has_node, old_is, one_turned, set_elsewhere, turned_nodes, turned_faults, turned_held}
use Rattle.node_ports.proofs.logs.NodeLogsLogPort.done.Goals as goal

pub index_mut-requires : goal.index_mut-requires
index_mut-requires g c =
    let within = lane_has_node sight c.args.self.now.logs.items c.args.self.now.at c.args.lane c.requires.home.0 in
    omega (arith, c.args.self.now.logs.ok.0)

pub done_at-answer-requires-clause-home : goal.done_at-answer-requires-clause-home
done_at-answer-requires-clause-home g c =
    let P : Sight → Type 0 = λ a. IsLane a.header c.args.lane in
    subst P (old_is sight c.args.self.now.logs.items c.args.self.now.at c.index_mut.result.now c.index_mut.result.now
    (lane_has_node sight c.args.self.now.logs.items c.args.self.now.at c.args.lane c.requires.home.0) c.index_mut.ensures.value) c.requires.home

pub done_at-answer-requires-clause-phase : goal.done_at-answer-requires-clause-phase
done_at-answer-requires-clause-phase g c =
    let P : Sight → Type 0 = λ a. (slot a.seen c.args.lane).phase ≡ InDiscard in
    subst P (old_is sight c.args.self.now.logs.items c.args.self.now.at c.index_mut.result.now c.index_mut.result.now
    (lane_has_node sight c.args.self.now.logs.items c.args.self.now.at c.args.lane c.requires.home.0) c.index_mut.ensures.value) c.requires.phase

pub returns-clause-told : goal.returns-clause-told
returns-clause-told g c =
    one_turned sight c.args.self.now.logs.items c.args.self.now.at c.index_mut.result.now c.done_at-answer.new.log
    (lane_has_node sight c.args.self.now.logs.items c.args.self.now.at c.args.lane c.requires.home.0) c.index_mut.ensures.value
    (λ a b. Told true c.args.lane false (done_due c.args.lane c.args.cause) a b c.done_at-answer.result) c.done_at-answer.ensures.told

pub returns-clause-phase : goal.returns-clause-phase
returns-clause-phase g c =
    one_turned sight c.args.self.now.logs.items c.args.self.now.at c.index_mut.result.now c.done_at-answer.new.log
    (lane_has_node sight c.args.self.now.logs.items c.args.self.now.at c.args.lane c.requires.home.0) c.index_mut.ensures.value
    (λ a b. OnOk c.done_at-answer.result ((slot b.seen c.args.lane).phase ≡ Idle)) c.done_at-answer.ensures.phase

pub returns-clause-others : goal.returns-clause-others
returns-clause-others g c =
    λ quiet. one_turned sight c.args.self.now.logs.items c.args.self.now.at c.index_mut.result.now c.done_at-answer.new.log
    (lane_has_node sight c.args.self.now.logs.items c.args.self.now.at c.args.lane c.requires.home.0) c.index_mut.ensures.value
    (λ a b. KeepsRest a b c.args.lane) c.done_at-answer.ensures.others

pub returns-clause-keeps : goal.returns-clause-keeps
returns-clause-keeps g c =
    let within = lane_has_node sight c.args.self.now.logs.items c.args.self.now.at c.args.lane c.requires.home.0 in
    record {
      at_same = refl;
      header_same = one_turned sight c.args.self.now.logs.items c.args.self.now.at c.index_mut.result.now c.done_at-answer.new.log within
          c.index_mut.ensures.value (λ a b. b.header ≡ a.header) c.done_at-answer.ensures.node.header;
      count_same = length-set c.args.self.now.logs.items c.args.self.now.at c.done_at-answer.new.log;
      elsewhere = λ n ne. set_elsewhere sight c.args.self.now.logs.items c.args.self.now.at c.done_at-answer.new.log n ne;
      nodes = turned_nodes sight c.args.self.now.logs.items c.args.self.now.at c.index_mut.result.now c.done_at-answer.new.log within
          c.index_mut.ensures.value c.done_at-answer.ensures.node;
      later = turned_faults sight c.args.self.now.logs.items c.args.self.now.at c.index_mut.result.now c.done_at-answer.new.log within
          c.index_mut.ensures.value c.done_at-answer.ensures.later;
      held = turned_held sight c.args.self.now.logs.items c.args.self.now.at c.index_mut.result.now c.done_at-answer.new.log within
          c.index_mut.ensures.value (IsNodeHeld g.D.Disk) c.done_at-answer.ensures.holds;
    }
