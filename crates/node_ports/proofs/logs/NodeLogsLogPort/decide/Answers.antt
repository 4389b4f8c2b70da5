use Rattle.std.proofs.Common.{refl, ◌≡◌, ◌≤◌, true, length, subst, arith}
use Rattle.std.specs.Result.{IfErr, OnOk}
use Rattle.std.proofs.lemmas.List.{length-set}
use Rattle.cbdc_model.specs.Sights.{Sight}
use Rattle.cbdc_model.specs.Slots.{slot, InPrepare, InCommit}
use Rattle.cbdc_model.specs.Records.{txs_of, outcomes_of}
use Rattle.cbdc_model.specs.Due.{open_batch}
use Rattle.node_journal.specs.Nodes.{sight}
use Rattle.std.specs.Vec.{vec_capacity}
use Rattle.lane_laws.specs.Answers.{DecideAnswer}
use Rattle.lane_driver.specs.Told.{IsLane, AreReplies}
use Rattle.lane_driver.specs.Causes.{IsDecideCause}
use Rattle.node_ports.specs.Nodes.{KeepsRest, IsNodeHeld}
use Rattle.node_ports.proofs.Places.{lane_has_node, old_is, one_turned, set_elsewhere, turned_nodes, turned_faults, turned_held}
use Rattle.node_ports.proofs.logs.NodeLogsLogPort.decide.Goals as goal

pub index_mut-requires : goal.index_mut-requires
index_mut-requires g c =
    let within = lane_has_node sight c.args.self.now.logs.items c.args.self.now.at c.args.lane c.requires.home.0 in
    omega (arith, c.args.self.now.logs.ok.0)

pub decide_at-answer-requires-clause-home : goal.decide_at-answer-requires-clause-home
decide_at-answer-requires-clause-home g c =
    let P : Sight → Type 0 = λ a. IsLane a.header c.args.lane in
    subst P (old_is sight c.args.self.now.logs.items c.args.self.now.at c.index_mut.result.now c.index_mut.result.now
    (lane_has_node sight c.args.self.now.logs.items c.args.self.now.at c.args.lane c.requires.home.0) c.index_mut.ensures.value) c.requires.home

pub decide_at-answer-requires-clause-phase : goal.decide_at-answer-requires-clause-phase
decide_at-answer-requires-clause-phase g c =
    let P : Sight → Type 0 = λ a. (slot a.seen c.args.lane).phase ≡ InPrepare in
    subst P (old_is sight c.args.self.now.logs.items c.args.self.now.at c.index_mut.result.now c.index_mut.result.now
    (lane_has_node sight c.args.self.now.logs.items c.args.self.now.at c.args.lane c.requires.home.0) c.index_mut.ensures.value) c.requires.phase

pub decide_at-answer-requires-clause-replies : goal.decide_at-answer-requires-clause-replies
decide_at-answer-requires-clause-replies g c =
    let P : Sight → Type 0 = λ a. AreReplies a.header.shape c.args.replies.now in
    subst P (old_is sight c.args.self.now.logs.items c.args.self.now.at c.index_mut.result.now c.index_mut.result.now
    (lane_has_node sight c.args.self.now.logs.items c.args.self.now.at c.args.lane c.requires.home.0) c.index_mut.ensures.value)
    c.requires.replies

pub decide_at-answer-requires-clause-room : goal.decide_at-answer-requires-clause-room
decide_at-answer-requires-clause-room g c =
    let P : Sight → Type 0 = λ a. length (txs_of a.seen (open_batch a.seen c.args.lane)) ≤ vec_capacity c.args.out.now in
    subst P (old_is sight c.args.self.now.logs.items c.args.self.now.at c.index_mut.result.now c.index_mut.result.now
    (lane_has_node sight c.args.self.now.logs.items c.args.self.now.at c.args.lane c.requires.home.0) c.index_mut.ensures.value) c.requires.room

pub returns-clause-told : goal.returns-clause-told
returns-clause-told g c =
    one_turned sight c.args.self.now.logs.items c.args.self.now.at c.index_mut.result.now c.decide_at-answer.new.log
    (lane_has_node sight c.args.self.now.logs.items c.args.self.now.at c.args.lane c.requires.home.0) c.index_mut.ensures.value
    (λ a b. DecideAnswer true c.args.lane c.args.replies.now a b c.decide_at-answer.result) c.decide_at-answer.ensures.told

pub returns-clause-fault : goal.returns-clause-fault
returns-clause-fault g c =
    one_turned sight c.args.self.now.logs.items c.args.self.now.at c.index_mut.result.now c.decide_at-answer.new.log
    (lane_has_node sight c.args.self.now.logs.items c.args.self.now.at c.args.lane c.requires.home.0) c.index_mut.ensures.value
    (λ a b. IfErr c.decide_at-answer.result (λ f. IsDecideCause f b)) c.decide_at-answer.ensures.fault

pub returns-clause-phase : goal.returns-clause-phase
returns-clause-phase g c =
    one_turned sight c.args.self.now.logs.items c.args.self.now.at c.index_mut.result.now c.decide_at-answer.new.log
    (lane_has_node sight c.args.self.now.logs.items c.args.self.now.at c.args.lane c.requires.home.0) c.index_mut.ensures.value
    (λ a b. OnOk c.decide_at-answer.result ((slot b.seen c.args.lane).phase ≡ InCommit)) c.decide_at-answer.ensures.phase

pub returns-clause-outcomes : goal.returns-clause-outcomes
returns-clause-outcomes g c =
    one_turned sight c.args.self.now.logs.items c.args.self.now.at c.index_mut.result.now c.decide_at-answer.new.log
    (lane_has_node sight c.args.self.now.logs.items c.args.self.now.at c.args.lane c.requires.home.0) c.index_mut.ensures.value
    (λ a b. OnOk c.decide_at-answer.result (length c.decide_at-answer.new.out.items ≡ length (txs_of a.seen (open_batch a.seen c.args.lane))))
    c.decide_at-answer.ensures.outcomes

pub returns-clause-written : goal.returns-clause-written
returns-clause-written g c =
    one_turned sight c.args.self.now.logs.items c.args.self.now.at c.index_mut.result.now c.decide_at-answer.new.log
    (lane_has_node sight c.args.self.now.logs.items c.args.self.now.at c.args.lane c.requires.home.0) c.index_mut.ensures.value
    (λ a b. OnOk c.decide_at-answer.result (c.decide_at-answer.new.out.items ≡ outcomes_of b.seen (open_batch b.seen c.args.lane)))
    c.decide_at-answer.ensures.written

pub returns-clause-others : goal.returns-clause-others
returns-clause-others g c =
    λ quiet. one_turned sight c.args.self.now.logs.items c.args.self.now.at c.index_mut.result.now c.decide_at-answer.new.log
    (lane_has_node sight c.args.self.now.logs.items c.args.self.now.at c.args.lane c.requires.home.0) c.index_mut.ensures.value
    (λ a b. KeepsRest a b c.args.lane) c.decide_at-answer.ensures.others

pub returns-clause-keeps : goal.returns-clause-keeps
returns-clause-keeps g c =
    let within = lane_has_node sight c.args.self.now.logs.items c.args.self.now.at c.args.lane c.requires.home.0 in
    record {
      at_same = refl;
      header_same = one_turned sight c.args.self.now.logs.items c.args.self.now.at c.index_mut.result.now c.decide_at-answer.new.log within
          c.index_mut.ensures.value (λ a b. b.header ≡ a.header) c.decide_at-answer.ensures.node.header;
      count_same = length-set c.args.self.now.logs.items c.args.self.now.at c.decide_at-answer.new.log;
      elsewhere = λ n ne. set_elsewhere sight c.args.self.now.logs.items c.args.self.now.at c.decide_at-answer.new.log n ne;
      nodes = turned_nodes sight c.args.self.now.logs.items c.args.self.now.at c.index_mut.result.now c.decide_at-answer.new.log within
          c.index_mut.ensures.value c.decide_at-answer.ensures.node;
      later = turned_faults sight c.args.self.now.logs.items c.args.self.now.at c.index_mut.result.now c.decide_at-answer.new.log within
          c.index_mut.ensures.value c.decide_at-answer.ensures.later;
      held = turned_held sight c.args.self.now.logs.items c.args.self.now.at c.index_mut.result.now c.decide_at-answer.new.log within
          c.index_mut.ensures.value (IsNodeHeld g.D.Disk) c.decide_at-answer.ensures.holds;
    }
