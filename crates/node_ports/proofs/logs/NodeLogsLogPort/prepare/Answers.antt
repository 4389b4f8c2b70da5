use Rattle.std.proofs.Common.{refl, ◌≡◌, true, subst, arith}
use Rattle.std.specs.Result.{IfOk, OnOk}
use Rattle.std.proofs.lemmas.List.{length-set}
use Rattle.cbdc_model.specs.Sights.{Sight, Told}
use Rattle.cbdc_model.specs.Slots.{slot, Idle, InPrepare}
use Rattle.cbdc_model.specs.Records.{txs_of}
use Rattle.cbdc_model.specs.Due.{open_batch, prepare_due}
use Rattle.node_journal.specs.Nodes.{sight}
use Rattle.cbdc_model.specs.Grammar.{HasSize}
use Rattle.lane_driver.specs.Told.{IsLane, IsPreparedBatch}
use Rattle.node_ports.specs.Nodes.{KeepsRest, IsNodeHeld}
use Rattle.node_ports.proofs.Places.{lane_has_node, old_is, one_turned, set_elsewhere, turned_nodes, turned_faults, turned_held}
use Rattle.node_ports.proofs.logs.NodeLogsLogPort.prepare.Goals as goal

pub index_mut-requires : goal.index_mut-requires
index_mut-requires g c =
    let within = lane_has_node sight c.args.self.now.logs.items c.args.self.now.at c.args.lane c.requires.home.0 in
    omega (arith, c.args.self.now.logs.ok.0)

pub prepare_at-answer-requires-clause-home : goal.prepare_at-answer-requires-clause-home
prepare_at-answer-requires-clause-home g c =
    let P : Sight → Type 0 = λ a. IsLane a.header c.args.lane in
    subst P (old_is sight c.args.self.now.logs.items c.args.self.now.at c.index_mut.result.now c.index_mut.result.now
    (lane_has_node sight c.args.self.now.logs.items c.args.self.now.at c.args.lane c.requires.home.0) c.index_mut.ensures.value) c.requires.home

pub prepare_at-answer-requires-clause-idle : goal.prepare_at-answer-requires-clause-idle
prepare_at-answer-requires-clause-idle g c =
    let P : Sight → Type 0 = λ a. (slot a.seen c.args.lane).phase ≡ Idle in
    subst P (old_is sight c.args.self.now.logs.items c.args.self.now.at c.index_mut.result.now c.index_mut.result.now
    (lane_has_node sight c.args.self.now.logs.items c.args.self.now.at c.args.lane c.requires.home.0) c.index_mut.ensures.value) c.requires.idle

pub prepare_at-answer-requires-clause-size : goal.prepare_at-answer-requires-clause-size
prepare_at-answer-requires-clause-size g c =
    let P : Sight → Type 0 = λ a. HasSize a.header.shape c.args.txs.now in
    subst P (old_is sight c.args.self.now.logs.items c.args.self.now.at c.index_mut.result.now c.index_mut.result.now
    (lane_has_node sight c.args.self.now.logs.items c.args.self.now.at c.args.lane c.requires.home.0) c.index_mut.ensures.value) c.requires.size

pub returns-clause-told : goal.returns-clause-told
returns-clause-told g c =
    one_turned sight c.args.self.now.logs.items c.args.self.now.at c.index_mut.result.now c.prepare_at-answer.new.log
    (lane_has_node sight c.args.self.now.logs.items c.args.self.now.at c.args.lane c.requires.home.0) c.index_mut.ensures.value
    (λ a b. Told true c.args.lane true (prepare_due a.header.shape a.capacity c.args.lane c.args.txs.now) a b c.prepare_at-answer.result)
    c.prepare_at-answer.ensures.told

pub returns-clause-prepared : goal.returns-clause-prepared
returns-clause-prepared g c =
    one_turned sight c.args.self.now.logs.items c.args.self.now.at c.index_mut.result.now c.prepare_at-answer.new.log
    (lane_has_node sight c.args.self.now.logs.items c.args.self.now.at c.args.lane c.requires.home.0) c.index_mut.ensures.value
    (λ a b. IfOk c.prepare_at-answer.result (IsPreparedBatch a.header.shape c.args.lane)) c.prepare_at-answer.ensures.prepared

pub returns-clause-phase : goal.returns-clause-phase
returns-clause-phase g c =
    one_turned sight c.args.self.now.logs.items c.args.self.now.at c.index_mut.result.now c.prepare_at-answer.new.log
    (lane_has_node sight c.args.self.now.logs.items c.args.self.now.at c.args.lane c.requires.home.0) c.index_mut.ensures.value
    (λ a b. OnOk c.prepare_at-answer.result ((slot b.seen c.args.lane).phase ≡ InPrepare)) c.prepare_at-answer.ensures.phase

pub returns-clause-txs : goal.returns-clause-txs
returns-clause-txs g c =
    one_turned sight c.args.self.now.logs.items c.args.self.now.at c.index_mut.result.now c.prepare_at-answer.new.log
    (lane_has_node sight c.args.self.now.logs.items c.args.self.now.at c.args.lane c.requires.home.0) c.index_mut.ensures.value
    (λ a b. OnOk c.prepare_at-answer.result (txs_of b.seen (open_batch b.seen c.args.lane) ≡ c.args.txs.now)) c.prepare_at-answer.ensures.txs

pub returns-clause-others : goal.returns-clause-others
returns-clause-others g c =
    λ quiet. one_turned sight c.args.self.now.logs.items c.args.self.now.at c.index_mut.result.now c.prepare_at-answer.new.log
    (lane_has_node sight c.args.self.now.logs.items c.args.self.now.at c.args.lane c.requires.home.0) c.index_mut.ensures.value
    (λ a b. KeepsRest a b c.args.lane) c.prepare_at-answer.ensures.others

pub returns-clause-keeps : goal.returns-clause-keeps
returns-clause-keeps g c =
    let within = lane_has_node sight c.args.self.now.logs.items c.args.self.now.at c.args.lane c.requires.home.0 in
    record {
      at_same = refl;
      header_same = one_turned sight c.args.self.now.logs.items c.args.self.now.at c.index_mut.result.now c.prepare_at-answer.new.log within
          c.index_mut.ensures.value (λ a b. b.header ≡ a.header) c.prepare_at-answer.ensures.node.header;
      count_same = length-set c.args.self.now.logs.items c.args.self.now.at c.prepare_at-answer.new.log;
      elsewhere = λ n ne. set_elsewhere sight c.args.self.now.logs.items c.args.self.now.at c.prepare_at-answer.new.log n ne;
      nodes = turned_nodes sight c.args.self.now.logs.items c.args.self.now.at c.index_mut.result.now c.prepare_at-answer.new.log within
          c.index_mut.ensures.value c.prepare_at-answer.ensures.node;
      later = turned_faults sight c.args.self.now.logs.items c.args.self.now.at c.index_mut.result.now c.prepare_at-answer.new.log within
          c.index_mut.ensures.value c.prepare_at-answer.ensures.later;
      held = turned_held sight c.args.self.now.logs.items c.args.self.now.at c.index_mut.result.now c.prepare_at-answer.new.log within
          c.index_mut.ensures.value (IsNodeHeld g.D.Disk) c.prepare_at-answer.ensures.holds;
    }
