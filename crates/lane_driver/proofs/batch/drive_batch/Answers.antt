use Rattle.std.proofs.Common.{◌∙◌, ◌*◌, ◌<◌, refl, subst, ◌≡◌, length, ap, sym}
use Rattle.cbdc_model.specs.Records.{Shape}
use Rattle.lane_driver.specs.Told.{KeepsOtherLanes}
use Rattle.lane_driver.specs.Showing.{LaneSights, lane_sights}
use Rattle.lane_driver.proofs.Batching.{prepare_stops, prepared_done, prepared_stops}
use Rattle.lane_driver.proofs.Fitting.{parts_fit, others_on}
use Rattle.lane_driver.proofs.Causing.{log_fault, prepare_caused}
use Rattle.lane_driver.proofs.Keeping.{log_on, shards_same}
use Rattle.cbdc_model.specs.Records.{Header}
use Rattle.cbdc_model.specs.Ranges.{home_of}
use Rattle.cbdc_model.specs.Slots.{Idle, InPrepare}
use Rattle.cbdc_model.specs.Grammar.{HasSize, IsBatchOf}
use Rattle.lane_driver.specs.Told.{IsLane}
use Rattle.lane_driver.specs.Rooms.{IsBatchRoom}
use Rattle.lane_driver.proofs.batch.drive_batch.Goals as goal

pub from_prepared-requires-clause-parts : goal.from_prepared-requires-clause-parts
from_prepared-requires-clause-parts g c = parts_fit c.args.shape.now (g.S.PortSet.sights c.args.ports.now.shards) c.args.txs.now c.args.room.parts
    c.requires.ledger c.requires.size c.requires.limits c.requires.readied.parts

pub returns-in-Err-clause-outcome : goal.returns-in-Err-clause-outcome
returns-in-Err-clause-outcome g c =
    let now : LaneSights = record {
      home = g.L.LogPort.sights c.prepare.new.self (g.L.LogPort.at c.prepare.new.self);
      logs = g.L.LogPort.sights c.prepare.new.self;
      shards = g.S.PortSet.sights c.args.ports.now.shards;
    } in
    prepare_stops c.args.shape.now g.L.LogPort.alone c.args.lane c.args.txs.now c.args.repeats c.args.room.parts c.requires.readied.parts
    (lane_sights g.L.LogPort g.S.PortSet c.args.ports.now) now c.home.result c.in-Err.fault c.home.ensures c.in-Err.ensures.told (λ s. refl)
    (log_fault c.args.shape.now c.args.lane (g.L.LogPort.at c.prepare.new.self) (g.L.LogPort.sights c.prepare.new.self)
    (g.S.PortSet.sights c.args.ports.now.shards) c.home.result c.in-Err.fault
    (subst (λ (K : Shape). c.args.lane < K.coordinators * K.lanes) c.requires.shape c.requires.home.0)
    (c.in-Err.ensures.keeps.at_same ∙ c.requires.at) c.home.ensures
    (prepare_caused g.L.LogPort.alone c.args.lane c.args.txs.now (g.L.LogPort.sights c.args.ports.now.log (g.L.LogPort.at c.args.ports.now.log))
    (g.L.LogPort.sights c.prepare.new.self (g.L.LogPort.at c.prepare.new.self)) c.in-Err.fault c.in-Err.ensures.told))

pub returns-in-Ok-from_prepared-clause-outcome : goal.returns-in-Ok-from_prepared-clause-outcome
returns-in-Ok-from_prepared-clause-outcome g c =
    prepared_done c.args.shape.now g.L.LogPort.alone c.args.lane c.args.txs.now c.args.repeats c.args.room.parts c.requires.readied.parts
    (lane_sights g.L.LogPort g.S.PortSet c.args.ports.now) (lane_sights g.L.LogPort g.S.PortSet c.from_prepared.new.ports)
    c.in-Ok.prepared.0 c.in-Ok.prepared.1 (g.L.LogPort.sights c.prepare.new.self (g.L.LogPort.at c.prepare.new.self)) c.in-Ok.ensures.told
    c.in-Ok-from_prepared.outcomes c.in-Ok-from_prepared.ensures.outcome

pub returns-in-Err-from_prepared-clause-outcome : goal.returns-in-Err-from_prepared-clause-outcome
returns-in-Err-from_prepared-clause-outcome g c =
    prepared_stops c.args.shape.now g.L.LogPort.alone c.args.lane c.args.txs.now c.args.repeats c.args.room.parts c.requires.readied.parts
    (lane_sights g.L.LogPort g.S.PortSet c.args.ports.now) (lane_sights g.L.LogPort g.S.PortSet c.from_prepared.new.ports)
    c.in-Ok.prepared.0 c.in-Ok.prepared.1 (g.L.LogPort.sights c.prepare.new.self (g.L.LogPort.at c.prepare.new.self)) c.in-Ok.ensures.told
    c.in-Err-from_prepared.fault c.in-Err-from_prepared.ensures.outcome

pub returns-in-Err-clause-keeps : goal.returns-in-Err-clause-keeps
returns-in-Err-clause-keeps g c = record {
  to_log = c.in-Err.ensures.keeps;
  to_shards = shards_same c.args.ports.now.shards;
  others = c.in-Err.ensures.others;
}

pub returns-in-Ok-from_prepared-clause-keeps : goal.returns-in-Ok-from_prepared-clause-keeps
returns-in-Ok-from_prepared-clause-keeps g c = record {
  to_log = log_on c.in-Ok.ensures.keeps c.in-Ok-from_prepared.ensures.keeps.to_log;
  to_shards = c.in-Ok-from_prepared.ensures.keeps.to_shards;
  others = λ quiet. others_on _ _ _ _ _ _ _ _ _ c.in-Ok.ensures.keeps.header_same (c.in-Ok.ensures.others quiet)
      (subst (λ n. KeepsOtherLanes (g.L.LogPort.header c.prepare.new.self) n (g.L.LogPort.phase c.prepare.new.self)
      (g.L.LogPort.phase c.from_prepared.new.ports.log) (g.L.LogPort.open_txs c.prepare.new.self)
      (g.L.LogPort.open_txs c.from_prepared.new.ports.log))
      c.in-Ok.ensures.prepared.lane_is (c.in-Ok-from_prepared.ensures.keeps.others quiet));
}

pub returns-in-Err-from_prepared-clause-keeps : goal.returns-in-Err-from_prepared-clause-keeps
returns-in-Err-from_prepared-clause-keeps g c = record {
  to_log = log_on c.in-Ok.ensures.keeps c.in-Err-from_prepared.ensures.keeps.to_log;
  to_shards = c.in-Err-from_prepared.ensures.keeps.to_shards;
  others = λ quiet. others_on _ _ _ _ _ _ _ _ _ c.in-Ok.ensures.keeps.header_same (c.in-Ok.ensures.others quiet)
      (subst (λ n. KeepsOtherLanes (g.L.LogPort.header c.prepare.new.self) n (g.L.LogPort.phase c.prepare.new.self)
      (g.L.LogPort.phase c.from_prepared.new.ports.log) (g.L.LogPort.open_txs c.prepare.new.self)
      (g.L.LogPort.open_txs c.from_prepared.new.ports.log))
      c.in-Ok.ensures.prepared.lane_is (c.in-Err-from_prepared.ensures.keeps.others quiet));
}

pub prepare-requires-clause-size : goal.prepare-requires-clause-size
prepare-requires-clause-size g c = subst (λ (K : Shape). HasSize K c.args.txs.now) (sym c.requires.shape) c.requires.size

pub from_prepared-requires-clause-at : goal.from_prepared-requires-clause-at
from_prepared-requires-clause-at g c = c.in-Ok.ensures.keeps.at_same ∙ c.requires.at
    ∙ ap (home_of c.args.shape.now) (sym c.in-Ok.ensures.prepared.lane_is)

pub from_prepared-requires-clause-home : goal.from_prepared-requires-clause-home
from_prepared-requires-clause-home g c =
    subst (λ (h : Header). IsLane h c.in-Ok.prepared.0.lane) (sym c.in-Ok.ensures.keeps.header_same)
    (subst (λ n. IsLane (g.L.LogPort.header c.args.ports.now.log) n) (sym c.in-Ok.ensures.prepared.lane_is) c.requires.home)

pub from_prepared-requires-clause-shape : goal.from_prepared-requires-clause-shape
from_prepared-requires-clause-shape g c = ap (λ (h : Header). h.shape) c.in-Ok.ensures.keeps.header_same ∙ c.requires.shape

pub from_prepared-requires-clause-phase : goal.from_prepared-requires-clause-phase
from_prepared-requires-clause-phase g c = subst (λ n. g.L.LogPort.phase c.prepare.new.self n ≡ InPrepare) (sym c.in-Ok.ensures.prepared.lane_is)
    c.in-Ok.ensures.phase

pub from_prepared-requires-clause-mine : goal.from_prepared-requires-clause-mine
from_prepared-requires-clause-mine g c = subst (λ n. g.S.PortSet.serves c.args.ports.now.shards n) (sym c.in-Ok.ensures.prepared.lane_is)
    c.requires.mine

pub from_prepared-requires-clause-batch : goal.from_prepared-requires-clause-batch
from_prepared-requires-clause-batch g c = subst (λ (K : Shape). IsBatchOf K c.in-Ok.prepared.0) c.requires.shape c.in-Ok.ensures.prepared.batch

pub from_prepared-requires-clause-room : goal.from_prepared-requires-clause-room
from_prepared-requires-clause-room g c =
    let same : g.L.LogPort.open_txs c.prepare.new.self c.in-Ok.prepared.0.lane ≡ c.args.txs.now =
    subst (λ n. g.L.LogPort.open_txs c.prepare.new.self n ≡ c.args.txs.now) (sym c.in-Ok.ensures.prepared.lane_is) c.in-Ok.ensures.txs in
    subst (λ n. IsBatchRoom c.args.shape.now.shards n c.args.room) (sym (ap length same)) c.requires.readied.room_is

pub returns-in-Ok-from_prepared-clause-idle : goal.returns-in-Ok-from_prepared-clause-idle
returns-in-Ok-from_prepared-clause-idle g c = subst (λ n. g.L.LogPort.phase c.from_prepared.new.ports.log n ≡ Idle) c.in-Ok.ensures.prepared.lane_is
    c.in-Ok-from_prepared.ensures.phase

pub returns-in-Ok-from_prepared-clause-report : goal.returns-in-Ok-from_prepared-clause-report
returns-in-Ok-from_prepared-clause-report g c =
    let same : g.L.LogPort.open_txs c.prepare.new.self c.in-Ok.prepared.0.lane ≡ c.args.txs.now =
    subst (λ n. g.L.LogPort.open_txs c.prepare.new.self n ≡ c.args.txs.now) (sym c.in-Ok.ensures.prepared.lane_is) c.in-Ok.ensures.txs in
    (c.in-Ok.ensures.prepared.lane_is, c.in-Ok-from_prepared.ensures.outcomes ∙ ap length same)
