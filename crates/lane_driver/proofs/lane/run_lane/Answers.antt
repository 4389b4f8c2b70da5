use Rattle.std.proofs.Common.{rules, arith, inl, inr, refl, List, [], ◌≡◌, ◌∙◌, ap, sym, subst, length, reverse, take, drop}
use Rattle.std.specs.Vec.{vec_len, vec_capacity}
use Rattle.std.specs.List.{All}
use Rattle.std.proofs.lemmas.List.{length-drop}
use Rattle.std.proofs.lemmas.List.Elements.{All-take, All-drop}
use Rattle.cbdc_model.specs.Records.{Header, Compact}
use Rattle.cbdc_model.specs.Grammar.{HasSize, IsCompact}
use Rattle.cbdc_model.specs.Ranges.{home_of}
use Rattle.cbdc_model.specs.Slots.{slot, Idle}
use Rattle.lane_driver.specs.declared.fault.BatchReport.{BatchReport}
use Rattle.lane_driver.specs.Told.{IsLane, AreShardsOf}
use Rattle.lane_driver.specs.Stops.{IsLaneSettled}
use Rattle.lane_driver.specs.Readied.{ReadyOf}
use Rattle.lane_driver.specs.Reports.{IsReported, AreDone}
use Rattle.lane_driver.specs.Showing.{lane_sights, KeepsLanePorts}
use Rattle.lane_driver.specs.Outcomes.{IsBatchDone, IsFaultOfBatch}
use Rattle.lane_driver.proofs.Fitting.{ledger_kept}
use Rattle.lane_driver.proofs.Batching.{done_on, none_left, not_empty, some_left, none_after, piece_size, fewer_left}
use Rattle.lane_driver.proofs.Outcomes.{batch_did, lane_so}
use Rattle.lane_driver.proofs.Cutting.{room_left, room_after, reported_more}
use Rattle.lane_driver.proofs.Keeping.{ports_same, ports_on}
use Rattle.lane_driver.proofs.lane.run_lane.Goals as goal

pub pieces-preserved : goal.pieces-preserved
pieces-preserved g c =
    let K = c.args.shape.now in
    let rest = g.X.Source.rest c.pieces.source in
    let more = g.X.Source.rest c.advance.new.self in
    let piece = c.piece-piece.result.now in
    let all = g.X.Source.all c.args.source.now in
    let report = c.in-Ok-go.report in
    let first = lane_sights g.L.LogPort g.S.PortSet c.args.ports.now in
    let old = lane_sights g.L.LogPort g.S.PortSet c.pieces.ports in
    let new = lane_sights g.L.LogPort g.S.PortSet c.go.new.ports in
    let so = c.pieces.invariant in
    let size = c.batch-size.ensures.value in
    let front : piece ≡ take K.batch rest = c.piece-piece.ensures ∙ c.in-Ok-advance.ensures.given ∙ ap (λ n. take n rest) size in
    let back : more ≡ drop K.batch rest = c.in-Ok-advance.ensures.rest ∙ ap (λ n. drop n rest) size in
    let some = some_left K.batch rest piece front (not_empty piece c.if-is_empty.ensures) in
    let made = c.in-Ok-ready.ensures in
    let settled = (lane_so K g.L.LogPort.alone c.args.lane c.requires.settled.0 all first.home first.shards c.requires.settled.1
    (reverse c.pieces.batches.items) rest old.home old.shards so.done).settled in
    record {
      done = done_on K g.L.LogPort.alone c.args.lane all rest piece first.home old.home new.home first.shards old.shards new.shards front more
          c.pieces.batches.items _ report c.push_reserved.ensures.items some back so.done
          (batch_did K g.L.LogPort.alone c.args.lane piece c.args.repeats old new report
          (subst (λ (r : ReadyOf). IsBatchDone r.shape g.L.LogPort.alone r.lane r.txs c.args.repeats old new report) made c.in-Ok-go.ensures.outcome)
          (slot old.home.seen c.args.lane).number settled);
      idle = subst (λ (r : ReadyOf). g.L.LogPort.phase c.go.new.ports.log r.lane ≡ Idle) made c.in-Ok-go.ensures.idle;
      keeps = ports_on g.L.LogPort g.S.PortSet c.args.lane c.args.ports.now c.pieces.ports c.go.new.ports so.keeps
          (subst (λ (r : ReadyOf). KeepsLanePorts g.L.LogPort g.S.PortSet r.lane c.pieces.ports c.go.new.ports) made c.in-Ok-go.ensures.keeps);
      same = c.in-Ok-advance.ensures.same ∙ so.same;
      limits = subst (λ xs. All IsCompact xs) (sym {A = List Compact} back) (All-drop IsCompact K.batch rest so.limits);
      room = room_after (length rest) K.batch _ _ (length more) _ _ some so.room (ap (λ xs. length xs) back ∙ length-drop K.batch rest)
          (room_left (length rest) K.batch (vec_len c.pieces.batches) (vec_capacity c.pieces.batches) some so.room) c.push_reserved.ensures.len
          c.push_reserved.ensures.capacity;
      report = subst (λ reports. IsReported c.args.lane K.batch all more reports) (sym {A = List BatchReport} c.push_reserved.ensures.items)
          (reported_more c.args.lane K.batch all rest piece more c.pieces.batches.items report so.report some front back
          (subst (λ (r : ReadyOf). (report.batch.lane ≡ r.lane) × (length report.outcomes ≡ length r.txs)) made c.in-Ok-go.ensures.report));
    }

pub pieces-smaller : goal.pieces-smaller
pieces-smaller g c =
    let K = c.args.shape.now in
    let rest = g.X.Source.rest c.pieces.source in
    let piece = c.piece-piece.result.now in
    let size = c.batch-size.ensures.value in
    let front : piece ≡ take K.batch rest = c.piece-piece.ensures ∙ c.in-Ok-advance.ensures.given ∙ ap (λ n. take n rest) size in
    let back : g.X.Source.rest c.advance.new.self ≡ drop K.batch rest = c.in-Ok-advance.ensures.rest ∙ ap (λ n. drop n rest) size in
    fewer_left K.batch rest piece (g.X.Source.rest c.advance.new.self) front back (not_empty piece c.if-is_empty.ensures)

pub push_reserved-requires : goal.push_reserved-requires
push_reserved-requires g c =
    let K = c.args.shape.now in
    let rest = g.X.Source.rest c.pieces.source in
    let piece = c.piece-piece.result.now in
    let front : piece ≡ take K.batch rest = c.piece-piece.ensures ∙ c.in-Ok-advance.ensures.given ∙ ap (λ n. take n rest) c.batch-size.ensures.value
    in
    room_left (length rest) K.batch (vec_len c.pieces.batches) (vec_capacity c.pieces.batches)
    (some_left K.batch rest piece front (not_empty piece c.if-is_empty.ensures)) c.pieces.invariant.room

pub ready-requires : goal.ready-requires
ready-requires g c =
    let rest = g.X.Source.rest c.pieces.source in
    let piece = c.piece-piece.result.now in
    let front : piece ≡ take c.batch-size.result rest = c.piece-piece.ensures ∙ c.in-Ok-advance.ensures.given in
    omega (arith, piece_size c.batch-size.result rest piece front, c.batch-size.type_inv)

pub go-requires-clause-size : goal.go-requires-clause-size
go-requires-clause-size g c =
    let rest = g.X.Source.rest c.pieces.source in
    let piece = c.piece-piece.result.now in
    let front : piece ≡ take c.args.shape.now.batch rest =
    c.piece-piece.ensures ∙ c.in-Ok-advance.ensures.given ∙ ap (λ n. take n rest) c.batch-size.ensures.value in
    subst (λ (r : ReadyOf). HasSize r.shape r.txs) (sym {A = ReadyOf} c.in-Ok-ready.ensures)
    (not_empty piece c.if-is_empty.ensures, piece_size c.args.shape.now.batch rest piece front)

pub pieces-init : goal.pieces-init
pieces-init g c =
    let K = c.args.shape.now in
    let all = g.X.Source.all c.args.source.now in
    let first = lane_sights g.L.LogPort g.S.PortSet c.args.ports.now in
    let none : c.in-Ok.batches.items ≡ [] = c.in-Ok.ensures.items in
    let whole = c.begin.ensures.rest ∙ c.begin.ensures.same in
    record {
      done = subst (λ rs. AreDone K g.L.LogPort.alone c.args.lane all first.home first.shards (reverse rs) (g.X.Source.rest c.begin.new.self)
          first.home first.shards) (sym {A = List BatchReport} none) (whole, refl, refl);
      idle = c.requires.idle;
      keeps = ports_same g.L.LogPort g.S.PortSet c.args.lane c.args.ports.now;
      same = c.begin.ensures.same;
      limits = subst (λ xs. All IsCompact xs) (sym {A = List Compact} whole) c.requires.limits;
      room = search rules;
      report = subst (λ reports. IsReported c.args.lane K.batch all (g.X.Source.rest c.begin.new.self) reports) (sym {A = List BatchReport} none)
          ([], whole, tt);
    }

pub go-requires-clause-at : goal.go-requires-clause-at
go-requires-clause-at g c = subst (λ (r : ReadyOf). g.L.LogPort.at c.pieces.ports.log ≡ home_of r.shape r.lane)
    (sym {A = ReadyOf} c.in-Ok-ready.ensures) (c.pieces.invariant.keeps.to_log.at_same ∙ c.requires.at)

pub go-requires-clause-home : goal.go-requires-clause-home
go-requires-clause-home g c = subst (λ (r : ReadyOf). IsLane (g.L.LogPort.header c.pieces.ports.log) r.lane)
    (sym {A = ReadyOf} c.in-Ok-ready.ensures) (subst (λ (h : Header). IsLane h c.args.lane) (sym c.pieces.invariant.keeps.to_log.header_same)
    c.requires.home)

pub go-requires-clause-shape : goal.go-requires-clause-shape
go-requires-clause-shape g c = subst (λ (r : ReadyOf). (g.L.LogPort.header c.pieces.ports.log).shape ≡ r.shape)
    (sym {A = ReadyOf} c.in-Ok-ready.ensures) (ap (λ (h : Header). h.shape) c.pieces.invariant.keeps.to_log.header_same ∙ c.requires.shape)

pub go-requires-clause-idle : goal.go-requires-clause-idle
go-requires-clause-idle g c = subst (λ (r : ReadyOf). g.L.LogPort.phase c.pieces.ports.log r.lane ≡ Idle) (sym {A = ReadyOf} c.in-Ok-ready.ensures)
    c.pieces.invariant.idle

pub go-requires-clause-count : goal.go-requires-clause-count
go-requires-clause-count g c = subst (λ (r : ReadyOf). g.S.PortSet.count c.pieces.ports.shards ≡ r.shape.shards)
    (sym {A = ReadyOf} c.in-Ok-ready.ensures) (c.pieces.invariant.keeps.to_shards.count_same ∙ c.requires.count)

pub go-requires-clause-ledger : goal.go-requires-clause-ledger
go-requires-clause-ledger g c = subst (λ (r : ReadyOf). AreShardsOf r.shape (g.S.PortSet.sights c.pieces.ports.shards))
    (sym {A = ReadyOf} c.in-Ok-ready.ensures) (ledger_kept c.args.shape.now (g.S.PortSet.sights c.args.ports.now.shards)
    (g.S.PortSet.sights c.pieces.ports.shards) c.requires.ledger c.pieces.invariant.keeps.to_shards.nodes)

pub go-requires-clause-mine : goal.go-requires-clause-mine
go-requires-clause-mine g c = subst (λ (r : ReadyOf). g.S.PortSet.serves c.pieces.ports.shards r.lane) (sym {A = ReadyOf} c.in-Ok-ready.ensures)
    (c.pieces.invariant.keeps.to_shards.served c.args.lane c.requires.mine)

pub go-requires-clause-settled : goal.go-requires-clause-settled
go-requires-clause-settled g c =
    let first = lane_sights g.L.LogPort g.S.PortSet c.args.ports.now in
    let old = lane_sights g.L.LogPort g.S.PortSet c.pieces.ports in
    let so = lane_so c.args.shape.now g.L.LogPort.alone c.args.lane c.requires.settled.0 (g.X.Source.all c.args.source.now) first.home first.shards
    c.requires.settled.1 (reverse c.pieces.batches.items) (g.X.Source.rest c.pieces.source) old.home old.shards c.pieces.invariant.done in
    subst (λ (r : ReadyOf). IsLaneSettled r.shape r.lane old.home old.shards) (sym {A = ReadyOf} c.in-Ok-ready.ensures)
    ((slot old.home.seen c.args.lane).number, so.settled)

pub go-requires-clause-limits : goal.go-requires-clause-limits
go-requires-clause-limits g c = subst (λ (r : ReadyOf). All IsCompact r.txs) (sym {A = ReadyOf} c.in-Ok-ready.ensures)
    (subst (λ xs. All IsCompact xs) (sym (c.piece-piece.ensures ∙ c.in-Ok-advance.ensures.given
    ∙ ap (λ n. take n (g.X.Source.rest c.pieces.source)) c.batch-size.ensures.value))
    (All-take IsCompact c.args.shape.now.batch (g.X.Source.rest c.pieces.source) c.pieces.invariant.limits))

pub returns-in-Err-clause-outcome : goal.returns-in-Err-clause-outcome
returns-in-Err-clause-outcome g c = inl (c.no_memory.ensures, refl, refl)

pub returns-in-Err-clause-keeps : goal.returns-in-Err-clause-keeps
returns-in-Err-clause-keeps g c = ports_same g.L.LogPort g.S.PortSet c.args.lane c.args.ports.now

pub returns-in-Err-advance-clause-outcome : goal.returns-in-Err-advance-clause-outcome
returns-in-Err-advance-clause-outcome g c =
    inr (record {
      reports = reverse c.pieces.batches.items;
      rest = g.X.Source.rest c.pieces.source;
      left = c.in-Err-advance.ensures.left;
      between = lane_sights g.L.LogPort g.S.PortSet c.pieces.ports;
      done = c.pieces.invariant.done;
      ended = inl (c.no_memory-in-Err-advance.ensures, refl, refl);
    })

pub returns-in-Err-ready-clause-outcome : goal.returns-in-Err-ready-clause-outcome
returns-in-Err-ready-clause-outcome g c =
    let K = c.args.shape.now in
    let rest = g.X.Source.rest c.pieces.source in
    let piece = c.piece-piece.result.now in
    let front : piece ≡ take K.batch rest = c.piece-piece.ensures ∙ c.in-Ok-advance.ensures.given ∙ ap (λ n. take n rest) c.batch-size.ensures.value
    in
    inr (record {
      reports = reverse c.pieces.batches.items;
      rest = rest;
      left = some_left K.batch rest piece front (not_empty piece c.if-is_empty.ensures);
      between = lane_sights g.L.LogPort g.S.PortSet c.pieces.ports;
      done = c.pieces.invariant.done;
      ended = inl (c.no_memory-in-Err-ready.ensures, refl, refl);
    })

pub returns-in-Err-go-clause-outcome : goal.returns-in-Err-go-clause-outcome
returns-in-Err-go-clause-outcome g c =
    let K = c.args.shape.now in
    let rest = g.X.Source.rest c.pieces.source in
    let piece = c.piece-piece.result.now in
    let fault = c.in-Err-go.fault in
    let old = lane_sights g.L.LogPort g.S.PortSet c.pieces.ports in
    let new = lane_sights g.L.LogPort g.S.PortSet c.go.new.ports in
    let front : piece ≡ take K.batch rest = c.piece-piece.ensures ∙ c.in-Ok-advance.ensures.given ∙ ap (λ n. take n rest) c.batch-size.ensures.value
    in
    inr (record {
      reports = reverse c.pieces.batches.items;
      rest = rest;
      left = some_left K.batch rest piece front (not_empty piece c.if-is_empty.ensures);
      between = old;
      done = c.pieces.invariant.done;
      ended = inr (subst (λ xs. IsFaultOfBatch K g.L.LogPort.alone c.args.lane xs c.args.repeats old new fault) front
          (subst (λ (r : ReadyOf). IsFaultOfBatch r.shape g.L.LogPort.alone r.lane r.txs c.args.repeats old new fault) c.in-Ok-ready.ensures
          c.in-Err-go.ensures.outcome));
    })

pub returns-in-Err-go-clause-keeps : goal.returns-in-Err-go-clause-keeps
returns-in-Err-go-clause-keeps g c = ports_on g.L.LogPort g.S.PortSet c.args.lane c.args.ports.now c.pieces.ports c.go.new.ports
    c.pieces.invariant.keeps (subst (λ (r : ReadyOf). KeepsLanePorts g.L.LogPort g.S.PortSet r.lane c.pieces.ports c.go.new.ports)
    c.in-Ok-ready.ensures c.in-Err-go.ensures.keeps)

pub returns-clause-outcome : goal.returns-clause-outcome
returns-clause-outcome g c =
    let K = c.args.shape.now in
    let rest = g.X.Source.rest c.pieces.source in
    let piece = c.piece-piece.result.now in
    let first = lane_sights g.L.LogPort g.S.PortSet c.args.ports.now in
    let old = lane_sights g.L.LogPort g.S.PortSet c.pieces.ports in
    let front : piece ≡ take K.batch rest = c.piece-piece.ensures ∙ c.in-Ok-advance.ensures.given ∙ ap (λ n. take n rest) c.batch-size.ensures.value
    in
    let none = none_after K.batch rest piece c.batch-size.ensures.limits.some_batch front (none_left piece c.if-is_empty.ensures) in
    subst (λ bs. AreDone K g.L.LogPort.alone c.args.lane (g.X.Source.all c.args.source.now) first.home first.shards (reverse bs) [] old.home
    old.shards) (sym {A = List BatchReport} c.from_vec.ensures)
    (subst (λ r. AreDone K g.L.LogPort.alone c.args.lane (g.X.Source.all c.args.source.now) first.home first.shards (reverse c.pieces.batches.items)
    r old.home old.shards) none c.pieces.invariant.done)

pub returns-clause-report : goal.returns-clause-report
returns-clause-report g c =
    let K = c.args.shape.now in
    let all = g.X.Source.all c.args.source.now in
    let rest = g.X.Source.rest c.pieces.source in
    let piece = c.piece-piece.result.now in
    let front : piece ≡ take K.batch rest = c.piece-piece.ensures ∙ c.in-Ok-advance.ensures.given ∙ ap (λ n. take n rest) c.batch-size.ensures.value
    in
    let none = none_after K.batch rest piece c.batch-size.ensures.limits.some_batch front (none_left piece c.if-is_empty.ensures) in
    subst (λ reports. IsReported c.args.lane K.batch all [] reports) (sym {A = List BatchReport} c.from_vec.ensures)
    (subst (λ r. IsReported c.args.lane K.batch all r c.pieces.batches.items) none c.pieces.invariant.report)
