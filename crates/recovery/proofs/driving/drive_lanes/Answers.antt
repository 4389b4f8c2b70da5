use Rattle.std.proofs.Common.{◌≡◌, ◌<◌, ◌∙◌, [], sym, ap, subst, arith}
use Rattle.std.proofs.lemmas.Grind.{common_steps}
use Rattle.std.specs.Prelude.{OnOk}
use Rattle.cbdc_model.specs.Ranges.{home_of}
use Rattle.cbdc_model.specs.Slots.{Idle}
use Rattle.lane_driver.specs.Showing.{lane_sights}
use Rattle.recovery.specs.Open.{IsBatchUnfinished}
use Rattle.lane_driver.proofs.Fitting.{ledger_kept}
use Rattle.lane_driver.proofs.Keeping.{log_on, shards_on}
use Rattle.recovery.proofs.Rooming.{room_here, rooms_less}
use Rattle.lane_laws.specs.Batches.{view}
use Rattle.cbdc_model.specs.Lanes.{Made}
use Rattle.recovery.proofs.Untouched.{stands_here, stand_rest, home_there, still_shape}
use Rattle.recovery.proofs.Rest.{open_here, rise_rest, open_rest}
use Rattle.recovery.proofs.InOrder.{came_more, kept_none, over_more, unlisted_more}
use Rattle.recovery.proofs.Onward.{made_by, log_grows, shard_grows, logs_gone, shards_gone}
use Rattle.cbdc_types.specs.declared.batch.OpenLane.{OpenLane}
use Rattle.recovery.proofs.driving.drive_lanes.Goals as goal

pub resume_lane-came-requires-clause-is_open : goal.resume_lane-came-requires-clause-is_open
resume_lane-came-requires-clause-is_open g c =
    open_here _ _ _ c.args.lanes.now c.loop-unfinished.unfinished-index _ c.loop-unfinished-test.true c.unfinished-item.is
    c.loop-unfinished.invariant.open_rest

pub loop-unfinished-preserved : goal.loop-unfinished-preserved
loop-unfinished-preserved g c =
    let K = c.args.shape.now in
    let alone = g.L.LogPort.alone in
    let inv = c.loop-unfinished.invariant in
    let i = c.loop-unfinished.unfinished-index in
    let o = c.unfinished-item.result in
    let inside = c.loop-unfinished-test.true in
    let told = c.resume_lane-came.ensures in
    let came = c.resume_lane-came.result in
    let logs = g.L.LogPort.sights c.loop-unfinished.ports.log in
    let logs' = g.L.LogPort.sights c.resume_lane-came.new.ports.log in
    let at = g.L.LogPort.at c.loop-unfinished.ports.log in
    let at' = g.L.LogPort.at c.resume_lane-came.new.ports.log in
    let I = g.S.PortSet.sights c.loop-unfinished.ports.shards in
    let J = g.S.PortSet.sights c.resume_lane-came.new.ports.shards in
    let stands : IsBatchUnfinished o.phase K o (logs at) I = stands_here K (logs at) I c.args.lanes.now i o inside c.unfinished-item.is inv.stand in
    let home : home_of K o.batch.lane < K.coordinators = home_there K o (logs at) I o.phase stands in
    let now = lane_sights g.L.LogPort g.S.PortSet c.loop-unfinished.ports in
    let next = lane_sights g.L.LogPort g.S.PortSet c.resume_lane-came.new.ports in
    let made : Made K [] alone o.batch.lane (view K o.batch.lane (logs at) I) (view K o.batch.lane (logs' at') J) =
    made_by K alone o came now next told.outcome in
    let kept = c.keep-first.ensures.kept in
    let before = c.loop-unfinished.batches.items in
    let after = c.keep-first.new.batches.items in
    record {
      keeps = record {
        to_log = log_on inv.keeps.to_log told.keeps.to_log;
        to_shards = shards_on inv.keeps.to_shards told.keeps.to_shards;
        others = λ quiet. unlisted_more c.args.lanes.now i o inside c.unfinished-item.is _ _ _ _ _ _ _ _ inv.keeps.to_log.header_same
            (inv.keeps.others quiet) (told.keeps.others quiet);
      };
      open_rest = open_rest _ _ _ _ _ _ c.args.lanes.now i o inside c.unfinished-item.is inv.rise inv.open_rest told.keeps.to_log.header_same
          (λ more. told.keeps.others (sym c.requires.same ∙ c.requires.alone more));
      stand = stand_rest K g.S.PortSet.alone (logs at) (logs' at') I J c.args.lanes.now i o c.requires.alone inside c.unfinished-item.is inv.rise home
          (still_shape logs logs' at at' told.keeps.to_log.at_same told.keeps.to_log.nodes)
          (subst (λ a. Made K [] a o.batch.lane (view K o.batch.lane (logs at) I) (view K o.batch.lane (logs' at') J)) (sym c.requires.same) made)
          inv.stand;
      rise = rise_rest c.args.lanes.now i o inside c.unfinished-item.is inv.rise;
      came = came_more c.args.lanes.now i o inside c.unfinished-item.is K alone (lane_sights g.L.LogPort g.S.PortSet c.args.ports.now) now next
          (logs_gone logs logs' at at' told.keeps.to_log.at_same told.keeps.to_log.nodes told.keeps.to_log.elsewhere
          (log_grows K o.batch.lane home alone (logs at) (logs' at') I J made))
          (shards_gone I J told.keeps.to_shards.nodes (shard_grows K o.batch.lane home alone (logs at) (logs' at') I J made)) before after
          c.loop-unfinished.first c.keep-first.result came inv.came told.outcome kept;
      over = λ none.
          let k = kept_none before after c.loop-unfinished.first c.keep-first.result came kept none in
          over_more c.args.lanes.now i o inside c.unfinished-item.is _ _ _ _ _ _ told.keeps.to_log.header_same
          (λ more. told.keeps.others (sym c.requires.same ∙ c.requires.alone more))
          (subst (λ x. OnOk x (g.L.LogPort.phase c.resume_lane-came.new.ports.log o.batch.lane ≡ Idle)) k.2 told.idle) inv.rise inv.open_rest
          (inv.over k.0);
      len = omega (arith, c.keep-first.ensures.len, inv.len);
      room = omega (arith, c.keep-first.ensures.capacity, inv.room);
      rooms = rooms_less K c.args.lanes.now i o inside c.unfinished-item.is c.loop-unfinished.rooms.items c.pop.new.self.items c.in-Some.room
          c.in-Some.ensures.items inv.rooms;
    }

pub resume_lane-came-requires-clause-at : goal.resume_lane-came-requires-clause-at
resume_lane-came-requires-clause-at g c = c.loop-unfinished.invariant.keeps.to_log.at_same ∙ c.requires.at
    ∙ ap (λ h. h.node) (sym c.loop-unfinished.invariant.keeps.to_log.header_same)

pub resume_lane-came-requires-clause-ledger : goal.resume_lane-came-requires-clause-ledger
resume_lane-came-requires-clause-ledger g c = ledger_kept c.args.shape.now (g.S.PortSet.sights c.args.ports.now.shards)
    (g.S.PortSet.sights c.loop-unfinished.ports.shards) c.requires.ledger c.loop-unfinished.invariant.keeps.to_shards.nodes

pub resume_lane-came-requires-clause-stands : goal.resume_lane-came-requires-clause-stands
resume_lane-came-requires-clause-stands g c =
    stands_here c.args.shape.now (g.L.LogPort.sights c.loop-unfinished.ports.log (g.L.LogPort.at c.loop-unfinished.ports.log))
    (g.S.PortSet.sights c.loop-unfinished.ports.shards) c.args.lanes.now c.loop-unfinished.unfinished-index _ c.loop-unfinished-test.true
    c.unfinished-item.is c.loop-unfinished.invariant.stand

pub resume_lane-came-requires-clause-mine : goal.resume_lane-came-requires-clause-mine
resume_lane-came-requires-clause-mine g c =
    subst (λ (o : OpenLane). g.S.PortSet.serves c.loop-unfinished.ports.shards o.batch.lane) (sym c.unfinished-item.is)
    (c.loop-unfinished.invariant.keeps.to_shards.served _
    (c.requires.mine c.loop-unfinished.unfinished-index c.unfinished-item.result c.loop-unfinished-test.true))

pub resume_lane-came-requires-clause-room : goal.resume_lane-came-requires-clause-room
resume_lane-came-requires-clause-room g c =
    room_here c.args.shape.now c.args.lanes.now c.loop-unfinished.unfinished-index c.unfinished-item.result c.loop-unfinished-test.true
    c.unfinished-item.is c.loop-unfinished.rooms.items c.pop.new.self.items c.in-Some.room c.in-Some.ensures.items
    c.loop-unfinished.invariant.rooms

pub unreachable-requires : goal.unreachable-requires
unreachable-requires g c = grind (arith, common_steps)

pub returns-in-Some-first-clause-outcome : goal.returns-in-Some-first-clause-outcome
returns-in-Some-first-clause-outcome g c = grind (arith, common_steps)

pub returns-clause-outcome : goal.returns-clause-outcome
returns-clause-outcome g c = grind (arith, common_steps)

pub returns-clause-idle : goal.returns-clause-idle
returns-clause-idle g c = grind (arith, common_steps)
