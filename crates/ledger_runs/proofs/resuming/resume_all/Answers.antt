use Rattle.std.proofs.lemmas.List.{get_or_default}
use Rattle.std.proofs.Common.{rules, ◌≡◌, ◌≢◌, inl, inr, ◌*◌, ◌<◌, ◌≤◌, length, get_or, reverse, arith, refl, sym, ap, ◌∙◌, subst, None}
use Rattle.std.specs.List.{AllZip}
use Rattle.ledger_runs.specs.Planning.{IsFound, IsPlanOf}
use Rattle.std.specs.Option.{option_or}
use Rattle.std.specs.Result.{result_err}
use Rattle.run_laws.specs.WaveSteps.{ResumedSo, ResumingStepLaw, ResumingSkipLaw, ResumingBeginsLaw, ResumingEndsLaw}
use Rattle.run_laws.proofs.WaveTurns.{resuming_begins_law, resuming_step_law, resuming_skip_law, resuming_ends_law}
use Rattle.ledger_runs.proofs.Keeping.{stays, stays_next, idle_next, so_next, of_ok, ledger_same, ledger_on}
use Rattle.ledger_runs.specs.Telling.{TellResumed}
use Rattle.ledger_laws.proofs.Cuts.{end_self, end_trans}
use Rattle.cbdc_model.specs.Records.{Shape}
use Rattle.lane_driver.specs.declared.fault.LaneFault.{LaneFault}
use Rattle.ledger_runs.specs.Turning.{IsLaneOf}
use Rattle.ledger_runs.specs.Faults.{HaveFailed, MayHoldBytes, Nothing}
use Rattle.ledger_runs.proofs.Faulting.{grown_end, none_taken, one_more, risen_later, holds_later}
use Rattle.ledger_runs.proofs.Onward.{first_none, untouched_on, first_begin, rests_begin, first_next, rests_next, first_end, rests_end, first_cause}
use Rattle.ledger_runs.proofs.Flying.{flies_next}
use Rattle.ledger_runs.proofs.Launching.{launches_begin, launches_next}
use Rattle.ledger_runs.proofs.WaveTelling.{resumed_told}
use Rattle.ledger_runs.proofs.Preparing.{resumed_none}
use Rattle.ledger_runs.proofs.Plans.{here_at, less_at, some_at, found_on, within_room}
use Rattle.ledger_runs.proofs.resuming.resume_all.Goals as goal

pub lanes-init : goal.lanes-init
lanes-init g c =
    let K = g.L.Turns.shape c.args.ledger.now in
    let E = g.L.Turns.journals c.args.ledger.now in
    let begins : ResumingBeginsLaw = resuming_begins_law in
    let count = c.lane_count-count.ensures.value ∙ ap (λ s. s.coordinators * s.lanes) c.shape.ensures in
    let as_many = ap length c.as_slice-found.ensures.value ∙ (c.in-Ok-open_lanes.ensures.as_many ∙ sym count) in
    record {
      keeps_ledger = ledger_same c.args.ledger.now;
      count = count;
      idle = λ none lane low. absurd (omega (arith, low));
      keeps = stays K E;
      so = λ none _ _ _. begins K E;
      told = λ none _ _ _. c.in-Ok.ensures.items;
      prepares = λ _. refl;
      quiet = λ none was. was;
      flies = λ _ _ _ may. may;
      launches = launches_begin K (λ _. Nothing) E (g.L.Turns.flights c.args.ledger.now);
      checked = c.requires;
      grows = λ n. end_self (E n);
      order = λ n. refl;
      untouched = λ lane low n. refl;
      first = first_begin K E (HaveFailed (g.L.Turns.opened c.args.ledger.now) (g.L.Turns.faults c.args.ledger.now))
          (MayHoldBytes (g.L.Turns.capacity c.args.ledger.now));
      rests = rests_begin K E (HaveFailed (g.L.Turns.opened c.args.ledger.now) (g.L.Turns.faults c.args.ledger.now))
          (g.L.Turns.wanting c.args.ledger.now);
      as_many = as_many;
      found = λ k low within. subst (λ xs. IsFound K E (g.L.Turns.opens c.args.ledger.now) k (get_or xs k None)) (sym c.as_slice-found.ensures.value)
          (c.in-Ok-open_lanes.ensures.each k (omega (arith, within, as_many, ap length c.as_slice-found.ensures.value)));
      plans = subst (λ k. AllZip (IsPlanOf k) c.as_slice-found.result.now (reverse c.in-Ok-plan_lanes.plans.items)) c.shape-2.ensures
          c.in-Ok-plan_lanes.ensures;
      len = omega (arith, c.in-Ok.ensures.len);
      room = c.in-Ok.ensures.exact;
    }

pub lanes-preserved : goal.lanes-preserved
lanes-preserved g c =
    let K = g.L.Turns.shape c.args.ledger.now in
    let H = g.L.Turns.shape c.lanes.ledger in
    let E = g.L.Turns.journals c.args.ledger.now in
    let J = g.L.Turns.journals c.lanes.ledger in
    let L = g.L.Turns.journals c.resume_next-came.new.ledger in
    let turn = c.lanes.lane in
    let so = c.lanes.invariant in
    let did = c.resume_next-came.ensures in
    let came = c.resume_next-came.result in
    let step : ResumingStepLaw = resuming_step_law in
    let skip : ResumingSkipLaw = resuming_skip_law in
    let inside : IsLaneOf K turn = omega (arith, c.lanes-test.true, so.count) in
    let is : c.or-first.result ≡ option_or c.lanes.first (result_err came) = c.or-first.ensures ∙ ap (option_or c.lanes.first) c.err.ensures.value in
    let failed_on = risen_later (g.L.Turns.opened c.lanes.ledger) (g.L.Turns.faults c.lanes.ledger) (g.L.Turns.opened c.resume_next-came.new.ledger)
    (g.L.Turns.faults c.resume_next-came.new.ledger) did.keeps_ledger.opened_same did.keeps_ledger.later in
    let held_on = holds_later (g.L.Turns.capacity c.lanes.ledger) (g.L.Turns.capacity c.resume_next-came.new.ledger) did.keeps_ledger.capacity_same in
    let failed = HaveFailed (g.L.Turns.opened c.lanes.ledger) (g.L.Turns.faults c.lanes.ledger) in
    let fails = HaveFailed (g.L.Turns.opened c.resume_next-came.new.ledger) (g.L.Turns.faults c.resume_next-came.new.ledger) in
    let holds = MayHoldBytes (g.L.Turns.capacity c.lanes.ledger) in
    let held = MayHoldBytes (g.L.Turns.capacity c.resume_next-came.new.ledger) in
    let none_of = λ (none : c.or-first.result ≡ None). first_none c.lanes.first came (sym is ∙ none) in
    record {
      keeps_ledger = ledger_on so.keeps_ledger did.keeps_ledger;
      count = so.count;
      idle = λ none. idle_next K H turn J L so.keeps_ledger.shape_same inside (so.idle (none_of none).0) did.others
          (of_ok came _ (none_of none).1 did.idle);
      keeps = stays_next K H E J L so.keeps_ledger.shape_same so.keeps did.keeps;
      so = λ none. so_next step skip K H turn E J L c.lanes.batches.items c.resume_next-came.new.batches.items so.keeps_ledger.shape_same so.keeps
          (so.so (none_of none).0) (of_ok came _ (none_of none).1 did.took);
      told = λ none. resumed_told K H turn E J L c.lanes.batches.items c.resume_next-came.new.batches.items so.keeps_ledger.shape_same so.keeps
          (so.so (none_of none).0) (so.told (none_of none).0) (of_ok came _ (none_of none).1 did.told);
      prepares = resumed_none K H turn E J L so.keeps_ledger.shape_same so.prepares did.grows did.unprepared;
      quiet = λ none was. of_ok came _ (none_of none).1 did.quiet (so.quiet (none_of none).0 was);
      flies = flies_next K H E J L (g.L.Turns.flights c.args.ledger.now) (g.L.Turns.flights c.lanes.ledger)
          (g.L.Turns.flights c.resume_next-came.new.ledger) so.keeps_ledger.shape_same so.keeps so.flies did.flies;
      launches = launches_next K H E J L (g.L.Turns.flights c.args.ledger.now) (g.L.Turns.flights c.lanes.ledger)
          (g.L.Turns.flights c.resume_next-came.new.ledger) so.keeps_ledger.shape_same so.launches did.launches;
      checked = did.checked;
      grows = λ n. end_trans (E n) (J n) (L n) (so.grows n) (grown_end turn J L did.grows n);
      order = one_more turn E J L so.order did.grows;
      untouched = λ lane low. untouched_on lane turn (let apart : turn ≢ lane = λ h. omega (arith, h, low) in apart) E J L did.grows
          (so.untouched lane (omega (arith, low)));
      first = λ e some. first_next K H turn E J L failed fails holds held so.keeps_ledger.shape_same inside so.grows did.grows failed_on held_on
          (so.untouched turn (omega arith)) came did.fault did.others c.lanes.first so.idle so.first e (sym is ∙ some);
      rests = rests_next K H turn E J L failed fails holds held so.keeps_ledger.shape_same inside so.grows did.grows failed_on held_on
          (so.untouched turn (omega arith)) came did.fault
          (g.L.Turns.wanting c.lanes.ledger) (g.L.Turns.wanting c.resume_next-came.new.ledger) did.wanting_same did.idle did.wanting so.rests;
      as_many = so.as_many;
      found = λ k low inside_k. found_on K H turn J L (g.L.Turns.opens c.lanes.ledger) (g.L.Turns.opens c.resume_next-came.new.ledger)
          so.keeps_ledger.shape_same did.others did.opens_same k low (omega (arith, inside_k, so.count)) _ (so.found k (omega (arith, low)) inside_k);
      plans = less_at (IsPlanOf K) c.as_slice-found.result.now turn None (omega (arith, c.lanes-test.true, so.as_many)) c.lanes.plans.items
          c.pop.new.self.items c.in-Some.planned c.in-Some.ensures.items so.plans;
      len = omega (arith, did.len, so.len);
      room = did.capacity ∙ so.room;
    }

pub returns-in_default-clause-order : goal.returns-in_default-clause-order
returns-in_default-clause-order g c = none_taken (g.L.Turns.shape c.args.ledger.now) (g.L.Turns.journals c.args.ledger.now)

pub returns-in-Some-first-clause-fault : goal.returns-in-Some-first-clause-fault
returns-in-Some-first-clause-fault g c =
    let K = g.L.Turns.shape c.args.ledger.now in
    let E = g.L.Turns.journals c.args.ledger.now in
    let X = g.L.Turns.journals c.lanes.ledger in
    let failed = HaveFailed (g.L.Turns.opened c.lanes.ledger) (g.L.Turns.faults c.lanes.ledger) in
    let holds = MayHoldBytes (g.L.Turns.capacity c.lanes.ledger) in
    first_cause K E X failed holds c.in-Some-first.fault
    (first_end K c.lanes.lane E X failed holds c.in-Some-first.fault (omega (arith, c.lanes.invariant.count, c.lanes.auto.lane-end))
    (c.lanes.invariant.first c.in-Some-first.fault c.in-Some-first.is))

pub returns-in-Some-first-clause-least : goal.returns-in-Some-first-clause-least
returns-in-Some-first-clause-least g c = inr (first_end (g.L.Turns.shape c.args.ledger.now) c.lanes.lane (g.L.Turns.journals c.args.ledger.now)
    (g.L.Turns.journals c.lanes.ledger)
    (HaveFailed (g.L.Turns.opened c.lanes.ledger) (g.L.Turns.faults c.lanes.ledger)) (MayHoldBytes (g.L.Turns.capacity c.lanes.ledger))
    c.in-Some-first.fault
    (omega (arith, c.lanes.invariant.count, c.lanes.auto.lane-end)) (c.lanes.invariant.first c.in-Some-first.fault c.in-Some-first.is))

pub returns-in-Some-first-clause-rests : goal.returns-in-Some-first-clause-rests
returns-in-Some-first-clause-rests g c = inr (rests_end (g.L.Turns.shape c.args.ledger.now) c.lanes.lane (g.L.Turns.journals c.args.ledger.now)
    (g.L.Turns.journals c.lanes.ledger)
    (HaveFailed (g.L.Turns.opened c.lanes.ledger) (g.L.Turns.faults c.lanes.ledger)) (g.L.Turns.wanting c.lanes.ledger)
    (omega (arith, c.lanes.invariant.count, c.lanes-test.false)) c.lanes.invariant.rests)

pub returns-in-None-clause-resumed : goal.returns-in-None-clause-resumed
returns-in-None-clause-resumed g c =
    let ends : ResumingEndsLaw = resuming_ends_law in
    λ mint submissions kept. ends _ _ _ (subst (λ n. ResumedSo (g.L.Turns.shape c.args.ledger.now) n (g.L.Turns.journals c.args.ledger.now)
    (g.L.Turns.journals c.lanes.ledger))
    (omega (arith, c.lanes.invariant.count, c.lanes-test.false, c.lanes.auto.lane-end)) (c.lanes.invariant.so c.in-None.is mint submissions kept))

pub returns-in-None-clause-told : goal.returns-in-None-clause-told
returns-in-None-clause-told g c =
    let K = g.L.Turns.shape c.args.ledger.now in
    λ mint submissions kept. subst (λ n. TellResumed K (g.L.Turns.journals c.args.ledger.now) (g.L.Turns.journals c.lanes.ledger) n
    c.lanes.batches.items)
    (omega (arith, c.lanes.invariant.count, c.lanes-test.false, c.lanes.auto.lane-end)) (c.lanes.invariant.told c.in-None.is mint submissions kept)

pub returns-in-None-clause-quiet : goal.returns-in-None-clause-quiet
returns-in-None-clause-quiet g c = c.lanes.invariant.quiet c.in-None.is

pub returns-in_default-clause-launches : goal.returns-in_default-clause-launches
returns-in_default-clause-launches g c = launches_begin (g.L.Turns.shape c.args.ledger.now) (λ _. Nothing) (g.L.Turns.journals c.args.ledger.now)
    (g.L.Turns.flights c.args.ledger.now)

pub returns-in_default-clause-keeps_ledger : goal.returns-in_default-clause-keeps_ledger
returns-in_default-clause-keeps_ledger g c = ledger_same c.args.ledger.now

pub unreachable-requires : goal.unreachable-requires
unreachable-requires g c =
    let so = c.lanes.invariant in
    some_at (IsPlanOf (g.L.Turns.shape c.args.ledger.now)) c.as_slice-found.result.now c.lanes.lane None
    (omega (arith, c.lanes-test.true, so.as_many)) c.lanes.plans.items (search rules) so.plans

pub resume_next-came-requires-clause-found : goal.resume_next-came-requires-clause-found
resume_next-came-requires-clause-found g c =
    let so = c.lanes.invariant in
    let I = g.L.Turns.journals c.lanes.ledger in
    let opens = g.L.Turns.opens c.lanes.ledger in
    let it = c.index-found-lane.result in
    subst (λ k. IsFound k I opens c.lanes.lane it) (sym so.keeps_ledger.shape_same)
    (subst (λ x. IsFound (g.L.Turns.shape c.args.ledger.now) I opens c.lanes.lane x)
    (sym (c.index-found-lane.is ∙ get_or_default c.as_slice-found.result.now c.lanes.lane it None (omega (arith, c.lanes-test.true, so.as_many))))
    (so.found c.lanes.lane (omega arith) c.lanes-test.true))

pub resume_next-came-requires-clause-planned : goal.resume_next-came-requires-clause-planned
resume_next-came-requires-clause-planned g c =
    let so = c.lanes.invariant in
    let K = g.L.Turns.shape c.args.ledger.now in
    let it = c.index-found-lane.result in
    let low : c.lanes.lane < length c.as_slice-found.result.now = omega (arith, c.lanes-test.true, so.as_many) in
    subst (λ k. IsPlanOf k it c.in-Some.planned) (sym so.keeps_ledger.shape_same)
    (subst (λ x. IsPlanOf K x c.in-Some.planned) (sym (c.index-found-lane.is ∙ get_or_default c.as_slice-found.result.now c.lanes.lane it None low))
    (here_at (IsPlanOf K) c.as_slice-found.result.now c.lanes.lane None low c.lanes.plans.items c.pop.new.self.items c.in-Some.planned
    c.in-Some.ensures.items so.plans))

pub returns-in_default-clause-keeps : goal.returns-in_default-clause-keeps
returns-in_default-clause-keeps g c = stays (g.L.Turns.shape c.args.ledger.now) (g.L.Turns.journals c.args.ledger.now)

pub returns-in_default-clause-prepares : goal.returns-in_default-clause-prepares
returns-in_default-clause-prepares g c = λ lane. refl

pub returns-in_default-clause-flies : goal.returns-in_default-clause-flies
returns-in_default-clause-flies g c = λ mint submissions kept may. may

pub returns-in_default-clause-grows : goal.returns-in_default-clause-grows
returns-in_default-clause-grows g c = λ n. end_self (g.L.Turns.journals c.args.ledger.now n)

pub returns-in_default-clause-least : goal.returns-in_default-clause-least
returns-in_default-clause-least g c = inl (ap (λ (e : LaneFault). e.fault) c.no_memory.ensures, λ n. refl)

pub returns-in_default-clause-rests : goal.returns-in_default-clause-rests
returns-in_default-clause-rests g c = inl (ap (λ (e : LaneFault). e.fault) c.no_memory.ensures, λ n. refl)

pub returns-in_default-open_lanes-clause-keeps_ledger : goal.returns-in_default-open_lanes-clause-keeps_ledger
returns-in_default-open_lanes-clause-keeps_ledger g c = ledger_same c.args.ledger.now

pub returns-in_default-open_lanes-clause-keeps : goal.returns-in_default-open_lanes-clause-keeps
returns-in_default-open_lanes-clause-keeps g c = stays (g.L.Turns.shape c.args.ledger.now) (g.L.Turns.journals c.args.ledger.now)

pub returns-in_default-open_lanes-clause-prepares : goal.returns-in_default-open_lanes-clause-prepares
returns-in_default-open_lanes-clause-prepares g c = λ lane. refl

pub returns-in_default-open_lanes-clause-flies : goal.returns-in_default-open_lanes-clause-flies
returns-in_default-open_lanes-clause-flies g c = λ mint submissions kept may. may

pub returns-in_default-open_lanes-clause-launches : goal.returns-in_default-open_lanes-clause-launches
returns-in_default-open_lanes-clause-launches g c =
    launches_begin (g.L.Turns.shape c.args.ledger.now) (λ _. Nothing) (g.L.Turns.journals c.args.ledger.now) (g.L.Turns.flights c.args.ledger.now)

pub returns-in_default-open_lanes-clause-grows : goal.returns-in_default-open_lanes-clause-grows
returns-in_default-open_lanes-clause-grows g c = λ n. end_self (g.L.Turns.journals c.args.ledger.now n)

pub returns-in_default-open_lanes-clause-order : goal.returns-in_default-open_lanes-clause-order
returns-in_default-open_lanes-clause-order g c = none_taken (g.L.Turns.shape c.args.ledger.now) (g.L.Turns.journals c.args.ledger.now)

pub returns-in_default-open_lanes-clause-least : goal.returns-in_default-open_lanes-clause-least
returns-in_default-open_lanes-clause-least g c = inl (ap (λ (e : LaneFault). e.fault) c.no_memory-in_default-open_lanes.ensures, λ n. refl)

pub returns-in_default-open_lanes-clause-rests : goal.returns-in_default-open_lanes-clause-rests
returns-in_default-open_lanes-clause-rests g c = inl (ap (λ (e : LaneFault). e.fault) c.no_memory-in_default-open_lanes.ensures, λ n. refl)

pub returns-in_default-plan_lanes-clause-keeps_ledger : goal.returns-in_default-plan_lanes-clause-keeps_ledger
returns-in_default-plan_lanes-clause-keeps_ledger g c = ledger_same c.args.ledger.now

pub returns-in_default-plan_lanes-clause-keeps : goal.returns-in_default-plan_lanes-clause-keeps
returns-in_default-plan_lanes-clause-keeps g c = stays (g.L.Turns.shape c.args.ledger.now) (g.L.Turns.journals c.args.ledger.now)

pub returns-in_default-plan_lanes-clause-prepares : goal.returns-in_default-plan_lanes-clause-prepares
returns-in_default-plan_lanes-clause-prepares g c = λ lane. refl

pub returns-in_default-plan_lanes-clause-flies : goal.returns-in_default-plan_lanes-clause-flies
returns-in_default-plan_lanes-clause-flies g c = λ mint submissions kept may. may

pub returns-in_default-plan_lanes-clause-launches : goal.returns-in_default-plan_lanes-clause-launches
returns-in_default-plan_lanes-clause-launches g c =
    launches_begin (g.L.Turns.shape c.args.ledger.now) (λ _. Nothing) (g.L.Turns.journals c.args.ledger.now) (g.L.Turns.flights c.args.ledger.now)

pub returns-in_default-plan_lanes-clause-grows : goal.returns-in_default-plan_lanes-clause-grows
returns-in_default-plan_lanes-clause-grows g c = λ n. end_self (g.L.Turns.journals c.args.ledger.now n)

pub returns-in_default-plan_lanes-clause-order : goal.returns-in_default-plan_lanes-clause-order
returns-in_default-plan_lanes-clause-order g c = none_taken (g.L.Turns.shape c.args.ledger.now) (g.L.Turns.journals c.args.ledger.now)

pub returns-in_default-plan_lanes-clause-least : goal.returns-in_default-plan_lanes-clause-least
returns-in_default-plan_lanes-clause-least g c = inl (ap (λ (e : LaneFault). e.fault) c.no_memory-in_default-plan_lanes.ensures, λ n. refl)

pub returns-in_default-plan_lanes-clause-rests : goal.returns-in_default-plan_lanes-clause-rests
returns-in_default-plan_lanes-clause-rests g c = inl (ap (λ (e : LaneFault). e.fault) c.no_memory-in_default-plan_lanes.ensures, λ n. refl)

pub returns-in-Some-first-clause-keeps_ledger : goal.returns-in-Some-first-clause-keeps_ledger
returns-in-Some-first-clause-keeps_ledger g c = c.lanes.invariant.keeps_ledger

pub returns-in-Some-first-clause-keeps : goal.returns-in-Some-first-clause-keeps
returns-in-Some-first-clause-keeps g c = c.lanes.invariant.keeps

pub returns-in-Some-first-clause-prepares : goal.returns-in-Some-first-clause-prepares
returns-in-Some-first-clause-prepares g c = c.lanes.invariant.prepares

pub returns-in-Some-first-clause-flies : goal.returns-in-Some-first-clause-flies
returns-in-Some-first-clause-flies g c = c.lanes.invariant.flies

pub returns-in-Some-first-clause-launches : goal.returns-in-Some-first-clause-launches
returns-in-Some-first-clause-launches g c = c.lanes.invariant.launches

pub returns-in-Some-first-clause-grows : goal.returns-in-Some-first-clause-grows
returns-in-Some-first-clause-grows g c = c.lanes.invariant.grows

pub returns-in-Some-first-clause-order : goal.returns-in-Some-first-clause-order
returns-in-Some-first-clause-order g c = (
  c.lanes.lane,
  subst (λ n. c.lanes.lane ≤ n) c.lanes.invariant.count c.lanes.auto.lane-end,
  c.lanes.invariant.order,
)

pub returns-in-None-clause-keeps_ledger : goal.returns-in-None-clause-keeps_ledger
returns-in-None-clause-keeps_ledger g c = c.lanes.invariant.keeps_ledger

pub returns-in-None-clause-keeps : goal.returns-in-None-clause-keeps
returns-in-None-clause-keeps g c = c.lanes.invariant.keeps

pub returns-in-None-clause-prepares : goal.returns-in-None-clause-prepares
returns-in-None-clause-prepares g c = c.lanes.invariant.prepares

pub returns-in-None-clause-flies : goal.returns-in-None-clause-flies
returns-in-None-clause-flies g c = c.lanes.invariant.flies

pub returns-in-None-clause-launches : goal.returns-in-None-clause-launches
returns-in-None-clause-launches g c = c.lanes.invariant.launches

pub returns-in-None-clause-grows : goal.returns-in-None-clause-grows
returns-in-None-clause-grows g c = c.lanes.invariant.grows

pub returns-in-None-clause-order : goal.returns-in-None-clause-order
returns-in-None-clause-order g c = (
  c.lanes.lane,
  subst (λ n. c.lanes.lane ≤ n) c.lanes.invariant.count c.lanes.auto.lane-end,
  c.lanes.invariant.order,
)

pub returns-in-None-clause-idle : goal.returns-in-None-clause-idle
returns-in-None-clause-idle g c = λ lane low. c.lanes.invariant.idle c.in-None.is lane
    (omega (arith, low, c.lanes.invariant.count, c.lanes-test.false))

pub resume_next-came-requires-clause-lane : goal.resume_next-came-requires-clause-lane
resume_next-came-requires-clause-lane g c =
    subst (λ (k : Shape). IsLaneOf k c.lanes.lane) (sym c.lanes.invariant.keeps_ledger.shape_same)
    (subst (λ n. c.lanes.lane < n) c.lanes.invariant.count c.lanes-test.true)

pub resume_next-came-requires-clause-room : goal.resume_next-came-requires-clause-room
resume_next-came-requires-clause-room g c = within_room _ c.lanes.lane _ _ c.lanes.invariant.len c.lanes-test.true c.lanes.invariant.room
