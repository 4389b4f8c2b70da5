use Rattle.std.proofs.Common.{rules, refl}
use Rattle.phase_calls.specs.Phase.{Accepts, Makes}
use Rattle.phase_calls.proofs.Halves.{none_made, no_rest, first_call, no_less_than, inside, port_is, made_alone}
use Rattle.phase_calls.proofs.phases.make_alone.Goals as goal

pub bounds-ports-shard : goal.bounds-ports-shard
bounds-ports-shard g c =
    inside (Accepts g.F.Fn c.args.f.now) c.args.first c.args.calls.now c.args.ports.now c.args.answers.now c.in-Some.field-0-0.now
    c.in-Some._rest.now c.requires.phase c.in-Some.ensures.cases.0

pub offset_bounds-ports-shard : goal.offset_bounds-ports-shard
offset_bounds-ports-shard g c =
    let there = inside (Accepts g.F.Fn c.args.f.now) c.args.first c.args.calls.now c.args.ports.now c.args.answers.now c.in-Some.field-0-0.now
    c.in-Some._rest.now c.requires.phase c.in-Some.ensures.cases.0 in search rules

pub f-requires : goal.f-requires
f-requires g c =
    let one = first_call (Accepts g.F.Fn c.args.f.now) c.args.first c.args.calls.now c.args.ports.now c.args.answers.now c.in-Some.field-0-0.now
    c.in-Some._rest.now c.requires.phase c.in-Some.ensures.cases.0 in
    one.accepted _ _ (port_is (Accepts g.F.Fn c.args.f.now) c.args.first c.args.calls.now c.args.ports.now c.args.answers.now c.in-Some.field-0-0.now
    c.in-Some._rest.now c.requires.phase c.in-Some.ensures.cases.0 c.index-ports-shard.result) refl

pub returns : goal.returns
returns g c =
    made_alone (Accepts g.F.Fn c.args.f.now) c.args.first c.args.calls.now c.args.ports.now c.args.answers.now c.in-Some.field-0-0.now
    c.in-Some._rest.now c.requires.phase c.in-Some.ensures.cases.0
    (Makes g.F.Fn c.args.f.now) c.f.new.arg2 c.f.result
    (no_rest c.in-Some.field-0-0.now c.args.calls.now c.in-Some._rest.now c.requires.few c.in-Some.ensures.cases.0)
    (record {
      port = _;
      port_is = port_is (Accepts g.F.Fn c.args.f.now) c.args.first c.args.calls.now c.args.ports.now c.args.answers.now c.in-Some.field-0-0.now
          c.in-Some._rest.now c.requires.phase c.in-Some.ensures.cases.0 c.index-ports-shard.result;
      call = _;
      call_is = refl;
      after_call = _;
      made = c.f.ensures;
      left = refl;
    })

pub overflow_sub-shard : goal.overflow_sub-shard
overflow_sub-shard g c =
    no_less_than (Accepts g.F.Fn c.args.f.now) c.args.first c.args.calls.now c.args.ports.now c.args.answers.now c.in-Some.field-0-0.now
    c.in-Some._rest.now c.requires.phase c.in-Some.ensures.cases.0

pub returns-in_default : goal.returns-in_default
returns-in_default g c =
    none_made (Makes g.F.Fn c.args.f.now) c.args.first c.args.ports.now c.args.calls.now c.args.answers.now c.in_default.ensures.cases
    c.requires.phase.room
