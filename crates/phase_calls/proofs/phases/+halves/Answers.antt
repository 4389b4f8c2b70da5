use Rattle.std.proofs.Common.{length, refl, sym, ◌∙◌}
use Rattle.phase_calls.specs.Phase.{Accepts, Makes}
use Rattle.phase_calls.proofs.Halves.{some_back, backs, within_cut, first_taken, cut_at, low_phase, high_phase, all_made}
use Rattle.phase_calls.proofs.phases.+halves.Goals as goal

pub at_each-overflow_sub-at : goal.at_each-overflow_sub-at
at_each-overflow_sub-at g t c =
    let some = some_back c.args.calls.now c.split_at.result.0.now c.split_at.result.1.now c.if-calls-lt2.false c.split_at.ensures.by_index.0
    c.split_at.ensures.front_len in
    (first_taken (Accepts g.F.Fn c.args.f.now) c.args.first _ c.args.calls.now c.args.ports.now c.args.answers.now c.split_at.result.0.now
    c.split_at.result.1.now c.index-high-0.result c.requires c.split_at.ensures.by_index.0 some refl).0

pub at_each-split_at_mut-low_ports-requires : goal.at_each-split_at_mut-low_ports-requires
at_each-split_at_mut-low_ports-requires g t c =
    let some = some_back c.args.calls.now c.split_at.result.0.now c.split_at.result.1.now c.if-calls-lt2.false c.split_at.ensures.by_index.0
    c.split_at.ensures.front_len in
    within_cut c.args.first _ (length c.args.ports.now)
    (first_taken (Accepts g.F.Fn c.args.f.now) c.args.first _ c.args.calls.now c.args.ports.now c.args.answers.now c.split_at.result.0.now
    c.split_at.result.1.now c.index-high-0.result c.requires c.split_at.ensures.by_index.0 some refl)

pub at_each-both_halves-requires-clause-low : goal.at_each-both_halves-requires-clause-low
at_each-both_halves-requires-clause-low g t c κs within =
    let some = some_back c.args.calls.now c.split_at.result.0.now c.split_at.result.1.now c.if-calls-lt2.false c.split_at.ensures.by_index.0
    c.split_at.ensures.front_len in
    let cut = cut_at (Accepts g.F.Fn c.args.f.now) c.args.first _ c.args.calls.now c.args.ports.now c.args.answers.now c.split_at.result.0.now
    c.split_at.result.1.now c.split_at_mut-low_ports.result.0.now c.split_at_mut-low_ports.result.1.now c.index-high-0.result c.requires
    c.split_at.ensures.by_index.0 some refl c.split_at_mut-low_ports.ensures.front_len in
    low_phase (Accepts g.F.Fn c.args.f.now) c.args.first _ c.args.calls.now c.args.ports.now c.args.answers.now c.split_at.result.0.now
    c.split_at.result.1.now c.split_at_mut-low_ports.result.0.now c.split_at_mut-low_ports.result.1.now c.split_at_mut-low_answers.result.0.now
    c.split_at_mut-low_answers.result.1.now c.requires c.split_at.ensures.by_index.0 c.split_at_mut-low_ports.ensures.value cut
    (c.split_at_mut-low_answers.ensures.front_len ∙ sym c.split_at.ensures.front_len)

pub at_each-both_halves-requires-clause-high : goal.at_each-both_halves-requires-clause-high
at_each-both_halves-requires-clause-high g t c κs within =
    let some = some_back c.args.calls.now c.split_at.result.0.now c.split_at.result.1.now c.if-calls-lt2.false c.split_at.ensures.by_index.0
    c.split_at.ensures.front_len in
    let cut = cut_at (Accepts g.F.Fn c.args.f.now) c.args.first _ c.args.calls.now c.args.ports.now c.args.answers.now c.split_at.result.0.now
    c.split_at.result.1.now c.split_at_mut-low_ports.result.0.now c.split_at_mut-low_ports.result.1.now c.index-high-0.result c.requires
    c.split_at.ensures.by_index.0 some refl c.split_at_mut-low_ports.ensures.front_len in
    high_phase (Accepts g.F.Fn c.args.f.now) c.args.first _ c.args.calls.now c.args.ports.now c.args.answers.now c.split_at.result.0.now
    c.split_at.result.1.now c.split_at_mut-low_ports.result.0.now c.split_at_mut-low_ports.result.1.now c.split_at_mut-low_answers.result.0.now
    c.split_at_mut-low_answers.result.1.now c.requires c.split_at.ensures.by_index.0 c.split_at_mut-low_ports.ensures.value cut
    (backs c.args.calls.now c.split_at.result.0.now c.split_at.result.1.now c.args.answers.now c.split_at_mut-low_answers.result.0.now
    c.split_at_mut-low_answers.result.1.now _ c.requires.room c.split_at.ensures.by_index.0 c.split_at_mut-low_answers.ensures.value
    c.split_at.ensures.front_len c.split_at_mut-low_answers.ensures.front_len)

pub at_each-returns : goal.at_each-returns
at_each-returns g t c =
    let some = some_back c.args.calls.now c.split_at.result.0.now c.split_at.result.1.now c.if-calls-lt2.false c.split_at.ensures.by_index.0
    c.split_at.ensures.front_len in
    let cut = cut_at (Accepts g.F.Fn c.args.f.now) c.args.first _ c.args.calls.now c.args.ports.now c.args.answers.now c.split_at.result.0.now
    c.split_at.result.1.now c.split_at_mut-low_ports.result.0.now c.split_at_mut-low_ports.result.1.now c.index-high-0.result c.requires
    c.split_at.ensures.by_index.0 some refl c.split_at_mut-low_ports.ensures.front_len in
    all_made (Makes g.F.Fn c.args.f.now) c.args.first _ c.args.calls.now c.split_at.result.0.now c.split_at.result.1.now c.args.ports.now
    c.split_at_mut-low_ports.result.0.now c.split_at_mut-low_ports.result.1.now c.both_halves.new.low_ports c.both_halves.new.high_ports
    c.both_halves.new.low_answers c.both_halves.new.high_answers c.split_at.ensures.by_index.0 c.split_at_mut-low_ports.ensures.value cut.cut
    c.both_halves.ensures.low c.both_halves.ensures.high
