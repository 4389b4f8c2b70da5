use Rattle.std.proofs.Common.{◌<◌, ℕ, length, sym, subst}
use Rattle.std.specs.List.{All}
use Rattle.cbdc_model.specs.Calls.{IsForgetCall}
use Rattle.lane_laws.specs.Answers.{ForgetAnswer}
use Rattle.phase_calls.specs.Phase.{MakesAll, IsPhaseAsked, IsPhaseMade, IsPhaseTold, Forgets, IsStampAnswer}
use Rattle.phase_calls.proofs.Telling.{beside, only, made_in, phase_told, set_told}
use Rattle.phase_calls.proofs.fanout.FanoutPortSetPhaseGate.forget.Goals as goal

pub make_phase-requires : goal.make_phase-requires
make_phase-requires g c =
    let P = g.P.ShardPort in
    let calls = c.args.calls.now in
    let Served : _ → Type 0 = λ (d : ℕ × _). All (λ q. P.serves q d.1.batch.lane) c.args.self.now.ports.items in
    let Makers = MakesAll g.L.Fn g.N.Fn g.T.Fn P.sight P.serves P.alone P.at P.faults P.holds in
    λ (some : 0 < length calls). (beside Served Makers calls some c.requires.mine).forget.takes c.args.gate.now.forget.now calls c.args.out.now
    c.as_mut_slice.result.now
    (subst (λ ps. IsPhaseAsked IsForgetCall (λ d. d.batch.lane) P.sight P.serves calls c.args.out.now ps) (sym c.as_mut_slice.ensures.value)
    record {
      shards = c.requires.shards;
      fit = c.requires.calls;
      mine = only Served Makers calls c.requires.mine;
      empty = c.requires.empty;
      room = c.requires.room;
    })

pub returns : goal.returns
returns g c =
    let P = g.P.ShardPort in
    let calls = c.args.calls.now in
    let ports = c.args.self.now.ports in
    let answers = c.make_phase.new.out.items in
    let Served : _ → Type 0 = λ (d : ℕ × _). All (λ q. P.serves q d.1.batch.lane) ports.items in
    let Makers = MakesAll g.L.Fn g.N.Fn g.T.Fn P.sight P.serves P.alone P.at P.faults P.holds in
    let makes = Forgets P.sight P.serves P.alone P.at P.faults P.holds in
    let told : IsPhaseTold makes calls c.args.out.now c.as_mut_slice.result.now c.make_phase.new.out c.make_phase.new.ports =
    phase_told makes calls c.args.out.now c.as_mut_slice.result.now c.make_phase.new.out c.make_phase.new.ports c.requires.empty
    c.make_phase.ensures.none
    (λ some. (beside Served Makers calls some c.requires.mine).forget.tells c.args.gate.now.forget.now calls c.args.out.now c.as_mut_slice.result.now
    c.make_phase.new.out c.make_phase.new.ports (c.make_phase.ensures.some some)) in
    let made = made_in makes calls ports c.make_phase.new.ports answers
    (subst (λ ps. IsPhaseMade makes 0 calls ps c.make_phase.new.ports answers) c.as_mut_slice.ensures.value told.made) in
    let set = set_told (ForgetAnswer P.alone) IsStampAnswer P.at P.sight P.faults P.holds P.serves (λ n m d s t a h. h) ports.items _ calls answers
    made in
    record {
      each = set.each;
      told = set.told_so;
      untouched = set.untouched;
      capacity = told.capacity;
      keeps = record {
        count_same = made.count;
        nodes = set.nodes;
        later = λ n. (set.nodes n).later;
        held = set.held;
        served = λ lane s. (set.served lane s.0, s.1);
      };
    }
