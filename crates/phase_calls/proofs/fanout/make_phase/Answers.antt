use Rattle.std.proofs.Common.{◌<◌, length, rules, refl}
use Rattle.phase_calls.proofs.fanout.make_phase.Goals as goal

pub f-requires : goal.f-requires
f-requires g c =
    let some : 0 < length c.args.calls.now = search rules in c.requires some _ _ _ refl refl refl
