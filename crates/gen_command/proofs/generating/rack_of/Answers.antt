use Rattle.std.proofs.Common.{ap, arith, subst, ℕ, ◌+◌, ◌*◌}
use Rattle.command_answers.proofs.Results.{if_ok_by}
use Rattle.mirror_devices.specs.Empty.{copies_at}
use Rattle.mirror_devices.specs.MirrorRacks.{IsEmptyAt}
use Rattle.gen_command.proofs.generating.rack_of.Goals as goal

pub returns-clause-empty : goal.returns-clause-empty
returns-clause-empty c =
    let coordinators = c.coordinators-coordinators.ensures.value in
    let shards = c.shards.ensures.value in
    let limits = c.coordinators-coordinators.ensures.limits in
    let few = limits.coordinators in
    let many = limits.shards in
    if_ok_by _ _ c.new.result (λ rack empty n inside.
    subst (λ (k : ℕ). IsEmptyAt rack (copies_at k c.args.replicas n) (4096 + 400 * c.args.count) n) coordinators
    (empty n (omega (arith, inside, coordinators, shards)) (omega (arith, inside, few, many)))) c.new.ensures.empty
