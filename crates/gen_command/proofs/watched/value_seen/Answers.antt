use Rattle.std.proofs.Common.{ℕ, List, arith}
use Rattle.cbdc_model.specs.Records.{Record}
use Rattle.file_runs.specs.Looking.{AreLooks}
use Rattle.gen_command.proofs.Looked.{first_so, lists_some}
use Rattle.gen_command.proofs.watched.value_seen.Goals as goal

pub verdict_on-requires-clause-some : goal.verdict_on-requires-clause-some
verdict_on-requires-clause-some g c κs k =
    let looks = first_so c.args.waves.now c.in-Some.lists.now (λ lists. (X : ℕ → List Record) × AreLooks c.args.shape.now X lists) c.in-Some.ensures
    c.requires.looks in
    let many = looks.1.many in
    let limits = c.requires.limits in
    let one = limits.some_coordinator in
    omega (arith, many, one)

pub verdict_on-requires-clause-few : goal.verdict_on-requires-clause-few
verdict_on-requires-clause-few g c κs k =
    let looks = first_so c.args.waves.now c.in-Some.lists.now (λ lists. (X : ℕ → List Record) × AreLooks c.args.shape.now X lists) c.in-Some.ensures
    c.requires.looks in
    let many = looks.1.many in
    let limits = c.requires.limits in
    let coordinators = limits.coordinators in
    let shards = limits.shards in
    omega (arith, many, coordinators, shards)

pub verdict_on-requires-clause-full : goal.verdict_on-requires-clause-full
verdict_on-requires-clause-full g c κs k n inside =
    let looks = first_so c.args.waves.now c.in-Some.lists.now (λ lists. (X : ℕ → List Record) × AreLooks c.args.shape.now X lists) c.in-Some.ensures
    c.requires.looks in
    lists_some c.args.shape.now looks.0 c.in-Some.lists.now looks.1 n inside
