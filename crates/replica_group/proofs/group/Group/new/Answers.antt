use Rattle.std.proofs.Common.{◌≡◌, ◌+◌, ◌≤◌, ℕ, length, replicate, refl, ap, arith}
use Rattle.std.proofs.lemmas.List.{length-replicate}
use Rattle.replica_group.proofs.Small.{small_begun}
use Rattle.replica_group.proofs.group.Group.new.Goals as goal

pub invariant_of-result : goal.invariant_of-result
invariant_of-result c =
    let count : length c.in_ok-zeroes.field-0.items ≡ length (replicate {A = ℕ} (c.args.backups + 1) 0) = ap length c.in_ok-zeroes.ensures in
    let few : length c.in_ok-zeroes.field-0.items ≤ 4 = omega (arith, count, length-replicate {A = ℕ} (c.args.backups + 1) 0, c.requires) in
    small_begun (c.args.backups + 1) (length c.in_ok-zeroes.field-0.items) _ c.in_ok-first_members.field-0.items c.in_ok-first_members.ensures refl
    (omega arith) (omega (arith, c.requires)) few
