use Rattle.std.proofs.Common.{rules, ◌≡◌, ◌≤◌, ℕ, true, length, replicate, get_or, refl, ap, arith}
use Rattle.std.proofs.lemmas.List.{length-replicate}
use Rattle.shard_replica.specs.Groups.{no_member}
use Rattle.replica_group.proofs.Small.{small_handed}
use Rattle.replica_group.proofs.group.Group.promote.Goals as goal

pub invariant_of-self-2 : goal.invariant_of-self-2
invariant_of-self-2 c = let own = c.self.inside in
    let here : (get_or own.members.items c.args.b no_member).inside ≡ true = search rules in
    let other : c.args.b ≡ own.primary → ⊥ = search rules in
    let count : length c.in_ok-known.known.items ≡ length (replicate {A = ℕ} c.len.result 0) = ap length c.in_ok-known.ensures in
    let few : length c.in_ok-known.known.items ≤ 4 =
    omega (arith, count, length-replicate {A = ℕ} c.len.result 0, c.len.ensures, own.known.ok.0, c.self.invariant.few_known) in
    small_handed own.primary own.term (length own.known.items) (length c.in_ok-known.known.items) c.args.b own.members.len own.members.items
    c.deref_mut.result.now
    c.hand_over.new.members _ _ c.self.invariant own.members.ok.0 c.deref_mut.ensures.value c.hand_over.ensures few here other refl refl
