use Rattle.std.proofs.Common.{◌<◌, length, refl, sym, subst}
use Rattle.shard_replica.specs.Groups.{Group}
use Rattle.replica_group.proofs.Small.{small_written}
use Rattle.replica_group.proofs.group.Group.take_hello.Goals as goal

pub invariant_of-self-2 : goal.invariant_of-self-2
invariant_of-self-2 c = let own = c.self.inside in
    let there : c.args.to < length own.members.items = subst (λ (g : Group). c.args.to < length g.members) (sym c.self.view_is) c.requires in
    small_written own.primary own.term (length own.known.items) c.args.to own.members.len own.members.items c.deref_mut.result.now
    c.follow.new.members _
    c.self.invariant own.members.ok.0 c.deref_mut.ensures.value there c.in_ok-follow.ensures.ok refl
