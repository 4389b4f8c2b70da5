use Rattle.std.proofs.Common.{sym, ap, ◌∙◌}
use Rattle.shard_replica.specs.Groups.{promoted}
use Rattle.replica_group.proofs.Greeting.{hellos_more, hellos_same}
use Rattle.replica_group.proofs.group.Group.hellos_of.Goals as goal
use Rattle.replica_group.proofs.group.Group.hellos_of.Goals.{then-is_greeted+in_ok-put_hello, else-is_greeted}

pub members-preserved : goal.members-preserved
members-preserved c =
    let g = c.args.self.now in
    elim c.if-is_greeted.branch [
      | then-is_greeted+in_ok-put_hello w ↦ hellos_more (promoted c.args.self.now c.args.b) c.args.b c.args.term c.args.place c.members.n
          c.args.last.now c.members.all.items c.if-is_greeted.all.items c.members.invariant
          (sym c.is_greeted.ensures ∙ w.if-is_greeted.true) (ap (λ v. v.items) w.all-is ∙ w.in_ok-put_hello.ensures)
      | else-is_greeted w ↦ hellos_same (promoted c.args.self.now c.args.b) c.args.b c.args.term c.args.place c.members.n c.args.last.now
          c.members.all.items c.if-is_greeted.all.items c.members.invariant
          (sym c.is_greeted.ensures ∙ w.if-is_greeted.false) (ap (λ v. v.items) w.all-is)
    ]
