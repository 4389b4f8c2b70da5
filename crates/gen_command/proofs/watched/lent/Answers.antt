use Rattle.gen_command.proofs.Lending.{list_more}
use Rattle.gen_command.proofs.watched.lent.Goals as goal

pub lists-preserved : goal.lists-preserved
lists-preserved c =
    list_more c.lists.all.items c.push.new.self.items c.as_slice.result c.args.lists.now c.lists.list-index c.list-item.result c.lists-test.true
    c.list-item.is c.in_ok-push.ensures.items c.as_slice.ensures.value c.lists.invariant
