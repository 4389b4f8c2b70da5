use Rattle.plain_check.proofs.following.follows.Goals as goal

pub returns-in-Prepare : goal.returns-in-Prepare
returns-in-Prepare c = rw c.in-Prepare.is (c.is_next_prepare.ensures c.in-Prepare.txs)
