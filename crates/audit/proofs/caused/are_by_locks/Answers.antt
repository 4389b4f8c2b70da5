use Rattle.audit.proofs.caused.are_by_locks.Goals as goal

pub returns : goal.returns
returns c = λ J h. rw (c.as_slice.ensures.value, c.in_ok-decided.ensures J h, c.txs_of-txs.ensures J h, c.home_of.ensures) at c.are_outcomes.ensures
