use Rattle.plain_check.proofs.caused.are_by_locks.Goals as goal

pub returns : goal.returns
returns c = rw (c.as_slice.ensures, c.in_ok-decided.ensures, c.txs_of-txs.ensures, c.home_journal.ensures) at c.are_outcomes.ensures
