use Rattle.plain_check.proofs.caused.is_caused.Goals as goal

pub returns-in-Lock : goal.returns-in-Lock
returns-in-Lock c = rw c.in-Lock.is (rw c.as_slice.ensures at c.is_lock_caused.ensures)

pub returns-in-Finish : goal.returns-in-Finish
returns-in-Finish c = rw c.in-Finish.is (rw c.as_slice-in-Finish.ensures at c.is_finish_caused.ensures)
