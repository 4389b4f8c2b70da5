use Rattle.plain_check.proofs.turns.happen.Goals as goal

pub returns-in-Reopen-clause-ok : goal.returns-in-Reopen-clause-ok
returns-in-Reopen-clause-ok c = λ hashes. rw c.in-Reopen.is (c.reopen.ensures hashes)
