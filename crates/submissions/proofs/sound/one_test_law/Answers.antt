use Rattle.submissions.proofs.sound.one_test_law.Goals as goal
use Rattle.submissions.proofs.Telling as laws

pub returns : goal.returns
returns c = laws.one_test_law
