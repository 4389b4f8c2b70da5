use Rattle.submissions.proofs.sound.sound_test_law.Goals as goal
use Rattle.submissions.proofs.Telling as laws

pub returns : goal.returns
returns c = laws.sound_test_law
