use Rattle.submissions.proofs.sound.is_sound_law.Goals as goal
use Rattle.submissions.proofs.Telling as laws

pub returns : goal.returns
returns c = laws.is_sound_law
