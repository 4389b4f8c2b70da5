use Rattle.command_line.proofs.laws.taken_law.Goals as goal
use Rattle.command_line.proofs.Taken as laws

pub returns : goal.returns
returns c = laws.taken_law
