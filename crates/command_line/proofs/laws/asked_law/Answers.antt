use Rattle.command_line.proofs.laws.asked_law.Goals as goal
use Rattle.command_line.proofs.Refused as laws

pub returns : goal.returns
returns c = laws.asked_law
