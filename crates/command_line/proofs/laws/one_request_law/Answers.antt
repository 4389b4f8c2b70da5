use Rattle.command_line.proofs.laws.one_request_law.Goals as goal
use Rattle.command_line.proofs.Single as laws

pub returns : goal.returns
returns c = laws.one_request_law
