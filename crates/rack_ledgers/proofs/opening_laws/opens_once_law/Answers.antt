use Rattle.rack_ledgers.proofs.opening_laws.opens_once_law.Goals as goal
use Rattle.rack_ledgers.proofs.Once as laws

pub returns : goal.returns
returns c = laws.opens_once_law
