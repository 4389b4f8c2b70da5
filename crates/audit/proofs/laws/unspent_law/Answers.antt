use Rattle.audit.proofs.Sound.{unspent_is_book}
use Rattle.audit.proofs.laws.unspent_law.Goals as goal

pub returns : goal.returns
returns c = unspent_is_book
