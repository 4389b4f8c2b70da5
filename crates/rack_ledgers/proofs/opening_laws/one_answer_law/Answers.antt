use Rattle.rack_ledgers.proofs.OneRefusal.{one_refusal_law, no_refusal_law}
use Rattle.rack_ledgers.proofs.opening_laws.one_answer_law.Goals as goal

pub returns : goal.returns
returns c = record { one = one_refusal_law; none = no_refusal_law }
