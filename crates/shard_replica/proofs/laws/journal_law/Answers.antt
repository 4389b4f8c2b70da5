use Rattle.shard_replica.proofs.laws.journal_law.Goals as goal
use Rattle.shard_replica.proofs.Journals as journals

pub returns : goal.returns
returns c = journals.journal_law
