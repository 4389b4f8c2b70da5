use Rattle.ledger_laws.proofs.Counts.{same_digest_self}
use Rattle.audit.proofs.Standing.{gone}
use Rattle.audit.proofs.statuses.Statuses.set.Goals as goal

pub insert-requires-in-Locked-clause-absent : goal.insert-requires-in-Locked-clause-absent
insert-requires-in-Locked-clause-absent c = gone _ _ _ (same_digest_self c.args.x.now) (c.remove-in-Locked-2.ensures.kept c.args.x.now)
