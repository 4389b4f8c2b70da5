use Rattle.std.proofs.Common.{◌≡◌, ◌&&◌, ◌||◌, ℕ, List, drop}
use Rattle.cbdc_model.specs.Records.{Digest, Record}
use Rattle.cbdc_model.specs.Status.{has}
use Rattle.audit.specs.Rows.{read}
use Rattle.audit.specs.Knowing.{Knows}
use Rattle.audit.specs.Waiting.{is_due}
use Rattle.audit.proofs.sizes.add_due.Given as goal

abbrev pub invariant-hashes : goal.invariant-hashes
invariant-hashes l = (J : ℕ → List Record) → Knows (read l.journals) l.known J → (y : Digest)
    → (has l.owed.hashes y || (has (drop l.at l.xs) y && is_due l.shape J l.batch y))
    ≡ (has l.initial.owed.hashes y || (has l.xs y && is_due l.shape J l.batch y))
