-- An audit of a kept ledger that a rack shows finds nothing wrong.
use Rattle.std.proofs.Common.{ℕ, List, Option, subst, arith}
use Rattle.outside.specs.declared.disk.Disk.{Ghosts}
use Rattle.cbdc_types.specs.declared.answer.UnsoundKind.{UnsoundKind}
use Rattle.cbdc_model.specs.Records.{Shape, Record}
use Rattle.cbdc_model.specs.Coins.{Output, FullTx, genesis_id}
use Rattle.cbdc_model.specs.Clean.{Clean}
use Rattle.cbdc_model.specs.World.{AreIdle}
use Rattle.ledger_laws.proofs.Recovery.{idle_law}
use Rattle.audit.specs.declared.verdict.Verdict.TheVariants.{Unsound}
use Rattle.audit.specs.Verdicts.{IsVerdict}
use Rattle.rack_ledgers.specs.Audited.{IsAudited}
use Rattle.rack_laws.specs.Ready.{ShowsKept}
use Rattle.rack_laws.proofs.Caused.{told_shape, told_journals}
use Rattle.rack_laws.proofs.Sound.{never_unsound}

pub audit_sound : {D : Type 0} (device : Ghosts D) (held : ℕ → Option D) (K : Shape) (mint : List Output) (handed : List FullTx)
    (E : ℕ → List Record) → ShowsKept device held K mint handed E → AreIdle K E → Clean mint handed
    → (place : ℕ) (kind : UnsoundKind) → IsAudited device held mint handed (Unsound place kind) → ⊥
audit_sound device held K mint handed E ready idle clean place kind audited =
    let shape = told_shape device held K mint handed E ready audited.shape (genesis_id mint) audited.rows audited.history in
    let journals = told_journals device held K mint handed E ready audited.shape (genesis_id mint) audited.rows audited.history in
    let limits = ready.limits in
    never_unsound K mint handed E ready.limits (λ n inside. (let s = ready.shown n inside in s.2.2.journal)) ready.kept audited.rows journals
    audited.history.ordered idle
    (idle_law K mint handed E (omega (arith, limits.some_shard)) (omega (arith, limits.some_lane)) clean ready.kept idle) place kind
    (subst (λ (k : Shape). IsVerdict k mint handed audited.rows (Unsound place kind)) shape audited.is)
