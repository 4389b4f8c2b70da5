use Rattle.std.proofs.Common.{◌≡◌, ◌≤◌, ◌*◌, ◌^◌, ◌-◌, take, sum_by}
use Rattle.audit.proofs.auditing.minted.Given as goal

abbrev pub invariant-outputs : goal.invariant-outputs
invariant-outputs l = (l.minted ≡ sum_by (λ o. o.value) (take l.output-index l.mint)) × (l.minted ≤ l.output-index * (2 ^ 64 - 1))
