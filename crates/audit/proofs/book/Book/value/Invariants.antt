use Rattle.std.proofs.Common.{◌≡◌, ◌≤◌, ◌+◌, ◌*◌, ◌^◌, ◌-◌, length, sum_by}
use Rattle.std.specs.HashMap.{values}
use Rattle.audit.proofs.book.Book.value.Given as goal

abbrev pub invariant-outputs : goal.invariant-outputs
invariant-outputs l =
    (l.value + sum_by (λ o. o.value) l.output-iterator ≡ sum_by (λ o. o.value) (values l.self.outputs))
    × (l.value + length l.output-iterator * (2 ^ 64 - 1) ≤ 2 ^ 63 * (2 ^ 64 - 1))
