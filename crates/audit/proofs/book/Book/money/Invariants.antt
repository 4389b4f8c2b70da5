use Rattle.std.proofs.Common.{◌≡◌, ◌≤◌, ◌+◌, ◌*◌, ◌^◌, ◌-◌, length, sum_by}
use Rattle.std.specs.HashMap.{values}
use Rattle.cbdc_model.specs.Money.{money_of}
use Rattle.audit.proofs.book.Book.money.Given as goal

abbrev pub invariant-outputs : goal.invariant-outputs
invariant-outputs l =
    (l.money + sum_by money_of l.output-iterator ≡ sum_by money_of (values l.self.outputs))
    × (l.money + length l.output-iterator * (2 ^ 64 - 1) ≤ 2 ^ 63 * (2 ^ 64 - 1))
