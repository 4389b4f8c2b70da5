use Rattle.std.proofs.Common.{◌≡◌, ℕ, length, subst, arith}
use Rattle.rack_ledgers.specs.Blank.{AreWholeRecords}
use Rattle.rack_ledgers.proofs.Wholes.{cut_whole}
use Rattle.rack_ledgers.proofs.blank.records_of.Goals as goal

pub returns-in-Cut-clause-whole : goal.returns-in-Cut-clause-whole
returns-in-Cut-clause-whole c = λ bytes is.
    let cut = rw c.in-Cut.is at is in
    let len : length c.in-Cut.records.items ≡ c.len.result = omega (arith, c.len.ensures, c.in-Cut.records.ok) in
    subst (λ (n : ℕ). AreWholeRecords n bytes) len (cut_whole c.in-Cut.header c.in-Cut.records.items c.in-Cut.at bytes cut.0 cut.1)
