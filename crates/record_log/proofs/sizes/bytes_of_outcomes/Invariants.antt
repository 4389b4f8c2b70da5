use Rattle.std.proofs.Common.{◌≡◌, ◌-◌, ◌^◌, min, take}
use Rattle.std.specs.Prelude.{sum_by}
use Rattle.cbdc_model.specs.Room.{outcome_size}
use Rattle.record_log.proofs.sizes.bytes_of_outcomes.Given as goal

abbrev pub invariant-outcomes : goal.invariant-outcomes
invariant-outcomes l = l.total ≡ min (sum_by outcome_size (take l.outcome-index l.outcomes)) (2 ^ 64 - 1)
