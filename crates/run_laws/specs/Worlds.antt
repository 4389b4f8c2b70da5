-- What is counted of what is in flight.
use Rattle.std.specs.Prelude.{ℕ, Bool, List, if◌then◌else◌}
use Rattle.cbdc_model.specs.Records.{Record}
use Rattle.cbdc_model.specs.World.{World, node_at, journals, flushed}

-- the journals, with those records in flight that are counted
abbrev pub with_flights : (ℕ → Bool) → World → ℕ → List Record
with_flights counts w n = if counts n then flushed (node_at w n).flight (journals w n) else journals w n
