-- What an output is: money, a permit to issue money, or burnt.
use Rattle.std.specs.Prelude.{replicate, nat_eq, if◌then◌else◌}
use Rattle.std.specs.List.{starts_with}
use Rattle.cbdc_types.specs.declared.tx.Output.{Output}
use Rattle.cbdc_types.specs.declared.tx.Kind.{Kind}
use Rattle.cbdc_types.specs.declared.tx.Kind.TheVariants.{Permit, Burn, Money}

-- a permit's program begins with 16 bytes 254, a burn's with 16 bytes 255; all else is money
unfoldable pub kind_of : Output → Kind
kind_of o =
    if starts_with nat_eq o.program (replicate 16 254) then Permit else
    if starts_with nat_eq o.program (replicate 16 255) then Burn else Money
