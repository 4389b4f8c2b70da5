-- The two kinds of node, by their headers and by the first records of their journals.
use Rattle.std.specs.Prelude.{◌<◌}
use Rattle.cbdc_types.specs.declared.calls.NodeOpenFault.{NodeOpenFault}
use Rattle.cbdc_types.specs.declared.calls.NodeOpenFault.TheVariants.{OtherKind, Memory}
use Rattle.cbdc_types.specs.Limits.{IsWithinLimits}
use Rattle.cbdc_model.specs.Records.{Header, Record, Genesis, Start, Carry, CarryStart}
use Rattle.cbdc_model.specs.Grammar.{IsInGrammar, IsShard}

-- the header names a coordinator
abbrev pub IsCoord : Header → Type 0
IsCoord h = h.node < h.shape.coordinators

-- the header names a shard
abbrev pub IsShardHeader : Header → Type 0
IsShardHeader h = IsShard h.shape h.node

-- a first record of a shard
abbrev pub IsGenesis : Record → Type 0
IsGenesis (Genesis header hs) = IsWithinLimits header.shape × IsInGrammar header (Genesis header hs)
IsGenesis (Carry stamp header source hs numbers) = IsWithinLimits header.shape × IsInGrammar header (Carry stamp header source hs numbers)
IsGenesis other = ⊥

-- a first record of a coordinator
abbrev pub IsStart : Record → Type 0
IsStart (Start header) = IsWithinLimits header.shape × IsInGrammar header (Start header)
IsStart (CarryStart stamp header source numbers) = IsWithinLimits header.shape × IsInGrammar header (CarryStart stamp header source numbers)
IsStart other = ⊥

-- why a first record begins no journal of the kind
abbrev pub IsUnbegun : (Record → Type 0) → Record → NodeOpenFault → Type 0
IsUnbegun IsOther r OtherKind = IsOther r
IsUnbegun IsOther r Memory = Unit {0}
IsUnbegun IsOther r other = ⊥
