-- Which record a body is.
use Rattle.std.specs.Prelude.{◌≡◌, ℕ, List, Result, Ok, Err}
use Rattle.cbdc_types.specs.Limits.{IsWithinLimits}
use Rattle.cbdc_model.specs.Records.{Header, Record, Genesis, Start, Carry, CarryStart}
use Rattle.cbdc_model.specs.Grammar.{IsInGrammar}
use Rattle.record_log.specs.declared.fault.RecordFault.{RecordFault}
use Rattle.record_log.specs.declared.fault.RecordFault.TheVariants.{NotARecord, Memory}
use Rattle.record_log.specs.Bodies.{body_of}

-- the bytes are the body of this record, which may stand in a journal with this header
abbrev pub IsBody : Header → List ℕ → Record → Type 0
IsBody h bytes r = (bytes ≡ body_of r) × IsInGrammar h r

-- a record that a journal may begin with: a Genesis or a Start under its own header
abbrev pub IsFirstRecord : Record → Type 0
IsFirstRecord (Genesis header hs) = IsWithinLimits header.shape × IsInGrammar header (Genesis header hs)
IsFirstRecord (Carry stamp header source hs numbers) = IsWithinLimits header.shape × IsInGrammar header (Carry stamp header source hs numbers)
IsFirstRecord (Start header) = IsWithinLimits header.shape × IsInGrammar header (Start header)
IsFirstRecord (CarryStart stamp header source numbers) = IsWithinLimits header.shape × IsInGrammar header (CarryStart stamp header source numbers)
IsFirstRecord other = ⊥

-- the bytes are the body of this first record
abbrev pub IsFirstBody : List ℕ → Record → Type 0
IsFirstBody bytes r = (bytes ≡ body_of r) × IsFirstRecord r

-- this record was read, unless memory ran out
abbrev pub ReadsRecord : Record → Result Record RecordFault → Type 0
ReadsRecord r (Ok q) = q ≡ r
ReadsRecord r (Err NotARecord) = ⊥
ReadsRecord r (Err Memory) = Unit {0}
