-- How a reader's fault is told of a record.
use Rattle.std.specs.Prelude.{◌≡◌}
use Rattle.byte_fields.specs.declared.fault.ReadError.{ReadError}
use Rattle.byte_fields.specs.declared.fault.ReadError.TheVariants as errors
use Rattle.record_log.specs.declared.fault.RecordFault.{RecordFault}
use Rattle.record_log.specs.declared.fault.RecordFault.TheVariants.{NotARecord, Memory}

-- how a reader's fault is told
abbrev pub IsReadFault : ReadError → RecordFault → Type 0
IsReadFault errors.Memory f = f ≡ Memory
IsReadFault (errors.Bad b) f = f ≡ NotARecord
