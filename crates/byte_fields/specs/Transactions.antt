-- Reading transactions from left to right, with the first fault that is met.
use Rattle.std.specs.Prelude.{ℕ, List, take, drop, Result, Ok, Err, nat_lt, if◌then◌else◌}
use Rattle.cbdc_types.specs.declared.tx.OutPoint.{OutPoint}
use Rattle.cbdc_types.specs.declared.tx.Output.{Output}
use Rattle.cbdc_types.specs.declared.tx.Input.{Input}
use Rattle.cbdc_types.specs.declared.tx.FullTx.{FullTx}
use Rattle.base_types.specs.declared.faults.InputKind.TheVariants.{TooLong}
use Rattle.byte_fields.specs.declared.fault.Fault.{Fault}
use Rattle.byte_fields.specs.Faults.{◌>>=◌, fault}
use Rattle.byte_fields.specs.Reading.{field_at, number_of, number_at, hash_of, list_at}

-- the output that 40 bytes spell
unfoldable pub output_of : List ℕ → Output
output_of bytes = record { program = hash_of bytes; value = number_of (drop 32 bytes) }

-- the outpoint that the first 40 bytes of an input spell
abbrev pub point_of : List ℕ → OutPoint
point_of bytes = record { tx = hash_of bytes; index = number_of (drop 32 bytes) }

-- the input that 80 bytes spell
unfoldable pub input_of : List ℕ → Input
input_of bytes = record { point = point_of (take 40 bytes); output = output_of (drop 40 bytes) }

-- the output at the front, a field of 40 bytes
abbrev pub output_at : List ℕ → Result (Output × List ℕ) Fault
output_at bytes = field_at 40 output_of bytes

-- the input at the front, a field of 80 bytes
abbrev pub input_at : List ℕ → Result (Input × List ℕ) Fault
input_at bytes = field_at 80 input_of bytes

-- a length of at most 4,096, and so many bytes
unfoldable pub witness_at : List ℕ → Result (List ℕ × List ℕ) Fault
witness_at bytes = do
  n ← number_at bytes
  if nat_lt 4096 n.0 then Err (fault TooLong bytes) else field_at n.0 (λ w. w) n.1

-- a transaction at the front
unfoldable pub transaction_at : List ℕ → Result (FullTx × List ℕ) Fault
transaction_at bytes = do
  inputs ← list_at 255 input_at bytes
  outputs ← list_at 255 output_at inputs.1
  witnesses ← list_at 255 witness_at outputs.1
  Ok (record { inputs = inputs.0; outputs = outputs.0; witnesses = witnesses.0 }, witnesses.1)
