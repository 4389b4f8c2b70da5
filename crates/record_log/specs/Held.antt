-- What the bytes of a disk say as records, the oldest first.
use Rattle.std.specs.Prelude.{◌≡◌, ℕ, ◌≤◌, List, [], ◌∷◌, ◌++◌, length, map, All, Option, Some, None}
use Rattle.cbdc_model.specs.Records.{Header, Record}
use Rattle.cbdc_model.specs.Grammar.{IsInGrammar}
use Rattle.record_log.specs.Bodies.{body_of}
use Rattle.record_log.specs.Exact.{IsFirstRecord}
use Rattle.gate_journal.specs.Rows.{row, rows, Opens, OpensWithOrWithout}
use Rattle.gate_journal.specs.Stands.{HoldsRows}

-- the bodies of these records
abbrev pub bodies_of : List Record → List (List ℕ)
bodies_of records = map body_of records

-- whole rows of these records, and then a closed gate
abbrev pub OpensTo : List Record → List ℕ → Type 0
OpensTo records bytes = Opens (bodies_of records) bytes

-- the same, or with one record more, where one is in flight
abbrev pub OpensToEither : List Record → Option Record → List ℕ → Type 0
OpensToEither records None bytes = OpensTo records bytes
OpensToEither records (Some r) bytes = OpensWithOrWithout (bodies_of records) (body_of r) bytes

-- a disk with this content and these images holds these records, with its closing gate at this place
abbrev pub HoldsRecords : Option (List ℕ) → (List ℕ → Type 0) → ℕ → List Record → Type 0
HoldsRecords content images gate records = HoldsRows content images gate (bodies_of records)

-- a whole row of a record with the property, and at least one byte behind it
pub record HasRow (P : Record → Type 0) (bytes : List ℕ) : Type 0 where
  pub what : Record
  pub more : List ℕ
  pub parts : bytes ≡ row (body_of what) ++ more
  pub behind : 1 ≤ length more
  pub has : P what

-- an open gate
abbrev pub IsGateOpen : List ℕ → Type 0
IsGateOpen [] = ⊥
IsGateOpen (gate ∷ rest) = gate ≡ 1

-- whole rows of these records, and then an open gate with no whole row of a record with the property
pub record CutsOff (P : Record → Type 0) (records : List Record) (at : ℕ) (bytes : List ℕ) : Type 0 where
  pub rest : List ℕ
  pub parts : bytes ≡ rows (bodies_of records) ++ rest
  pub place : at ≡ length (rows (bodies_of records))
  pub opened : IsGateOpen rest
  pub none : HasRow P rest → ⊥

-- no first record is whole: the disk is not ready
abbrev pub HasNoRecord : List ℕ → Type 0
HasNoRecord bytes = HasRow IsFirstRecord bytes → ⊥

-- records that a journal with this header may hold: a first record under its own header, and then records of the grammar
abbrev pub MayHold : Header → List Record → Type 0
MayHold h [] = ⊥
MayHold h (r ∷ later) = IsFirstRecord r × All (IsInGrammar h) (r ∷ later)
