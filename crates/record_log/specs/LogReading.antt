-- What is read of bodies.
use Rattle.std.specs.Prelude.{◌≡◌, ℕ, ◌-◌, ◌^◌, min, List, [], ◌∷◌, ◌++◌, length, Option, Some, None}
use Rattle.cbdc_types.specs.declared.calls.NodeOpenFault.{NodeOpenFault}
use Rattle.cbdc_types.specs.declared.calls.NodeOpenFault.TheVariants.{DiskFault, NotReady, Memory}
use Rattle.cbdc_model.specs.Records.{Header, Record}
use Rattle.cbdc_model.specs.Grammar.{IsInGrammar}
use Rattle.record_log.specs.Exact.{IsBody, IsFirstBody}
use Rattle.gate_journal.specs.Rows.{rows}
use Rattle.record_log.specs.Held.{bodies_of, CutsOff, HasNoRecord, MayHold}
use Rattle.record_log.specs.declared.opening.NoLog.{NoLog}
use Rattle.record_log.specs.declared.opening.NoLog.TheVariants.{Fault, Cut}

-- bytes of rows, as far as a number tells them
abbrev pub place_behind : List Record → ℕ
place_behind records = min (length (rows (bodies_of records))) (2 ^ 64 - 1)

-- behind these records stands a body of none, at this place
pub record StopsAt (h : Header) (records : List Record) (at : ℕ) (bodies : List (List ℕ)) : Type 0 where
  pub next : List ℕ
  pub rest : List (List ℕ)
  pub parts : bodies ≡ bodies_of records ++ next ∷ rest
  pub none : (r : Record) → IsBody h next r → ⊥
  pub place : at ≡ place_behind records

-- the bodies spell these records; or they do up to a place
abbrev pub SpellRecords : Header → List Record → Option ℕ → List (List ℕ) → Type 0
SpellRecords h records None bodies = bodies ≡ bodies_of records
SpellRecords h records (Some at) bodies = StopsAt h records at bodies

-- the first body is no first record, or there is none
abbrev pub IsNoFirstBody : List (List ℕ) → Type 0
IsNoFirstBody [] = Unit {0}
IsNoFirstBody (b ∷ bodies) = (r : Record) → IsFirstBody b r → ⊥

-- why bodies spell no journal
abbrev pub IsUnread : List (List ℕ) → NodeOpenFault → Type 0
IsUnread bodies NotReady = IsNoFirstBody bodies
IsUnread bodies Memory = Unit {0}
IsUnread bodies other = ⊥

-- why a disk's bytes are no journal of records
abbrev pub IsNoLog : List ℕ → NoLog → Type 0
IsNoLog bytes (Fault NotReady) = HasNoRecord bytes
IsNoLog bytes (Fault DiskFault) = Unit {0}
IsNoLog bytes (Fault Memory) = Unit {0}
IsNoLog bytes (Fault other) = ⊥
IsNoLog bytes (Cut h records at) = MayHold h records.items × CutsOff (IsInGrammar h) records.items at bytes

-- the records before a cut are those of a journal
abbrev pub HoldsBefore : NoLog → Type 0
HoldsBefore (Cut h records at) = MayHold h records.items
HoldsBefore (Fault fault) = Unit {0}
