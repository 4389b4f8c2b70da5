-- What client files and mint files hold, and the first fault of one.
use Rattle.std.specs.Prelude.{◌≡◌, ℕ, ◌+◌, ◌-◌, ◌==◌, List, [], ◌∷◌, length, take, Bool, true, false, Option, Some, None, Result, Ok, Err, nat_lt}
use Rattle.std.specs.Prelude.{if◌then◌else◌}
use Rattle.base_types.specs.declared.faults.InputKind.{InputKind}
use Rattle.base_types.specs.declared.faults.InputKind.TheVariants.{Cut, TooMany, TooLong, Zero, Extra, Large, Form, Repeated}
use Rattle.cbdc_types.specs.declared.tx.Output.{Output}
use Rattle.cbdc_types.specs.declared.tx.FullTx.{FullTx}
use Rattle.byte_fields.specs.declared.fault.Fault.{Fault}
use Rattle.byte_fields.specs.Faults.{◌>>=◌, fault}
use Rattle.byte_fields.specs.Reading.{number_at, items_at, list_at}
use Rattle.byte_fields.specs.Transactions.{output_at, transaction_at}
use Rattle.client_files.specs.declared.fault.BadFile.{BadFile}
use Rattle.client_files.specs.declared.fault.FileFault.{FileFault}
use Rattle.client_files.specs.declared.fault.FileFault.TheVariants.{Bad, Memory}

-- the bytes of a file that are read: the first 2^30
abbrev pub front : List ℕ → List ℕ
front c = take 1073741824 c

-- whether a file goes on behind them
abbrev pub goes_on : List ℕ → Bool
goes_on c = nat_lt 1073741824 (length c)

-- a file that goes on is cut nowhere: the field reaches past the first 2^30 bytes
abbrev pub bad_at : ℕ → Bool → ℕ → InputKind → BadFile
bad_at len true left Cut = record { at = 1073741824; kind = Large }
bad_at len more left kind = record { at = len - left; kind = kind }

-- the place of a fault in a file of which this many bytes were had
abbrev pub placed : {X : Type 0} → ℕ → Bool → Result X Fault → Result X BadFile
placed len more (Ok x) = Ok x
placed len more (Err f) = Err (bad_at len more f.left f.kind)

-- what is wrong behind the items: a file ends there
abbrev pub extra : Bool → List ℕ → Option Fault
extra true rest = Some (fault Extra rest)
extra false [] = None
extra false (b ∷ bs) = Some (fault Extra (b ∷ bs))

-- the items that were read, unless something is wrong behind them
abbrev pub ended_by : {X : Type 0} → X → Option Fault → Result X Fault
ended_by items None = Ok items
ended_by items (Some f) = Err f

-- the items that were read, with nothing behind them but the end
abbrev pub ended : {X : Type 0} → Bool → X × List ℕ → Result X Fault
ended more read = ended_by read.0 (extra more read.1)

-- so many transactions as a number says: with those of the files before it at most 1,000,000
unfoldable pub counted_behind : ℕ → List ℕ → Result (List FullTx × List ℕ) Fault
counted_behind before bytes = do
  n ← number_at bytes
  if nat_lt 1000000 (before + n.0) then Err (fault TooMany bytes) else items_at transaction_at n.0 n.1

-- the transactions of a client file, or its first bad field: their number, which with those of the files before it is at most 1,000,000, the
-- transactions, and the end
abbrev pub clients_in : ℕ → Bool → List ℕ → Result (List FullTx) BadFile
clients_in before more bytes = placed (length bytes) more (counted_behind before bytes >>= ended more)

-- an output of value at least 1
abbrev pub minted_at : List ℕ → Result (Output × List ℕ) Fault
minted_at bytes = output_at bytes >>= λ read. if read.0.value == 0 then Err (fault Zero bytes) else Ok read

-- the outputs of a mint file, or its first bad field: at most 1,000,000, each of value at least 1, and the end
abbrev pub mint_in : Bool → List ℕ → Result (List Output) BadFile
mint_in more bytes = placed (length bytes) more (list_at 1000000 minted_at bytes >>= ended more)

-- what was returned is what the file holds, unless memory ran out
abbrev pub GivesFile : {X : Type 0} → Result X FileFault → Result X BadFile → Type 0
GivesFile (Ok x) file = file ≡ Ok x
GivesFile (Err Memory) file = Unit {0}
GivesFile (Err (Bad bad)) file = file ≡ Err bad
