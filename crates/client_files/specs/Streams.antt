-- A client file read in pieces: what was read of it so far, and what is said of the whole file before all of it was.
use Rattle.std.specs.Prelude.{◌≡◌, ℕ, ◌+◌, ◌-◌, ◌≤◌, List, ◌++◌, length, take, Bool, Option, Some, Result, Ok, Err, nat_lt, if◌then◌else◌}
use Rattle.outside.specs.Counts.{Rose}
use Rattle.outside.specs.Images.{Tells}
use Rattle.base_types.specs.declared.faults.InputKind.TheVariants.{Cut, TooMany, Extra}
use Rattle.cbdc_types.specs.declared.tx.FullTx.{FullTx}
use Rattle.byte_fields.specs.declared.fault.Fault.{Fault}
use Rattle.byte_fields.specs.Faults.{◌>>=◌, fault}
use Rattle.byte_fields.specs.Reading.{number_at}
use Rattle.client_files.specs.declared.fault.BadFile.{BadFile}
use Rattle.client_files.specs.declared.fault.StreamFault.{StreamFault}
use Rattle.client_files.specs.declared.fault.StreamFault.TheVariants as faults
use Rattle.client_files.specs.Files.{front, goes_on, bad_at, extra, clients_in}

-- what was read of a file and not used, and how many bytes were read
pub record WindowOf : Type 0 where
  pub unread : List ℕ
  pub had : ℕ

-- these are the first bytes of the file, if it is told
pub record HasRead (told : Option (List ℕ)) (bytes : List ℕ) : Type 0 where
  pub few : length bytes ≤ 1073741824
  pub first : Tells told (λ c. (length bytes ≤ length c) × (bytes ≡ take (length bytes) c))

-- so, of any bytes of this number that are the file's first ones
abbrev pub OfRead : Option (List ℕ) → ℕ → (List ℕ → Type 0) → Type 0
OfRead told had P = (bytes : List ℕ) → length bytes ≡ had → HasRead told bytes → P bytes

-- the next bytes of the file behind its first ones of that number
pub record HasCome (told : Option (List ℕ)) (old new : ℕ) (piece : List ℕ) : Type 0 where
  pub had : new ≡ old + length piece
  pub read : OfRead told old (λ bytes. HasRead told (bytes ++ piece))

-- those are all that is read of the file
abbrev pub IsFileEnd : Option (List ℕ) → ℕ → Type 0
IsFileEnd told had = OfRead told had (λ bytes. Tells told (λ c. bytes ≡ front c))

-- so many bytes came, behind those that were not used; none at the end
pub record HasMore (told : Option (List ℕ)) (old new : WindowOf) (n : ℕ) : Type 0 where
  pub piece : List ℕ
  pub size : length piece ≡ n
  pub unread : new.unread ≡ old.unread ++ piece
  pub come : HasCome told old.had new.had piece
  pub bound : new.had ≤ 1073741824
  pub ended : n ≡ 0 → IsFileEnd told old.had

-- this was read of the bytes that were not used and those that came, whatever comes behind them
pub record TookPieces {X : Type 0} (told : Option (List ℕ)) (read : List ℕ → Result (X × List ℕ) Fault) (old new : WindowOf) (x : X) : Type 0 where
  pub pieces : List ℕ
  pub come : HasCome told old.had new.had pieces
  pub is : (later : List ℕ) → read (old.unread ++ (pieces ++ later)) ≡ Ok (x, new.unread ++ later)

-- with the rest of the file behind the bytes that were not used, reading meets this bad field
pub record MeetsBadField {X : Type 0} (told : Option (List ℕ)) (read : List ℕ → Result X Fault) (unread : List ℕ) (bad : BadFile) (bytes : List ℕ) :
    Type 0 where
  pub rest : List ℕ
  pub more : Bool
  pub whole : Tells told (λ c. (bytes ++ rest ≡ front c) × (more ≡ goes_on c))
  pub first : Fault
  pub is : read (unread ++ rest) ≡ Err first
  pub at : bad ≡ bad_at (length (bytes ++ rest)) more first.left first.kind

-- the file ends within a field, so many bytes before its end
pub record IsFileCut (told : Option (List ℕ)) (had left : ℕ) (bad : BadFile) (bytes : List ℕ) : Type 0 where
  pub more : Bool
  pub whole : Tells told (λ c. (bytes ≡ front c) × (more ≡ goes_on c))
  pub at : bad ≡ bad_at had more left Cut

-- the file goes on behind what was used
pub record GoesOn (told : Option (List ℕ)) (unread : List ℕ) (bad : BadFile) (bytes : List ℕ) : Type 0 where
  pub rest : List ℕ
  pub more : Bool
  pub whole : Tells told (λ c. (bytes ++ rest ≡ front c) × (more ≡ goes_on c))
  pub is : Some (fault Extra (unread ++ rest)) ≡ extra more (unread ++ rest)
  pub at : bad ≡ bad_at (length (bytes ++ rest)) more (length (unread ++ rest)) Extra

-- why reading stops: a bad field; or the count of the file's faults rose; or memory ran out
abbrev pub Stops : (BadFile → Type 0) → ℕ → ℕ → StreamFault → Type 0
Stops P before now (faults.Bad bad) = P bad
Stops P before now faults.ReadFault = Rose before now
Stops P before now faults.Memory = Unit {0}

-- the number of the transactions: with those of the files before it at most 1,000,000
abbrev pub count_at : ℕ → List ℕ → Result (ℕ × List ℕ) Fault
count_at before bytes = do
  n ← number_at bytes
  if nat_lt 1000000 (before + n.0) then Err (fault TooMany bytes) else Ok n

-- what the file holds, as far as it is told
pub record FileHolds (told : Option (List ℕ)) (before : ℕ) (held : Result (List FullTx) BadFile) : Type 0 where
  pub bytes : List ℕ
  pub more : Bool
  pub whole : Tells told (λ c. (bytes ≡ front c) × (more ≡ goes_on c))
  pub is : clients_in before more bytes ≡ held
