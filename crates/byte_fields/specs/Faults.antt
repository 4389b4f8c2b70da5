-- Results of reading: a value and the bytes behind it, or the first fault.
use Rattle.std.specs.Prelude.{◌≡◌, ◌<◌, ℕ, List, length, slice_index, Result, Ok, Err}
use Rattle.base_types.specs.declared.faults.InputKind.{InputKind}
use Rattle.byte_fields.specs.declared.fault.Fault.{Fault}
use Rattle.byte_fields.specs.declared.fault.ReadError.{ReadError}
use Rattle.byte_fields.specs.declared.fault.ReadError.TheVariants as errors

infixl 10 ◌>>=◌
-- reading goes on behind a value, and ends with a fault
abbrev pub ◌>>=◌ : {A B : Type 0} → Result A Fault → (A → Result B Fault) → Result B Fault
(Ok x) >>= f = f x
(Err e) >>= f = Err e

-- a function's error is the fault that reading gives, unless memory ran out
abbrev pub FailsAsRead : {Y : Type 0} → ReadError → Result Y Fault → Type 0
FailsAsRead errors.Memory read = Unit {0}
FailsAsRead (errors.Bad f) read = read ≡ Err f

-- what a function returned is what reading gives, unless memory ran out
abbrev pub Gives : {X Y : Type 0} → (X → Y) → Result X ReadError → Result Y Fault → Type 0
Gives view (Ok x) read = read ≡ Ok (view x)
Gives view (Err e) read = FailsAsRead e read

-- a fault at the front of these bytes
abbrev pub fault : InputKind → List ℕ → Fault
fault kind bytes = record { left = length bytes; kind = kind }

-- numbers below 256
abbrev pub IsBytes : List ℕ → Type 0
IsBytes bytes = (i : ℕ) → slice_index bytes i < 256
