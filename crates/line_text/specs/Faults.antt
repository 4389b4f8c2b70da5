-- The line of each fault, and the status of each answer.
use Rattle.std.specs.Prelude.{ℕ, List, [], ◌∷◌, codes, decimal}
use Rattle.hex.specs.Hex.{encode_lower}
use Rattle.cbdc_types.specs.declared.answer.Answer.{Answer}
use Rattle.cbdc_types.specs.declared.answer.Answer.TheVariants.{Ok, BadWords, BadInput, TooMuch, NotReady, Foreign, NotEmpty, Full, Unsound, ClockEnd}
use Rattle.cbdc_types.specs.declared.answer.Answer.TheVariants.{Damaged, ReadFault, WriteFault, DiskFault, Memory}
use Rattle.base_types.specs.declared.faults.InputKind.{InputKind}
use Rattle.base_types.specs.declared.faults.InputKind.TheVariants as input
use Rattle.cbdc_types.specs.declared.answer.UnsoundKind.{UnsoundKind}
use Rattle.cbdc_types.specs.declared.answer.UnsoundKind.TheVariants as unsound
use Rattle.line_text.specs.Lines.{Text, line}

-- the word for what is wrong with an input
abbrev pub input_word : InputKind → Text
input_word input.Cut = codes "cut"
input_word input.TooMany = codes "too-many"
input_word input.TooLong = codes "too-long"
input_word input.Zero = codes "zero"
input_word input.Extra = codes "extra"
input_word input.Large = codes "large"
input_word input.Form = codes "form"
input_word input.Repeated = codes "repeated"

-- the words for what an audit found wrong: of an unknown or unfunded transaction with its id
abbrev pub unsound_words : UnsoundKind → List Text
unsound_words unsound.Cause = codes "cause" ∷ []
unsound_words (unsound.Unknown id) = codes "unknown" ∷ encode_lower id ∷ []
unsound_words (unsound.Unfunded id) = codes "unfunded" ∷ encode_lower id ∷ []
unsound_words unsound.Unfinished = codes "unfinished" ∷ []

-- the line that is printed of an answer, none of Ok and of a write fault; the name is that of the file that it speaks of
abbrev pub fault_text : Answer → Text → Text
fault_text Ok name = []
fault_text BadWords name = line (codes "fault" ∷ codes "words" ∷ [])
fault_text (BadInput file at kind) name = line (codes "fault" ∷ codes "input" ∷ name ∷ codes "at" ∷ decimal at ∷ input_word kind ∷ [])
fault_text (TooMuch total) name = line (codes "fault" ∷ codes "minted" ∷ decimal total ∷ [])
fault_text (NotReady node) name = line (codes "fault" ∷ codes "not" ∷ codes "ready" ∷ decimal node ∷ [])
fault_text (Foreign node kept asked) name = line (codes "fault" ∷ codes "foreign" ∷ decimal node ∷ [])
fault_text (NotEmpty node) name = line (codes "fault" ∷ codes "not" ∷ codes "empty" ∷ decimal node ∷ [])
fault_text (Full node used need capacity) name = line (
    codes "fault" ∷ codes "full" ∷ decimal node ∷ codes "used" ∷ decimal used ∷ codes "need" ∷ decimal need
    ∷ codes "capacity" ∷ decimal capacity ∷ []
    )
fault_text (Unsound place kind) name = line (codes "fault" ∷ codes "unsound" ∷ decimal place ∷ unsound_words kind)
fault_text (ClockEnd node stamp) name = line (codes "fault" ∷ codes "clock" ∷ decimal node ∷ decimal stamp ∷ [])
fault_text (Damaged node at) name = line (codes "fault" ∷ codes "damaged" ∷ decimal node ∷ codes "at" ∷ decimal at ∷ [])
fault_text (ReadFault file) name = line (codes "fault" ∷ codes "read" ∷ name ∷ [])
fault_text WriteFault name = []
fault_text (DiskFault node) name = line (codes "fault" ∷ codes "disk" ∷ decimal node ∷ [])
fault_text Memory name = line (codes "fault" ∷ codes "memory" ∷ [])

-- the status with which the process ends, by its answer
abbrev pub status_of : Answer → ℕ
status_of Ok = 0
status_of BadWords = 2
status_of (BadInput file at kind) = 3
status_of (TooMuch total) = 3
status_of (NotReady node) = 4
status_of (Foreign node kept asked) = 4
status_of (NotEmpty node) = 4
status_of (Full node used need capacity) = 5
status_of (Unsound place kind) = 6
status_of (ClockEnd node stamp) = 7
status_of (Damaged node at) = 8
status_of (ReadFault file) = 10
status_of WriteFault = 11
status_of (DiskFault node) = 12
status_of Memory = 13
