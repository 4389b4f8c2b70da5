-- Which answers a part of the work may give, and what must have happened for them.
use Rattle.std.specs.Prelude.{◌≡◌, ℕ, List, Some, slice_get}
use Rattle.line_text.specs.Lines.{Text}
use Rattle.outside.specs.Counts.{Rose}
use Rattle.cbdc_types.specs.declared.answer.Answer.{Answer}
use Rattle.cbdc_types.specs.declared.answer.Answer.TheVariants as answers
use Rattle.requests.specs.declared.FileWord.{FileWord}

-- the count of faults of this file's name rose, and the file has this place
abbrev pub FileRose : (Text → ℕ) → (Text → ℕ) → FileWord → ℕ → Type 0
FileRose before now file place = (place ≡ file.place) × Rose (before file.name.now) (now file.name.now)

-- one of these files does so
abbrev pub OneRose : (Text → ℕ) → (Text → ℕ) → List FileWord → ℕ → Type 0
OneRose before now files place = (k : ℕ) × (file : FileWord) × (slice_get files k ≡ Some file) × FileRose before now file place

-- one of these files has this place
abbrev pub OnePlace : List FileWord → ℕ → Type 0
OnePlace files place = (k : ℕ) × (file : FileWord) × (slice_get files k ≡ Some file) × (place ≡ file.place)

-- one of these files has this place and this name
abbrev pub OneNamed : List FileWord → ℕ → Text → Type 0
OneNamed files place name = (k : ℕ) × (file : FileWord) × (slice_get files k ≡ Some file) × (place ≡ file.place) × (name ≡ file.name.now)

-- reading and the work at the nodes: neither words nor the output are at fault, a bad file has a place, and a fault of reading has its cause
abbrev pub IsReadOrNodeFault : (ℕ → Type 0) → (ℕ → Type 0) → Answer → Type 0
IsReadOrNodeFault place read answers.Ok = ⊥
IsReadOrNodeFault place read answers.BadWords = ⊥
IsReadOrNodeFault place read answers.WriteFault = ⊥
IsReadOrNodeFault place read (answers.BadInput file at kind) = place file
IsReadOrNodeFault place read (answers.ReadFault file) = read file
IsReadOrNodeFault place read other = Unit {0}

-- all was done, whether its lines could be written or not
abbrev pub IsWell : Answer → Type 0
IsWell answers.Ok = Unit {0}
IsWell answers.WriteFault = Unit {0}
IsWell other = ⊥

-- the answer has its cause; nothing is said where all was done, the words are bad or memory ran out
abbrev pub HasToldCause : (Answer → Type 0) → Answer → Type 0
HasToldCause cause answers.Ok = Unit {0}
HasToldCause cause answers.WriteFault = Unit {0}
HasToldCause cause answers.BadWords = Unit {0}
HasToldCause cause answers.Memory = Unit {0}
HasToldCause cause other = cause other

-- doing what is asked: a bad file has a place, and a fault of reading or writing has its cause
abbrev pub IsAnswerToRequest : (ℕ → Type 0) → (ℕ → Type 0) → Type 0 → Answer → Type 0
IsAnswerToRequest place read written answers.BadWords = ⊥
IsAnswerToRequest place read written (answers.BadInput file at kind) = place file
IsAnswerToRequest place read written (answers.ReadFault file) = read file
IsAnswerToRequest place read written answers.WriteFault = written
IsAnswerToRequest place read written other = Unit {0}
