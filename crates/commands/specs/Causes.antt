-- Which answers the words may have, and what must have happened for them.
use Rattle.std.specs.Prelude.{ℕ, List}
use Rattle.line_text.specs.Lines.{Text}
use Rattle.cbdc_types.specs.declared.answer.Answer.{Answer}
use Rattle.cbdc_types.specs.declared.answer.Answer.TheVariants as answers
use Rattle.command_line.specs.Asked.{WordsAskFor, AreWordsRefused}
use Rattle.requests.specs.declared.Request.{Request}
use Rattle.requests.specs.declared.WordsFault.TheVariants.{Bad}
pub use Rattle.command_answers.specs.Causes.{OneNamed}
use Rattle.commands.specs.Promises.{needs_of}

-- one of the files that are asked for has this place, and its count of faults rose
abbrev pub RequestRose : Request → (Text → ℕ) → (Text → ℕ) → ℕ → Type 0
RequestRose r = (needs_of r).rose

-- one of the files that are asked for has this place
abbrev pub RequestPlace : Request → ℕ → Type 0
RequestPlace r = (needs_of r).place

-- one of the files that are asked for has this place and this name
abbrev pub RequestNames : Request → ℕ → Text → Type 0
RequestNames r = (needs_of r).names

-- the words ask for a file with this place and this name
abbrev pub AskedName : List Text → ℕ → Text → Type 0
AskedName words place name = (r : Request) × WordsAskFor words r × RequestNames r place name

-- the words ask for a file with this place, whose count of faults rose
abbrev pub NamedRose : List Text → (Text → ℕ) → (Text → ℕ) → ℕ → Type 0
NamedRose words before now place = (r : Request) × WordsAskFor words r × RequestRose r before now place

-- doing what the words ask for: a bad file is one that they ask for; words that are refused, and a fault of reading or writing, have their cause
abbrev pub IsAnswerToWords : List Text → (Text → ℕ) → (Text → ℕ) → Type 0 → Answer → Type 0
IsAnswerToWords words before now written answers.BadWords = AreWordsRefused words Bad
IsAnswerToWords words before now written (answers.BadInput file at kind) = (r : Request) × WordsAskFor words r × RequestPlace r file
IsAnswerToWords words before now written (answers.ReadFault file) = NamedRose words before now file
IsAnswerToWords words before now written answers.WriteFault = written
IsAnswerToWords words before now written other = Unit {0}
