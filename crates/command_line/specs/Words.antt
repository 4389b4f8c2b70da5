-- Words, and the files that they name.
use Rattle.std.specs.Prelude.{◌≡◌, ◌⊎◌, ◌+◌, ℕ, List, Some, None, map, slice_get, string_bytes}
use Rattle.std.specs.List.{AllByRecursion}
use Rattle.std.specs.declared.string.String.{String}
use Rattle.std.specs.declared.alloc.Global.{Global}
use Rattle.clap.specs.Words.{Text}
use Rattle.command_line.specs.Places.{option_at, option_place, positional_places}
use Rattle.requests.specs.declared.FileWord.{FileWord}

-- the texts of the words
abbrev pub texts : List (String Global) → List Text
texts words = map string_bytes words

-- the word at the file's place is its name
abbrev pub StandsThere : List Text → FileWord → Type 0
StandsThere words file = slice_get words file.place ≡ Some file.name.now

-- the file is named by the first word that is a value of its own
abbrev pub IsFirstWord : List Text → FileWord → Type 0
IsFirstWord words file = (slice_get (positional_places words) 0 ≡ Some file.place) × StandsThere words file

-- the file is named by the value of the first option of this name: what a `=` joins to it, or else the next word
abbrev pub IsGivenBy : Text → List Text → FileWord → Type 0
IsGivenBy name words file =
    (at : ℕ) × (option_place name words ≡ Some at)
    × (((option_at words at ≡ Some (name, Some file.name.now)) × (file.place ≡ at))
    ⊎ ((option_at words at ≡ Some (name, None)) × (file.place ≡ at + 1) × StandsThere words file))

-- files with these names at these places, in order
pub record AreFiles (words : List Text) (places : List ℕ) (names : List Text) (files : List FileWord) : Type 0 where
  pub named : map (λ (f : FileWord). f.name.now) files ≡ names
  pub placed : map (λ (f : FileWord). f.place) files ≡ places
  pub there : AllByRecursion (StandsThere words) files
