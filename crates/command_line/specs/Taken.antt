-- What is taken of the words for files is what stands at their places.
use Rattle.std.specs.Prelude.{◌≡◌, ◌+◌, ℕ, List, Option, Some, None, codes, drop, map, option_and_then, slice_get}
use Rattle.clap.specs.Words.{Row, Text, all_of, first_of}
use Rattle.command_line.specs.Asked.{NameCommand, names_or_none}
use Rattle.command_line.specs.Places.{option_at, option_place, positional_places, word_at}

-- the words that are values of their own, in order
abbrev pub positional_words : List Text → List Text
positional_words words = map (word_at words) (positional_places words)

-- the value of the option at a place: what a `=` joins to it, or else the next word
abbrev pub value_behind : List Text → ℕ → Text × Option Text → Option Text
value_behind words place (name, Some value) = Some value
value_behind words place (name, None) = slice_get words (place + 1)

-- of the option at a place
abbrev pub value_at : List Text → ℕ → Option Text
value_at words place = option_and_then (value_behind words place) (option_at words place)

-- the value of the first option of this name
abbrev pub option_word : Text → List Text → Option Text
option_word name words = option_and_then (value_at words) (option_place name words)

-- the mint is the first word that is a value of its own, the clients are all of them, or all but the mint, and the verdicts are the value of their
-- option
abbrev pub WordsTakenLaw : Type 0
WordsTakenLaw =
    (words : List Text) (rows : List Row)
    → (NameCommand words (codes "init") rows → first_of (codes "mint") rows ≡ slice_get (positional_words words) 0)
    × (NameCommand words (codes "run") rows → (first_of (codes "verdicts") rows ≡ option_word (codes "verdicts") words)
    × (names_or_none (all_of (codes "client") rows) ≡ positional_words words))
    × (NameCommand words (codes "audit") rows → (first_of (codes "mint") rows ≡ slice_get (positional_words words) 0)
    × (names_or_none (all_of (codes "client") rows) ≡ drop 1 (positional_words words)))
