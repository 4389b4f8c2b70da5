-- Which words are options, which are values of their own, and where they stand. The program's name has the place 0, the command's the place 1.
use Rattle.std.specs.Prelude.{◌-◌, ◌&&◌, ◌||◌, ℕ, Bool, false, not, List, [], Option, None, is_some, codes, find, length, if◌then◌else◌, nat_lt}
use Rattle.std.specs.List.{filter, list_any, range_with_len, slice_index_or}
use Rattle.std.specs.Option.{option_map_or}
use Rattle.std.specs.Str.{bytes_eq}
use Rattle.clap.specs.Lexer.{long_of}
use Rattle.clap.specs.Words.{Text}

-- the word at a place
abbrev pub word_at : List Text → ℕ → Text
word_at words place = slice_index_or words place []

-- the places behind the command's name that come before this one
abbrev pub places_before : ℕ → List ℕ
places_before place = range_with_len 2 (place - 2)

-- the word is `--`
abbrev pub is_dashes : Text → Bool
is_dashes word = bytes_eq word (codes "--")

-- a `--` stands before the place, and so each word from there on is a value
abbrev pub is_trailing : List Text → ℕ → Bool
is_trailing words place = list_any (λ p. is_dashes (word_at words p)) (places_before place)

-- the option at the place, where the word is one: its name, and the value that a `=` joins to it
abbrev pub option_at : List Text → ℕ → Option (Text × Option Text)
option_at words place = if is_trailing words place then None else long_of (word_at words place)

-- it has none
abbrev pub lacks_value : Option (Text × Option Text) → Bool
lacks_value option = option_map_or (λ o. not (is_some o.1)) option false

-- the word at the place is the value of the option before it
abbrev pub is_given : List Text → ℕ → Bool
is_given words place = nat_lt 2 place && lacks_value (option_at words (place - 1))

-- the word at the place is a value of its own: no option, no option's value and not the first `--`
abbrev pub is_positional : List Text → ℕ → Bool
is_positional words place = is_trailing words place
    || not (is_dashes (word_at words place) || (is_some (option_at words place) || is_given words place))

-- the places of all such words, in order
abbrev pub positional_places : List Text → List ℕ
positional_places words = filter (is_positional words) (places_before (length words))

-- an option of this name stands at the place
abbrev pub names_option : Text → List Text → ℕ → Bool
names_option name words place = option_map_or (λ o. bytes_eq o.0 name) (option_at words place) false

-- the first place at which one does
abbrev pub option_place : Text → List Text → Option ℕ
option_place name words = find (names_option name words) (places_before (length words))
