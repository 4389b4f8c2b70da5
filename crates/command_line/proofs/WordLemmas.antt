-- Words by their places.
use Rattle.std.proofs.Common.{◌≡◌, ◌<◌, ℕ, List, [], Some, refl, sym, ◌∙◌, ap, get_or, length}
use Rattle.std.specs.Prelude.{slice_get, string_bytes, option_map}
use Rattle.std.specs.declared.string.String.{String}
use Rattle.std.specs.declared.alloc.Global.{Global}
use Rattle.std.proofs.lemmas.List.{get_or-map}
use Rattle.std.proofs.lemmas.Option.{slice_get-map, slice_get_read}
use Rattle.command_line.specs.Places.{word_at}
use Rattle.command_line.specs.Words.{texts}

-- the text of a word that was read
pub text_at : (words : List (String Global)) (w : String Global) (i : ℕ) → i < length words → w ≡ get_or words i w
    → slice_get (texts words) i ≡ Some (string_bytes w)
text_at words w i inside is = slice_get-map string_bytes words i
    ∙ ap (option_map string_bytes) (slice_get_read words (length words) i w refl inside is)

pub word_text : (words : List (String Global)) (w : String Global) (i : ℕ) → i < length words → w ≡ get_or words i w
    → word_at (texts words) i ≡ string_bytes w
word_text words w i inside is = get_or-map string_bytes words i w [] inside ∙ ap string_bytes (sym is)
