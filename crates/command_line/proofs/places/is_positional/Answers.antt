use Rattle.std.proofs.Common.{arith, ◌≡◌, ◌∙◌, ◌-◌, ap, sym, false, not}
use Rattle.std.specs.Prelude.{is_some}
use Rattle.clap.specs.Lexer.{long_of}
use Rattle.command_line.specs.Places.{is_dashes, lacks_value, word_at}
use Rattle.command_line.specs.Words.{texts}
use Rattle.command_line.proofs.PlaceLemmas.{none_mapped, own_word}
use Rattle.command_line.proofs.WordLemmas.{word_text}
use Rattle.command_line.proofs.places.is_positional.Goals as goal

pub returns-else-place-eq-FIRST : goal.returns-else-place-eq-FIRST
returns-else-place-eq-FIRST c =
    let words = texts c.args.words.now in
    let place = c.args.place in
    let text : word_at words place ≡ c.as_str-word.result.now =
    word_text c.args.words.now c.index-words-place.result place c.requires.inside c.index-words-place.is ∙ sym c.as_str-word.ensures.value
    in
    let before : word_at words (place - 1) ≡ c.as_str.result.now =
    word_text c.args.words.now c.index-words-place-else-place-eq-FIRST.result (place - 1) (omega arith) c.index-words-place-else-place-eq-FIRST.is
    ∙ sym c.as_str.ensures.value
    in
    let dashes : is_dashes (word_at words place) ≡ false = ap is_dashes text ∙ sym c.eq.ensures ∙ c.if-eq.false in
    let none : is_some (long_of (word_at words place)) ≡ false =
    ap (λ t. is_some (long_of t)) text ∙ none_mapped _ c.option_in.result _ c.option_in.ensures (sym c.is_some.ensures ∙ c.if-is_some.false)
    in
    ap not (c.takes_next.ensures ∙ ap (λ t. lacks_value (long_of t)) (sym before))
    ∙ own_word words place (omega arith) (sym c.requires.trailing ∙ c.if-trailing.false) dashes none
