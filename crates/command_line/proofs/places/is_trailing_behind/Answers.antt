use Rattle.std.proofs.Common.{◌≡◌, ◌∙◌, ◌||◌, Bool, ap, sym}
use Rattle.command_line.specs.Places.{is_dashes, word_at}
use Rattle.command_line.specs.Words.{texts}
use Rattle.command_line.proofs.PlaceLemmas.{trailing_more}
use Rattle.command_line.proofs.WordLemmas.{word_text}
use Rattle.command_line.proofs.places.is_trailing_behind.Goals as goal

pub returns-then-trailing : goal.returns-then-trailing
returns-then-trailing c =
    let words = texts c.args.words.now in
    c.if-trailing.true
    ∙ sym (trailing_more words c.args.place c.requires.behind
    ∙ ap (λ (b : Bool). b || is_dashes (word_at words c.args.place)) (sym c.requires.trailing ∙ c.if-trailing.true))

pub returns-else-trailing : goal.returns-else-trailing
returns-else-trailing c =
    let words = texts c.args.words.now in
    let text : word_at words c.args.place ≡ c.as_str.result.now =
    word_text c.args.words.now c.index-words-place.result c.args.place c.requires.inside c.index-words-place.is ∙ sym c.as_str.ensures.value
    in
    sym (trailing_more words c.args.place c.requires.behind
    ∙ ap (λ (b : Bool). b || is_dashes (word_at words c.args.place)) (sym c.requires.trailing ∙ c.if-trailing.false)
    ∙ ap is_dashes text ∙ sym c.eq.ensures)
