use Rattle.std.proofs.Common.{◌≡◌, ◌∙◌, Some, None, cond, refl, ap, sym, option_map, Bool, List, ℕ}
use Rattle.std.specs.Borrow.{Bor}
use Rattle.std.proofs.lemmas.Slice.Eq.{bytes_eq-Decides}
use Rattle.clap.specs.Lexer.{long_of}
use Rattle.clap.specs.Words.{Text}
use Rattle.command_line.specs.Places.{word_at}
use Rattle.command_line.specs.Words.{texts}
use Rattle.command_line.proofs.WordLemmas.{word_text}
use Rattle.command_line.proofs.places.option_there.Goals as goal

pub returns-in-Some : goal.returns-in-Some
returns-in-Some c =
    let words = texts c.args.words.now in
    let text : word_at words c.args.place ≡ c.as_str.result.now =
    word_text c.args.words.now c.index-words-place.result c.args.place c.requires.inside c.index-words-place.is ∙ sym c.as_str.ensures.value
    in
    let named : c.in-Some.found.now ≡ c.args.name.now =
    (bytes_eq-Decides c.in-Some.found.now c.args.name.now).0 (sym c.eq.ensures ∙ c.if-eq.true) in (
      refl,
      ap (λ (b : Bool). cond b None (long_of (word_at words c.args.place))) (sym c.requires.trailing ∙ c.if-trailing.false) ∙ ap long_of text
          ∙ sym c.in-Some.ensures
          ∙ ap (λ (n : Text). Some (n, option_map {T = Bor (List ℕ)} {U = List ℕ} (λ s. s.now) c.in-Some.value)) named,
    )
