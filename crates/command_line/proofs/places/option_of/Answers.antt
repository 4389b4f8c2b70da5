use Rattle.std.proofs.Common.{arith, ◌≡◌, ◌∙◌, ◌<◌, ap, sym, Some, None, Option, List, ℕ, false, true, length, option_map}
use Rattle.std.specs.Prelude.{is_some, MatchOption}
use Rattle.std.specs.Borrow.{Bor}
use Rattle.std.proofs.lemmas.Bool.{true≢false}
use Rattle.std.proofs.lemmas.List.{length-map}
use Rattle.clap.specs.Words.{Text}
use Rattle.command_line.specs.Places.{names_option, option_at, option_place}
use Rattle.command_line.specs.Words.{texts}
use Rattle.command_line.specs.declared.places.OptionWord.{OptionWord}
use Rattle.command_line.proofs.PlaceLemmas.{first_there, is_named, none_more}
use Rattle.command_line.proofs.places.option_of.Goals as goal

-- what is told of the option at a place
abbrev Told : Text → List Text → ℕ → Option OptionWord → Type 0
Told name words place option =
    MatchOption option (names_option name words place ≡ false)
    (λ o. (o.place ≡ place) × (option_at words place ≡ Some (name, option_map {T = Bor (List ℕ)} {U = List ℕ} (λ s. s.now) o.value)))

is_first : (name : Text) (words : List Text) (place : ℕ) (option : Option OptionWord) → Told name words place option → is_some option ≡ true
    → (names_option name words place ≡ true → option_place name words ≡ Some place) → option_map (λ o. o.place) option ≡ option_place name words
is_first name words place None told some first = absurd (true≢false (sym some))
is_first name words place (Some o) told some first = ap Some told.0 ∙ sym (first (is_named name words place _ told.1))

is_none : (name : Text) (words : List Text) (place : ℕ) (option : Option OptionWord) → Told name words place option → is_some option ≡ false
    → names_option name words place ≡ false
is_none name words place None told none = told
is_none name words place (Some o) told none = absurd (true≢false none)

pub returns-then-is_some-clause-place : goal.returns-then-is_some-clause-place
returns-then-is_some-clause-place c =
    let words = texts c.args.words.now in
    let long = length-map c.args.words.now Rattle.std.specs.Prelude.string_bytes in
    let inside : c.words.place < length words = omega arith in
    is_first c.args.name.now words c.words.place c.option_there-option.result c.option_there-option.ensures
    (sym c.is_some.ensures ∙ c.if-is_some.true)
    (first_there c.args.name.now words c.words.place c.words.auto.place inside c.words.invariant.none)

pub words-preserved : goal.words-preserved
words-preserved c = record {
  trailing = c.is_trailing_behind-trailing.ensures;
  none = none_more c.args.name.now (texts c.args.words.now) c.words.place c.words.auto.place c.words.invariant.none
      (is_none c.args.name.now (texts c.args.words.now) c.words.place c.option_there-option.result c.option_there-option.ensures
      (sym c.is_some.ensures ∙ c.if-is_some.false));
}
