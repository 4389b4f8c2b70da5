use Rattle.std.proofs.Common.{◌≡◌, None}
use Rattle.std.specs.Prelude.{find}
use Rattle.command_line.specs.Places.{is_trailing, names_option, places_before}
use Rattle.command_line.specs.Words.{texts}
use Rattle.command_line.proofs.places.option_of.Given as goal

abbrev pub invariant-words : goal.invariant-words
invariant-words l = record {
  trailing : l.trailing ≡ is_trailing (texts l.words) l.place;
  none : find (names_option l.name (texts l.words)) (places_before l.place) ≡ None;
}
