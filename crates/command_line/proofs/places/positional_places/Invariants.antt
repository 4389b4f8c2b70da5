use Rattle.std.proofs.Common.{◌≡◌, ◌<◌, length}
use Rattle.std.specs.List.{filter}
use Rattle.command_line.specs.Places.{is_positional, is_trailing, places_before}
use Rattle.command_line.specs.Words.{texts}
use Rattle.command_line.proofs.places.positional_places.Given as goal

abbrev pub invariant-words : goal.invariant-words
invariant-words l = record {
  trailing : l.trailing ≡ is_trailing (texts l.words) l.place;
  within : length l.words < l.place → l.place ≡ 2;
  places : l.places.items ≡ filter (is_positional (texts l.words)) (places_before l.place);
}
