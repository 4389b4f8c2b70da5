use Rattle.std.proofs.Common.{arith, ◌∙◌, ap, sym}
use Rattle.std.specs.List.{filter}
use Rattle.command_line.specs.Places.{is_positional}
use Rattle.command_line.specs.Words.{texts}
use Rattle.command_line.proofs.PlaceLemmas.{places_end, positional_joins, positional_stays}
use Rattle.command_line.proofs.places.positional_places.Goals as goal
use Rattle.command_line.proofs.places.positional_places.Goals.{then-is_positional+in_ok-push, else-is_positional}

pub words-preserved : goal.words-preserved
words-preserved c =
    let words = texts c.args.words.now in
    let so_far = c.words.invariant.places in
    record {
      trailing = c.is_trailing_behind-trailing.ensures;
      within = λ past. absurd (omega arith);
      places = elim c.if-is_positional.branch [
        | then-is_positional+in_ok-push w ↦
            ap (λ places. places.items) w.places-is ∙ w.in_ok-push.ensures.items
            ∙ positional_joins words c.words.place c.words.places.items c.words.auto.place so_far
            (sym c.is_positional.ensures ∙ w.if-is_positional.true)
        | else-is_positional w ↦
            ap (λ places. places.items) w.places-is
            ∙ positional_stays words c.words.place c.words.places.items c.words.auto.place so_far
            (sym c.is_positional.ensures ∙ w.if-is_positional.false)
      ];
    }

pub returns : goal.returns
returns c =
    c.words.invariant.places ∙ ap (filter (is_positional (texts c.args.words.now)))
    (places_end c.args.words.now c.words.place c.words.auto.place c.words-test.false c.words.invariant.within)
