use Rattle.std.proofs.Common.{◌+◌, ◌||◌, ℕ, Bool, List, drop, sym, ap, ◌∙◌}
use Rattle.std.proofs.lemmas.List.{drop_more}
use Rattle.cbdc_model.specs.Records.{Record, Row, journal}
use Rattle.cbdc_model.specs.Status.{has}
use Rattle.audit.specs.declared.place.Place.{Place}
use Rattle.audit.specs.Rows.{read, rows_at, newest_first}
use Rattle.audit.specs.Waiting.{owes, any_row}
use Rattle.audit.proofs.Standing.{drop_end}
use Rattle.audit.proofs.Sizing.{row_step, or_false, coming_count}
use Rattle.audit.proofs.sizes.owed_of.Goals as goal

no_place : Place
no_place = record { node = 0; index = 0 }

pub places-preserved : goal.places-preserved
unfolding no_place
places-preserved c = λ y.
    let K = c.args.shape.now in
    let all = read c.args.journals.now in
    let h = c.args.history.now in
    let at = c.places.at in
    let J : ℕ → List Record = λ n. journal n (newest_first all h) in
    let test : Row → Bool = λ row. owes K J row.what y in
    row_step (has c.places.owed.hashes y) _ (any_row test (rows_at all (drop (at + 1) h))) _
    (c.in_ok-add_owed_by.ensures J c.requires.known y ∙ ap (λ r. has c.places.owed.hashes y || owes K J r y) c.record_at-r.ensures)
    ∙ ap (λ l. has c.places.owed.hashes y || any_row test (rows_at all l)) (sym (drop_more h at no_place c.places-test.true)) ∙ c.places.invariant y

pub returns : goal.returns
returns c =
    let K = c.args.shape.now in
    let all = read c.args.journals.now in
    let h = c.args.history.now in
    let J : ℕ → List Record = λ n. journal n (newest_first all h) in
    coming_count K (rows_at all h) c.places.owed.hashes c.len.result c.len.ensures.set c.len.ensures.len
    (λ y. sym (or_false (has c.places.owed.hashes y))
    ∙ ap (λ l. has c.places.owed.hashes y || any_row (λ row. owes K J row.what y) (rows_at all l)) (sym (drop_end h c.places.at c.places-test.false))
    ∙ c.places.invariant y)
