use Rattle.std.proofs.Common.{◌+◌, ◌||◌, ℕ, Bool, List, drop, get_or, sym, ap, ◌∙◌}
use Rattle.std.proofs.lemmas.List.{drop_more}
use Rattle.cbdc_model.specs.Records.{Record, Row, journal}
use Rattle.cbdc_model.specs.Status.{has}
use Rattle.audit.specs.declared.place.Place.{Place}
use Rattle.audit.specs.Rows.{read, rows_at, newest_first}
use Rattle.audit.specs.Waiting.{holds_back, any_row}
use Rattle.audit.proofs.Standing.{drop_end}
use Rattle.audit.proofs.Sizing.{row_step, or_false, waiting_count}
use Rattle.audit.proofs.sizes.held_of.Goals as goal

no_place : Place
no_place = record { node = 0; index = 0 }

pub places-preserved : goal.places-preserved
unfolding no_place
places-preserved c = λ y.
    let K = c.args.shape.now in
    let all = read c.args.journals.now in
    let h = c.args.history.now in
    let at = c.places.at in
    let p = get_or h at no_place in
    let J : ℕ → List Record = λ n. journal n (newest_first all h) in
    let test : Row → Bool = λ row. holds_back K J row.node row.what y in
    row_step (has c.places.held.hashes y) _ (any_row test (rows_at all (drop (at + 1) h))) _
    (c.in_ok-add_held_by.ensures J c.requires.known c.requires.statuses y
    ∙ ap (λ r. has c.places.held.hashes y || holds_back K J p.node r y) c.record_at-r.ensures)
    ∙ ap (λ l. has c.places.held.hashes y || any_row test (rows_at all l)) (sym (drop_more h at no_place c.places-test.true)) ∙ c.places.invariant y

pub returns : goal.returns
returns c =
    let K = c.args.shape.now in
    let all = read c.args.journals.now in
    let h = c.args.history.now in
    let J : ℕ → List Record = λ n. journal n (newest_first all h) in
    waiting_count K (rows_at all h) c.places.held.hashes c.len.result c.len.ensures.set c.len.ensures.len
    (λ y. sym (or_false (has c.places.held.hashes y))
    ∙ ap (λ l. has c.places.held.hashes y || any_row (λ row. holds_back K J row.node row.what y) (rows_at all l))
    (sym (drop_end h c.places.at c.places-test.false)) ∙ c.places.invariant y)
