use Rattle.std.proofs.Common.{◌≡◌, Bool, true, false, get_or, refl, subst}
use Rattle.std.proofs.lemmas.List.{take_all}
use Rattle.audit.specs.declared.place.Place.{Place}
use Rattle.audit.specs.Rows.{read, rows_at}
use Rattle.audit.specs.Walks.{AllDone}
use Rattle.audit.proofs.Steps.{first_open_at, done_more}
use Rattle.audit.proofs.auditing.first_open.Goals as goal

no_place : Place
no_place = record { node = 0; index = 0 }

never : (b : Bool) → b ≡ false → b ≡ true → ⊥
never b e f = cc

pub returns-then-not-done : goal.returns-then-not-done
unfolding no_place
returns-then-not-done c = λ J h.
    first_open_at c.args.shape.now J (read c.args.journals.now) c.args.history.now c.places.at (get_or c.args.history.now c.places.at no_place)
    no_place c.record_at-r.result.now
    c.places-test.true refl c.record_at-r.ensures (c.places.invariant J h)
    (λ done. never c.is_done-done.result c.if-not-done.true ((c.is_done-done.ensures J h).1 done))

pub places-preserved : goal.places-preserved
unfolding no_place
places-preserved c = λ J h.
    done_more c.args.shape.now J (read c.args.journals.now) c.args.history.now c.places.at (get_or c.args.history.now c.places.at no_place) no_place
    c.record_at-r.result.now
    c.places-test.true refl c.record_at-r.ensures (c.places.invariant J h) ((c.is_done-done.ensures J h).0 c.if-not-done.false)

pub returns : goal.returns
returns c = λ J h.
    subst (λ l. AllDone c.args.shape.now J (rows_at (read c.args.journals.now) l)) (take_all c.places.at c.args.history.now c.places-test.false)
    (c.places.invariant J h)
