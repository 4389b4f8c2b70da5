use Rattle.std.proofs.Common.{◌≡◌, ℕ, Bool, true, false, List, get_or, take, sym, refl}
use Rattle.std.proofs.lemmas.List.Elements.{All-get_or}
use Rattle.cbdc_model.specs.Records.{Record, journal}
use Rattle.audit.specs.declared.place.Place.{Place}
use Rattle.audit.specs.Rows.{read, newest_first, IsRecordPlace}
use Rattle.audit.proofs.Steps.{known_next, first_uncaused}
use Rattle.audit.proofs.walking.causes.Goals as goal

no_place : Place
no_place = record { node = 0; index = 0 }

never : (b : Bool) → b ≡ false → b ≡ true → ⊥
never b e f = cc

pub places-init : goal.places-init
places-init c = (c.new-known.ensures (read c.args.journals.now), tt)

pub returns-then-not-branch : goal.returns-then-not-branch
unfolding no_place
returns-then-not-branch c =
    let J : ℕ → List Record = λ n. journal n (newest_first (read c.args.journals.now) (take c.places.at c.args.history.now)) in
    first_uncaused c.args.shape.now (read c.args.journals.now) c.args.history.now c.places.at (get_or c.args.history.now c.places.at no_place)
    no_place c.record_at-r.result.now
    c.places-test.true refl c.record_at-r.ensures c.places.invariant.1
    (λ caused. never c.in_ok-is_caused.field-0 c.if-not-branch.true ((c.in_ok-is_caused.ensures J c.places.invariant.0).1 caused))

pub places-preserved : goal.places-preserved
unfolding no_place
places-preserved c =
    let J : ℕ → List Record = λ n. journal n (newest_first (read c.args.journals.now) (take c.places.at c.args.history.now)) in
    known_next c.args.shape.now (read c.args.journals.now) c.args.history.now c.places.at (get_or c.args.history.now c.places.at no_place) no_place
    c.record_at-r.result.now c.note.new.self
    c.places-test.true refl c.record_at-r.ensures
    (c.in_ok-note.ensures (read c.args.journals.now) (newest_first (read c.args.journals.now) (take c.places.at c.args.history.now))
    (All-get_or (IsRecordPlace (read c.args.journals.now)) c.args.history.now c.places.at no_place c.places-test.true c.requires)
    (sym c.record_at-r.ensures) c.places.invariant.0)
    ((c.in_ok-is_caused.ensures J c.places.invariant.0).0 c.if-not-branch.false) c.places.invariant.1
