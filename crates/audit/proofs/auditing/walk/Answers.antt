use Rattle.std.proofs.Common.{◌≡◌, ◌++◌, ℕ, Bool, true, false, List, get_or, take, sym, refl, subst}
use Rattle.std.specs.Prelude.{MatchOption}
use Rattle.std.proofs.lemmas.List.{take_all}
use Rattle.std.proofs.lemmas.List.Elements.{All-get_or}
use Rattle.cbdc_types.specs.declared.answer.UnsoundKind.TheVariants.{Cause}
use Rattle.cbdc_model.specs.Records.{Record, journal}
use Rattle.cbdc_model.specs.History.{committed, newly_won}
use Rattle.audit.specs.declared.place.Place.{Place}
use Rattle.audit.specs.Rows.{read, newest_first, IsRecordPlace}
use Rattle.audit.specs.Knowing.{Knows}
use Rattle.audit.specs.Walks.{AllCaused}
use Rattle.audit.specs.Spending.{IsFirstWrong}
use Rattle.audit.specs.Keeping.{HasSpent}
use Rattle.audit.proofs.Steps.{known_next, spent_next, first_fault, fault_of, passes_of}
use Rattle.audit.proofs.auditing.walk.Goals as goal

no_place : Place
no_place = record { node = 0; index = 0 }

never : (b : Bool) → b ≡ false → b ≡ true → ⊥
never b e f = cc

pub places-init : goal.places-init
places-init c = (c.new-known.ensures (read c.args.journals.now), tt, λ mint index spent. spent)

pub returns-then-not-branch : goal.returns-then-not-branch
unfolding no_place
returns-then-not-branch c = λ mint index spent.
    let J : ℕ → List Record = λ n. journal n (newest_first (read c.args.journals.now) (take c.places.at c.args.history.now)) in
    let s = c.places.invariant.2 mint index spent in
    first_fault c.args.shape.now mint c.args.handed.now (read c.args.journals.now) c.args.history.now c.places.at
    (get_or c.args.history.now c.places.at no_place) no_place c.record_at-r.result.now Cause s.left
    c.places-test.true refl c.record_at-r.ensures
    (passes_of c.args.shape.now mint c.args.handed.now (newest_first (read c.args.journals.now) (take c.places.at c.args.history.now)) c.places.fold
    c.places.invariant.1 s)
    (λ caused. never c.in_ok-is_caused.field-0 c.if-not-branch.true ((c.in_ok-is_caused.ensures J c.places.invariant.0).1 caused))

pub returns-in-Some : goal.returns-in-Some
unfolding no_place
returns-in-Some c = λ mint index spent.
    let J : ℕ → List Record = λ n. journal n (newest_first (read c.args.journals.now) (take c.places.at c.args.history.now)) in
    let s = c.places.invariant.2 mint index spent in
    let wrong : IsFirstWrong mint c.args.handed.now (committed (newest_first (read c.args.journals.now) (take c.places.at c.args.history.now)))
    (newly_won c.record_at-r.result.now (J (get_or c.args.history.now c.places.at no_place).node)) c.in-Some.kind
    = subst (λ o. MatchOption o (HasSpent mint c.args.handed.now
    (committed (newest_first (read c.args.journals.now) (take c.places.at c.args.history.now))
    ++ newly_won c.record_at-r.result.now (J (get_or c.args.history.now c.places.at no_place).node)) c.commit.new.fold)
    (IsFirstWrong mint c.args.handed.now (committed (newest_first (read c.args.journals.now) (take c.places.at c.args.history.now)))
    (newly_won c.record_at-r.result.now (J (get_or c.args.history.now c.places.at no_place).node)))) c.in-Some.is
    (c.in_ok-kind.ensures mint (committed (newest_first (read c.args.journals.now) (take c.places.at c.args.history.now))) J c.places.invariant.0
    index s) in
    first_fault c.args.shape.now mint c.args.handed.now (read c.args.journals.now) c.args.history.now c.places.at
    (get_or c.args.history.now c.places.at no_place) no_place c.record_at-r.result.now c.in-Some.kind s.left
    c.places-test.true refl c.record_at-r.ensures
    (passes_of c.args.shape.now mint c.args.handed.now (newest_first (read c.args.journals.now) (take c.places.at c.args.history.now)) c.places.fold
    c.places.invariant.1 s)
    (fault_of c.args.shape.now mint c.args.handed.now (newest_first (read c.args.journals.now) (take c.places.at c.args.history.now)) _ c.in-Some.kind
    ((c.in_ok-is_caused.ensures J c.places.invariant.0).0 c.if-not-branch.false) wrong)

pub places-preserved : goal.places-preserved
unfolding no_place
places-preserved c =
    let J : ℕ → List Record = λ n. journal n (newest_first (read c.args.journals.now) (take c.places.at c.args.history.now)) in
    let k = known_next c.args.shape.now (read c.args.journals.now) c.args.history.now c.places.at (get_or c.args.history.now c.places.at no_place)
    no_place c.record_at-r.result.now c.note.new.self
    c.places-test.true refl c.record_at-r.ensures
    (c.in_ok-note.ensures (read c.args.journals.now) (newest_first (read c.args.journals.now) (take c.places.at c.args.history.now))
    (All-get_or (IsRecordPlace (read c.args.journals.now)) c.args.history.now c.places.at no_place c.places-test.true c.requires.places)
    (sym c.record_at-r.ensures) c.places.invariant.0)
    ((c.in_ok-is_caused.ensures J c.places.invariant.0).0 c.if-not-branch.false) c.places.invariant.1 in (
      k.0,
      k.1,
      λ mint index spent.
          spent_next mint c.args.handed.now (read c.args.journals.now) c.args.history.now c.places.at
          (get_or c.args.history.now c.places.at no_place) no_place c.record_at-r.result.now _
          c.places-test.true refl c.record_at-r.ensures
          (subst (λ o. MatchOption o (HasSpent mint c.args.handed.now
          (committed (newest_first (read c.args.journals.now) (take c.places.at c.args.history.now))
          ++ newly_won c.record_at-r.result.now (J (get_or c.args.history.now c.places.at no_place).node)) c.commit.new.fold)
          (IsFirstWrong mint c.args.handed.now (committed (newest_first (read c.args.journals.now) (take c.places.at c.args.history.now)))
          (newly_won c.record_at-r.result.now (J (get_or c.args.history.now c.places.at no_place).node)))) c.in_default.is
          (c.in_ok-kind.ensures mint (committed (newest_first (read c.args.journals.now) (take c.places.at c.args.history.now))) J
          c.places.invariant.0 index (c.places.invariant.2 mint index spent))),
    )

pub returns : goal.returns
returns c = λ mint index spent.
    subst (λ h. Knows (read c.args.journals.now) c.places.known (λ n. journal n (newest_first (read c.args.journals.now) h))
    × AllCaused c.args.shape.now (newest_first (read c.args.journals.now) h)
    × HasSpent mint c.args.handed.now (committed (newest_first (read c.args.journals.now) h)) c.places.fold)
    (take_all c.places.at c.args.history.now c.places-test.false) (c.places.invariant.0, c.places.invariant.1, c.places.invariant.2 mint index spent)
