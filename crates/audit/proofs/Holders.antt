-- Of a Lock, at most one entry holds a hash; and the invariant of a view where it is only told whether a Lock holds a hash.
use Rattle.std.proofs.Common.{◌≡◌, ◌⊎◌, inl, inr, ℕ, ◌+◌, ◌-◌, ◌<◌, ◌≤◌, min, Bool, true, false, if◌then◌else◌, List, [], ◌∷◌, ◌++◌, refl, sym, ap}
use Rattle.std.proofs.Common.{◌∙◌, arith}
use Rattle.cbdc_model.specs.After.{FitsReplies}
use Rattle.cbdc_model.specs.Records.{Digest, Batch, Compact, Entry, Reply, Answered, Record, is_held}
use Rattle.cbdc_model.specs.Replies.{answered, reply_to}
use Rattle.cbdc_model.specs.Status.{held_inputs, taken_inputs, returned_inputs}
use Rattle.cbdc_model.specs.History.{all_inputs}
use Rattle.ledger_laws.proofs.Counts.{count, count-append}
use Rattle.ledger_laws.proofs.Replies.{answered_held}
use Rattle.ledger_laws.proofs.View.{View, measured, Inv, Awaited, none, some, none_or_some}
use Rattle.ledger_laws.proofs.CommitStep.{Commits, commit_inv}
use Rattle.ledger_laws.proofs.FinishStep.{Finishes, FinishesAt, here, elsewhere}

-- an entry that holds the hash is the last that does
abbrev pub OneHolder : Digest → List Answered → Type 0
OneHolder x [] = Unit {0}
OneHolder x (a ∷ es) = (is_held a.reply ≡ true → 0 < count x a.entry.inputs → count x (held_inputs es) ≡ 0) × OneHolder x es

claimed_by : (r : Reply) (inputs claimed : List Digest) (x : Digest) → is_held r ≡ true → 0 < count x inputs
    → 0 < count x (if is_held r then inputs ++ claimed else claimed)
claimed_by r inputs claimed x h n = rw h (omega (arith, count-append x inputs claimed))

pub answered_one : (past : List Record) (b : Batch) (claimed : List Digest) (es : List Entry) (x : Digest) → OneHolder x (answered past b claimed es)
answered_one past b claimed [] x = tt
answered_one past b claimed (e ∷ es) x = (
  λ h n. no_more (count x (held_inputs (answered past b (if is_held (reply_to past b claimed e.inputs) then e.inputs ++ claimed else claimed) es)))
      (λ m. (answered_held past b (if is_held (reply_to past b claimed e.inputs) then e.inputs ++ claimed else claimed) es x m).1)
      (claimed_by (reply_to past b claimed e.inputs) e.inputs claimed x h n),
  answered_one past b (if is_held (reply_to past b claimed e.inputs) then e.inputs ++ claimed else claimed) es x,
)
  where
    no_more : (m : ℕ) {c : ℕ} → (0 < m → c ≡ 0) → 0 < c → m ≡ 0
    no_more m f n = elim (none_or_some m) [ none z ↦ z | some k ↦ absurd (omega (arith, f k)) ]

-- what the held entries have, committed or not
held_none : (x : Digest) (es : List Answered) (ds : List Bool) → FitsReplies es ds → count x (held_inputs es) ≡ 0
    → (count x (taken_inputs es ds) ≡ 0) × (count x (returned_inputs es ds) ≡ 0)
held_none x [] [] fits z = (refl, refl)
held_none x [] (d ∷ ds) fits z = absurd fits
held_none x (a ∷ es) [] fits z = absurd fits
held_none x (a ∷ es) (d ∷ ds) fits z = by (is_held a.reply) d refl refl (λ z'. held_none x es ds fits.1 z')
  where
    by : (h d' : Bool) → is_held a.reply ≡ h → d ≡ d'
        → (count x (held_inputs es) ≡ 0 → (count x (taken_inputs es ds) ≡ 0) × (count x (returned_inputs es ds) ≡ 0))
        → (count x (taken_inputs (a ∷ es) (d ∷ ds)) ≡ 0) × (count x (returned_inputs (a ∷ es) (d ∷ ds)) ≡ 0)
    by true true h e more =
        let z' : count x (a.entry.inputs ++ held_inputs es) ≡ 0 = rw h at z in
        let i = more (omega (arith, count-append x a.entry.inputs (held_inputs es))) in
        (rw e (omega (arith, count-append x a.entry.inputs (taken_inputs es ds), count-append x a.entry.inputs (held_inputs es), i.0)), rw (h, e) i.1)
    by true false h e more =
        let z' : count x (a.entry.inputs ++ held_inputs es) ≡ 0 = rw h at z in
        let i = more (omega (arith, count-append x a.entry.inputs (held_inputs es))) in (
          rw e i.0,
          rw (h, e) (omega (arith, count-append x a.entry.inputs (returned_inputs es ds), count-append x a.entry.inputs (held_inputs es), i.1)),
        )
    by false true h e more = absurd (let t : is_held a.reply ≡ true = fits.0 e in let n : true ≡ false = sym t ∙ h in cc)
    by false false h e more =
        let z' : count x (held_inputs es) ≡ 0 = rw h at z in
        let i = more z' in
        (rw e i.0, rw h i.1)

-- a hash that is taken is not returned
pub not_both : (x : Digest) (es : List Answered) (ds : List Bool) → OneHolder x es → FitsReplies es ds → 0 < count x (taken_inputs es ds)
    → count x (returned_inputs es ds) ≡ 0
not_both x [] [] one fits n = refl
not_both x [] (d ∷ ds) one fits n = absurd fits
not_both x (a ∷ es) [] one fits n = absurd fits
not_both x (a ∷ es) (d ∷ ds) one fits n = by (is_held a.reply) d refl refl (λ n'. not_both x es ds one.1 fits.1 n')
  where
    by : (h d' : Bool) → is_held a.reply ≡ h → d ≡ d' → (0 < count x (taken_inputs es ds) → count x (returned_inputs es ds) ≡ 0)
        → count x (returned_inputs (a ∷ es) (d ∷ ds)) ≡ 0
    by true true h e more =
        let n' : 0 < count x (a.entry.inputs ++ taken_inputs es ds) = rw e at n in
        elim (none_or_some (count x a.entry.inputs)) [
          | none z ↦ rw (h, e) (more (omega (arith, count-append x a.entry.inputs (taken_inputs es ds))))
          | some k ↦ rw (h, e) (held_none x es ds fits.1 (one.0 h k)).1
        ]
    by true false h e more =
        let n' : 0 < count x (taken_inputs es ds) = rw e at n in
        elim (none_or_some (count x a.entry.inputs)) [
          | none z ↦ rw (h, e) (omega (arith, more n', count-append x a.entry.inputs (returned_inputs es ds)))
          | some k ↦ absurd (omega (arith, (held_none x es ds fits.1 (one.0 h k)).0))
        ]
    by false true h e more = absurd (let t : is_held a.reply ≡ true = fits.0 e in let no : true ≡ false = sym t ∙ h in cc)
    by false false h e more =
        let n' : 0 < count x (taken_inputs es ds) = rw e at n in
        rw h (more n')

-- no transaction at all
abbrev pub Never : Compact → Type 0
Never t = ⊥

-- a view where it is only told whether a Lock holds a hash
abbrev pub capped : View → View
capped v = measured (λ n. min n 1) v

pub capped_inv : (genesis : Digest → ℕ) (v : View) → Inv genesis Never v → Inv genesis Never (capped v)
capped_inv genesis v inv = record {
  unspent = inv.unspent;
  locked = λ x b e. let h = inv.locked x b e in (h.0, h.1, h.2, omega (arith, h.3));
  absent = inv.absent;
  held = λ x b n f. inv.held x b (omega arith) f;
  held_once = λ x b. omega arith;
  spent_le = inv.spent_le;
  arrived_le = inv.arrived_le;
  made_once = inv.made_once;
  takes_le = inv.takes_le;
  makes_le = inv.makes_le;
  one_maker = inv.one_maker;
  pending = inv.pending;
  awaited = λ x n m. let a : Awaited v x = inv.awaited x n m in record { batch = a.batch; makes = a.makes; unfinished = a.unfinished };
  respent = λ t x y p m n i. absurd p;
}

-- a Finish, where no hash is both taken and returned
pub capped_finish : (v w : View) (b : Batch) → Finishes v w b
    → ((x : Digest) → v.takes b x ≤ 1) → ((x : Digest) → v.finished b x ≡ false → 0 < v.takes b x
    → (v.holds b x ≡ v.takes b x) ⊎ (w.finished b x ≡ v.finished b x)) → Finishes (capped v) (capped w) b
capped_finish v w b step once exact = record {
  at = λ x. elim (step.at x) [
    | here m r t f ↦ here m (min (r + t) 1 - t) t (at_here x m r t f)
    | elsewhere s ↦ elsewhere (record { status = s.status; arrived = s.arrived; finished = s.finished })
  ];
  others = step.others;
  spent = step.spent;
  made = step.made;
  takes = step.takes;
  makes = step.makes;
  holds = λ c x. ap (λ n. min n 1) (step.holds c x);
}
  where
    none_returned : (x : Digest) (m r t : ℕ) → FinishesAt v w b x m r t → 0 < t → r ≡ 0
    none_returned x m r t f n =
        let cases : (v.holds b x ≡ v.takes b x) ⊎ (w.finished b x ≡ v.finished b x) = exact x f.unfinished (omega (arith, f.takes_is)) in
        elim cases [
          | inl e ↦ omega (arith, f.holds_is, f.takes_is, e)
          | inr e ↦ absurd (let no : true ≡ false = sym f.finished ∙ e ∙ f.unfinished in cc)
        ]

    at_here : (x : Digest) (m r t : ℕ) → FinishesAt v w b x m r t → FinishesAt (capped v) (capped w) b x m (min (r + t) 1 - t) t
    at_here x m r t f = record {
      unfinished = f.unfinished;
      makes_is = f.makes_is;
      takes_is = f.takes_is;
      holds_is = holds x m r t f;
      to_made = f.to_made;
      to_returned = λ z n. f.to_returned z (omega arith);
      to_taken = λ z y n. f.to_taken z (none_returned x m r t f n) n;
      untouched = λ z y u. f.untouched z (omega arith) u;
      arrived = f.arrived;
      finished = f.finished;
    }
      where
        holds : (x : Digest) (m r t : ℕ) → FinishesAt v w b x m r t → min (v.holds b x) 1 ≡ (min (r + t) 1 - t) + t
        holds x m r t f = omega (arith, f.holds_is, f.takes_is, once x)

-- a Commit, where no hash is made twice, and none spent that was not made
module _ (genesis : Digest → ℕ) (P : Compact → Type 0) (v w : View) (inv : Inv genesis Never (capped v)) (b : Batch) (ts : List Compact)
    (step : Commits P v w b ts)
    (once : (x : Digest) → genesis x + w.made x ≤ 1) (covered : (x : Digest) → w.spent x ≤ genesis x + w.made x) where
  takes_once : (x : Digest) → count x (all_inputs ts) ≤ 1
  takes_once x = omega (arith, step.spent x, covered x, once x)

  capped_step : Commits P (capped v) (capped w) b ts
  capped_step = record {
    each = step.each;
    held = λ x. omega (arith, step.held x, takes_once x);
    unfinished = step.unfinished;
    took_none = step.took_none;
    made_none = step.made_none;
    spent = step.spent;
    made = step.made;
    takes = step.takes;
    makes = step.makes;
    other_takes = step.other_takes;
    other_makes = step.other_makes;
    status = step.status;
    arrived = step.arrived;
    finished = step.finished;
    holds = λ c x. ap (λ n. min n 1) (step.holds c x);
  }

  pub capped_commit : Inv genesis Never (capped w)
  capped_commit = commit_inv inv b ts capped_step takes_once (λ x n. (omega (arith, step.made x, once x), omega (arith, step.made x, once x))) once
      (λ t x y p m n i. absurd p)
