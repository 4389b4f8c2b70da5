-- What was told of a batch, from its Prepare on, and a lane that goes on by a batch.
use Rattle.std.proofs.Common.{◌≡◌, ℕ, zero, suc, ◌<◌, ◌≤◌, ◌==◌, Bool, true, false, List, [], ◌∷◌, length, take, drop, Ok, Err, refl, sym, ◌∙◌, ap}
use Rattle.std.proofs.Common.{subst, arith, rules}
use Rattle.std.specs.Prelude.{◌++◌, reverse}
use Rattle.std.proofs.lemmas.List.{reverse-append, length-take, length-drop}
use Rattle.cbdc_types.specs.declared.calls.NodeFault.{NodeFault}
use Rattle.cbdc_model.specs.Records.{Shape, Batch, Compact, Entry, Outcome}
use Rattle.cbdc_model.specs.Ranges.{home_of}
use Rattle.cbdc_model.specs.Slots.{slot}
use Rattle.cbdc_model.specs.Due.{prepare_due}
use Rattle.cbdc_model.specs.Sights.{Sight, Told}
use Rattle.lane_laws.specs.Calls.{AreParts}
use Rattle.lane_laws.specs.Batches.{BatchDone}
use Rattle.lane_laws.specs.Traces.{ToldPrepared, PreparedStopped, at_prepare, behind_prepare}
use Rattle.lane_driver.specs.declared.fault.Stop.{Stop}
use Rattle.lane_driver.specs.declared.fault.BatchReport.{BatchReport}
use Rattle.lane_driver.specs.Causes.{IsCausedStop}
use Rattle.lane_driver.specs.Wanting.{IsLockWant, wants_at_prepare, wants_at_lock}
use Rattle.lane_driver.specs.Reports.{AreDone}
use Rattle.lane_driver.specs.Showing.{LaneSights}
use Rattle.lane_driver.specs.Outcomes.{IsStop, IsBatchDone, IsBatchStop}

-- a batch from its Prepare on: it stopped there, or behind it, or it was done
module _ (K : Shape) (alone : Bool) (lane : ℕ) (txs : List Compact) (n : ℕ) (parts : List (ℕ × List Entry)) (are : AreParts K txs parts)
    (old new : LaneSights) where
  pub prepare_stops : (node : ℕ) (f : NodeFault) → node ≡ home_of K lane
      → Told alone lane true (prepare_due old.home.header.shape old.home.capacity lane txs) old.home new.home (Err f)
      → ((s : ℕ) → new.shards s ≡ old.shards s)
      → IsCausedStop K new.logs new.shards node f → IsBatchStop K alone lane txs n old new (record { node = node; fault = f })
  prepare_stops node f at told same cause = (
    parts,
    are,
    record {
      told_so = at_prepare told same at;
      cause = cause;
      want = λ w. wants_at_prepare (subst (λ g. Told alone lane true (prepare_due old.home.header.shape old.home.capacity lane txs) old.home new.home
          (Err g)) w told) same at;
    },
  )

  module _ (b : Batch) (t : ℕ) (log1 : Sight) (told : Told alone lane true (prepare_due old.home.header.shape old.home.capacity lane txs) old.home
      log1 (Ok (b, t))) where
    pub prepared_done : (os : List Outcome) → ToldPrepared alone b t n parts log1 new.home old.shards new.shards os
        → IsBatchDone K alone lane txs n old new (record { batch = b; outcomes = os })
    prepared_done os rest = (parts, are, record { log_prepared = log1; prepared = t; prepare = told; rest = rest })

    pub prepared_stops : (e : Stop) → IsStop K new (PreparedStopped K alone b t n parts log1 new.home old.shards new.shards)
        (IsLockWant K alone b t parts log1 new.home old.shards new.shards) e → IsBatchStop K alone lane txs n old new e
    prepared_stops e stop = (
      parts,
      are,
      record { told_so = behind_prepare b log1 t told stop.told_so; cause = stop.cause; want = λ w. wants_at_lock b log1 t told (stop.want w) },
    )

-- a lane goes on by a batch
pub done_on : (K : Shape) (alone : Bool) (lane : ℕ) (txs rest piece : List Compact) (log0 log1 log2 : Sight) (I0 I1 I2 : ℕ → Sight)
    → piece ≡ take K.batch rest → (more : List Compact) (reports news : List BatchReport) (r : BatchReport) → news ≡ reports ++ r ∷ []
    → 0 < length rest → more ≡ drop K.batch rest → AreDone K alone lane txs log0 I0 (reverse reports) rest log1 I1
    → BatchDone K alone lane (slot log1.seen lane).number piece log1 I1 log2 I2 r.batch r.outcomes
    → AreDone K alone lane txs log0 I0 (reverse news) more log2 I2
done_on K alone lane txs rest piece log0 log1 log2 I0 I1 I2 front more reports news r is some back older done =
    let next : AreDone K alone lane txs log0 I0 (r ∷ reverse reports) more log2 I2 = (
      rest,
      log1,
      I1,
      older,
      some,
      back,
      subst (λ p. BatchDone K alone lane (slot log1.seen lane).number p log1 I1 log2 I2 r.batch r.outcomes) front done,
    ) in
    subst (λ rs. AreDone K alone lane txs log0 I0 rs more log2 I2) (sym (ap reverse is ∙ reverse-append reports (r ∷ []))) next

pub none_left : (xs : List Compact) → true ≡ (length xs == 0) → xs ≡ []
none_left [] h = refl
none_left (x ∷ xs) h = absurd (some (length xs) (sym h))
  where
    some : (n : ℕ) → (suc n == 0) ≡ true → ⊥
    some n h = grind (arith, h)

-- there is something left where a piece of it is not empty
pub some_left : (n : ℕ) (rest piece : List Compact) → piece ≡ take n rest → 0 < length piece → 0 < length rest
some_left n [] piece is some = let none : 0 < 0 = subst (λ xs. 0 < length xs) (is ∙ take_nil n) some in absurd (omega (arith, none))
  where
    take_nil : (n : ℕ) → take {A = Compact} n [] ≡ []
    take_nil zero = refl
    take_nil (suc n) = refl
some_left n (x ∷ rest) piece is some = omega arith

-- and nothing where a piece of some size is
pub none_after : (n : ℕ) (rest piece : List Compact) → 0 < n → piece ≡ take n rest → piece ≡ [] → rest ≡ []
none_after n [] piece size is none = refl
none_after zero (x ∷ rest) piece size is none = absurd (omega (arith, size))
none_after (suc n) (x ∷ rest) piece size is none = absurd (let z : x ∷ take n rest ≡ [] = sym is ∙ none in cc)

pub not_empty : (xs : List Compact) → false ≡ (length xs == 0) → 0 < length xs
not_empty [] h = absurd (let e : false ≡ true = h in search rules)
not_empty (x ∷ xs) h = omega arith

-- a piece is no longer than asked
pub piece_size : (n : ℕ) (rest piece : List Compact) → piece ≡ take n rest → length piece ≤ n
piece_size n rest piece is = subst (λ xs. length xs ≤ n) (sym is) (omega (arith, length-take n rest))

-- less is left behind a piece that is not empty
pub fewer_left : (n : ℕ) (rest piece more : List Compact) → piece ≡ take n rest → more ≡ drop n rest → 0 < length piece → length more < length rest
fewer_left n rest piece more is back some =
    let m = ap (λ xs. length xs) back ∙ length-drop n rest in
    omega (arith, m, ap (λ xs. length xs) is ∙ length-take n rest, some)
