-- Batches of a lane among new records: how many transactions they have, and that what was decided of older ones stays.
use Rattle.std.proofs.Common.{◌≡◌, ℕ, zero, suc, ◌+◌, ◌-◌, ◌<◌, ◌≤◌, Bool, true, false, ◌==◌, nat_lt, if◌then◌else◌, drop, length-take, length-drop}
use Rattle.std.proofs.Common.{List, [], ◌∷◌, ◌++◌, map, reverse, length, Option, Some, None, refl, sym, ap, ◌∙◌, arith, append_assoc}
use Rattle.std.specs.Prelude.{slice_get, option_map}
use Rattle.std.proofs.lemmas.List.{reverse-append, length-append}
use Rattle.std.proofs.lemmas.Bool.{le-ltb, ltb-true, ltb-false}
use Rattle.cbdc_model.specs.Records.{Batch, Compact, Outcome, Record, is_of, outcomes_of, Prepare}
use Rattle.cbdc_model.specs.Waves.{prepared, IsCut}
use Rattle.cbdc_model.specs.Places.{PlaceIn, Sized, sized_before, sized_onto, place_of, outcome_at, outcome_in}
use Rattle.ledger_laws.proofs.Slots.{same_batch_is}
pub use Rattle.run_laws.proofs.Numbers.{prepared_more}
use Rattle.ledger_runs.specs.Telling.{decided_in, decided_of, AreDecided}

-- ---- batches of more records

sized_append : (lane : ℕ) (a b : List Record) (os : List Sized) → sized_onto lane (a ++ b) os ≡ sized_onto lane b (sized_onto lane a os)
sized_append lane [] b os = refl
sized_append lane (r ∷ a) b os = sized_append lane a b (sized_before lane r os)

before_behind : (lane : ℕ) (r : Record) (os others : List Sized) → sized_before lane r (os ++ others) ≡ sized_before lane r os ++ others
before_behind lane (Prepare stamp c txs) os others = elim (c.lane == lane)
    as (λ l. (if l then record { batch = c; size = length txs } ∷ (os ++ others) else os ++ others)
    ≡ (if l then record { batch = c; size = length txs } ∷ os else os) ++ others) [
      | true ↦ refl
      | false ↦ refl
    ]
before_behind lane other os others = refl

sized_behind : (lane : ℕ) (a : List Record) (os others : List Sized) → sized_onto lane a (os ++ others) ≡ sized_onto lane a os ++ others
sized_behind lane [] os others = refl
sized_behind lane (r ∷ a) os others = ap (sized_onto lane a) (before_behind lane r os others) ∙ sized_behind lane a (sized_before lane r os) others

-- the batches of newer records come behind those of the older ones
pub sized_more : (lane : ℕ) (newer older : List Record) → sized_onto lane (newer ++ older) [] ≡ sized_onto lane older [] ++ sized_onto lane newer []
sized_more lane newer older = sized_append lane newer older [] ∙ sized_behind lane older [] (sized_onto lane newer [])

-- ---- records of one batch

abbrev pub AllOf : Batch → List Record → Type 0
AllOf b [] = Unit {0}
AllOf b (r ∷ rs) = (is_of b r ≡ true) × AllOf b rs

abbrev its_size : Batch → List Compact → Sized
its_size b txs = record { batch = b; size = length txs }

turned : (f : List Compact → Sized) (txs : List Compact) (P : List (List Compact)) (os : List Sized)
    → reverse (map f P) ++ (f txs ∷ os) ≡ reverse (map f (txs ∷ P)) ++ os
turned f txs P os = sym (ap (λ l. l ++ os) (reverse-append (f txs ∷ []) (map f P)) ∙ append_assoc (reverse (map f P)) (f txs ∷ []) os)

pub sized_of : (lane : ℕ) (b : Batch) (d : List Record) (os : List Sized) → AllOf b d
    → sized_onto lane d os ≡ reverse (map (its_size b) (prepared lane d)) ++ os
sized_of lane b [] os all = refl
sized_of lane b (Prepare stamp c txs ∷ d) os all = elim (c.lane == lane)
    as (λ l. sized_onto lane d (if l then record { batch = c; size = length txs } ∷ os else os)
    ≡ reverse (map (its_size b) (if l then txs ∷ prepared lane d else prepared lane d)) ++ os) [
      | true ↦
          ap (λ x. sized_onto lane d (its_size x txs ∷ os)) (same_batch_is c b all.0) ∙ sized_of lane b d (its_size b txs ∷ os) all.1
          ∙ turned (its_size b) txs (prepared lane d) os
      | false ↦ sized_of lane b d os all.1
    ]
sized_of lane b (other ∷ d) os all = sized_of lane b d os all.1

-- ---- how many transactions they have

abbrev pub total : List Sized → ℕ
total [] = 0
total (s ∷ S) = s.size + total S

abbrev pub joint : {A : Type 0} → List (List A) → ℕ
joint [] = 0
joint (p ∷ P) = length p + joint P

pub total_more : (A B : List Sized) → total (A ++ B) ≡ total A + total B
total_more [] B = omega arith
total_more (a ∷ A) B = let r = total_more A B in omega (arith, r)

joint_more : {A : Type 0} (xs ys : List (List A)) → joint (xs ++ ys) ≡ joint xs + joint ys
joint_more [] ys = omega arith
joint_more (x ∷ xs) ys = let r = joint_more xs ys in omega (arith, r)

pub joint_turned : {A : Type 0} (xs : List (List A)) → joint (reverse xs) ≡ joint xs
joint_turned [] = refl
joint_turned (x ∷ xs) =
    let r = joint_turned xs in
    let t = joint_more (reverse xs) (x ∷ []) in
    ap joint (reverse-append (x ∷ []) xs) ∙ omega (arith, r, t)

before_total : (lane : ℕ) (r : Record) (J : List Record) (os : List Sized)
    → total (sized_before lane r os) + joint (prepared lane J) ≡ total os + joint (prepared lane (r ∷ J))
before_total lane (Prepare stamp c txs) J os = elim (c.lane == lane)
    as (λ l. total (if l then record { batch = c; size = length txs } ∷ os else os) + joint (prepared lane J)
    ≡ total os + joint (if l then txs ∷ prepared lane J else prepared lane J)) [
      | true ↦ omega arith
      | false ↦ refl
    ]
before_total lane other J os = refl

sized_total : (lane : ℕ) (d : List Record) (os : List Sized) → total (sized_onto lane d os) ≡ total os + joint (prepared lane d)
sized_total lane [] os = omega arith
sized_total lane (r ∷ d) os = let h = sized_total lane d (sized_before lane r os) in let b = before_total lane r d os in omega (arith, h, b)

pub total_is : (lane : ℕ) (d : List Record) → total (sized_onto lane d []) ≡ joint (prepared lane d)
total_is lane d = let h = sized_total lane d [] in omega (arith, h)

before_count : (lane : ℕ) (r : Record) (J : List Record) (os : List Sized)
    → length (sized_before lane r os) + length (prepared lane J) ≡ length os + length (prepared lane (r ∷ J))
before_count lane (Prepare stamp c txs) J os = elim (c.lane == lane)
    as (λ l. length (if l then record { batch = c; size = length txs } ∷ os else os) + length (prepared lane J)
    ≡ length os + length (if l then txs ∷ prepared lane J else prepared lane J)) [
      | true ↦ omega arith
      | false ↦ refl
    ]
before_count lane other J os = refl

sized_count : (lane : ℕ) (d : List Record) (os : List Sized) → length (sized_onto lane d os) ≡ length os + length (prepared lane d)
sized_count lane [] os = omega arith
sized_count lane (r ∷ d) os = let h = sized_count lane d (sized_before lane r os) in let b = before_count lane r d os in omega (arith, h, b)

-- as many batches as Prepares
pub count_is : (lane : ℕ) (d : List Record) → length (sized_onto lane d []) ≡ length (prepared lane d)
count_is lane d = let h = sized_count lane d [] in omega (arith, h)

pub cut_total : {A : Type 0} (n : ℕ) (xs : List A) (pieces : List (List A)) → IsCut n xs pieces → joint pieces ≡ length xs
cut_total n xs [] c = ap length (sym c)
cut_total n xs (piece ∷ pieces) c =
    let r = cut_total n (drop n xs) pieces c.2 in
    let a = ap length c.1 in
    let t = length-take n xs in
    let d = length-drop n xs in
    omega (arith, r, a, t, d)

-- ---- what stays

decided_length : (b : Batch) (os : List Outcome) → length (decided_in b os) ≡ length os
decided_length b [] = refl
decided_length b (o ∷ os) = ap (λ n. suc n) (decided_length b os)

pub decided_total : (J : List Record) (S : List Sized) → AreDecided J S → length (decided_of J S) ≡ total S
decided_total J [] all = refl
decided_total J (s ∷ S) all =
    let r = decided_total J S all.2 in
    let a = length-append (decided_in s.batch (outcomes_of J s.batch)) (decided_of J S) in
    let l = decided_length s.batch (outcomes_of J s.batch) in
    omega (arith, r, a, l, all.1)

pub fewer : (J : List Record) (S : List Sized) → AreDecided J S → length S ≤ total S
fewer J [] all = omega arith
fewer J (s ∷ S) all = let r = fewer J S all.2 in omega (arith, r, all.0)

-- what holds of each batch
abbrev pub EachSized : (Sized → Type 0) → List Sized → Type 0
EachSized Q [] = Unit {0}
EachSized Q (s ∷ S) = Q s × EachSized Q S

pub decided_as : (J L : List Record) (S : List Sized) → EachSized (λ s. outcomes_of L s.batch ≡ outcomes_of J s.batch) S
    → decided_of L S ≡ decided_of J S
decided_as J L [] same = refl
decided_as J L (s ∷ S) same = ap (λ os. decided_in s.batch os ++ decided_of L S) same.0
    ∙ ap (λ l. decided_in s.batch (outcomes_of J s.batch) ++ l) (decided_as J L S same.1)

pub are_decided_as : (J L : List Record) (S : List Sized) → EachSized (λ s. outcomes_of L s.batch ≡ outcomes_of J s.batch) S → AreDecided J S
    → AreDecided L S
are_decided_as J L [] same all = tt
are_decided_as J L (s ∷ S) same all = (all.0, ap length same.0 ∙ all.1, are_decided_as J L S same.1 all.2)

pub are_decided_both : (J : List Record) (A B : List Sized) → AreDecided J A → AreDecided J B → AreDecided J (A ++ B)
are_decided_both J [] B a b = b
are_decided_both J (s ∷ A) B a b = (a.0, a.1, are_decided_both J A B a.2 b)

pub decided_both : (J : List Record) (A B : List Sized) → decided_of J (A ++ B) ≡ decided_of J A ++ decided_of J B
decided_both J [] B = refl
decided_both J (s ∷ A) B =
    ap (λ l. decided_in s.batch (outcomes_of J s.batch) ++ l) (decided_both J A B)
    ∙ sym (append_assoc (decided_in s.batch (outcomes_of J s.batch)) (decided_of J A) (decided_of J B))

-- ---- where a transaction stands

-- the outcome at a place, with its batch
at_place : (b : Batch) (os : List Outcome) (q : ℕ) → slice_get (decided_in b os) q ≡ option_map (λ o. (b, o)) (outcome_at os q)
at_place b [] q = refl
at_place b (o ∷ os) zero = refl
at_place b (o ∷ os) (suc q) = at_place b os q

abbrev pub decided_at_place : List Record → Option PlaceIn → Option (Batch × Outcome)
decided_at_place J None = None
decided_at_place J (Some p) = option_map (λ o. (p.batch, o)) (outcome_in J p)

get_first : {A : Type 0} (xs ys : List A) (q : ℕ) → q < length xs → slice_get (xs ++ ys) q ≡ slice_get xs q
get_first [] ys q lt = absurd (omega (arith, lt))
get_first (x ∷ xs) ys zero lt = refl
get_first (x ∷ xs) ys (suc q) lt = get_first xs ys q (omega (arith, lt))

get_behind : {A : Type 0} (xs ys : List A) (q : ℕ) → length xs ≤ q → slice_get (xs ++ ys) q ≡ slice_get ys (q - length xs)
get_behind [] ys q le = ap (slice_get ys) (omega arith)
get_behind (x ∷ xs) ys zero le = absurd (omega (arith, le))
get_behind (x ∷ xs) ys (suc q) le = get_behind xs ys q (omega (arith, le)) ∙ ap (slice_get ys) (omega arith)

-- what is decided of a transaction is what stands at its place
pub decided_there : (J : List Record) (S : List Sized) (q : ℕ) → AreDecided J S → slice_get (decided_of J S) q ≡ decided_at_place J (place_of S q)
decided_there J [] q all = refl
decided_there J (s ∷ S) q all = go (λ n. decided_there J S n all.2) (nat_lt q s.size) refl
  where
    own : List (Batch × Outcome)
    own = decided_in s.batch (outcomes_of J s.batch)

    long : length own ≡ s.size
    long = decided_length s.batch (outcomes_of J s.batch) ∙ all.1

    go : ((n : ℕ) → slice_get (decided_of J S) n ≡ decided_at_place J (place_of S n)) → (l : Bool) → nat_lt q s.size ≡ l
        → slice_get (own ++ decided_of J S) q ≡ decided_at_place J (if l then Some (record { batch = s.batch; at = q }) else place_of S (q - s.size))
    go rest true e = get_first own (decided_of J S) q (let h = ltb-true q s.size e in omega (arith, h, long))
        ∙ at_place s.batch (outcomes_of J s.batch) q
    go rest false e = get_behind own (decided_of J S) q (let h = ltb-false q s.size e in omega (arith, h, long))
        ∙ ap (λ n. slice_get (decided_of J S) (q - n)) long ∙ rest (q - s.size)

-- places behind other batches, and among the first
pub place_behind : (A B : List Sized) (q : ℕ) → place_of (A ++ B) (total A + q) ≡ place_of B q
place_behind [] B q = ap (place_of B) (omega arith)
place_behind (a ∷ A) B q =
    ap (λ l. if l then Some (record { batch = a.batch; at = total (a ∷ A) + q }) else place_of (A ++ B) ((total (a ∷ A) + q) - a.size))
    (le-ltb (total (a ∷ A) + q) a.size (omega arith))
    ∙ ap (place_of (A ++ B)) (omega arith) ∙ place_behind A B q

pub place_first : (A B : List Sized) (q : ℕ) → q < total A → place_of (A ++ B) q ≡ place_of A q
place_first [] B q lt = absurd (omega (arith, lt))
place_first (a ∷ A) B q lt = go (λ n. place_first A B n) (nat_lt q a.size) refl
  where
    go : ((n : ℕ) → n < total A → place_of (A ++ B) n ≡ place_of A n) → (l : Bool) → nat_lt q a.size ≡ l
        → (if l then Some (record { batch = a.batch; at = q }) else place_of (A ++ B) (q - a.size))
        ≡ (if l then Some (record { batch = a.batch; at = q }) else place_of A (q - a.size))
    go rest true e = refl
    go rest false e = rest (q - a.size) (let h = ltb-false q a.size e in omega (arith, h, lt))
