-- The answers of a phase's calls, by shard.
use Rattle.std.proofs.Common.{◌≡◌, ℕ, zero, suc, ◌<◌, ◌≤◌, max, Bool, true, false, ◌==◌, List, [], ◌∷◌, length, map, take, Some, None, Result, Ok}
use Rattle.std.proofs.Common.{Err, IsOk, slice_index_or, refl, sym, ap, ◌∙◌, subst, arith}
use Rattle.std.specs.List.{All}
use Rattle.std.proofs.lemmas.List.Elements.{All-head, All-tail}
use Rattle.cbdc_types.specs.declared.calls.LockCall.{LockCall}
use Rattle.cbdc_types.specs.declared.calls.Replied.{Replied}
use Rattle.cbdc_types.specs.declared.batch.ShardReplies.{ShardReplies}
use Rattle.cbdc_types.specs.declared.calls.NodeFault.{NodeFault}
use Rattle.cbdc_model.specs.Causes.{greatest}
use Rattle.cbdc_model.specs.Deciding.{replies_at}
use Rattle.cbdc_model.specs.Sights.{Sight}
use Rattle.lane_laws.specs.Calls.{shard, NotAmong, AllAbove, IsRising, Every}
use Rattle.lane_laws.specs.Gathering.{FirstFault, ok_stamp, latest_of, stamp_at, gathered_reply}
use Rattle.lane_laws.specs.Answers.{EachTold, LockAnswer}

is_same : (a b : ℕ) → (a == b) ≡ true → a ≡ b
is_same a b t = grind (arith, t)

-- no call is for the shard, or one is, and has its answer
pub data AskedAt {C A : Type 0} (told : ℕ × C → Sight → Sight → A → Type 0) (P : ℕ × C → Type 0) (Good : A → Type 0) (cs : List (ℕ × C))
    (I J : ℕ → Sight) (s : ℕ) : Type 0 where
  no_call : NotAmong shard cs s → AskedAt told P Good cs I J s
  one_call : (c : ℕ × C) → P c → c.0 ≡ s → (a : A) → Good a → told c (I s) (J s) a → AskedAt told P Good cs I J s

pub asked_at : {C A : Type 0} (told : ℕ × C → Sight → Sight → A → Type 0) (P : ℕ × C → Type 0) (Good : A → Type 0) (I J : ℕ → Sight) (s : ℕ)
    (cs : List (ℕ × C)) (answers : List A)
    → EachTold told cs answers I J → Every P cs → Every Good answers → AskedAt told P Good cs I J s
asked_at told P Good I J s [] [] each every good = no_call tt
asked_at told P Good I J s [] (a ∷ answers) each every good = absurd each
asked_at told P Good I J s (c ∷ cs) [] each every good = absurd each
asked_at told P Good I J s (c ∷ cs) (a ∷ answers) each every good =
    elim (c.0 == s) as (λ t. (c.0 == s) ≡ t → AskedAt told P Good (c ∷ cs) I J s) [
      | true ↦ λ t. one_call c every.0 (is_same c.0 s t) a good.0 (subst (λ m. told c (I m) (J m) a) (is_same c.0 s t) each.0)
      | false ↦ λ t. more t (asked_at told P Good I J s cs answers each.1 every.1 good.1)
    ] refl
  where
    more : (c.0 == s) ≡ false → AskedAt told P Good cs I J s → AskedAt told P Good (c ∷ cs) I J s
    more t (no_call n) = no_call (t, n)
    more t (one_call d p e b h g) = one_call d p e b h g

pub every_any : {A : Type 0} (Good : A → Type 0) → ((a : A) → Good a) → (answers : List A) → Every Good answers
every_any Good h [] = tt
every_any Good h (a ∷ answers) = (h a, every_any Good h answers)

abbrev pub Fine : {A : Type 0} → Result A NodeFault → Type 0
Fine {A = A} a = (x : A) × (a ≡ Ok x)

fine : {A : Type 0} (a : Result A NodeFault) → IsOk a → Fine a
fine (Ok x) h = (x, refl)
fine (Err f) h = absurd (let z : false ≡ true = h in cc)

pub every_fine : {A : Type 0} (answers : List (Result A NodeFault)) → All IsOk answers → Every Fine answers
every_fine [] h = tt
every_fine (a ∷ answers) h = (fine a (All-head IsOk a answers h), every_fine answers (All-tail IsOk a answers h))

-- replies are all there is of a phase in which all went well
pub data LockedAt (alone : Bool) (P : ℕ × LockCall → Type 0) (cs : List (ℕ × LockCall)) (rs : List ShardReplies) (I J : ℕ → Sight) (s : ℕ) : Type 0
  where
    no_lock : NotAmong shard cs s → replies_at rs s ≡ None → LockedAt alone P cs rs I J s
    one_lock : (c : ℕ × LockCall) → P c → c.0 ≡ s → (rep : ShardReplies) → replies_at rs s ≡ Some rep
        → LockAnswer alone c (I s) (J s) (Ok (gathered_reply rep)) → LockedAt alone P cs rs I J s

pub gathered_fine : (cs : List (ℕ × LockCall)) (answers : List (Result Replied NodeFault)) (rs : List ShardReplies)
    → map (λ r. Ok (gathered_reply r)) rs ≡ answers → Every Fine answers
gathered_fine cs [] rs e = tt
gathered_fine cs (a ∷ answers) [] e = absurd (let z : [] ≡ a ∷ answers = e in cc)
gathered_fine cs (a ∷ answers) (r ∷ rs) e =
    let z : Ok (gathered_reply r) ∷ map (λ r. Ok (gathered_reply r)) rs ≡ a ∷ answers = e in
    ((gathered_reply r, cc), gathered_fine cs answers rs (cc))

pub locked_at : (alone : Bool) (P : ℕ × LockCall → Type 0) (I J : ℕ → Sight) (s : ℕ) (cs : List (ℕ × LockCall))
    (answers : List (Result Replied NodeFault)) (rs : List ShardReplies)
    → EachTold (LockAnswer alone) cs answers I J → map (λ r. r.shard) rs ≡ map shard cs → map (λ r. Ok (gathered_reply r)) rs ≡ answers → Every P cs
    → LockedAt alone P cs rs I J s
locked_at alone P I J s [] answers [] told h g every = no_lock tt refl
locked_at alone P I J s [] answers (r ∷ rs) told h g every = absurd (let z : r.shard ∷ map (λ r. r.shard) rs ≡ [] = h in cc)
locked_at alone P I J s (c ∷ cs) answers [] told h g every = absurd (let z : [] ≡ shard c ∷ map shard cs = h in cc)
locked_at alone P I J s (c ∷ cs) [] (r ∷ rs) told h g every = absurd told
locked_at alone P I J s (c ∷ cs) (a ∷ answers) (r ∷ rs) told h g every =
    elim (c.0 == s) as (λ t. (c.0 == s) ≡ t → LockedAt alone P (c ∷ cs) (r ∷ rs) I J s) [
      | true ↦ λ t. one_lock c every.0 (is_same c.0 s t) r (first t)
          (subst (λ n. LockAnswer alone c (I n) (J n) (Ok (gathered_reply r))) (is_same c.0 s t)
          (subst (λ b. LockAnswer alone c (I c.0) (J c.0) b) (sym answer_is) told.0))
      | false ↦ λ t. more t (locked_at alone P I J s cs answers rs told.1 shards_are replies_are every.1)
    ] refl
  where
    shard_is : r.shard ≡ c.0
    shard_is = let z : r.shard ∷ map (λ r. r.shard) rs ≡ c.0 ∷ map shard cs = h in cc

    shards_are : map (λ r. r.shard) rs ≡ map shard cs
    shards_are = let z : r.shard ∷ map (λ r. r.shard) rs ≡ c.0 ∷ map shard cs = h in cc

    answer_is : Ok (gathered_reply r) ≡ a
    answer_is = let z : Ok (gathered_reply r) ∷ map (λ r. Ok (gathered_reply r)) rs ≡ a ∷ answers = g in cc

    replies_are : map (λ r. Ok (gathered_reply r)) rs ≡ answers
    replies_are = let z : Ok (gathered_reply r) ∷ map (λ r. Ok (gathered_reply r)) rs ≡ a ∷ answers = g in cc

    first : (c.0 == s) ≡ true → replies_at (r ∷ rs) s ≡ Some r
    first t = let u : (r.shard == s) ≡ true = ap (λ n. n == s) shard_is ∙ t in rw u

    later : (c.0 == s) ≡ false → replies_at (r ∷ rs) s ≡ replies_at rs s
    later t = let u : (r.shard == s) ≡ false = ap (λ n. n == s) shard_is ∙ t in rw u

    more : (c.0 == s) ≡ false → LockedAt alone P cs rs I J s → LockedAt alone P (c ∷ cs) (r ∷ rs) I J s
    more t (no_lock n e) = no_lock (t, n) (later t ∙ e)
    more t (one_lock d p e b f w) = one_lock d p e b (later t ∙ f) w

-- the same of a phase whose answers are stamps
pub data StampedAt {C : Type 0} (told : ℕ × C → Sight → Sight → Result ℕ NodeFault → Type 0) (P : ℕ × C → Type 0) (cs : List (ℕ × C))
    (answers : List (Result ℕ NodeFault)) (I J : ℕ → Sight) (s : ℕ) : Type 0 where
  no_stamp : NotAmong shard cs s → stamp_at shard cs answers s ≡ 0 → StampedAt told P cs answers I J s
  one_stamp : (c : ℕ × C) → P c → c.0 ≡ s → (t : ℕ) → stamp_at shard cs answers s ≡ t → told c (I s) (J s) (Ok t) → StampedAt told P cs answers I J s

pub stamped_at : {C : Type 0} (told : ℕ × C → Sight → Sight → Result ℕ NodeFault → Type 0) (P : ℕ × C → Type 0) (I J : ℕ → Sight) (s : ℕ)
    (cs : List (ℕ × C)) (answers : List (Result ℕ NodeFault))
    → EachTold told cs answers I J → Every Fine answers → Every P cs → StampedAt told P cs answers I J s
stamped_at told P I J s [] [] each ok every = no_stamp tt refl
stamped_at told P I J s [] (a ∷ answers) each ok every = absurd each
stamped_at told P I J s (c ∷ cs) [] each ok every = absurd each
stamped_at told P I J s (c ∷ cs) (a ∷ answers) each ok every =
    elim (c.0 == s) as (λ t. (c.0 == s) ≡ t → StampedAt told P (c ∷ cs) (a ∷ answers) I J s) [
      | true ↦ λ t. one_stamp c every.0 (is_same c.0 s t) ok.0.0 (first t)
          (subst (λ m. told c (I m) (J m) (Ok ok.0.0)) (is_same c.0 s t) (subst (λ b. told c (I c.0) (J c.0) b) ok.0.1 each.0))
      | false ↦ λ t. more t (stamped_at told P I J s cs answers each.1 ok.1 every.1)
    ] refl
  where
    first : (c.0 == s) ≡ true → stamp_at shard (c ∷ cs) (a ∷ answers) s ≡ ok.0.0
    first t = rw t (ap ok_stamp ok.0.1)

    later : (c.0 == s) ≡ false → stamp_at shard (c ∷ cs) (a ∷ answers) s ≡ stamp_at shard cs answers s
    later t = rw t

    more : (c.0 == s) ≡ false → StampedAt told P cs answers I J s → StampedAt told P (c ∷ cs) (a ∷ answers) I J s
    more t (no_stamp m e) = no_stamp (t, m) (later t ∙ e)
    more t (one_stamp d p e b f h) = one_stamp d p e b (later t ∙ f) h

-- the call that the first fault answers
pub first_at : {C A : Type 0} (told : ℕ × C → Sight → Sight → Result A NodeFault → Type 0) (P : ℕ × C → Type 0) (I J : ℕ → Sight) (s : ℕ)
    (f : NodeFault) (cs : List (ℕ × C)) (answers : List (Result A NodeFault))
    → EachTold told cs answers I J → Every P cs → FirstFault shard cs answers s f → (c : ℕ × C) × P c × (c.0 ≡ s) × told c (I s) (J s) (Err f)
first_at {C = C} {A = A} told P I J s f cs answers each every first = go cs answers each every first.place first.inside first.call first.fault
  where
    go : (cs : List (ℕ × C)) (answers : List (Result A NodeFault)) → EachTold told cs answers I J → Every P cs → (place : ℕ) → place < length cs
        → ((c : ℕ × C) → shard (slice_index_or cs place c) ≡ s) → ((a : Result A NodeFault) → slice_index_or answers place a ≡ Err f)
        → (c : ℕ × C) × P c × (c.0 ≡ s) × told c (I s) (J s) (Err f)
    go [] answers each every place lt call fault = absurd (omega arith)
    go (c ∷ cs) [] each every place lt call fault = absurd each
    go (c ∷ cs) (a ∷ answers) each every zero lt call fault =
        (c, every.0, call c, subst (λ b. told c (I s) (J s) b) (fault a) (subst (λ m. told c (I m) (J m) a) (call c) each.0))
    go (c ∷ cs) (a ∷ answers) each every (suc place) lt call fault = go cs answers each.1 every.1 place (omega arith) call fault

-- no call is for a shard below all of theirs
none_below : {C : Type 0} (n k : ℕ) (cs : List (ℕ × C)) → k < n → AllAbove shard n cs → NotAmong shard cs k
none_below n k [] lt above = tt
none_below n k (c ∷ cs) lt above = (apart c.0 n k above.0 lt, none_below n k cs lt above.1)
  where
    apart : (m n k : ℕ) → n < m → k < n → (m == k) ≡ false
    apart m n k a b = grind (arith, a, b)

-- a call for a lesser shard than that of the first fault was answered Ok
pub before_at : {C A : Type 0} (told : ℕ × C → Sight → Sight → Result A NodeFault → Type 0) (P : ℕ × C → Type 0) (I J : ℕ → Sight) (s k : ℕ)
    (f : NodeFault) (cs : List (ℕ × C)) (answers : List (Result A NodeFault))
    → EachTold told cs answers I J → Every P cs → IsRising shard cs → FirstFault shard cs answers s f → k < s → (NotAmong shard cs k → ⊥)
    → (c : ℕ × C) × P c × (c.0 ≡ k) × (a : A) × told c (I k) (J k) (Ok a)
before_at {C = C} {A = A} told P I J s k f cs answers each every rising first lt =
    go cs answers each every rising first.place first.inside first.call first.before
  where
    go : (cs : List (ℕ × C)) (answers : List (Result A NodeFault)) → EachTold told cs answers I J → Every P cs → IsRising shard cs → (place : ℕ)
        → place < length cs
        → ((c : ℕ × C) → shard (slice_index_or cs place c) ≡ s) → All IsOk (take place answers) → (NotAmong shard cs k → ⊥)
        → (c : ℕ × C) × P c × (c.0 ≡ k) × (a : A) × told c (I k) (J k) (Ok a)
    go [] answers each every rising place inside call ok among = absurd (omega arith)
    go (c ∷ cs) [] each every rising place inside call ok among = absurd each
    go (c ∷ cs) (a ∷ answers) each every rising zero inside call ok among =
        let low : k < c.0 = subst (λ n. k < n) (sym (call c)) lt in absurd (among (apart c.0 low, none_below c.0 k cs low rising.0))
      where
        apart : (n : ℕ) → k < n → (n == k) ≡ false
        apart n low = grind (arith, low)
    go (c ∷ cs) (a ∷ answers) each every rising (suc place) inside call ok among =
        elim (c.0 == k) as (λ t. (c.0 == k) ≡ t → (c : ℕ × C) × P c × (c.0 ≡ k) × (a : A) × told c (I k) (J k) (Ok a)) [
          | true ↦ λ t. (
              let x = fine a (All-head IsOk a (take place answers) ok) in (
                c,
                every.0,
                is_same c.0 k t,
                x.0,
                subst (λ m. told c (I m) (J m) (Ok x.0)) (is_same c.0 k t) (subst (λ b. told c (I c.0) (J c.0) b) x.1 each.0),
              ))
          | false ↦ λ t. go cs answers each.1 every.1 rising.1 place (omega arith) call (All-tail IsOk a (take place answers) ok) (λ n. among (t, n))
        ] refl

-- the greatest of the answers is the greatest by shard
greatest_with : (f g : ℕ → ℕ) (at t : ℕ) → ((s : ℕ) → (at == s) ≡ false → f s ≡ g s) → f at ≡ t → g at ≡ 0 → (n : ℕ) → at < n
    → greatest f n ≡ max t (greatest g n)
greatest_with f g at t away here none zero lt = absurd (omega arith)
greatest_with f g at t away here none (suc n) lt =
    elim (at == n) as (λ b. (at == n) ≡ b → greatest f (suc n) ≡ max t (greatest g (suc n))) [
      | true ↦ λ b. (
          let e : at ≡ n = is_same at n b in
          let f_is : f n ≡ t = subst (λ m. f m ≡ t) e here in
          let g_is : g n ≡ 0 = subst (λ m. g m ≡ 0) e none in
          let below : greatest f n ≡ greatest g n = same n (omega arith) in
          grind (arith, f_is, g_is, below))
      | false ↦ λ b. (
          let lt' : at < n = grind (arith, lt, b) in
          let more : greatest f n ≡ max t (greatest g n) = greatest_with f g at t away here none n lt' in
          let f_is : f n ≡ g n = away n b in
          grind (arith, more, f_is))
    ] refl
  where
    apart : (k : ℕ) → k < at → (at == k) ≡ false
    apart k lt = grind (arith, lt)

    same : (k : ℕ) → k ≤ at → greatest f k ≡ greatest g k
    same zero h = refl
    same (suc k) h = λ i. max (same k (omega arith) i) (away k (apart k (omega arith)) i)

above_none : {C : Type 0} (n : ℕ) (cs : List (ℕ × C)) (answers : List (Result ℕ NodeFault)) → AllAbove shard n cs → stamp_at shard cs answers n ≡ 0
above_none n [] answers h = refl
above_none n (c ∷ cs) [] h = refl
above_none n (c ∷ cs) (a ∷ answers) h = let t : (c.0 == n) ≡ false = apart c.0 n h.0 in rw t (above_none n cs answers h.1)
  where
    apart : (k n : ℕ) → n < k → (k == n) ≡ false
    apart k n lt = grind (arith, lt)

greatest_zero : (n : ℕ) → greatest (λ s. 0) n ≡ 0
greatest_zero zero = refl
greatest_zero (suc n) = let e : greatest (λ s. 0) n ≡ 0 = greatest_zero n in grind (arith, e)

pub latest_by_shard : {C : Type 0} (n : ℕ) (cs : List (ℕ × C)) (answers : List (Result ℕ NodeFault)) → IsRising shard cs → Every (λ c. c.0 < n) cs
    → length answers ≡ length cs
    → latest_of answers ≡ greatest (λ s. stamp_at shard cs answers s) n
latest_by_shard n [] [] rising below e = sym (greatest_zero n)
latest_by_shard n [] (a ∷ answers) rising below e = absurd (omega arith)
latest_by_shard n (c ∷ cs) [] rising below e = absurd (omega arith)
latest_by_shard n (c ∷ cs) (a ∷ answers) rising below e =
    ap (λ m. max (ok_stamp a) m) (latest_by_shard n cs answers rising.1 below.1 (omega arith))
    ∙ sym (greatest_with (λ s. stamp_at shard (c ∷ cs) (a ∷ answers) s) (λ s. stamp_at shard cs answers s) c.0 (ok_stamp a) away here
    (above_none c.0 cs answers rising.0) n below.0)
  where
    away : (s : ℕ) → (c.0 == s) ≡ false → stamp_at shard (c ∷ cs) (a ∷ answers) s ≡ stamp_at shard cs answers s
    away s t = rw t

    itself : (k : ℕ) → (k == k) ≡ true
    itself k = grind arith

    here : stamp_at shard (c ∷ cs) (a ∷ answers) c.0 ≡ ok_stamp a
    here = let t : (c.0 == c.0) ≡ true = itself c.0 in rw t

pub told_length : {C A : Type 0} (told : ℕ × C → Sight → Sight → A → Type 0) (cs : List (ℕ × C)) (answers : List A) (I J : ℕ → Sight)
    → EachTold told cs answers I J → length answers ≡ length cs
told_length told [] [] I J each = refl
told_length told [] (a ∷ answers) I J each = absurd each
told_length told (c ∷ cs) [] I J each = absurd each
told_length told (c ∷ cs) (a ∷ answers) I J each = let e : length answers ≡ length cs = told_length told cs answers I J each.1 in omega arith
