-- Which hashes are held and owed, row by row, and that those are the waiting and the coming ones.
use Rattle.std.proofs.Common.{◌≡◌, ◌⊎◌, inl, inr, ℕ, ◌+◌, ◌<◌, Bool, true, false, not, cond, ◌&&◌, ◌||◌, ◌==◌, List, [], ◌∷◌, ◌++◌, length, drop}
use Rattle.std.proofs.Common.{find, reverse, if◌then◌else◌, Option, Some, None, is_some, refl, sym, ap, ◌∙◌, subst}
use mathlib.Core.List.{reverse_aux}
use Rattle.std.specs.Prelude.{MatchOption}
use Rattle.std.specs.Borrow.{Bor}
use Rattle.std.proofs.lemmas.Bool.{cases_lt}
use Rattle.cbdc_model.specs.Records.{Digest, same_digest, Shape, Batch, Compact, Outcome, Answered, Record, Row, journal, record_of, entries_in}
use Rattle.cbdc_model.specs.Records.{txs_in, outcomes_in, lock_of, txs_of, outcomes_of, is_held, kind_of, is_of, same_batch, Genesis, Lock, Finish}
use Rattle.cbdc_model.specs.Records.{Forget, Start, Prepare, Commit, Discard, Done, lock_kind, commit_kind, finish_kind}
use Rattle.cbdc_model.specs.Status.{Status, status, has, Unspent, Locked, Absent}
use Rattle.cbdc_model.specs.Ranges.{shard_of, shard_node, home_of, journal_at, lane_journal}
use Rattle.cbdc_model.specs.Outcomes.{won_at, won_txs}
use Rattle.cbdc_model.specs.History.{won_of, all_outputs}
use Rattle.cbdc_model.specs.World.{IsUnspent}
use Rattle.ledger_laws.specs.Sets.{IsWaiting, IsComing}
use Rattle.ledger_laws.proofs.Counts.{has-count, count-has, same_digest_is}
use Rattle.ledger_laws.proofs.Members.{In, in_contains, contains_in, in_count, count_in}
use Rattle.ledger_laws.proofs.Lookups.{number_is, number_self, none_found}
use Rattle.ledger_laws.proofs.ByKind.{same_batch_is, same_batch_self, found_passes}
use Rattle.ledger_laws.proofs.Rows.{at, away, at_node, head_at, head_away}
use Rattle.shard_table.specs.Members.{IsSet}
use Rattle.shard_table.specs.Entries.{lookup}
use Rattle.std.proofs.lemmas.List.{reverse-reverse}
use Rattle.audit.specs.declared.statuses.Statuses.{Statuses}
use Rattle.audit.specs.Parts.{IsCount}
use Rattle.audit.specs.Standing.{said_of, is_here, is_locked_by, HasStatuses}
use Rattle.audit.specs.Waiting.{waits, waiting_inputs, holds_back, is_due, owes, any_row}
use Rattle.audit.proofs.Standing.{has_append, drop_end}

-- ---- tests

both : (a b : Bool) → (a && b) ≡ true → (a ≡ true) × (b ≡ true)
both true b e = (refl, e)
both false b e = absurd (let z : false ≡ true = e in cc)

pub and_false : (a b : Bool) → b ≡ false → (a && b) ≡ false
and_false true b e = e
and_false false b e = refl

pub and_false_left : (a b : Bool) → a ≡ false → (a && b) ≡ false
and_false_left a b e = ap (λ c. c && b) e

pub and_true : (a b : Bool) → a ≡ true → b ≡ true → (a && b) ≡ true
and_true a b e f = ap (λ c. c && b) e ∙ f

not_true : (a : Bool) → not a ≡ true → a ≡ false
not_true true e = absurd (let z : false ≡ true = e in cc)
not_true false e = refl

not_false : (a : Bool) → a ≡ false → not a ≡ true
not_false a e = ap not e

or_assoc : (a b c : Bool) → (a || (b || c)) ≡ ((a || b) || c)
or_assoc true b c = refl
or_assoc false b c = refl

-- what is not found is missing
pub is_missing : (q : Option (Bor Record)) (r : Option Record) (none : Bool) → MatchOption q (r ≡ None) (λ b. r ≡ Some b.now) → is_some q ≡ not none
    → none ≡ true → not (is_some r) ≡ true
is_missing None r none m e t = ap (λ o. not (is_some o)) m
is_missing (Some b) r none m e t = absurd (let z : true ≡ false = e ∙ ap not t in cc)

pub is_found : (q : Option (Bor Record)) (r : Option Record) (none : Bool) → MatchOption q (r ≡ None) (λ b. r ≡ Some b.now) → is_some q ≡ not none
    → none ≡ false → not (is_some r) ≡ false
is_found None r none m e t = absurd (let z : false ≡ true = e ∙ ap not t in cc)
is_found (Some b) r none m e t = ap (λ o. not (is_some o)) m

-- ---- sets that grow

-- by one hash that passes
pub add_step : (t : Digest → Bool) (x y : Digest) (rest old new : Bool) → ((z : Digest) → same_digest x z ≡ true → t z ≡ true)
    → new ≡ (same_digest x y || old)
    → (new || (rest && t y)) ≡ (old || ((same_digest x y || rest) && t y))
add_step t x y rest old new passes is =
    elim (same_digest x y) as (λ c. same_digest x y ≡ c → new ≡ (c || old) → (new || (rest && t y)) ≡ (old || ((c || rest) && t y))) [
      | true ↦ λ e n. yes old rest (t y) (passes y e) n
      | false ↦ λ e n. ap (λ b. b || (rest && t y)) n
    ] refl is
  where
    yes : (o r u : Bool) → u ≡ true → new ≡ true → (new || (r && u)) ≡ (o || u)
    yes true r u e n = ap (λ b. b || (r && u)) n
    yes false r u e n = ap (λ b. b || (r && u)) n ∙ sym e

-- by none, where a hash does not pass
pub pass_step : (t : Digest → Bool) (x y : Digest) (rest old : Bool) → ((z : Digest) → same_digest x z ≡ true → t z ≡ false)
    → (old || (rest && t y)) ≡ (old || ((same_digest x y || rest) && t y))
pass_step t x y rest old fails =
    elim (same_digest x y) as (λ c. same_digest x y ≡ c → (old || (rest && t y)) ≡ (old || ((c || rest) && t y))) [
      | true ↦ λ e. ap (λ b. old || b) (no rest (t y) (fails y e))
      | false ↦ λ e. refl
    ] refl
  where
    no : (r u : Bool) → u ≡ false → (r && u) ≡ u
    no true u e = refl
    no false u e = sym e

-- of a list of hashes
pub add_found : (t : Digest → Bool) (x y : Digest) (xs later : List Digest) (old new : Bool) → xs ≡ x ∷ later → t x ≡ true
    → new ≡ (same_digest x y || old) → (new || (has later y && t y)) ≡ (old || (has xs y && t y))
add_found t x y xs later old new cut passes is =
    add_step t x y (has later y) old new (λ z e. subst (λ w. t w ≡ true) (same_digest_is x z e) passes) is
    ∙ ap (λ l. old || (has l y && t y)) (sym cut)

pub pass_found : (t : Digest → Bool) (x y : Digest) (xs later : List Digest) (old new : Bool) → xs ≡ x ∷ later → t x ≡ false → new ≡ old
    → (new || (has later y && t y)) ≡ (old || (has xs y && t y))
pass_found t x y xs later old new cut fails is =
    ap (λ b. b || (has later y && t y)) is ∙ pass_step t x y (has later y) old (λ z e. subst (λ w. t w ≡ false) (same_digest_is x z e) fails)
    ∙ ap (λ l. old || (has l y && t y)) (sym cut)

-- by those of an entry that pass, and then by the others'
pub more_step : (all one rest t old new : Bool) → all ≡ (one || rest) → new ≡ (old || (one && t)) → (new || (rest && t)) ≡ (old || (all && t))
more_step all one rest t old new a n = ap (λ b. b || (rest && t)) n ∙ sort old one rest t ∙ sym (ap (λ b. old || (b && t)) a)
  where
    sort : (o p r u : Bool) → ((o || (p && u)) || (r && u)) ≡ (o || ((p || r) && u))
    sort true p r u = refl
    sort false true true true = refl
    sort false true true false = refl
    sort false true false true = refl
    sort false true false false = refl
    sort false false r u = refl

pub none_step : (all rest t old : Bool) → all ≡ rest → (old || (rest && t)) ≡ (old || (all && t))
none_step all rest t old a = sym (ap (λ b. old || (b && t)) a)

pub row_step : (old one rest new : Bool) → new ≡ (old || one) → (new || rest) ≡ (old || (one || rest))
row_step old one rest new n = ap (λ b. b || rest) n ∙ sym (or_assoc old one rest)

pub or_false : (a : Bool) → (a || false) ≡ a
or_false true = refl
or_false false = refl

-- ---- entries

module _ (os : List Outcome) (es : List Answered) (i : ℕ) (a : Answered) (cut : drop i es ≡ a ∷ drop (i + 1) es) (y : Digest) where
  pub waiting_more : waits os a ≡ true → has (waiting_inputs os (drop i es)) y ≡ (has a.entry.inputs y || has (waiting_inputs os (drop (i + 1) es)) y)
  waiting_more w = ap (λ l. has (waiting_inputs os l) y) cut
      ∙ ap (λ (c : Bool). has (if c then a.entry.inputs ++ waiting_inputs os (drop (i + 1) es) else waiting_inputs os (drop (i + 1) es)) y) w
      ∙ has_append a.entry.inputs (waiting_inputs os (drop (i + 1) es)) y

  pub waiting_same : waits os a ≡ false → has (waiting_inputs os (drop i es)) y ≡ has (waiting_inputs os (drop (i + 1) es)) y
  waiting_same w = ap (λ l. has (waiting_inputs os l) y) cut
      ∙ ap (λ (c : Bool). has (if c then a.entry.inputs ++ waiting_inputs os (drop (i + 1) es) else waiting_inputs os (drop (i + 1) es)) y) w

module _ (ts : List Compact) (os : List Outcome) (i : ℕ) (t : Compact) (o : Outcome) (cut_txs : drop i ts ≡ t ∷ drop (i + 1) ts)
    (cut_outcomes : drop i os ≡ o ∷ drop (i + 1) os) (y : Digest) where
  pub outputs_more : Rattle.cbdc_model.specs.Records.is_won o ≡ true
      → has (all_outputs (won_txs (drop i ts) (drop i os))) y ≡ (has t.outputs y || has (all_outputs (won_txs (drop (i + 1) ts) (drop (i + 1) os))) y)
  outputs_more w = rw (cut_txs, cut_outcomes, w) (has_append t.outputs (all_outputs (won_txs (drop (i + 1) ts) (drop (i + 1) os))) y)

  pub outputs_same : Rattle.cbdc_model.specs.Records.is_won o ≡ false
      → has (all_outputs (won_txs (drop i ts) (drop i os))) y ≡ has (all_outputs (won_txs (drop (i + 1) ts) (drop (i + 1) os))) y
  outputs_same w = rw (cut_txs, cut_outcomes, w)

pub no_outputs : (ts : List Compact) (os : List Outcome) (i : ℕ) → (i < length ts → i < length os → ⊥)
    → all_outputs (won_txs (drop i ts) (drop i os)) ≡ []
no_outputs ts os i over = elim (cases_lt i (length ts)) [
  | inl lt ↦ elim (cases_lt i (length os)) [
    | inl less ↦ absurd (over lt less)
    | inr le ↦ ap (λ l. all_outputs (won_txs (drop i ts) l)) (drop_end os i le) ∙ ap all_outputs (none (drop i ts))
  ]
  | inr le ↦ ap (λ l. all_outputs (won_txs l (drop i os))) (drop_end ts i le) ∙ ap all_outputs (none_of (drop i os))
]
  where
    none : (l : List Compact) → won_txs l [] ≡ []
    none [] = refl
    none (t ∷ l) = refl

    none_of : (l : List Outcome) → won_txs [] l ≡ []
    none_of [] = refl
    none_of (o ∷ l) = refl

-- ---- rows

pub in_any : (test : Row → Bool) (rows : List Row) (row : Row) → In row rows → test row ≡ true → any_row test rows ≡ true
in_any test [] row i e = absurd i
in_any test (q ∷ rows) row (inl s) e = ap (λ b. b || any_row test rows) (ap test (sym s) ∙ e)
in_any test (q ∷ rows) row (inr i) e = or_true (test q) (any_row test rows) (in_any test rows row i e)
  where
    or_true : (a b : Bool) → b ≡ true → (a || b) ≡ true
    or_true true b e = refl
    or_true false b e = e

pub any_in : (test : Row → Bool) (rows : List Row) → any_row test rows ≡ true → (row : Row) × In row rows × (test row ≡ true)
any_in test [] e = absurd (let z : false ≡ true = e in cc)
any_in test (q ∷ rows) e = elim (test q)
    as (λ c. test q ≡ c → (c || any_row test rows) ≡ true → (row : Row) × In row (q ∷ rows) × (test row ≡ true)) [
      | true ↦ λ t f. (q, inl refl, t)
      | false ↦ λ t f. let r = any_in test rows f in (r.0, inr r.1, r.2)
    ] refl e

in_onto : {A : Type 0} (x : A) (xs ys : List A) → In x xs ⊎ In x ys → In x (reverse_aux xs ys)
in_onto x [] ys (inl i) = absurd i
in_onto x [] ys (inr i) = i
in_onto x (z ∷ xs) ys (inl (inl e)) = in_onto x xs (z ∷ ys) (inr (inl e))
in_onto x (z ∷ xs) ys (inl (inr i)) = in_onto x xs (z ∷ ys) (inl i)
in_onto x (z ∷ xs) ys (inr i) = in_onto x xs (z ∷ ys) (inr (inr i))

-- a record of a journal stands in a row
row_of : (rows : List Row) (n : ℕ) (r : Record) → In r (journal n rows) → In (record { node = n; what = r }) rows
row_of [] n r i = absurd i
row_of (row ∷ rows) n r i = elim (at_node row.node n) [
  | at e ↦ here (row_of rows n r) e (subst (In r) (head_at row rows n e) i)
  | away e ↦ inr (row_of rows n r (subst (In r) (head_away row rows n e) i))
]
  where
    here : (In r (journal n rows) → In (record { node = n; what = r }) rows) → row.node ≡ n → In r (row.what ∷ journal n rows)
        → In (record { node = n; what = r }) (row ∷ rows)
    here rest e (inl s) = inl (λ i. record { node = sym e i; what = s i })
    here rest e (inr i) = inr (rest i)

find_in : (test : Record → Bool) (J : List Record) (r : Record) → find test J ≡ Some r → In r J
find_in test [] r e = absurd (let z : None ≡ Some r = e in cc)
find_in test (q ∷ J) r e = elim (test q) as (λ c. cond c (Some q) (find test J) ≡ Some r → In r (q ∷ J)) [
  | true ↦ λ f. let z : Some q ≡ Some r = f in let s : q ≡ r = cc in inl (sym s)
  | false ↦ λ f. inr (find_in test J r f)
] e

found_row : (rows : List Row) (n kind : ℕ) (b : Batch) (r : Record) → record_of kind (journal n rows) b ≡ Some r
    → In (record { node = n; what = r }) (reverse rows)
found_row rows n kind b r e = in_onto (record { node = n; what = r }) rows []
    (inl (row_of rows n r (find_in (λ q. (kind_of q == kind) && is_of b q) (journal n rows) r e)))

-- ---- held

-- an entry that waits, with the hash among its inputs
record Waiter (os : List Outcome) (es : List Answered) (x : Digest) : Type 0 where
  entry : Answered
  inside : In entry es
  waits_yet : waits os entry ≡ true
  input : has entry.entry.inputs x ≡ true

waiter : (os : List Outcome) (es : List Answered) (x : Digest) → has (waiting_inputs os es) x ≡ true → Waiter os es x
waiter os [] x e = absurd (let z : false ≡ true = e in cc)
waiter os (a ∷ es) x e = elim (waits os a) as (λ c. waits os a ≡ c
    → has (if c then a.entry.inputs ++ waiting_inputs os es else waiting_inputs os es) x ≡ true → Waiter os (a ∷ es) x) [
      | true ↦ λ w f. here (waiter os es x) w (has a.entry.inputs x) refl (sym (has_append a.entry.inputs (waiting_inputs os es) x) ∙ f)
      | false ↦ λ w f. later (waiter os es x f)
    ] refl e
  where
    later : Waiter os es x → Waiter os (a ∷ es) x
    later w = record { entry = w.entry; inside = inr w.inside; waits_yet = w.waits_yet; input = w.input }

    here : (has (waiting_inputs os es) x ≡ true → Waiter os es x) → waits os a ≡ true → (c : Bool) → has a.entry.inputs x ≡ c
        → (c || has (waiting_inputs os es) x) ≡ true → Waiter os (a ∷ es) x
    here rest w true h f = record { entry = a; inside = inl refl; waits_yet = w; input = h }
    here rest w false h f = later (rest f)

waiting_in : (os : List Outcome) (es : List Answered) (a : Answered) (x : Digest) → In a es → waits os a ≡ true → has a.entry.inputs x ≡ true
    → has (waiting_inputs os es) x ≡ true
waiting_in os [] a x i w h = absurd i
waiting_in os (b ∷ es) a x (inl s) w h =
    ap (λ (c : Bool). has (if c then b.entry.inputs ++ waiting_inputs os es else waiting_inputs os es) x) (ap (waits os) (sym s) ∙ w)
    ∙ has_append b.entry.inputs (waiting_inputs os es) x ∙ ap (λ c. c || has (waiting_inputs os es) x) (ap (λ e. has e.entry.inputs x) (sym s) ∙ h)
waiting_in os (b ∷ es) a x (inr i) w h =
    let rest = waiting_in os es a x i w h in
    elim (waits os b) as (λ c. has (if c then b.entry.inputs ++ waiting_inputs os es else waiting_inputs os es) x ≡ true) [
      | true ↦ has_append b.entry.inputs (waiting_inputs os es) x ∙ or_true (has b.entry.inputs x) (has (waiting_inputs os es) x) rest
      | false ↦ rest
    ]
  where
    or_true : (a b : Bool) → b ≡ true → (a || b) ≡ true
    or_true true b e = refl
    or_true false b e = e

locked_is : (b : Batch) (s : Status) → is_locked_by b s ≡ true → s ≡ Locked b
locked_is b Unspent e = absurd (let z : false ≡ true = e in cc)
locked_is b (Locked c) e = ap Locked (same_batch_is c b e)
locked_is b Absent e = absurd (let z : false ≡ true = e in cc)

-- what is found of a kind is of the kind and the batch
lock_is : (J : List Record) (b : Batch) (a : Answered) → In a (lock_of J b)
    → (stamp : ℕ) × (es : List Answered) × (record_of lock_kind J b ≡ Some (Lock stamp b es))
lock_is J b a i = go (record_of lock_kind J b) refl i
  where
    go : (o : Option Record) → record_of lock_kind J b ≡ o → In a (entries_in o)
        → (stamp : ℕ) × (es : List Answered) × (record_of lock_kind J b ≡ Some (Lock stamp b es))
    go (Some (Lock stamp c es)) e i =
        let t : ((lock_kind == lock_kind) && same_batch c b) ≡ true = found_passes lock_kind J b (Lock stamp c es) e in
        let s : c ≡ b = same_batch_is c b (both (lock_kind == lock_kind) (same_batch c b) t).1 in
        (stamp, es, e ∙ ap (λ d. Some (Lock stamp d es)) s)
    go other e i = absurd i

commit_is : (J : List Record) (b : Batch) (o : Outcome) (os : List Outcome) → outcomes_of J b ≡ o ∷ os
    → (stamp : ℕ) × (all : List Outcome) × (record_of commit_kind J b ≡ Some (Commit stamp b all))
commit_is J b o os i = go (record_of commit_kind J b) refl i
  where
    go : (q : Option Record) → record_of commit_kind J b ≡ q → outcomes_in q ≡ o ∷ os
        → (stamp : ℕ) × (all : List Outcome) × (record_of commit_kind J b ≡ Some (Commit stamp b all))
    go (Some (Commit stamp c all)) e i =
        let t : ((commit_kind == commit_kind) && same_batch c b) ≡ true = found_passes commit_kind J b (Commit stamp c all) e in
        let s : c ≡ b = same_batch_is c b (both (commit_kind == commit_kind) (same_batch c b) t).1 in
        (stamp, all, e ∙ ap (λ d. Some (Commit stamp d all)) s)
    go other e i = absurd (let z : [] ≡ o ∷ os = i in cc)

module _ (K : Shape) (past : List Row) (x : Digest) where
  abbrev J : ℕ → List Record
  J n = journal n past

  abbrev node : ℕ
  node = shard_node K (shard_of K x)

  abbrev holds : Row → Bool
  holds row = holds_back K J row.node row.what x

  abbrev owing : Row → Bool
  owing row = owes K J row.what x

  waiting_from : (n : ℕ) (r : Record) → holds_back K J n r x ≡ true → IsWaiting K past x
  waiting_from n (Lock stamp b es) e =
      let outcomes = outcomes_of (J (home_of K b.lane)) b in
      let t = both (has (waiting_inputs outcomes (lock_of (J n) b)) x) (is_here K n x && is_locked_by b (status (J node) x)) e in
      let u = both (is_here K n x) (is_locked_by b (status (J node) x)) t.1 in
      let here : n ≡ node = number_is n node u.0 in
      let w = waiter outcomes (lock_of (J node) b) x (subst (λ m. has (waiting_inputs outcomes (lock_of (J m) b)) x ≡ true) here t.0) in
      let held = both (is_held w.entry.reply) (not (won_at outcomes w.entry.entry.place)) w.waits_yet in (
        b,
        w.entry,
        locked_is b (status (J node) x) u.1,
        contains_in (lock_of (J node) b) w.entry w.inside,
        held.0,
        contains_in w.entry.entry.inputs x (count_in x w.entry.entry.inputs (has-count x w.entry.entry.inputs w.input)),
        inr (not_true (won_at outcomes w.entry.entry.place) held.1),
      )
  waiting_from n other e = absurd (let z : false ≡ true = e in cc)

  not_won : (b : Batch) (k : ℕ) → (is_some (record_of commit_kind (lane_journal K past b) b) ≡ false)
      ⊎ (won_at (outcomes_of (lane_journal K past b) b) k ≡ false)
      → won_at (outcomes_of (lane_journal K past b) b) k ≡ false
  not_won b k (inl none) = ap (λ o. won_at (outcomes_in o) k) (none_found (record_of commit_kind (lane_journal K past b) b) none)
  not_won b k (inr e) = e

  holds_waiting : IsWaiting K past x → any_row holds (reverse past) ≡ true
  holds_waiting w =
      let b : Batch = w.0 in
      let a : Answered = w.1 in
      let inside : In a (lock_of (J node) b) = in_contains (lock_of (J node) b) a w.3 in
      let l = lock_is (J node) b a inside in
      let outcomes = outcomes_of (J (home_of K b.lane)) b in
      let yet : waits outcomes a ≡ true = and_true (is_held a.reply) (not (won_at outcomes a.entry.place)) w.4
      (not_false (won_at outcomes a.entry.place) (not_won b a.entry.place w.6)) in
      let input : has a.entry.inputs x ≡ true = count-has x a.entry.inputs (in_count x a.entry.inputs (in_contains a.entry.inputs x w.5)) in
      let by : is_locked_by b (status (J node) x) ≡ true = ap (is_locked_by b) w.2 ∙ same_batch_self b in
      in_any holds (reverse past) (record { node = node; what = Lock l.0 b l.1 }) (found_row past node lock_kind b (Lock l.0 b l.1) l.2)
      (and_true (has (waiting_inputs outcomes (lock_of (J node) b)) x) (is_here K node x && is_locked_by b (status (J node) x))
      (waiting_in outcomes (lock_of (J node) b) a x inside yet input)
      (and_true (is_here K node x) (is_locked_by b (status (J node) x)) (number_self node) by))

  pub held_are : (any_row holds (reverse past) ≡ true → IsWaiting K past x) × (IsWaiting K past x → any_row holds (reverse past) ≡ true)
  held_are = (λ e. let r = any_in holds (reverse past) e in waiting_from r.0.node r.0.what r.2, holds_waiting)

  -- ---- owed

  coming_from : (r : Record) → owes K J r x ≡ true → IsComing K past x
  coming_from (Commit stamp b os) e =
      let outputs = all_outputs (won_of K past b) in
      let t = both (has outputs x) (is_due K J b x) e in
      (b, contains_in outputs x (count_in x outputs (has-count x outputs t.0)), not_true (is_some (record_of finish_kind (J node) b)) t.1)
  coming_from other e = absurd (let z : false ≡ true = e in cc)

  won_some : (ts : List Compact) (os : List Outcome) → In x (all_outputs (won_txs ts os)) → (o : Outcome) × (rest : List Outcome) × (os ≡ o ∷ rest)
  won_some [] os i = absurd i
  won_some (t ∷ ts) [] i = absurd i
  won_some (t ∷ ts) (o ∷ os) i = (o, os, refl)

  owes_coming : IsComing K past x → any_row owing (reverse past) ≡ true
  owes_coming c =
      let b : Batch = c.0 in
      let outputs = all_outputs (won_of K past b) in
      let inside : In x outputs = in_contains outputs x c.1 in
      let some = won_some (txs_of (lane_journal K past b) b) (outcomes_of (lane_journal K past b) b) inside in
      let l = commit_is (lane_journal K past b) b some.0 some.1 some.2 in
      in_any owing (reverse past) (record { node = home_of K b.lane; what = Commit l.0 b l.1 })
      (found_row past (home_of K b.lane) commit_kind b (Commit l.0 b l.1) l.2)
      (and_true (has outputs x) (is_due K J b x) (count-has x outputs (in_count x outputs inside))
      (not_false (is_some (record_of finish_kind (J node) b)) c.2))

  pub owed_are : (any_row owing (reverse past) ≡ true → IsComing K past x) × (IsComing K past x → any_row owing (reverse past) ≡ true)
  owed_are = (λ e. let r = any_in owing (reverse past) e in coming_from r.0.what r.2, owes_coming)

-- ---- unspent

pub unspent_are : (u : Bool) (by : Option Batch) (s : Status) → said_of u by ≡ s → (u ≡ true → s ≡ Unspent) × (s ≡ Unspent → u ≡ true)
unspent_are true by s e = (λ t. sym e, λ t. refl)
unspent_are false (Some b) s e = (λ t. absurd (let z : false ≡ true = t in cc), λ t. absurd (let z : Locked b ≡ Unspent = e ∙ t in cc))
unspent_are false None s e = (λ t. absurd (let z : false ≡ true = t in cc), λ t. absurd (let z : Absent ≡ Unspent = e ∙ t in cc))

-- ---- counts

pub unspent_count : (K : Shape) (past : List Row) (s : Statuses) (n : ℕ) → IsSet s.unspent.hashes → n ≡ length s.unspent.hashes
    → HasStatuses K s past → IsCount (IsUnspent K (λ m. journal m past)) n
unspent_count K past s n once len statuses = record {
  hashes = s.unspent.hashes;
  once = once;
  all = λ x. unspent_are (has s.unspent.hashes x) (lookup s.locked.entries x) (status (journal_at K past x) x) (statuses x);
  count = len;
}

pub waiting_count : (K : Shape) (rows : List Row) (held : List Digest) (n : ℕ) → IsSet held → n ≡ length held
    → ((y : Digest) → has held y ≡ any_row (λ row. holds_back K (λ m. journal m (reverse rows)) row.node row.what y) rows)
    → IsCount (IsWaiting K (reverse rows)) n
waiting_count K rows held n once len is = record {
  hashes = held;
  once = once;
  all = λ x.
      let same = ap (any_row (λ row. holds_back K (λ m. journal m (reverse rows)) row.node row.what x)) (reverse-reverse rows) in
      let h = held_are K (reverse rows) x in
      (λ e. h.0 (same ∙ sym (is x) ∙ e), λ w. is x ∙ sym same ∙ h.1 w);
  count = len;
}

pub coming_count : (K : Shape) (rows : List Row) (owed : List Digest) (n : ℕ) → IsSet owed → n ≡ length owed
    → ((y : Digest) → has owed y ≡ any_row (λ row. owes K (λ m. journal m (reverse rows)) row.what y) rows) → IsCount (IsComing K (reverse rows)) n
coming_count K rows owed n once len is = record {
  hashes = owed;
  once = once;
  all = λ x.
      let same = ap (any_row (λ row. owes K (λ m. journal m (reverse rows)) row.what x)) (reverse-reverse rows) in
      let h = owed_are K (reverse rows) x in
      (λ e. h.0 (same ∙ sym (is x) ∙ e), λ w. is x ∙ sym same ∙ h.1 w);
  count = len;
}
