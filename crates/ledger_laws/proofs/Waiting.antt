-- A hash that is locked for no committed transaction is one of an entry that isn't committed.
use Rattle.std.proofs.Common.{◌≡◌, ◌⊎◌, inl, inr, ℕ, zero, suc, ◌+◌, ◌<◌, ◌≤◌, ◌/◌, Bool, true, false, if◌then◌else◌, List, [], ◌∷◌, ◌++◌, Option}
use Rattle.std.proofs.Common.{Some, None, is_some, Contains, refl, sym, ap, ◌∙◌, subst, arith}
use Rattle.cbdc_model.specs.Records.{Digest, Shape, Batch, Compact, Record, Row, Answered, is_held, journal, record_of, lock_of, txs_of, outcomes_of}
use Rattle.cbdc_model.specs.Records.{entries_in, outcomes_in, Commit}
use Rattle.cbdc_model.specs.Status.{status, Locked, held_inputs, taken_inputs}
use Rattle.cbdc_model.specs.Ranges.{shard_of, journal_at, lane_journal}
use Rattle.cbdc_model.specs.Outcomes.{reply_at, won_at}
use Rattle.cbdc_model.specs.Causes.{at_shards}
use Rattle.cbdc_model.specs.History.{Minted, first_rows, won_of, all_inputs}
use Rattle.ledger_laws.proofs.Next.{has_lock, Steady}
use Rattle.ledger_laws.proofs.Counts.{count, count-append}
use Rattle.ledger_laws.proofs.Parts.{IsPart, is_part, won_by-won_txs, decided, count-taken, Agrees, agrees, outcome_held, won_at-outcomes}
use Rattle.ledger_laws.proofs.Members.{In, in_contains, contains_in, in_count, count_in}
use Rattle.ledger_laws.proofs.Lookups.{no_lock, none_found, shard_of-lt}
use Rattle.ledger_laws.specs.Sets.{IsWaiting}
use Rattle.ledger_laws.proofs.Moves.{all_structure, split_test}
use Rattle.ledger_laws.proofs.Alikes.{found_passes}
use Rattle.ledger_laws.proofs.Standing.{standing, Facts}

-- a Held entry with the hash among its inputs, whose place does not pass
pub record NotTaken (x : Digest) (f : ℕ → Bool) (es : List Answered) : Type 0 where
  pub entry : Answered
  pub inside : In entry es
  pub held : is_held entry.reply ≡ true
  pub input : 0 < count x entry.entry.inputs
  pub fails : f entry.entry.place ≡ false

data FirstEntry (x : Digest) (f : ℕ → Bool) (a : Answered) (es : List Answered) : Type 0 where
  it_is : is_held a.reply ≡ true → 0 < count x a.entry.inputs → f a.entry.place ≡ false → FirstEntry x f a es
  it_is_not : 0 < count x (held_inputs es) → count x (taken_inputs es (decided f es)) ≡ 0 → FirstEntry x f a es

first_entry : (x : Digest) (f : ℕ → Bool) (a : Answered) (es : List Answered) → 0 < count x (held_inputs (a ∷ es))
    → count x (taken_inputs (a ∷ es) (decided f (a ∷ es))) ≡ 0 → FirstEntry x f a es
first_entry x f a es n z =
    elim (f a.entry.place) as (λ c. f a.entry.place ≡ c
    → count x (if c then a.entry.inputs ++ taken_inputs es (decided f es) else taken_inputs es (decided f es)) ≡ 0 → FirstEntry x f a es) [
      | true ↦ λ e z.
          let both : count x a.entry.inputs + count x (taken_inputs es (decided f es)) ≡ 0 =
          sym (count-append x a.entry.inputs (taken_inputs es (decided f es))) ∙ z in
          it_is_not (later_held (is_held a.reply) n (omega arith)) (omega arith)
      | false ↦ λ e z. by_reply e z
    ] refl z
  where
    later_held : (c : Bool) → 0 < count x (if c then a.entry.inputs ++ held_inputs es else held_inputs es) → count x a.entry.inputs ≡ 0
        → 0 < count x (held_inputs es)
    later_held true n z = omega (arith, count-append x a.entry.inputs (held_inputs es))
    later_held false n z = n

    by_count : is_held a.reply ≡ true → f a.entry.place ≡ false → count x (taken_inputs es (decided f es)) ≡ 0
        → 0 < count x (a.entry.inputs ++ held_inputs es)
        → (k : ℕ) → count x a.entry.inputs ≡ k → FirstEntry x f a es
    by_count h e z n zero k = it_is_not (omega (arith, count-append x a.entry.inputs (held_inputs es))) z
    by_count h e z n (suc m) k = it_is h (omega arith) e

    by_reply : f a.entry.place ≡ false → count x (taken_inputs es (decided f es)) ≡ 0 → FirstEntry x f a es
    by_reply e z = elim (is_held a.reply) as (λ c. is_held a.reply ≡ c → 0 < count x (if c then a.entry.inputs ++ held_inputs es else held_inputs es)
        → FirstEntry x f a es) [
          | true ↦ λ h n. by_count h e z n (count x a.entry.inputs) refl
          | false ↦ λ h n. it_is_not n z
        ] refl n

pub not_taken : (x : Digest) (f : ℕ → Bool) (es : List Answered) → 0 < count x (held_inputs es) → count x (taken_inputs es (decided f es)) ≡ 0
    → NotTaken x f es
not_taken x f [] n z = absurd (omega arith)
not_taken x f (a ∷ es) n z = elim (first_entry x f a es n z) [
  | it_is h i e ↦ record { entry = a; inside = inl refl; held = h; input = i; fails = e }
  | it_is_not n' z' ↦
      let r : NotTaken x f es = not_taken x f es n' z' in
      record { entry = r.entry; inside = inr r.inside; held = r.held; input = r.input; fails = r.fails }
]

-- such an entry leaves the rest of the Held ones for what is taken
taken-le-held_more : (x : Digest) (f : ℕ → Bool) (a : Answered) (es : List Answered) → (f a.entry.place ≡ true → is_held a.reply ≡ true)
    → count x (taken_inputs es (decided f es)) ≤ count x (held_inputs es)
    → count x (taken_inputs (a ∷ es) (decided f (a ∷ es))) ≤ count x (held_inputs (a ∷ es))
taken-le-held_more x f a es ok h = grind (arith, count-append)

taken-le-held : (x : Digest) (f : ℕ → Bool) (es : List Answered) → Agrees f es → count x (taken_inputs es (decided f es)) ≤ count x (held_inputs es)
taken-le-held x f [] g = omega arith
taken-le-held x f (a ∷ es) g = taken-le-held_more x f a es g.0 (taken-le-held x f es g.1)

less_here : (x : Digest) (f : ℕ → Bool) (a : Answered) (es : List Answered) → is_held a.reply ≡ true → 0 < count x a.entry.inputs
    → f a.entry.place ≡ false
    → count x (taken_inputs es (decided f es)) ≤ count x (held_inputs es)
    → count x (taken_inputs (a ∷ es) (decided f (a ∷ es))) < count x (held_inputs (a ∷ es))
less_here x f a es held input fails h = grind (arith, count-append)

less_later : (x : Digest) (f : ℕ → Bool) (a : Answered) (es : List Answered) → (f a.entry.place ≡ true → is_held a.reply ≡ true)
    → count x (taken_inputs es (decided f es)) < count x (held_inputs es)
    → count x (taken_inputs (a ∷ es) (decided f (a ∷ es))) < count x (held_inputs (a ∷ es))
less_later x f a es ok h = grind (arith, count-append)

pub taken-lt-held : (x : Digest) (f : ℕ → Bool) (es : List Answered) (a : Answered) → Agrees f es → In a es → is_held a.reply ≡ true
    → 0 < count x a.entry.inputs
    → f a.entry.place ≡ false → count x (taken_inputs es (decided f es)) < count x (held_inputs es)
taken-lt-held x f [] a g inside held input fails = absurd inside
taken-lt-held x f (e ∷ es) a g (inl is) held input fails =
    less_here x f e es (subst (λ v. is_held v.reply ≡ true) is held) (subst (λ v. 0 < count x v.entry.inputs) is input)
    (subst (λ v. f v.entry.place ≡ false) is fails)
    (taken-le-held x f es g.1)
taken-lt-held x f (e ∷ es) a g (inr later) held input fails = less_later x f e es g.0 (taken-lt-held x f es a g.1 later held input fails)

-- nothing passes where no outcome is written down
agrees_none : (es : List Answered) → Agrees (λ i. false) es
agrees_none [] = tt
agrees_none (a ∷ es) = ((λ e. let z : false ≡ true = e in cc), agrees_none es)

module _ (K : Shape) (minting : Minted) (P : Compact → Type 0) (shards : 0 < K.shards) (later : List Row) (kept : Steady K minting P later)
    (x : Digest) (b : Batch) where
  abbrev past : List Row
  past = later ++ first_rows K minting

  abbrev J : ℕ → List Record
  J n = journal n past

  abbrev home : List Record
  home = lane_journal K past b

  abbrev won : ℕ → Bool
  won i = won_at (outcomes_of home b) i

  abbrev locks : List Answered
  locks = lock_of (journal_at K past x) b

  module _ (locked : has_lock (journal_at K past x) b ≡ true) where
    of_part : IsPart x 0 (txs_of home b) locks
    of_part = is_part K x 0 (txs_of home b) locks ((all_structure K minting P shards later kept).lock_part (shard_of K x) b locked)

    pub taken_is : count x (taken_inputs locks (decided won locks)) ≡ count x (all_inputs (won_of K past b))
    taken_is = count-taken x won of_part ∙ ap (λ ts. count x (all_inputs ts))
        (won_by-won_txs won 0 (txs_of home b) (outcomes_of home b) (λ i. ap (λ k. won_at (outcomes_of home b) k) (omega arith)))

  -- by what the Commit that stands says of the Locks
  commit_agrees : (r : Record) (es : List Answered) → record_of 7 home b ≡ Some r → Facts K J (b.lane / K.lanes) r → IsPart x 0 (txs_of home b) es
      → es ≡ entries_in (at_shards K J 2 b (shard_of K x)) → Agrees (λ i. won_at (outcomes_in (Some r)) i) es
  commit_agrees (Commit stamp c os) es is facts of is_lock =
      let same : c ≡ b = (split_test 7 7 c b (found_passes 7 home b (Commit stamp c os) is)).1 in
      agrees x (λ i. won_at os i) of (λ j r le found won.
      outcome_held (λ s. entries_in (at_shards K J 2 c s)) (0 + j) 0 K.shards (shard_of K x) r
      (won_at-outcomes (λ s. entries_in (at_shards K J 2 c s)) K.shards 0 _ j (subst (λ v. won_at v j ≡ true) facts.2 won))
      (omega arith) (let l : shard_of K x < K.shards = shard_of-lt K x shards in omega arith)
      (subst (λ i. reply_at (entries_in (at_shards K J 2 c (shard_of K x))) i ≡ Some r) (omega arith)
      (subst (λ d. reply_at (entries_in (at_shards K J 2 d (shard_of K x))) j ≡ Some r) (sym same)
      (subst (λ v. reply_at v j ≡ Some r) is_lock found))))
  commit_agrees other es is facts of is_lock = agrees_none es

  pub all_agree : has_lock (journal_at K past x) b ≡ true → Agrees won locks
  all_agree locked = by_commit (record_of 7 home b) refl
    where
      by_commit : (r : Option Record) → record_of 7 home b ≡ r → Agrees won locks
      by_commit None e = subst (λ r. Agrees (λ i. won_at (outcomes_in r) i) locks) (sym e) (agrees_none locks)
      by_commit (Some r) e = subst (λ r. Agrees (λ i. won_at (outcomes_in r) i) locks) (sym e)
          (commit_agrees r locks e (standing K minting P shards later kept (b.lane / K.lanes) 7 b r e) (of_part locked) refl)

  -- the second set, in the words of the law
  pub waits_for : status (journal_at K past x) x ≡ Locked b → 0 < count x (held_inputs locks) → count x (all_inputs (won_of K past b)) ≡ 0
      → IsWaiting K past x
  waits_for is held none =
      let n : NotTaken x won locks = not_taken x won locks held (taken_is (has_it held) ∙ none) in (
        b,
        n.entry,
        is,
        contains_in locks n.entry n.inside,
        n.held,
        contains_in n.entry.entry.inputs x (count_in x n.entry.entry.inputs n.input),
        inr n.fails,
      )
    where
      has_it : 0 < count x (held_inputs locks) → has_lock (journal_at K past x) b ≡ true
      has_it n = elim (has_lock (journal_at K past x) b) as (λ c. has_lock (journal_at K past x) b ≡ c → c ≡ true) [
        | true ↦ λ _. refl
        | false ↦ λ f. absurd (let z : count x (held_inputs locks) ≡ 0 = ap (λ a. count x (held_inputs a)) (no_lock (journal_at K past x) b f) in
            omega arith)
      ] refl

  pub none_taken : (a : Answered) → Contains locks a → is_held a.reply ≡ true → Contains a.entry.inputs x → count x (held_inputs locks) ≤ 1
      → (is_some (record_of 7 home b) ≡ false) ⊎ (won_at (outcomes_of home b) a.entry.place ≡ false) → count x (all_inputs (won_of K past b)) ≡ 0
  none_taken a inside held input once why =
      let i : In a locks = in_contains locks a inside in
      let fails : won a.entry.place ≡ false = not_won a why in
      let locked : has_lock (journal_at K past x) b ≡ true = has_one a i in
      let lt : count x (taken_inputs locks (decided won locks)) < count x (held_inputs locks)
      = taken-lt-held x won locks a (all_agree locked) i held (in_count x a.entry.inputs (in_contains a.entry.inputs x input)) fails in
      let e : count x (taken_inputs locks (decided won locks)) ≡ count x (all_inputs (won_of K past b)) = taken_is locked in
      omega arith
    where
      not_won : (a : Answered) → (is_some (record_of 7 home b) ≡ false) ⊎ (won_at (outcomes_of home b) a.entry.place ≡ false)
          → won a.entry.place ≡ false
      not_won a (inl none) = ap (λ r. won_at (outcomes_in r) a.entry.place) (none_found (record_of 7 home b) none)
      not_won a (inr e) = e

      nothing_in : (es : List Answered) → es ≡ [] → (a : Answered) → In a es → ⊥
      nothing_in es e a i = subst (λ v. In a v) e i

      has_one : (a : Answered) → In a locks → has_lock (journal_at K past x) b ≡ true
      has_one a i = elim (has_lock (journal_at K past x) b) as (λ c. has_lock (journal_at K past x) b ≡ c → c ≡ true) [
        | true ↦ λ _. refl
        | false ↦ λ f. absurd (nothing_in locks (no_lock (journal_at K past x) b f) a i)
      ] refl
