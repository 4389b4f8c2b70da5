-- What the parts of a batch have of a hash, against the batch itself.
use Rattle.std.proofs.Common.{◌≡◌, ◌⊎◌, inl, inr, ℕ, zero, suc, ◌+◌, ◌<◌, ◌≤◌, Bool, true, false, ◌&&◌, if◌then◌else◌, List, [], ◌∷◌, Option, Some}
use Rattle.std.proofs.Common.{None, refl, sym, ap, ◌∙◌, subst, arith}
use Rattle.cbdc_model.specs.After.{FitsReplies}
use Rattle.cbdc_model.specs.History.{all_inputs, all_outputs}
use Rattle.cbdc_model.specs.Outcomes.{won_at, won_txs, reply_at, outcome, outcome_by, outcomes}
use Rattle.cbdc_model.specs.Ranges.{shard_of, on_shard, is_empty, part}
use Rattle.cbdc_model.specs.Records.{Digest, same_digest, Compact, Entry, Reply, Outcome, Answered, is_held, is_won, Held, Missing, Taken, Shape}
use Rattle.cbdc_model.specs.Replies.{entries}
use Rattle.cbdc_model.specs.Status.{held_inputs, taken_inputs, made_outputs, returned_inputs}
use Rattle.ledger_laws.proofs.Counts.{count, count-append, digests, other_is_false}

-- a shard has all of its own hashes
on_shard_more : (K : Shape) (x y : Digest) (ys : List Digest) → count x (on_shard K (shard_of K x) ys) ≡ count x ys
    → count x (on_shard K (shard_of K x) (y ∷ ys)) ≡ count x (y ∷ ys)
on_shard_more K x y ys h = elim (digests y x) [
  | inl e ↦ same_here K x y ys h e
  | inr n ↦ let f : same_digest y x ≡ false = other_is_false y x n in grind arith
]
  where
    same_here : (K : Shape) (x y : Digest) (ys : List Digest) → count x (on_shard K (shard_of K x) ys) ≡ count x ys → y ≡ x
        → count x (on_shard K (shard_of K x) (y ∷ ys)) ≡ count x (y ∷ ys)
    same_here K x y ys h e = let s : shard_of K y ≡ shard_of K x = ap (shard_of K) e in grind arith

pub count-on_shard : (K : Shape) (x : Digest) (xs : List Digest) → count x (on_shard K (shard_of K x) xs) ≡ count x xs
count-on_shard K x [] = refl
count-on_shard K x (y ∷ ys) = on_shard_more K x y ys (count-on_shard K x ys)

pub count-is_empty : (x : Digest) (xs : List Digest) → is_empty xs ≡ true → count x xs ≡ 0
count-is_empty x [] h = refl
count-is_empty x (y ∷ ys) h = cc

-- the transactions whose place passes, the first of which has place k
abbrev pub won_by : (ℕ → Bool) → ℕ → List Compact → List Compact
won_by f k [] = []
won_by f k (t ∷ ts) = if f k then t ∷ won_by f (suc k) ts else won_by f (suc k) ts

pub won_by-won_txs : (f : ℕ → Bool) (k : ℕ) (txs : List Compact) (os : List Outcome)
    → ((i : ℕ) → f (k + i) ≡ won_at os i) → won_by f k txs ≡ won_txs txs os
won_by-won_txs f k [] os h = refl
won_by-won_txs f k (t ∷ ts) [] h =
    let at : f k ≡ false = (ap f (omega arith) ∙ h 0) in
    rw at (won_by-won_txs f (suc k) ts [] (λ i. ap f (omega arith) ∙ h (suc i)) ∙ none ts)
  where
    none : (ts : List Compact) → won_txs ts [] ≡ []
    none [] = refl
    none (t ∷ ts) = refl
won_by-won_txs f k (t ∷ ts) (o ∷ os) h =
    let at : f k ≡ is_won o = (ap f (omega arith) ∙ h 0) in
    rw (at, won_by-won_txs f (suc k) ts os (λ i. ap f (omega arith) ∙ h (suc i)))

-- the decisions of the entries, by a test of their places
abbrev pub decided : (ℕ → Bool) → List Answered → List Bool
decided f [] = []
decided f (a ∷ es) = f a.entry.place ∷ decided f es

-- an entry of a list that is e and then the rest
abbrev pub first_is : Entry → List Entry → List Answered → Type 0
first_is e rest [] = ⊥
first_is e rest (a ∷ es) = (a.entry ≡ e) × (entries es ≡ rest)

pub entries-cons : (e : Entry) (rest : List Entry) (es : List Answered) → entries es ≡ e ∷ rest → first_is e rest es
entries-cons e rest [] h = cc
entries-cons e rest (a ∷ es) h = (cc, cc)

pub entries-nil : (es : List Answered) → entries es ≡ [] → es ≡ []
entries-nil [] h = refl
entries-nil (a ∷ es) h = cc

-- entries with replies are, at one hash, those of transactions, the first of which has place k
pub data IsPart (x : Digest) : ℕ → List Compact → List Answered → Type 0 where
  no_more : {k : ℕ} → IsPart x k [] []
  skips : {k : ℕ} {t : Compact} {ts : List Compact} {es : List Answered} → count x t.inputs ≡ 0 → count x t.outputs ≡ 0
      → IsPart x (suc k) ts es → IsPart x k (t ∷ ts) es
  takes : {k : ℕ} {t : Compact} {ts : List Compact} {a : Answered} {es : List Answered} → a.entry.place ≡ k
      → count x a.entry.inputs ≡ count x t.inputs → count x a.entry.outputs ≡ count x t.outputs
      → IsPart x (suc k) ts es → IsPart x k (t ∷ ts) (a ∷ es)

both_empty : (K : Shape) (x : Digest) (t : Compact)
    → (is_empty (on_shard K (shard_of K x) t.inputs) && is_empty (on_shard K (shard_of K x) t.outputs)) ≡ true
    → (count x t.inputs ≡ 0) × (count x t.outputs ≡ 0)
both_empty K x t h = grind (
  arith,
  count-on_shard K x t.inputs,
  count-on_shard K x t.outputs,
  count-is_empty x (on_shard K (shard_of K x) t.inputs),
  count-is_empty x (on_shard K (shard_of K x) t.outputs),
)

abbrev pub part_entry : Shape → ℕ → ℕ → Compact → Entry
part_entry K s k t = record { place = k; id = t.id; inputs = on_shard K s t.inputs; outputs = on_shard K s t.outputs }

takes_first : (K : Shape) (x : Digest) (k : ℕ) (t : Compact) (ts : List Compact) (es : List Answered) (rest : List Entry)
    → ((es : List Answered) → entries es ≡ rest → IsPart x (suc k) ts es)
    → first_is (part_entry K (shard_of K x) k t) rest es → IsPart x k (t ∷ ts) es
takes_first K x k t ts [] rest next h = absurd h
takes_first K x k t ts (a ∷ es) rest next (same, more) =
    takes (ap (λ e. e.place) same)
    (ap (λ e. count x e.inputs) same ∙ count-on_shard K x t.inputs)
    (ap (λ e. count x e.outputs) same ∙ count-on_shard K x t.outputs)
    (next es more)

pub is_part : (K : Shape) (x : Digest) (k : ℕ) (txs : List Compact) (es : List Answered)
    → entries es ≡ part K (shard_of K x) k txs → IsPart x k txs es
is_part K x k [] es h = rw (entries-nil es h) no_more
is_part K x k (t ∷ ts) es h =
    let s = shard_of K x in
    elim (is_empty (on_shard K s t.inputs) && is_empty (on_shard K s t.outputs))
    as (λ c. (is_empty (on_shard K s t.inputs) && is_empty (on_shard K s t.outputs)) ≡ c
    → entries es ≡ (if c then part K s (suc k) ts else part_entry K s k t ∷ part K s (suc k) ts)
    → IsPart x k (t ∷ ts) es) [
      | true ↦ λ none h. let z : (count x t.inputs ≡ 0) × (count x t.outputs ≡ 0) = both_empty K x t none in
          skips z.0 z.1 (is_part K x (suc k) ts es h)
      | false ↦ λ some h. takes_first K x k t ts es (part K s (suc k) ts)
          (λ es h. is_part K x (suc k) ts es h) (entries-cons _ _ es h)
    ] refl h

module _ (x : Digest) (f : ℕ → Bool) where
  made_skip : (n k : ℕ) (t : Compact) (ts : List Compact) → count x t.outputs ≡ 0
      → n ≡ count x (all_outputs (won_by f (suc k) ts)) → n ≡ count x (all_outputs (won_by f k (t ∷ ts)))
  made_skip n k t ts e h = grind (arith, count-append)

  made_take : (k : ℕ) (t : Compact) (ts : List Compact) (a : Answered) (es : List Answered) → a.entry.place ≡ k
      → count x a.entry.outputs ≡ count x t.outputs
      → count x (made_outputs es (decided f es)) ≡ count x (all_outputs (won_by f (suc k) ts))
      → count x (made_outputs (a ∷ es) (decided f (a ∷ es))) ≡ count x (all_outputs (won_by f k (t ∷ ts)))
  made_take k t ts a es p e h = grind (arith, count-append)

  taken_skip : (n k : ℕ) (t : Compact) (ts : List Compact) → count x t.inputs ≡ 0
      → n ≡ count x (all_inputs (won_by f (suc k) ts)) → n ≡ count x (all_inputs (won_by f k (t ∷ ts)))
  taken_skip n k t ts e h = grind (arith, count-append)

  taken_take : (k : ℕ) (t : Compact) (ts : List Compact) (a : Answered) (es : List Answered) → a.entry.place ≡ k
      → count x a.entry.inputs ≡ count x t.inputs
      → count x (taken_inputs es (decided f es)) ≡ count x (all_inputs (won_by f (suc k) ts))
      → count x (taken_inputs (a ∷ es) (decided f (a ∷ es))) ≡ count x (all_inputs (won_by f k (t ∷ ts)))
  taken_take k t ts a es p e h = grind (arith, count-append)

  -- the shard of a hash makes it as often as the batch
  pub count-made : {k : ℕ} {txs : List Compact} {es : List Answered} → IsPart x k txs es
      → count x (made_outputs es (decided f es)) ≡ count x (all_outputs (won_by f k txs))
  count-made no_more = refl
  count-made (skips {k = k} {t = t} {ts = ts} {es = es} i o more) = made_skip _ k t ts o (count-made more)
  count-made (takes {k = k} {t = t} {ts = ts} {a = a} {es = es} p i o more) = made_take k t ts a es p o (count-made more)

  -- and takes it as often
  pub count-taken : {k : ℕ} {txs : List Compact} {es : List Answered} → IsPart x k txs es
      → count x (taken_inputs es (decided f es)) ≡ count x (all_inputs (won_by f k txs))
  count-taken no_more = refl
  count-taken (skips {k = k} {t = t} {ts = ts} {es = es} i o more) = taken_skip _ k t ts i (count-taken more)
  count-taken (takes {k = k} {t = t} {ts = ts} {a = a} {es = es} p i o more) = taken_take k t ts a es p i (count-taken more)

-- a Held entry's input is returned or taken
held_more : (x : Digest) (a : Answered) (es : List Answered) (d : Bool) (ds : List Bool) → (d ≡ true → is_held a.reply ≡ true)
    → count x (held_inputs es) ≡ count x (returned_inputs es ds) + count x (taken_inputs es ds)
    → count x (held_inputs (a ∷ es)) ≡ count x (returned_inputs (a ∷ es) (d ∷ ds)) + count x (taken_inputs (a ∷ es) (d ∷ ds))
held_more x a es d ds fits h = grind (arith, count-append)

pub count-held : (x : Digest) (es : List Answered) (ds : List Bool) → FitsReplies es ds
    → count x (held_inputs es) ≡ count x (returned_inputs es ds) + count x (taken_inputs es ds)
count-held x [] [] h = refl
count-held x [] (d ∷ ds) h = absurd h
count-held x (a ∷ es) [] h = absurd h
count-held x (a ∷ es) (d ∷ ds) h = held_more x a es d ds h.0 (count-held x es ds h.1)

-- each entry whose place passes is Held
abbrev pub Agrees : (ℕ → Bool) → List Answered → Type 0
Agrees f [] = Unit {0}
Agrees f (a ∷ es) = (f a.entry.place ≡ true → is_held a.reply ≡ true) × Agrees f es

module _ (x : Digest) (f : ℕ → Bool) where
  won_skip : (n k : ℕ) (t : Compact) (ts : List Compact) → count x t.inputs ≡ 0
      → count x (all_inputs (won_by f (suc k) ts)) ≤ n → count x (all_inputs (won_by f k (t ∷ ts))) ≤ n
  won_skip n k t ts e h = grind (arith, count-append)

  won_take : (k : ℕ) (t : Compact) (ts : List Compact) (a : Answered) (es : List Answered) → a.entry.place ≡ k
      → count x a.entry.inputs ≡ count x t.inputs → (f a.entry.place ≡ true → is_held a.reply ≡ true)
      → count x (all_inputs (won_by f (suc k) ts)) ≤ count x (held_inputs es)
      → count x (all_inputs (won_by f k (t ∷ ts))) ≤ count x (held_inputs (a ∷ es))
  won_take k t ts a es p e ok h = grind (arith, count-append)

  pub won-le-held : {k : ℕ} {txs : List Compact} {es : List Answered} → IsPart x k txs es → Agrees f es
      → count x (all_inputs (won_by f k txs)) ≤ count x (held_inputs es)
  won-le-held no_more agrees = omega arith
  won-le-held (skips {k = k} {t = t} {ts = ts} {es = es} i o more) agrees = won_skip _ k t ts i (won-le-held more agrees)
  won-le-held (takes {k = k} {t = t} {ts = ts} {a = a} {es = es} p i o more) agrees = won_take k t ts a es p i agrees.0 (won-le-held more agrees.1)

  -- where the reply found at a place tells, it tells of each entry
  pub agrees : {k : ℕ} {txs : List Compact} {es : List Answered} → IsPart x k txs es
      → ((j : ℕ) (r : Reply) → k ≤ j → reply_at es j ≡ Some r → f j ≡ true → is_held r ≡ true) → Agrees f es
  agrees no_more told = tt
  agrees (skips {k = k} {t = t} {ts = ts} {es = es} i o more) told =
      agrees more (λ j r le is. told j r (omega arith) is)
  agrees (takes {k = k} {t = t} {ts = ts} {a = a} {es = es} p i o more) told = (
    λ won. told k a.reply (omega arith) (found a es k p) (subst (λ n. f n ≡ true) p won),
    agrees more (λ j r le is. told j r (omega arith) (passed a es j r k p le is)),
  )
    where
      found : (a : Answered) (es : List Answered) (k : ℕ) → a.entry.place ≡ k → reply_at (a ∷ es) k ≡ Some a.reply
      found a es k p = grind arith

      passed : (a : Answered) (es : List Answered) (j : ℕ) (r : Reply) (k : ℕ) → a.entry.place ≡ k → suc k ≤ j → reply_at es j ≡ Some r
          → reply_at (a ∷ es) j ≡ Some r
      passed a es j r k p le is = grind arith

-- a place is won only where each shard that has an entry of it replied Held
outcome_step : (r : Option Reply) (s : ℕ) (rest : Outcome) → is_won (outcome_by r s rest) ≡ true
    → (is_won rest ≡ true) × ((q : Reply) → r ≡ Some q → is_held q ≡ true)
outcome_step None s rest h = (h, λ q e. cc)
outcome_step (Some Held) s rest h = (h, λ q e. let same : Held ≡ q = cc in subst (λ v. is_held v ≡ true) same refl)
outcome_step (Some (Missing x)) s rest h = cc
outcome_step (Some (Taken x by)) s rest h = cc

pub outcome_held : (locks : ℕ → List Answered) (k s n s' : ℕ) (r : Reply) → is_won (outcome locks k s n) ≡ true
    → s ≤ s' → s' < s + n → reply_at (locks s') k ≡ Some r → is_held r ≡ true
outcome_held locks k s zero s' r won le lt is = absurd (omega arith)
outcome_held locks k s (suc n) s' r won le lt is =
    let step : (is_won (outcome locks k (suc s) n) ≡ true) × ((q : Reply) → reply_at (locks s) k ≡ Some q → is_held q ≡ true)
    = outcome_step (reply_at (locks s) k) s (outcome locks k (suc s) n) won in
    let cases : (s ≡ s') ⊎ (suc s ≤ s') = grind arith in
    elim cases [
      | inl e ↦ step.1 r (subst (λ v. reply_at (locks v) k ≡ Some r) (sym e) is)
      | inr more ↦ outcome_held locks k (suc s) n s' r step.0 more (omega arith) is
    ]

pub won_at-outcomes : (locks : ℕ → List Answered) (shards k : ℕ) (txs : List Compact) (i : ℕ)
    → won_at (outcomes locks shards k txs) i ≡ true → is_won (outcome locks (k + i) 0 shards) ≡ true
won_at-outcomes locks shards k [] i h = cc
won_at-outcomes locks shards k (t ∷ ts) zero h = subst (λ n. is_won (outcome locks n 0 shards) ≡ true) (omega arith) h
won_at-outcomes locks shards k (t ∷ ts) (suc i) h =
    subst (λ n. is_won (outcome locks n 0 shards) ≡ true) (omega arith) (won_at-outcomes locks shards (suc k) ts i h)
