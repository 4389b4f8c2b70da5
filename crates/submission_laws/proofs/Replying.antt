-- What the shards replied to a transaction, and the outcome that its coordinator wrote down.
use Rattle.std.proofs.Common.{◌≡◌, inl, inr, ℕ, zero, suc, ◌+◌, ◌<◌, Bool, true, false, not, ◌&&◌, ◌==◌, if◌then◌else◌, List, [], ◌∷◌, ◌++◌, Option}
use Rattle.std.proofs.Common.{Some, None, is_some, refl, sym, ap, ◌∙◌, subst, arith}
use Rattle.std.proofs.lemmas.Bool.{cases_lt}
use Rattle.cbdc_model.specs.Records.{Digest, Shape, Batch, Compact, Reply, Outcome, Answered, Record, Row, journal, record_of, kind_of, is_of}
use Rattle.cbdc_model.specs.Records.{is_held, entries_in, txs_of, outcomes_of, lock_of, Held, Missing, Taken, Won, Lock, Commit}
use Rattle.cbdc_model.specs.Slots.{slot, Idle}
use Rattle.cbdc_model.specs.Ranges.{home_of, shard_node, on_shard, is_empty, entry_of, part, is_no_part}
use Rattle.cbdc_model.specs.Replies.{reply_to, answered, entries}
use Rattle.cbdc_model.specs.Outcomes.{reply_at, outcome_by, outcome, outcomes}
use Rattle.cbdc_model.specs.History.{Minted, first_rows}
use Rattle.cbdc_model.specs.Lanes.{IsEnd, first_of}
use Rattle.cbdc_model.specs.Places.{PlaceIn, outcome_at, outcome_in}
use Rattle.ledger_laws.proofs.Next.{Next, Steady, has_lock}
use Rattle.ledger_laws.proofs.Lookups.{true_false, no_lock}
use Rattle.ledger_laws.proofs.Cuts.{cut}
use Rattle.ledger_laws.proofs.First.{journal_first, all_first}
use Rattle.ledger_laws.proofs.Moves.{split_test, none_of, all_structure}
use Rattle.ledger_laws.proofs.Finds.{stands}
use Rattle.ledger_laws.proofs.Standing.{standing}
use Rattle.ledger_laws.proofs.Recovered.{all_dones, all_phases}
use Rattle.ledger_laws.proofs.Together.{lists_of}
use Rattle.run_laws.proofs.LastRecords.{commit_stands}
use Rattle.run_laws.proofs.NewRecords.{in_journal}
use Rattle.run_laws.specs.Placing.{tx_at}
use Rattle.run_laws.proofs.FreeReplies.{IsGood, all_good}
use Rattle.submission_laws.specs.Replied.{Concerns, reply_of, HasStandingLock, HeldBelow, IsOutcomeByReplies, IsReplied}

some_tx : (u t : Compact) → Some u ≡ Some t → u ≡ t
some_tx u t e = cc

some_reply : (q r : Reply) → Some q ≡ Some r → q ≡ r
some_reply q r e = cc

-- ---- the entry of a transaction in a shard's part

module _ (past : List Record) (b : Batch) (K : Shape) (s : ℕ) where
  abbrev absent : Compact → Bool
  absent t = is_empty (on_shard K s t.inputs) && is_empty (on_shard K s t.outputs)

  abbrev next_claimed : List Digest → Compact → List Digest
  next_claimed claimed t = if is_held (reply_to past b claimed (on_shard K s t.inputs)) then on_shard K s t.inputs ++ claimed else claimed

  -- a part whose first place is greater has none
  none_below : (ts : List Compact) (claimed : List Digest) (k j : ℕ) → k < j → reply_at (answered past b claimed (part K s j ts)) k ≡ None
  none_below [] claimed k j low = refl
  none_below (t ∷ ts) claimed k j low = elim (is_empty (on_shard K s t.inputs) && is_empty (on_shard K s t.outputs))
      as (λ c. reply_at (answered past b claimed (if c then part K s (suc j) ts else entry_of K s j t ∷ part K s (suc j) ts)) k
      ≡ None) [
        | true ↦ none_below ts claimed k (suc j) (omega (arith, low))
        | false ↦
            ap (λ c. if c then Some (reply_to past b claimed (on_shard K s t.inputs))
            else reply_at (answered past b (next_claimed claimed t) (part K s (suc j) ts)) k) (differs j k low)
            ∙ none_below ts (next_claimed claimed t) k (suc j) (omega (arith, low))
      ]
    where
      differs : (j k : ℕ) → k < j → (j == k) ≡ false
      differs j k low = grind (arith, low)

  -- the transaction at a place has a reply exactly where the shard has a hash of it
  pub replied : (ts : List Compact) (claimed : List Digest) (k m n : ℕ) (c : Compact) → tx_at ts m ≡ Some c → n ≡ k + m
      → is_some (reply_at (answered past b claimed (part K s k ts)) n) ≡ not (absent c)
  replied [] claimed k m n c e f = absurd (let z : None ≡ Some c = e in cc)
  replied (t ∷ ts) claimed k zero n c e f =
      subst (λ u. is_some (reply_at (answered past b claimed (part K s k (t ∷ ts))) n) ≡ not (absent u)) (some_tx t c e)
      (elim (is_empty (on_shard K s t.inputs) && is_empty (on_shard K s t.outputs))
      as (λ d. is_some (reply_at (answered past b claimed (if d then part K s (suc k) ts else entry_of K s k t ∷ part K s (suc k) ts))
      n) ≡ not d) [
        | true ↦ ap is_some (none_below ts claimed n (suc k) (omega (arith, f)))
        | false ↦
            ap (λ d. is_some (if d then Some (reply_to past b claimed (on_shard K s t.inputs))
            else reply_at (answered past b (next_claimed claimed t) (part K s (suc k) ts)) n)) (same k n (omega (arith, f)))
      ])
    where
      same : (k n : ℕ) → k ≡ n → (k == n) ≡ true
      same k n e = grind (arith, e)
  replied (t ∷ ts) claimed k (suc m) n c e f = elim (is_empty (on_shard K s t.inputs) && is_empty (on_shard K s t.outputs))
      as (λ d. is_some (reply_at (answered past b claimed (if d then part K s (suc k) ts else entry_of K s k t ∷ part K s (suc k) ts))
      n) ≡ not (absent c)) [
        | true ↦ replied ts claimed (suc k) m n c e (omega (arith, f))
        | false ↦
            ap (λ d. is_some (if d then Some (reply_to past b claimed (on_shard K s t.inputs))
            else reply_at (answered past b (next_claimed claimed t) (part K s (suc k) ts)) n)) (differs k n (omega (arith, f)))
            ∙ replied ts (next_claimed claimed t) (suc k) m n c e (omega (arith, f))
      ]
    where
      differs : (k n : ℕ) → k < n → (k == n) ≡ false
      differs k n low = grind (arith, low)

-- a shard with a hash of one of the transactions has a part
pub has_part : (K : Shape) (s : ℕ) (ts : List Compact) (k m : ℕ) (c : Compact) → tx_at ts m ≡ Some c
    → (is_empty (on_shard K s c.inputs) && is_empty (on_shard K s c.outputs)) ≡ false
    → is_no_part (part K s k ts) ≡ false
has_part K s [] k m c e here = absurd (let z : None ≡ Some c = e in cc)
has_part K s (t ∷ ts) k zero c e here =
    ap (λ d. is_no_part (if d then part K s (suc k) ts else entry_of K s k t ∷ part K s (suc k) ts))
    (ap (λ u. is_empty (on_shard K s u.inputs) && is_empty (on_shard K s u.outputs)) (some_tx t c e) ∙ here)
has_part K s (t ∷ ts) k (suc m) c e here = elim (is_empty (on_shard K s t.inputs) && is_empty (on_shard K s t.outputs))
    as (λ d. is_no_part (if d then part K s (suc k) ts else entry_of K s k t ∷ part K s (suc k) ts) ≡ false) [
      | true ↦ has_part K s ts (suc k) m c e here
      | false ↦ refl
    ]

-- ---- the outcome by the replies of shards s and up

module _ (K : Shape) (X : ℕ → List Record) (p : PlaceIn) (c : Compact)
    (has : (s : ℕ) → s < K.shards → Concerns K c s → is_some (reply_of K X p s) ≡ true)
    (only : (s : ℕ) → s < K.shards → is_some (reply_of K X p s) ≡ true → Concerns K c s) where
  abbrev locks : ℕ → List Answered
  locks s = lock_of (X (shard_node K s)) p.batch

  held_next : (s : ℕ) → HeldBelow K X p c s → (Concerns K c s → reply_of K X p s ≡ Some Held) → HeldBelow K X p c (suc s)
  held_next s below own r low here = elim (cases_lt r s) [
    | inl lt ↦ below r lt here
    | inr le ↦ let e : s ≡ r = omega (arith, low, le) in subst (λ m. Concerns K c m → reply_of K X p m ≡ Some Held) e own here
  ]

  -- by the reply of shard s, and the outcome of those behind it
  by_reply : (s : ℕ) (o : Outcome) (r : Option Reply) → s < K.shards → HeldBelow K X p c s → reply_of K X p s ≡ r
      → (HeldBelow K X p c (suc s) → IsOutcomeByReplies K X p c o) → IsOutcomeByReplies K X p c (outcome_by r s o)
  by_reply s o None low below f next = next (held_next s below
      (λ here. absurd (true_false (is_some (reply_of K X p s)) (has s low here) (ap is_some f))))
  by_reply s o (Some Held) low below f next = next (held_next s below (λ here. f))
  by_reply s o (Some (Missing x)) low below f next = (only s low (ap is_some f), below, f)
  by_reply s o (Some (Taken x by)) low below f next = (only s low (ap is_some f), below, f)

  from_shard : (n s : ℕ) → s + n ≡ K.shards → HeldBelow K X p c s → IsOutcomeByReplies K X p c (outcome locks p.at s n)
  from_shard zero s e below = subst (λ m. HeldBelow K X p c m) (omega (arith, e)) below
  from_shard (suc n) s e below = by_reply s (outcome locks p.at (suc s) n) (reply_of K X p s) (omega (arith, e)) below refl
      (λ more. from_shard n (suc s) (omega (arith, e)) more)

  pub by_replies : IsOutcomeByReplies K X p c (outcome locks p.at 0 K.shards)
  by_replies = from_shard K.shards 0 (omega arith) (λ s low here. absurd (omega (arith, low)))

  good : HeldBelow K X p c K.shards → (s : ℕ) → s < K.shards → IsGood (reply_at (locks s) p.at)
  good all s low = elim (reply_at (locks s) p.at) as (λ r. reply_at (locks s) p.at ≡ r → IsGood r) [
    | None ↦ λ f. tt
    | Some r ↦ λ f. subst (λ q. IsGood (Some q)) (some_reply Held r (sym (all s low (only s low (ap is_some f))) ∙ f)) tt
  ] refl

  pub all_held : HeldBelow K X p c K.shards → outcome locks p.at 0 K.shards ≡ Won
  all_held all = all_good locks p.at 0 K.shards (λ s low. good all s (omega (arith, low)))

-- ---- in kept journals

module _ (K : Shape) (minting : Minted) (P : Compact → Type 0) (some : 0 < K.shards) (later : List Row) (kept : Steady K minting P later) where
  abbrev J : ℕ → List Record
  J n = journal n (later ++ first_rows K minting)

  -- a Lock that stands has the replies that the journal before it gives
  module _ (s : ℕ) (b : Batch) where
    abbrev Stands : Record → Type 0
    Stands q = (newer rest : List Record) → J (shard_node K s) ≡ newer ++ q ∷ rest → ((kind_of q == 2) && is_of b q) ≡ true
        → record_of 2 (J (shard_node K s)) b ≡ Some q → IsEnd (first_of K minting (shard_node K s)) rest
        → HasStandingLock K J b s

    stood : (q : Record) → Stands q
    stood (Lock stamp c es) newer rest e u found h =
        let same : c ≡ b = (split_test 2 2 c b u).1 in
        let next : Next K (shard_node K s) rest (Lock stamp c es) =
        ((lists_of K minting P some later kept).each (shard_node K s) newer rest (Lock stamp c es) e h).0 in
        let is : lock_of (J (shard_node K s)) b ≡ es = ap entries_in found in
        let whole : entries es ≡ part K s 0 (txs_of (J (home_of K b.lane)) b) =
        ap entries (sym is) ∙ (all_structure K minting P some later kept).lock_part s b (ap is_some found) in
        record {
          newer = newer;
          stamp = stamp;
          past = rest;
          stands = e ∙ (λ i. newer ++ Lock stamp (same i) (sym is i) ∷ rest);
          replies = is ∙ next.4 ∙ (λ i. answered rest (same i) [] (whole i));
        }
    stood other newer rest e u found h = absurd (let z : false ≡ true = u in cc)

    pub locked : has_lock (J (shard_node K s)) b ≡ true → HasStandingLock K J b s
    locked there =
        let q = stands (J (shard_node K s)) 2 b there in
        let begins : IsEnd (first_of K minting (shard_node K s)) (J (shard_node K s)) =
        (lists_of K minting P some later kept).begins (shard_node K s) in
        elim (cut begins.0 (first_of K minting (shard_node K s)) q.0 q.2 q.1 (sym begins.1 ∙ q.3)) [
          | inr f ↦ stood q.1 q.0 q.2 q.3 q.4 q.5 (f.back, f.rest_is)
          | inl f ↦ absurd (true_false (is_some (record_of 2 (first_of K minting (shard_node K s)) b))
              (subst (λ L. is_some (record_of 2 L b) ≡ true) (sym f.1) (in_journal f.0 q.2 q.1 2 b q.4))
              (none_of 2 (first_of K minting (shard_node K s)) (journal_first (shard_node K s) (first_rows K minting) (all_first K minting P some))
              b))
        ]

  -- a transaction of a batch that is done
  module _ (p : PlaceIn) (c : Compact) (holds : tx_at (txs_of (J (home_of K p.batch.lane)) p.batch) p.at ≡ Some c)
      (prepared : is_some (record_of 6 (J (home_of K p.batch.lane)) p.batch) ≡ true)
      (rest : (slot (J (home_of K p.batch.lane)) p.batch.lane).phase ≡ Idle) where
    abbrev b : Batch
    b = p.batch

    abbrev txs : List Compact
    txs = txs_of (J (home_of K p.batch.lane)) p.batch

    abbrev all_locks : ℕ → List Answered
    all_locks s = lock_of (J (shard_node K s)) p.batch

    commit : (stamp : ℕ) × (record_of 7 (J (home_of K p.batch.lane)) p.batch
        ≡ Some (Commit stamp p.batch (outcomes_of (J (home_of K p.batch.lane)) p.batch)))
    commit =
        let done = (all_dones K minting P some later kept (home_of K p.batch.lane)).idle_done p.batch prepared rest in
        commit_stands (J (home_of K p.batch.lane)) p.batch
        ((all_phases K minting P some later kept (home_of K p.batch.lane)).done_prepared p.batch done).1

    there : (s : ℕ) → Concerns K c s → HasStandingLock K J p.batch s
    there s here =
        let facts = standing K minting P some later kept (home_of K p.batch.lane) 7 p.batch
        (Commit commit.0 p.batch (outcomes_of (J (home_of K p.batch.lane)) p.batch)) commit.1 in
        locked s p.batch (facts.1 s (here.0, has_part K s (txs_of (J (home_of K p.batch.lane)) p.batch) 0 p.at c holds here.1))

    -- by the Lock that stands, if one does
    replies : (s : ℕ) → HasStandingLock K J p.batch s
        → is_some (reply_of K J p s) ≡ not (is_empty (on_shard K s c.inputs) && is_empty (on_shard K s c.outputs))
    replies s l = ap (λ es. is_some (reply_at es p.at)) l.replies
        ∙ replied l.past p.batch K s (txs_of (J (home_of K p.batch.lane)) p.batch) [] 0 p.at p.at c holds (omega arith)

    has : (s : ℕ) → s < K.shards → Concerns K c s → is_some (reply_of K J p s) ≡ true
    has s low here = replies s (there s here) ∙ ap not here.1

    no_reply : (es : List Answered) → es ≡ [] → is_some (reply_at es p.at) ≡ false
    no_reply es e = ap (λ l. is_some (reply_at l p.at)) e

    only : (s : ℕ) → s < K.shards → is_some (reply_of K J p s) ≡ true → Concerns K c s
    only s low f = (
      low,
      elim (has_lock (J (shard_node K s)) p.batch) as
          (λ d. has_lock (J (shard_node K s)) p.batch ≡ d → (is_empty (on_shard K s c.inputs) && is_empty (on_shard K s c.outputs)) ≡ false) [
            | true ↦ λ e. turned _ (sym (replies s (locked s p.batch e)) ∙ f)
            | false ↦ λ e. absurd (true_false (is_some (reply_of K J p s)) f
                (no_reply (lock_of (J (shard_node K s)) p.batch) (no_lock (J (shard_node K s)) p.batch e)))
          ] refl,
    )
      where
        turned : (d : Bool) → not d ≡ true → d ≡ false
        turned d h = grind (arith, h)

    pub the_outcome : outcome_in (J (home_of K p.batch.lane)) p ≡ Some (outcome (λ s. lock_of (J (shard_node K s)) p.batch) p.at 0 K.shards)
    the_outcome =
        let facts = standing K minting P some later kept (home_of K p.batch.lane) 7 p.batch
        (Commit commit.0 p.batch (outcomes_of (J (home_of K p.batch.lane)) p.batch)) commit.1 in
        ap (λ os. outcome_at os p.at) facts.2 ∙ at_place all_locks K.shards 0 (txs_of (J (home_of K p.batch.lane)) p.batch) p.at p.at c holds
        (omega arith)
      where
        at_place : (given : ℕ → List Answered) (shards k : ℕ) (ts : List Compact) (m n : ℕ) (c : Compact) → tx_at ts m ≡ Some c → n ≡ k + m
            → outcome_at (outcomes given shards k ts) m ≡ Some (outcome given n 0 shards)
        at_place given shards k [] m n c e f = absurd (let z : None ≡ Some c = e in cc)
        at_place given shards k (t ∷ ts) zero n c e f = ap (λ j. Some (outcome given j 0 shards)) (omega (arith, f))
        at_place given shards k (t ∷ ts) (suc m) n c e f = at_place given shards (suc k) ts m n c e (omega (arith, f))

    pub is_replied : IsReplied K J p c (outcome (λ s. lock_of (J (shard_node K s)) p.batch) p.at 0 K.shards)
    is_replied = record { locks = there; outcome = by_replies K J p c has only; exactly = all_held K J p c has only }
