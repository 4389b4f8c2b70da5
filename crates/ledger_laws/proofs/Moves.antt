-- A caused record stays caused while other nodes' journals grow, and was caused before records of no smaller stamp came.
use Rattle.std.proofs.Common.{◌≡◌, ◌⊎◌, inl, inr, ℕ, zero, suc, ◌<◌, ◌≤◌, ◌/◌, max, true, false, ◌&&◌, ◌==◌, List, [], ◌∷◌, ◌++◌, length, Option}
use Rattle.std.proofs.Common.{Some, is_some, refl, sym, ap, ◌∙◌, subst, arith}
use Rattle.cbdc_model.specs.Causes.{greatest, at_shards, AllHave, IsStamped, IsCaused}
use Rattle.cbdc_model.specs.History.{first_rows, Minted}
use Rattle.cbdc_model.specs.Outcomes.{outcomes, decisions}
use Rattle.cbdc_model.specs.Ranges.{shard_node, part, Concerned, is_no_part}
use Rattle.cbdc_model.specs.Records.{Shape, Batch, same_batch, Compact, Answered, Entry, Record, Row, journal, record_of, kind_of, is_of, stamp_of}
use Rattle.cbdc_model.specs.Records.{stamp_in, entries_in, txs_in, outcomes_in, last_stamp, Genesis, Lock, Finish, Forget, Start, Prepare, Commit}
use Rattle.cbdc_model.specs.Records.{Discard, Done, lock_of, txs_of, Upgrade, Carry, CarryStart, Seal}
use Rattle.cbdc_model.specs.Replies.{entries}
use Rattle.cbdc_model.specs.Slots.{slot, Idle, InFinish}
use Rattle.ledger_laws.proofs.Next.{Next, has_lock, Steady}
use Rattle.ledger_laws.proofs.Slots.{JournalOk}
use Rattle.ledger_laws.proofs.More.{MoreOk, next_more}
pub use Rattle.ledger_laws.proofs.ByKind.{split_test, test_step}
use Rattle.ledger_laws.proofs.ByKind.{test_kind, test_batch, not_of_first}
use Rattle.ledger_laws.proofs.Rows.{Structure, at, away, at_node, head_at, head_away}
use Rattle.ledger_laws.proofs.Keeps.{keeps}
use Rattle.ledger_laws.proofs.Lookups.{true_false, not_true}
use Rattle.ledger_laws.proofs.First.{nothing, first_structure, AllFirst, journal_first, all_first}

-- each kind of record of a batch comes once in a journal
module _ (K : Shape) (node : ℕ) (J : List Record) (ok : JournalOk J) (more : MoreOk J) where
  new_one : (k kind : ℕ) (b c : Batch) → ((k == kind) && same_batch b c) ≡ true → (is_some (record_of k J b) ≡ true → ⊥)
      → is_some (record_of kind J c) ≡ true → ⊥
  new_one k kind b c h none found =
      let s : (k ≡ kind) × (b ≡ c) = split_test k kind b c h in
      none (subst (λ d. is_some (record_of k J d) ≡ true) (sym s.1) (subst (λ n. is_some (record_of n J c) ≡ true) (sym s.0) found))

  pub once : (r : Record) → Next K node J r → (kind : ℕ) (c : Batch) → ((kind_of r == kind) && is_of c r) ≡ true
      → is_some (record_of kind J c) ≡ true → ⊥
  once (Genesis header hs) next kind c h = absurd next
  once (Start header) next kind c h = absurd next
  once (Carry stamp header source hs numbers) next kind c h = absurd next
  once (CarryStart stamp header source numbers) next kind c h = absurd next
  once (Upgrade stamp batch) next kind c h = absurd (let z : is_of c (Upgrade stamp batch) ≡ true = test_batch kind c (Upgrade stamp batch) h in cc)
  once (Seal stamp to shards) next kind c h = absurd
      (let z : is_of c (Seal stamp to shards) ≡ true = test_batch kind c (Seal stamp to shards) h in cc)
  once (Lock stamp b es) next kind c h = new_one 2 kind b c h (λ f. omega (arith, ok.lock_below b f, next.3))
  once (Finish stamp b ds) next kind c h = new_one 3 kind b c h (λ f. true_false _ f (ok.locked b next.2 next.3).1)
  once (Forget stamp b) next kind c h = new_one 4 kind b c h (λ f. true_false _ f (more.in_finish b next.2 next.3).1)
  once (Prepare stamp b txs) next kind c h = new_one 6 kind b c h (λ f. omega (arith, ok.prepare_below b f, next.4))
  once (Commit stamp b os) next kind c h = new_one 7 kind b c h (λ f. true_false _ f (ok.prepared b next.3 next.4).1)
  once (Discard stamp b) next kind c h = new_one 8 kind b c h (λ f. true_false _ f (more.in_commit b next.3 next.4).0)
  once (Done stamp b) next kind c h = new_one 9 kind b c h (λ f. true_false _ f (more.in_discard b next.3 next.4))

  -- a shard's record of a batch is of one that was locked there, or is its Lock
  pub locked_before : (r : Record) → Next K node J r → (kind : ℕ) (c : Batch) → ((kind_of r == kind) && is_of c r) ≡ true → (kind ≡ 3) ⊎ (kind ≡ 4)
      → has_lock J c ≡ true
  locked_before r next kind c h which = of_record r next kind c h which
    where
      of_record : (r : Record) → Next K node J r → (kind : ℕ) (c : Batch) → ((kind_of r == kind) && is_of c r) ≡ true → (kind ≡ 3) ⊎ (kind ≡ 4)
          → has_lock J c ≡ true
      of_record (Finish stamp b ds) next kind c h which = subst (λ d. has_lock J d ≡ true) (split_test 3 kind b c h).1 (ok.locked b next.2 next.3).0
      of_record (Forget stamp b) next kind c h which = subst (λ d. has_lock J d ≡ true) (split_test 4 kind b c h).1 (more.in_finish b next.2 next.3).0
      of_record other next kind c h which = absurd (let k : kind_of other ≡ kind = test_kind kind c other h in grind (arith, k, which))

-- what of other journals a record's cause rule reads
abbrev pub SameCauses : Shape → (ℕ → List Record) → (ℕ → List Record) → Record → Type 0
SameCauses K I J (Lock stamp b es) = record_of 6 (I (b.lane / K.lanes)) b ≡ record_of 6 (J (b.lane / K.lanes)) b
SameCauses K I J (Finish stamp b ds) = record_of 7 (I (b.lane / K.lanes)) b ≡ record_of 7 (J (b.lane / K.lanes)) b
SameCauses K I J (Forget stamp b) = record_of 8 (I (b.lane / K.lanes)) b ≡ record_of 8 (J (b.lane / K.lanes)) b
SameCauses K I J (Commit stamp b os) = (I (b.lane / K.lanes) ≡ J (b.lane / K.lanes)) × ((s : ℕ) → at_shards K I 2 b s ≡ at_shards K J 2 b s)
SameCauses K I J (Discard stamp b) = (I (b.lane / K.lanes) ≡ J (b.lane / K.lanes)) × ((s : ℕ) → at_shards K I 3 b s ≡ at_shards K J 3 b s)
SameCauses K I J (Done stamp b) = (I (b.lane / K.lanes) ≡ J (b.lane / K.lanes)) × ((s : ℕ) → at_shards K I 4 b s ≡ at_shards K J 4 b s)
SameCauses K I J other = Unit {0}

all_have_same : (K : Shape) (I J : ℕ → List Record) (kind : ℕ) (b : Batch) → I (b.lane / K.lanes) ≡ J (b.lane / K.lanes)
    → ((s : ℕ) → at_shards K I kind b s ≡ at_shards K J kind b s)
    → AllHave K I kind b → AllHave K J kind b
all_have_same K I J kind b lane shards h s c =
    subst (λ r. is_some r ≡ true) (shards s) (h s (subst (λ own. Concerned K (txs_of own b) s) (sym lane) c))

pub caused_same : (K : Shape) (I J : ℕ → List Record) (node : ℕ) (r : Record) → I node ≡ J node → SameCauses K I J r → IsCaused K I node r
    → IsCaused K J node r
caused_same K I J node (Genesis header hs) own same c = tt
caused_same K I J node (Start header) own same c = tt
caused_same K I J node (Carry stamp header source hs numbers) own same c = tt
caused_same K I J node (CarryStart stamp header source numbers) own same c = tt
caused_same K I J node (Upgrade stamp batch) own same c = subst (λ o. IsStamped stamp o 0) own c
caused_same K I J node (Seal stamp to shards) own same c = subst (λ o. IsStamped stamp o 0) own c
caused_same K I J node (Prepare stamp b txs) own same c = subst (λ o. IsStamped stamp o 0) own c
caused_same K I J node (Lock stamp b es) own same c = (
  subst (λ r. is_some r ≡ true) same c.0,
  (λ s at. c.1 s at ∙ ap (λ r. part K s 0 (txs_in r)) same),
  c.2 ∙ (λ i. suc (max (last_stamp (own i)) (stamp_in (same i)))),
)
caused_same K I J node (Finish stamp b ds) own same c = (
  subst (λ r. is_some r ≡ true) same c.0,
  c.1 ∙ (λ i. decisions (outcomes_in (same i)) (entries (lock_of (own i) b))),
  c.2 ∙ (λ i. suc (max (last_stamp (own i)) (stamp_in (same i)))),
)
caused_same K I J node (Forget stamp b) own same c =
    (subst (λ r. is_some r ≡ true) same c.0, c.1 ∙ (λ i. suc (max (last_stamp (own i)) (stamp_in (same i)))))
caused_same K I J node (Commit stamp b os) own same c = (
  all_have_same K I J 2 b same.0 same.1 c.0,
  c.1 ∙ (λ i. outcomes (λ s. entries_in (same.1 s i)) K.shards 0 (txs_of (same.0 i) b)),
  c.2 ∙ (λ i. suc (max (last_stamp (own i)) (greatest (λ s. stamp_in (same.1 s i)) K.shards))),
)
caused_same K I J node (Discard stamp b) own same c =
    (all_have_same K I J 3 b same.0 same.1 c.0, c.1 ∙ (λ i. suc (max (last_stamp (own i)) (greatest (λ s. stamp_in (same.1 s i)) K.shards))))
caused_same K I J node (Done stamp b) own same c =
    (all_have_same K I J 4 b same.0 same.1 c.0, c.1 ∙ (λ i. suc (max (last_stamp (own i)) (greatest (λ s. stamp_in (same.1 s i)) K.shards))))

pub not_empty : (es : List Answered) (p : List Entry) → entries es ≡ p → 0 < length es → is_no_part p ≡ false
not_empty [] p e n = absurd (omega arith)
not_empty (a ∷ es) p e n = subst (λ q. is_no_part q ≡ false) e refl

-- a row at a shard's node is at a shard of the shape
pub in_range : (K : Shape) (node : ℕ) (J : List Record) (r : Record) → Next K node J r → (s : ℕ) → node ≡ shard_node K s → s < K.shards
in_range K node J (Genesis header hs) next s e = absurd next
in_range K node J (Carry stamp header source hs numbers) next s e = absurd next
in_range K node J (Start header) next s e = absurd next
in_range K node J (CarryStart stamp header source numbers) next s e = absurd next
in_range K node J other next s e = omega (arith, next.1)

-- a record that stays caused while another node's journal has grown by one
module _ (K : Shape) (P : Compact → Type 0) (past : List Row) (st : Structure K P past) (more : (n : ℕ) → MoreOk (journal n past)) (row : Row)
    (next : Next K row.node (journal row.node past) row.what) (caused : IsCaused K (λ n. journal n past) row.node row.what) where
  pub kept_lookup : (kind node : ℕ) (c : Batch) → is_some (record_of kind (journal node past) c) ≡ true
      → record_of kind (journal node past) c ≡ record_of kind (journal node (row ∷ past)) c
  kept_lookup kind node c found = elim (at_node row.node node) [
    | away e ↦ ap (λ J. record_of kind J c) (sym (head_away row past node e))
    | at e ↦
        elim ((kind_of row.what == kind) && is_of c row.what) as (λ t. ((kind_of row.what == kind) && is_of c row.what) ≡ t
        → record_of kind (journal node past) c ≡ record_of kind (journal node (row ∷ past)) c) [
          | true ↦ λ t. absurd (once K row.node (journal row.node past) (st.journals row.node) (more row.node) row.what next kind c t
              (subst (λ n. is_some (record_of kind (journal n past) c) ≡ true) (sym e) found))
          | false ↦ λ t. sym (test_step kind row.what (journal node past) c t) ∙ ap (λ J. record_of kind J c) (sym (head_at row past node e))
        ] refl
  ]

  pub concerned_lock : (s : ℕ) (c : Batch) → has_lock (journal (shard_node K s) past) c ≡ true
      → is_no_part (part K s 0 (txs_of (journal (c.lane / K.lanes) past) c)) ≡ false
  concerned_lock s c h = not_empty (lock_of (journal (shard_node K s) past) c) _ (st.lock_part s c h) ((more (shard_node K s)).lock_some c h)

  concerned_new : (r : Record) (node : ℕ) → Next K node (journal node past) r → IsCaused K (λ n. journal n past) node r → (s : ℕ)
      → node ≡ shard_node K s → (c : Batch)
      → ((kind_of r == 2) && is_of c r) ≡ true → is_no_part (part K s 0 (txs_of (journal (c.lane / K.lanes) past) c)) ≡ false
  concerned_new (Lock stamp b es) node next caused s e c h =
      subst (λ d. is_no_part (part K s 0 (txs_of (journal (d.lane / K.lanes) past) d)) ≡ false) (split_test 2 2 b c h).1
      (not_empty es _ (caused.1 s e) next.5)
  concerned_new (Genesis header hs) node next caused s e c h = absurd next
  concerned_new (Carry stamp header source hs numbers) node next caused s e c h = absurd next
  concerned_new (Start header) node next caused s e c h = absurd next
  concerned_new (CarryStart stamp header source numbers) node next caused s e c h = absurd next
  concerned_new other node next caused s e c h = absurd (let z : false ≡ true = h in cc)

  abbrev pub IsShardKind : ℕ → Type 0
  IsShardKind kind = (kind ≡ 2) ⊎ (kind ≡ 3) ⊎ (kind ≡ 4)

  concerned_here : (kind : ℕ) → IsShardKind kind → (s : ℕ) → row.node ≡ shard_node K s → (c : Batch)
      → ((kind_of row.what == kind) && is_of c row.what) ≡ true
      → Concerned K (txs_of (journal (c.lane / K.lanes) past) c) s
  concerned_here kind which s e c t = (
    in_range K row.node (journal row.node past) row.what next s e,
    elim which [
      | inl two ↦ concerned_new row.what row.node next caused s e c (subst (λ k. ((kind_of row.what == k) && is_of c row.what) ≡ true) two t)
      | inr later ↦ concerned_lock s c (subst (λ n. has_lock (journal n past) c ≡ true) e
          (locked_before K row.node (journal row.node past) (st.journals row.node) (more row.node) row.what next kind c t later))
    ],
  )

  pub same_shards : (kind : ℕ) → IsShardKind kind → (c : Batch) → AllHave K (λ n. journal n past) kind c
      → (s : ℕ) → at_shards K (λ n. journal n past) kind c s ≡ at_shards K (λ n. journal n (row ∷ past)) kind c s
  same_shards kind which c have s = elim (at_node row.node (shard_node K s)) [
    | away e ↦ ap (λ J. record_of kind J c) (sym (head_away row past (shard_node K s) e))
    | at e ↦
        elim ((kind_of row.what == kind) && is_of c row.what) as (λ t. ((kind_of row.what == kind) && is_of c row.what) ≡ t
        → record_of kind (journal (shard_node K s) past) c ≡ record_of kind (journal (shard_node K s) (row ∷ past)) c) [
          | true ↦ λ t. absurd (once K row.node (journal row.node past) (st.journals row.node) (more row.node) row.what next kind c t
              (subst (λ n. is_some (record_of kind (journal n past) c) ≡ true) (sym e) (have s (concerned_here kind which s e c t))))
          | false ↦ λ t. sym (test_step kind row.what (journal (shard_node K s) past) c t)
              ∙ ap (λ J. record_of kind J c) (sym (head_at row past (shard_node K s) e))
        ] refl
  ]

  -- q at another node
  module _ (m : ℕ) (elsewhere : (row.node == m) ≡ false) where
    own : journal m past ≡ journal m (row ∷ past)
    own = sym (head_away row past m elsewhere)

    same_causes : (q : Record) → Next K m (journal m past) q → IsCaused K (λ n. journal n past) m q
        → SameCauses K (λ n. journal n past) (λ n. journal n (row ∷ past)) q
    same_causes (Lock stamp b es) at_q c = kept_lookup 6 (b.lane / K.lanes) b c.0
    same_causes (Finish stamp b ds) at_q c = kept_lookup 7 (b.lane / K.lanes) b c.0
    same_causes (Forget stamp b) at_q c = kept_lookup 8 (b.lane / K.lanes) b c.0
    same_causes (Commit stamp b os) at_q c = (subst (λ k. journal k past ≡ journal k (row ∷ past)) at_q.2 own, same_shards 2 (inl refl) b c.0)
    same_causes (Discard stamp b) at_q c = (subst (λ k. journal k past ≡ journal k (row ∷ past)) at_q.2 own, same_shards 3 (inr (inl refl)) b c.0)
    same_causes (Done stamp b) at_q c = (subst (λ k. journal k past ≡ journal k (row ∷ past)) at_q.2 own, same_shards 4 (inr (inr refl)) b c.0)
    same_causes other at_q c = tt

    pub stays : (q : Record) → Next K m (journal m past) q → IsCaused K (λ n. journal n past) m q → IsCaused K (λ n. journal n (row ∷ past)) m q
    stays q at_q c = caused_same K (λ n. journal n past) (λ n. journal n (row ∷ past)) m q own (same_causes q at_q c) c

pub greatest_bound : (f : ℕ → ℕ) (n s : ℕ) → s < n → f s ≤ greatest f n
greatest_bound f zero s h = absurd (omega arith)
greatest_bound f (suc n) s h =
    let cases : (s ≡ n) ⊎ (s < n) = grind arith in
    elim cases [
      | inl e ↦ subst (λ k. f k ≤ max (greatest f n) (f n)) (sym e) (omega arith)
      | inr lt ↦ omega (arith, greatest_bound f n s lt)
    ]

-- a record was caused before a row of no smaller stamp came at another node
module _ (K : Shape) (past : List Row) (row : Row) (next : Next K row.node (journal row.node past) row.what) where
  older_lookup : (kind node : ℕ) (c : Batch) → stamp_in (record_of kind (journal node (row ∷ past)) c) < stamp_of row.what
      → record_of kind (journal node (row ∷ past)) c ≡ record_of kind (journal node past) c
  older_lookup kind node c lt = elim (at_node row.node node) [
    | away e ↦ ap (λ J. record_of kind J c) (head_away row past node e)
    | at e ↦
        let head : record_of kind (journal node (row ∷ past)) c ≡ record_of kind (row.what ∷ journal node past) c =
        ap (λ J. record_of kind J c) (head_at row past node e) in
        elim ((kind_of row.what == kind) && is_of c row.what) as (λ t. ((kind_of row.what == kind) && is_of c row.what) ≡ t
        → record_of kind (journal node (row ∷ past)) c ≡ record_of kind (journal node past) c) [
          | true ↦ λ t. absurd (too_new node head (found kind node c t) lt)
          | false ↦ λ t. head ∙ test_step kind row.what (journal node past) c t
        ] refl
  ]
    where
      found : (kind node : ℕ) (c : Batch) → ((kind_of row.what == kind) && is_of c row.what) ≡ true
          → record_of kind (row.what ∷ journal node past) c ≡ Some row.what
      found kind node c t = rw t

      too_new : (node : ℕ) {r : Option Record} {q : Option Record} → r ≡ q → q ≡ Some row.what → stamp_in r < stamp_of row.what → ⊥
      too_new node {r = r} e f lt = let k : stamp_in r ≡ stamp_of row.what = ap stamp_in (e ∙ f) in omega arith

  older_shards : (kind : ℕ) (c : Batch) (stamp : ℕ) → stamp ≤ stamp_of row.what
      → greatest (λ s. stamp_in (at_shards K (λ n. journal n (row ∷ past)) kind c s)) K.shards < stamp
      → (s : ℕ) → at_shards K (λ n. journal n (row ∷ past)) kind c s ≡ at_shards K (λ n. journal n past) kind c s
  older_shards kind c stamp le lt s = elim (at_node row.node (shard_node K s)) [
    | away e ↦ ap (λ J. record_of kind J c) (head_away row past (shard_node K s) e)
    | at e ↦ older_lookup kind (shard_node K s) c (omega (
      arith,
      greatest_bound (λ s. stamp_in (at_shards K (λ n. journal n (row ∷ past)) kind c s)) K.shards s
          (in_range K row.node (journal row.node past) row.what next s e),
    ))
  ]

  module _ (m : ℕ) (elsewhere : (row.node == m) ≡ false) where
    own_before : journal m (row ∷ past) ≡ journal m past
    own_before = head_away row past m elsewhere

    causes_before : (q : Record) → stamp_of q ≤ stamp_of row.what → Next K m (journal m past) q → IsCaused K (λ n. journal n (row ∷ past)) m q
        → SameCauses K (λ n. journal n (row ∷ past)) (λ n. journal n past) q
    causes_before (Lock stamp b es) le at_q c = older_lookup 6 (b.lane / K.lanes) b (omega (arith, c.2))
    causes_before (Finish stamp b ds) le at_q c = older_lookup 7 (b.lane / K.lanes) b (omega (arith, c.2))
    causes_before (Forget stamp b) le at_q c = older_lookup 8 (b.lane / K.lanes) b (omega (arith, c.1))
    causes_before (Commit stamp b os) le at_q c =
        (subst (λ k. journal k (row ∷ past) ≡ journal k past) at_q.2 own_before, older_shards 2 b stamp le (omega (arith, c.2)))
    causes_before (Discard stamp b) le at_q c =
        (subst (λ k. journal k (row ∷ past) ≡ journal k past) at_q.2 own_before, older_shards 3 b stamp le (omega (arith, c.1)))
    causes_before (Done stamp b) le at_q c =
        (subst (λ k. journal k (row ∷ past) ≡ journal k past) at_q.2 own_before, older_shards 4 b stamp le (omega (arith, c.1)))
    causes_before other le at_q c = tt

    pub was_caused : (q : Record) → stamp_of q ≤ stamp_of row.what → Next K m (journal m past) q → IsCaused K (λ n. journal n (row ∷ past)) m q
        → IsCaused K (λ n. journal n past) m q
    was_caused q le at_q c = caused_same K (λ n. journal n (row ∷ past)) (λ n. journal n past) m q own_before (causes_before q le at_q c) c

none_cons : (kind : ℕ) (r : Record) (J : List Record) (b : Batch) → ((kind_of r == kind) && is_of b r) ≡ false → is_some (record_of kind J b) ≡ false
    → is_some (record_of kind (r ∷ J) b) ≡ false
none_cons kind r J b t h = rw t h

pub none_of : (kind : ℕ) (J : List Record) → AllFirst J → (b : Batch) → is_some (record_of kind J b) ≡ false
none_of kind [] first b = refl
none_of kind (r ∷ J) first b = none_cons kind r J b (not_true _ (λ t. not_of_first r b first.0 (test_batch kind b r t))) (none_of kind J first.1 b)

pub idle : (J : List Record) → AllFirst J → (lane : ℕ) → (slot J lane).phase ≡ Idle
idle J first lane = (nothing J first).phase lane

-- every journal of a kept history
first_more : (J : List Record) → AllFirst J → MoreOk J
first_more J first = record {
  forget_below = λ b h. absurd (true_false _ h (none_of 4 J first b));
  commit_below = λ b h. absurd (true_false _ h (none_of 7 J first b));
  discard_below = λ b h. absurd (true_false _ h (none_of 8 J first b));
  done_below = λ b h. absurd (true_false _ h (none_of 9 J first b));
  in_lock = λ b p n. none_of 4 J first b;
  in_finish = λ b p n. absurd (let q : Idle ≡ InFinish = sym (idle J first b.lane) ∙ p in cc);
  in_prepare = λ b p n. (none_of 8 J first b, none_of 9 J first b);
  in_commit = λ b p n. (none_of 8 J first b, none_of 9 J first b);
  in_discard = λ b p n. none_of 9 J first b;
  lock_some = λ b h. absurd (true_false _ h (none_of 2 J first b));
}

module _ (K : Shape) (minting : Minted) (P : Compact → Type 0) (shards : 0 < K.shards) where
  pub all_structure : (later : List Row) → Steady K minting P later → Structure K P (later ++ first_rows K minting)
  all_structure [] kept = first_structure K minting P shards
  all_structure (row ∷ later) kept =
      keeps K P (later ++ first_rows K minting) (all_structure later kept.3) row.node row.what kept.0 kept.1 kept.2

  pub all_more : (later : List Row) → Steady K minting P later → (n : ℕ) → MoreOk (journal n (later ++ first_rows K minting))
  all_more [] kept n = first_more (journal n (first_rows K minting)) (journal_first n (first_rows K minting) (all_first K minting P shards))
  all_more (row ∷ later) kept n =
      elim (at_node row.node n) [
        | away e ↦ subst (λ J. MoreOk J) (sym (head_away row (later ++ first_rows K minting) n e)) (all_more later kept.3 n)
        | at e ↦ subst (λ J. MoreOk J) (sym (head_at row (later ++ first_rows K minting) n e))
            (subst (λ k. MoreOk (row.what ∷ journal k (later ++ first_rows K minting))) e
            (next_more K row.node (journal row.node (later ++ first_rows K minting)) ((all_structure later kept.3).journals row.node)
            (all_more later kept.3 row.node) row.what kept.0))
      ]
