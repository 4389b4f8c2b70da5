-- The Commit and the Finish that made a hash are older than a Lock that holds it.
use Rattle.std.proofs.Common.{◌≡◌, ℕ, ◌<◌, ◌≤◌, Bool, true, false, if◌then◌else◌, List, [], ◌∷◌, ◌++◌, Some, is_some, refl, sym, ap, ◌∙◌, subst}
use Rattle.std.proofs.Common.{arith}
use Rattle.cbdc_model.specs.Records.{Digest, Shape, Batch, Compact, Outcome, Answered, Record, Row, journal, same_batch, record_of, lock_of, txs_of}
use Rattle.cbdc_model.specs.Records.{outcomes_of, decisions_in, entries_in, stamp_in, last_stamp, Genesis, Lock, Finish, Start, Carry, CarryStart}
use Rattle.cbdc_model.specs.Status.{Status, status, has, held_inputs, made_outputs, returned_inputs, taken_inputs, finished_status, Unspent, Locked}
use Rattle.cbdc_model.specs.Status.{Absent}
use Rattle.cbdc_model.specs.Replies.{entries}
use Rattle.cbdc_model.specs.Ranges.{shard_of, shard_node, journal_at, lane_journal}
use Rattle.cbdc_model.specs.Outcomes.{won_at, decisions}
use Rattle.cbdc_model.specs.Slots.{slot}
use Rattle.cbdc_model.specs.History.{Minted, first_rows, won_of, all_outputs}
use Rattle.ledger_laws.proofs.Next.{Next, has_lock, has_finish, Steady}
use Rattle.ledger_laws.proofs.Counts.{count, count-has}
use Rattle.ledger_laws.proofs.Parts.{IsPart, is_part, won_by-won_txs, decided, count-made}
use Rattle.ledger_laws.proofs.Slots.{JournalOk}
use Rattle.ledger_laws.proofs.View.{same, other, same_or_not}
use Rattle.ledger_laws.proofs.Rows.{at, away, at_node, head_at, head_away}
use Rattle.ledger_laws.proofs.Lookups.{true_false}
use Rattle.ledger_laws.proofs.First.{AllFirst, journal_first, all_first}
use Rattle.ledger_laws.proofs.Moves.{all_structure}
use Rattle.ledger_laws.proofs.Order.{OrderOk}
use Rattle.ledger_laws.proofs.ByKind.{found_finish as finish_found}
use Rattle.ledger_laws.proofs.Standing.{standing}
use Rattle.ledger_laws.proofs.Repeats.{all_order}

-- of one journal and one hash
pub record Older (x : Digest) (J : List Record) : Type 0 where
  pub locked : (c : Batch) → status J x ≡ Locked c → has_lock J c ≡ true
  pub older : (b c : Batch) → status J x ≡ Locked c → has_finish J b ≡ true
      → 0 < count x (made_outputs (lock_of J b) (decisions_in (record_of 3 J b)))
      → stamp_in (record_of 3 J b) < stamp_in (record_of 2 J c)

not_locked : (c : Batch) → Unspent ≡ Locked c → ⊥
not_locked c e = cc

not_there : (c : Batch) → Absent ≡ Locked c → ⊥
not_there c e = cc

same_holder : (b c : Batch) → Locked b ≡ Locked c → b ≡ c
same_holder b c e = cc

data ByFinish (es : List Answered) (ds : List Bool) (x : Digest) (before : Status) (c : Batch) : Type 0 where
  as_before : has (made_outputs es ds) x ≡ false → before ≡ Locked c → ByFinish es ds x before c

by_finish : (es : List Answered) (ds : List Bool) (x : Digest) (before : Status) (c : Batch) → finished_status es ds x before ≡ Locked c
    → ByFinish es ds x before c
by_finish es ds x before c h = elim (has (made_outputs es ds) x) as (λ m. has (made_outputs es ds) x ≡ m
    → (if m then Unspent else (if has (returned_inputs es ds) x then Unspent else (if has (taken_inputs es ds) x then Absent else before)))
    ≡ Locked c → ByFinish es ds x before c) [
      | true ↦ λ m h. absurd (not_locked c h)
      | false ↦ λ m h. elim (has (returned_inputs es ds) x) as
          (λ v. (if v then Unspent else (if has (taken_inputs es ds) x then Absent else before)) ≡ Locked c → ByFinish es ds x before c) [
            | true ↦ λ h. absurd (not_locked c h)
            | false ↦ λ h. elim (has (taken_inputs es ds) x) as (λ v. (if v then Absent else before) ≡ Locked c → ByFinish es ds x before c) [
              | true ↦ λ h. absurd (not_there c h)
              | false ↦ λ h. as_before m h
            ] h
          ] h
    ] refl h

module _ (x : Digest) (J : List Record) (ok : JournalOk J) (order : OrderOk J) (was : Older x J) where
  module _ (stamp : ℕ) (d : Batch) (es : List Answered) (newer : last_stamp J < stamp) (above : (slot J d.lane).number < d.number) where
    found_lock : (c : Batch) → same_batch d c ≡ true → record_of 2 (Lock stamp d es ∷ J) c ≡ Some (Lock stamp d es)
    found_lock c t = rw t

    other_lock : (c : Batch) → same_batch d c ≡ false → record_of 2 (Lock stamp d es ∷ J) c ≡ record_of 2 J c
    other_lock c t = rw t

    lock_twice : (c : Batch) → d ≡ c → has_lock J c ≡ true → ⊥
    lock_twice c e h = let l : c.number ≤ (slot J c.lane).number = ok.lock_below c h in let a : (slot J c.lane).number < c.number =
        subst (λ f. (slot J f.lane).number < f.number) e above in omega arith

    finish_first : (b : Batch) → d ≡ b → has_finish J b ≡ true → ⊥
    finish_first b e h = let l : b.number ≤ (slot J b.lane).number = ok.finish_below b h in let a : (slot J b.lane).number < b.number =
        subst (λ f. (slot J f.lane).number < f.number) e above in omega arith

    self : same_batch d d ≡ true
    self = grind arith

    lock_older : Older x (Lock stamp d es ∷ J)
    lock_older = record {
      locked = λ c h. by_held c h;
      older = λ b c h f m. older_held b c h f m;
    }
      where
        by_held : (c : Batch) → (if has (held_inputs es) x then Locked d else status J x) ≡ Locked c → has_lock (Lock stamp d es ∷ J) c ≡ true
        by_held c h = elim (has (held_inputs es) x) as
            (λ v. (if v then Locked d else status J x) ≡ Locked c → has_lock (Lock stamp d es ∷ J) c ≡ true) [
              | true ↦ λ h. subst (λ e. has_lock (Lock stamp d es ∷ J) e ≡ true) (same_holder d c h) (ap is_some (found_lock d self))
              | false ↦ λ h. elim (same_or_not d c) [
                | same e ↦ absurd (lock_twice c e (was.locked c h))
                | other o ↦ ap is_some (other_lock c o) ∙ was.locked c h
              ]
            ] h

        at_most : (b : Batch) → stamp_in (record_of 3 J b) < stamp
        at_most b = omega (arith, order.stamps_le 3 b)

        older_held : (b c : Batch) → (if has (held_inputs es) x then Locked d else status J x) ≡ Locked c → has_finish J b ≡ true
            → 0 < count x (made_outputs (lock_of (Lock stamp d es ∷ J) b) (decisions_in (record_of 3 J b)))
            → stamp_in (record_of 3 J b) < stamp_in (record_of 2 (Lock stamp d es ∷ J) c)
        older_held b c h f m = elim (has (held_inputs es) x) as
            (λ v. (if v then Locked d else status J x) ≡ Locked c → stamp_in (record_of 3 J b) < stamp_in (record_of 2 (Lock stamp d es ∷ J) c)) [
              | true ↦ λ h. subst (λ e. stamp_in (record_of 3 J b) < stamp_in (record_of 2 (Lock stamp d es ∷ J) e)) (same_holder d c h)
                  (subst (λ r. stamp_in (record_of 3 J b) < stamp_in r) (sym (found_lock d self)) (at_most b))
              | false ↦ λ h. elim (same_or_not d c) [
                | same e ↦ absurd (lock_twice c e (was.locked c h))
                | other o ↦ subst (λ r. stamp_in (record_of 3 J b) < stamp_in r) (sym (other_lock c o)) (elim (same_or_not d b) [
                  | same e ↦ absurd (finish_first b e f)
                  | other u ↦ was.older b c h f (subst (λ r. 0 < count x (made_outputs (entries_in r) (decisions_in (record_of 3 J b))))
                      (other_lock b u)
                      m)
                ])
              ]
            ] h

  module _ (stamp : ℕ) (d : Batch) (ds : List Bool) where
    found_finish : (c : Batch) → same_batch d c ≡ true → record_of 3 (Finish stamp d ds ∷ J) c ≡ Some (Finish stamp d ds)
    found_finish c t = rw t

    other_finish : (c : Batch) → same_batch d c ≡ false → record_of 3 (Finish stamp d ds ∷ J) c ≡ record_of 3 J c
    other_finish c t = rw t

    test_self : (b : Batch) → d ≡ b → same_batch d b ≡ true
    test_self b e = subst (λ c. same_batch d c ≡ true) e (let s : same_batch d d ≡ true = grind arith in s)

    finish_older : Older x (Finish stamp d ds ∷ J)
    finish_older = record {
      locked = λ c h. locked_before c (by_finish (lock_of J d) ds x (status J x) c h);
      older = λ b c h f m. elim (same_or_not d b) [
        | same e ↦ absurd (made_here b c e (by_finish (lock_of J d) ds x (status J x) c h)
            (subst (λ r. 0 < count x (made_outputs (lock_of J b) (decisions_in r))) (found_finish b (test_self b e)) m))
        | other o ↦ subst (λ r. stamp_in r < stamp_in (record_of 2 J c)) (sym (other_finish b o))
            (older_before b c (by_finish (lock_of J d) ds x (status J x) c h)
            (subst (λ r. is_some r ≡ true) (other_finish b o) f)
            (subst (λ r. 0 < count x (made_outputs (lock_of J b) (decisions_in r))) (other_finish b o) m))
      ];
    }
      where
        locked_before : (c : Batch) → ByFinish (lock_of J d) ds x (status J x) c → has_lock J c ≡ true
        locked_before c (as_before m h) = was.locked c h

        older_before : (b c : Batch) → ByFinish (lock_of J d) ds x (status J x) c → has_finish J b ≡ true
            → 0 < count x (made_outputs (lock_of J b) (decisions_in (record_of 3 J b)))
            → stamp_in (record_of 3 J b) < stamp_in (record_of 2 J c)
        older_before b c (as_before m h) f n = was.older b c h f n

        made_here : (b c : Batch) → d ≡ b → ByFinish (lock_of J d) ds x (status J x) c → 0 < count x (made_outputs (lock_of J b) ds) → ⊥
        made_here b c e (as_before m h) n = true_false _
            (count-has x (made_outputs (lock_of J d) ds) (subst (λ f. 0 < count x (made_outputs (lock_of J f) ds)) (sym e) n)) m

next_older : (K : Shape) (node : ℕ) (x : Digest) (J : List Record) (r : Record) → JournalOk J → OrderOk J → Next K node J r → Older x J
    → Older x (r ∷ J)
next_older K node x J (Genesis header hs) ok order next was = absurd next
next_older K node x J (Carry stamp header source hs numbers) ok order next was = absurd next
next_older K node x J (Start header) ok order next was = absurd next
next_older K node x J (CarryStart stamp header source numbers) ok order next was = absurd next
next_older K node x J (Lock stamp d es) ok order next was = lock_older x J ok order was stamp d es next.0 next.3
next_older K node x J (Finish stamp d ds) ok order next was = finish_older x J ok order was stamp d ds
next_older K node x J another ok order next was = record { locked = was.locked; older = was.older }

never_locked : (x : Digest) (J : List Record) → AllFirst J → (c : Batch) → status J x ≡ Locked c → ⊥
never_locked x [] first c e = not_there c e
never_locked x (Genesis header hs ∷ J) first c e = elim (has hs x) as (λ v. (if v then Unspent else status J x) ≡ Locked c → ⊥) [
  | true ↦ λ e. not_locked c e
  | false ↦ λ e. never_locked x J first.1 c e
] e
never_locked x (Carry stamp header source hs numbers ∷ J) first c e = elim (has hs x) as (λ v. (if v then Unspent else status J x) ≡ Locked c → ⊥) [
  | true ↦ λ e. not_locked c e
  | false ↦ λ e. never_locked x J first.1 c e
] e
never_locked x (Start header ∷ J) first c e = never_locked x J first.1 c e
never_locked x (CarryStart stamp header source numbers ∷ J) first c e = never_locked x J first.1 c e
never_locked x (another ∷ J) first c e = absurd first.0

pub decisions-decided : (os : List Outcome) (es : List Answered) → decisions os (entries es) ≡ decided (won_at os) es
decisions-decided os [] = refl
decisions-decided os (a ∷ es) = ap (λ ds. won_at os a.entry.place ∷ ds) (decisions-decided os es)

module _ (K : Shape) (minting : Minted) (P : Compact → Type 0) (shards : 0 < K.shards) where
  abbrev whole : List Row → List Row
  whole later = later ++ first_rows K minting

  pub all_older : (later : List Row) → Steady K minting P later → (x : Digest) (n : ℕ) → Older x (journal n (whole later))
  all_older [] kept x n = record {
    locked = λ c e. absurd (never_locked x (journal n (first_rows K minting)) (journal_first n (first_rows K minting) (all_first K minting P shards))
        c e);
    older = λ b c e f m. absurd (never_locked x (journal n (first_rows K minting))
        (journal_first n (first_rows K minting) (all_first K minting P shards)) c e);
  }
  all_older (row ∷ later) kept x n = elim (at_node row.node n) [
    | away e ↦ subst (λ J. Older x J) (sym (head_away row (whole later) n e)) (all_older later kept.3 x n)
    | at e ↦ subst (λ J. Older x J) (sym (head_at row (whole later) n e)) (subst (λ k. Older x (row.what ∷ journal k (whole later))) e
        (next_older K row.node x (journal row.node (whole later)) row.what ((all_structure K minting P shards later kept.3).journals row.node)
        (all_order K minting P shards later kept.3 row.node) kept.0
        (all_older later kept.3 x row.node)))
  ]

  module _ (later : List Row) (kept : Steady K minting P later) (x : Digest) (b : Batch) where
    abbrev J : List Record
    J = journal_at K (whole later) x

    abbrev home : List Record
    home = lane_journal K (whole later) b

    -- what the Finish that stands says
    record Finished : Type 0 where
      lock : has_lock J b ≡ true
      decided_by : decisions_in (record_of 3 J b) ≡ decisions (outcomes_of home b) (entries (lock_of J b))
      later_than : stamp_in (record_of 7 home b) < stamp_in (record_of 3 J b)

    finished : has_finish J b ≡ true → Finished
    finished h =
        let f = finish_found J b h in
        let g = standing K minting P shards later kept (shard_node K (shard_of K x)) 3 b (Finish f.0 b f.1) f.2 in
        record {
          lock = g.1;
          decided_by = ap decisions_in f.2 ∙ g.2;
          later_than = subst (λ r. stamp_in (record_of 7 home b) < stamp_in r) (sym f.2) g.3;
        }

    pub made_earlier : (c : Batch) → 0 < count x (all_outputs (won_of K (whole later) b)) → has_finish J b ≡ true → status J x ≡ Locked c
        → (stamp_in (record_of 7 home b) < stamp_in (record_of 2 J c)) × (stamp_in (record_of 3 J b) < stamp_in (record_of 2 J c))
    made_earlier c n f e =
        let g : Finished = finished f in
        let part : IsPart x 0 (txs_of home b) (lock_of J b) =
        is_part K x 0 (txs_of home b) (lock_of J b) ((all_structure K minting P shards later kept).lock_part (shard_of K x) b g.lock) in
        let made : count x (made_outputs (lock_of J b) (decisions_in (record_of 3 J b))) ≡ count x (all_outputs (won_of K (whole later) b))
        = ap (λ ds. count x (made_outputs (lock_of J b) ds)) (g.decided_by ∙ decisions-decided (outcomes_of home b) (lock_of J b))
        ∙ count-made x (won_at (outcomes_of home b)) part
        ∙ ap (λ ts. count x (all_outputs ts)) (won_by-won_txs (won_at (outcomes_of home b)) 0 (txs_of home b) (outcomes_of home b)
        (λ i. ap (λ k. won_at (outcomes_of home b) k) (omega arith))) in
        let lt : stamp_in (record_of 3 J b) < stamp_in (record_of 2 J c) =
        (all_older later kept x (shard_node K (shard_of K x))).older b c e f (omega (arith, made)) in
        let first : stamp_in (record_of 7 home b) < stamp_in (record_of 3 J b) = g.later_than in
        (omega arith, lt)
