-- Records that kept journals have newly: each is next, is the one of its kind and batch, and what it makes of a hash's status.
use Rattle.std.proofs.Common.{◌≡◌, ℕ, suc, ◌<◌, Bool, true, false, ◌&&◌, ◌==◌, if◌then◌else◌, List, [], ◌∷◌, ◌++◌, Some, is_some, refl, sym, ap, ◌∙◌}
use Rattle.std.proofs.Common.{subst, arith, append_assoc}
use Rattle.cbdc_model.specs.Records.{Digest, Shape, Batch, same_batch, Compact, Entry, Answered, Record, Row, journal, record_of, kind_of, is_of}
use Rattle.cbdc_model.specs.Records.{is_held, entries_in, txs_of, lock_of, Genesis, Lock, Finish, Start, Carry, CarryStart}
use Rattle.cbdc_model.specs.Status.{Status, status, has, held_inputs, made_outputs, returned_inputs, taken_inputs, finished_status, Unspent, Locked}
use Rattle.cbdc_model.specs.Status.{Absent}
use Rattle.cbdc_model.specs.Replies.{entries}
use Rattle.cbdc_model.specs.Ranges.{home_of, shard_node, on_shard, is_empty, entry_of, part}
use Rattle.cbdc_model.specs.History.{Minted, first_rows}
use Rattle.cbdc_model.specs.Lanes.{IsEnd, first_of}
use Rattle.cbdc_model.specs.Waves.{Adds, has_prepare}
use Rattle.ledger_laws.proofs.ByKind.{test_itself, found_new}
use Rattle.ledger_laws.proofs.Next.{Next, Steady, has_lock}
use Rattle.ledger_laws.proofs.Slots.{JournalOk, next_ok}
use Rattle.ledger_laws.proofs.More.{MoreOk, next_more}
use Rattle.ledger_laws.proofs.Lookups.{true_false, not_true, no_lock}
use Rattle.ledger_laws.proofs.Cuts.{end_trans}
use Rattle.ledger_laws.proofs.Moves.{once, test_step, all_structure, all_more}
use Rattle.ledger_laws.proofs.Together.{lists_of}
use Rattle.run_laws.proofs.NewRecords.{still_found, shifted}
use Rattle.run_laws.proofs.WaveTurns.{one_batch}
use Rattle.run_laws.proofs.Sharing.{AllLack}
use Rattle.run_laws.proofs.FreeReplies.{on_lacks}

-- no entry spends the hash
abbrev pub NoneSpends : Digest → List Entry → Type 0
NoneSpends x [] = Unit {0}
NoneSpends x (e ∷ es) = (has e.inputs x ≡ false) × NoneSpends x es

part_lacks : (x : Digest) (K : Shape) (s k : ℕ) (txs : List Compact) → AllLack x txs → NoneSpends x (part K s k txs)
part_lacks x K s k [] h = tt
part_lacks x K s k (t ∷ ts) h =
    let rest = part_lacks x K s (suc k) ts h.1 in
    elim (is_empty (on_shard K s t.inputs) && is_empty (on_shard K s t.outputs))
    as (λ c. NoneSpends x (if c then part K s (suc k) ts else entry_of K s k t ∷ part K s (suc k) ts)) [
      | true ↦ rest
      | false ↦ (on_lacks K s t.inputs x h.0, rest)
    ]

has_both : (xs ys : List Digest) (x : Digest) → has xs x ≡ false → has ys x ≡ false → has (xs ++ ys) x ≡ false
has_both [] ys x h g = g
has_both (z ∷ xs) ys x h g = let r = has_both xs ys x in grind (arith, h, g, r)

held_lacks : (x : Digest) (es : List Answered) → NoneSpends x (entries es) → has (held_inputs es) x ≡ false
held_lacks x [] h = refl
held_lacks x (a ∷ es) h =
    let rest = held_lacks x es h.1 in
    elim (is_held a.reply) as (λ c. has (if c then a.entry.inputs ++ held_inputs es else held_inputs es) x ≡ false) [
      | true ↦ has_both a.entry.inputs (held_inputs es) x h.0 rest
      | false ↦ rest
    ]

taken_lacks : (x : Digest) (es : List Answered) (ds : List Bool) → NoneSpends x (entries es) → has (taken_inputs es ds) x ≡ false
taken_lacks x [] ds h = refl
taken_lacks x (a ∷ es) [] h = refl
taken_lacks x (a ∷ es) (d ∷ ds) h =
    let rest = taken_lacks x es ds h.1 in
    elim d as (λ c. has (if c then a.entry.inputs ++ taken_inputs es ds else taken_inputs es ds) x ≡ false) [
      | true ↦ has_both a.entry.inputs (taken_inputs es ds) x h.0 rest
      | false ↦ rest
    ]

-- a Finish of entries that don't spend the hash leaves it Unspent
stays_unspent : (x : Digest) (es : List Answered) (ds : List Bool) (before : Status) → NoneSpends x (entries es) → before ≡ Unspent
    → finished_status es ds x before ≡ Unspent
stays_unspent x es ds before h e =
    elim (has (made_outputs es ds) x) as (λ c. (if c then Unspent
    else (if has (returned_inputs es ds) x then Unspent else (if has (taken_inputs es ds) x then Absent else before))) ≡ Unspent) [
      | true ↦ refl
      | false ↦ elim (has (returned_inputs es ds) x) as
          (λ c. (if c then Unspent else (if has (taken_inputs es ds) x then Absent else before)) ≡ Unspent) [
            | true ↦ refl
            | false ↦ ap (λ c. if c then Absent else before) (taken_lacks x es ds h) ∙ e
          ]
    ]

module _ (K : Shape) (minting : Minted) (P : Compact → Type 0) (some : 0 < K.shards) (before after : List Row) (kept : Steady K minting P before)
    (kept' : Steady K minting P after) where
  abbrev I : ℕ → List Record
  I n = journal n (before ++ first_rows K minting)

  abbrev J : ℕ → List Record
  J n = journal n (after ++ first_rows K minting)

  pub next_in : (n : ℕ) (newer rest : List Record) (r : Record) → J n ≡ newer ++ r ∷ rest → IsEnd (I n) rest → Next K n rest r
  next_in n newer rest r e h =
      ((lists_of K minting P some after kept').each n newer rest r e
      (end_trans (first_of K minting n) (I n) rest ((lists_of K minting P some before kept).begins n) h)).0

  oks_from : (n : ℕ) (more newer : List Record) → J n ≡ newer ++ (more ++ I n) → JournalOk (more ++ I n) × MoreOk (more ++ I n)
  oks_from n [] newer e = ((all_structure K minting P some before kept).journals n, all_more K minting P some before kept n)
  oks_from n (r ∷ more) newer e =
      let below = oks_from n more (newer ++ r ∷ []) (e ∙ shifted newer more r (I n)) in
      let next : Next K n (more ++ I n) r = next_in n newer (more ++ I n) r e (more, refl) in
      (next_ok K n (more ++ I n) below.0 r next, next_more K n (more ++ I n) below.0 below.1 r next)

  pub oks_in : (n : ℕ) (newer rest : List Record) → J n ≡ newer ++ rest → IsEnd (I n) rest → JournalOk rest × MoreOk rest
  oks_in n newer rest e h = subst (λ L. JournalOk L × MoreOk L) (sym h.1) (oks_from n h.0 newer (e ∙ ap (λ L. newer ++ L) h.1))

  -- a batch has one record of a kind at a node
  pub never_twice : (n : ℕ) (newer rest : List Record) (r : Record) (kind : ℕ) (c : Batch) → J n ≡ newer ++ r ∷ rest → IsEnd (I n) rest
      → ((kind_of r == kind) && is_of c r) ≡ true
      → is_some (record_of kind rest c) ≡ true → ⊥
  never_twice n newer rest r kind c e h t f =
      let oks = oks_in n (newer ++ r ∷ []) rest (e ∙ sym (append_assoc newer (r ∷ []) rest)) h in
      once K n rest oks.0 oks.1 r (next_in n newer rest r e h) kind c t f

  found_up : (n kind : ℕ) (c : Batch) (r : Record) (rest newer front : List Record) → J n ≡ front ++ (newer ++ r ∷ rest) → IsEnd (I n) rest
      → ((kind_of r == kind) && is_of c r) ≡ true
      → record_of kind (newer ++ r ∷ rest) c ≡ Some r
  found_up n kind c r rest [] front e h t = found_new kind r rest c t
  found_up n kind c r rest (q ∷ newer) front e h t =
      let below : record_of kind (newer ++ r ∷ rest) c ≡ Some r =
      found_up n kind c r rest newer (front ++ q ∷ []) (e ∙ sym (append_assoc front (q ∷ []) (newer ++ r ∷ rest))) h t in
      let end : IsEnd (I n) (newer ++ r ∷ rest) = (newer ++ r ∷ h.0, ap (λ L. newer ++ r ∷ L) h.1 ∙ sym (append_assoc newer (r ∷ h.0) (I n))) in
      elim ((kind_of q == kind) && is_of c q) as (λ u. ((kind_of q == kind) && is_of c q) ≡ u → record_of kind (q ∷ (newer ++ r ∷ rest)) c ≡ Some r) [
        | true ↦ λ u. absurd (never_twice n front (newer ++ r ∷ rest) q kind c e end u (ap is_some below))
        | false ↦ λ u. test_step kind q (newer ++ r ∷ rest) c u ∙ below
      ] refl

  -- so a new record is the one that is found
  pub found_at : (n kind : ℕ) (c : Batch) (newer rest : List Record) (r : Record) → J n ≡ newer ++ r ∷ rest → IsEnd (I n) rest
      → ((kind_of r == kind) && is_of c r) ≡ true → record_of kind (J n) c ≡ Some r
  found_at n kind c newer rest r e h t = ap (λ L. record_of kind L c) e ∙ found_up n kind c r rest newer [] e h t

  -- a batch of the wave: prepared in it
  abbrev pub IsNew : Batch → Type 0
  IsNew c = (has_prepare K I c ≡ false) × (has_prepare K J c ≡ true)

  -- it has no Lock from before
  pub never_locked : (c : Batch) (n : ℕ) → IsNew c → has_lock (I n) c ≡ true → ⊥
  never_locked c n new h = true_false (has_prepare K I c) ((all_structure K minting P some before kept).lock_prepared n c h) new.0

  module _ (adds : Adds IsNew I J) where
    pub of_new : (n : ℕ) (newer rest : List Record) (r : Record) (c : Batch) → J n ≡ newer ++ r ∷ rest → IsEnd (I n) rest → is_of c r ≡ true → IsNew c
    of_new n newer rest r c e h o =
        let k = adds.each n newer rest r e h in
        subst IsNew (one_batch k.0 c r k.1 o) k.2

    -- up to a batch's Lock a hash stays Unspent that no other new batch spends
    module _ (s : ℕ) (b : Batch) (x : Digest) (lacks : (c : Batch) → IsNew c → (c ≡ b → ⊥) → AllLack x (txs_of (J (home_of K c.lane)) c)) where
      abbrev n : ℕ
      n = shard_node K s

      abbrev Spares : List Record → Type 0
      Spares past = (c : Batch) → IsNew c → (c ≡ b → ⊥) → NoneSpends x (entries (lock_of past c))

      -- the entries of a new batch's Lock
      lock_lacks : (newer rest : List Record) (stamp : ℕ) (c : Batch) (es : List Answered) → J n ≡ newer ++ Lock stamp c es ∷ rest → IsEnd (I n) rest
          → (c ≡ b → ⊥) → NoneSpends x (entries es)
      lock_lacks newer rest stamp c es e h apart =
          let found : record_of 2 (J n) c ≡ Some (Lock stamp c es) = found_at n 2 c newer rest (Lock stamp c es) e h (test_itself 2 c) in
          let is : entries (lock_of (J n) c) ≡ part K s 0 (txs_of (J (home_of K c.lane)) c) =
          (all_structure K minting P some after kept').lock_part s c (ap is_some found) in
          let es_are : entries es ≡ part K s 0 (txs_of (J (home_of K c.lane)) c) = ap (λ o. entries (entries_in o)) (sym found) ∙ is in
          subst (NoneSpends x) (sym es_are) (part_lacks x K s 0 (txs_of (J (home_of K c.lane)) c)
          (lacks c (of_new n newer rest (Lock stamp c es) c e h (test_itself 2 c)) apart))

      pub record Stays (past : List Record) : Type 0 where
        pub unspent : status past x ≡ Unspent
        pub spares : Spares past

      lock_step : (newer past : List Record) (stamp : ℕ) (c : Batch) (es : List Answered) → NoneSpends x (entries es) → Stays past
          → Stays (Lock stamp c es ∷ past)
      lock_step newer past stamp c es none stays = record {
        unspent = ap (λ t. if t then Locked c else status past x) (held_lacks x es none) ∙ stays.unspent;
        spares = λ d new apart. elim ((2 == 2) && same_batch c d) as
            (λ t. ((2 == 2) && same_batch c d) ≡ t → NoneSpends x (entries (lock_of (Lock stamp c es ∷ past) d))) [
              | true ↦ λ t. subst (λ o. NoneSpends x (entries (entries_in o))) (sym (found_new 2 (Lock stamp c es) past d t)) none
              | false ↦ λ t. subst (λ o. NoneSpends x (entries (entries_in o))) (sym (test_step 2 (Lock stamp c es) past d t))
                  (stays.spares d new apart)
            ] refl;
      }

      step : (newer past : List Record) (r : Record) → J n ≡ newer ++ r ∷ past → IsEnd (I n) past → (has_lock (r ∷ past) b ≡ true → ⊥) → Stays past
          → Stays (r ∷ past)
      step newer past (Genesis header hs) e h free stays = absurd (next_in n newer past (Genesis header hs) e h)
      step newer past (Carry stamp header source hs numbers) e h free stays = absurd (next_in n newer past (Carry stamp header source hs numbers) e h)
      step newer past (Start header) e h free stays = absurd (next_in n newer past (Start header) e h)
      step newer past (CarryStart stamp header source numbers) e h free stays =
          absurd (next_in n newer past (CarryStart stamp header source numbers) e h)
      step newer past (Lock stamp c es) e h free stays =
          lock_step newer past stamp c es (lock_lacks newer past stamp c es e h
          (λ same. free (ap is_some (found_new 2 (Lock stamp c es) past b
          (subst (λ d. ((2 == 2) && same_batch c d) ≡ true) same (test_itself 2 c)))))) stays
      step newer past (Finish stamp c ds) e h free stays =
          let next = next_in n newer past (Finish stamp c ds) e h in
          let locked : has_lock past c ≡ true = ((oks_in n (newer ++ Finish stamp c ds ∷ []) past
          (e ∙ sym (append_assoc newer (Finish stamp c ds ∷ []) past)) h).0.locked c next.2 next.3).0 in
          record {
            unspent = stays_unspent x (lock_of past c) ds (status past x)
                (stays.spares c (of_new n newer past (Finish stamp c ds) c e h (test_itself 3 c))
                (λ same. free (subst (λ d. has_lock past d ≡ true) same locked))) stays.unspent;
            spares = stays.spares;
          }
      step newer past other e h free stays = record { unspent = stays.unspent; spares = stays.spares }

      go : status (I n) x ≡ Unspent → (more newer : List Record) → J n ≡ newer ++ (more ++ I n) → (has_lock (more ++ I n) b ≡ true → ⊥)
          → Stays (more ++ I n)
      go base [] newer e free = record {
        unspent = base;
        spares = λ c new apart. subst (λ es. NoneSpends x (entries es)) (sym (no_lock (I n) c (not_true _ (never_locked c n new)))) tt;
      }
      go base (r ∷ more) newer e free =
          step newer (more ++ I n) r e (more, refl) free
          (go base more (newer ++ r ∷ []) (e ∙ shifted newer more r (I n)) (λ h. free (still_found (r ∷ []) (more ++ I n) 2 b h)))

      pub unspent_until : (newer rest : List Record) → J n ≡ newer ++ rest → IsEnd (I n) rest → (has_lock rest b ≡ true → ⊥)
          → status (I n) x ≡ Unspent → status rest x ≡ Unspent
      unspent_until newer rest e h free base =
          subst (λ L. status L x ≡ Unspent) (sym h.1)
          (go base h.0 newer (e ∙ ap (λ L. newer ++ L) h.1) (λ f. free (subst (λ L. has_lock L b ≡ true) (sym h.1) f))).unspent
