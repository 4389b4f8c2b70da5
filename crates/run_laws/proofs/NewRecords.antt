-- What a lane makes without a new Prepare, in kept journals, is of its open batch.
use Rattle.std.proofs.Common.{◌≡◌, ◌⊎◌, inl, inr, ℕ, ◌-◌, ◌<◌, ◌≤◌, true, false, ◌&&◌, ◌==◌, List, [], ◌∷◌, ◌++◌, Contains, is_some, refl, sym, ap}
use Rattle.std.proofs.Common.{◌∙◌, subst, arith, append_assoc}
use Rattle.cbdc_model.specs.Records.{Shape, Batch, same_batch, Compact, Record, Row, journal, record_of, kind_of, is_of, tells_lane, txs_in, txs_of}
use Rattle.cbdc_model.specs.Records.{lock_of, Genesis, Lock, Finish, Forget, Start, Prepare, Commit, Discard, Done, Upgrade, Carry, CarryStart, Seal}
use Rattle.cbdc_model.specs.Slots.{slot}
use Rattle.cbdc_model.specs.Grammar.{IsShard}
use Rattle.cbdc_model.specs.Ranges.{home_of, shard_node, Concerned}
use Rattle.cbdc_model.specs.Due.{open_batch}
use Rattle.cbdc_model.specs.History.{Minted, first_rows}
use Rattle.cbdc_model.specs.Lanes.{IsEnd, Seen, Holds, Made, first_of}
use Rattle.cbdc_model.specs.Waves.{Adds, prepared}
use Rattle.ledger_laws.proofs.Turns.{not_alone}
use Rattle.ledger_laws.proofs.ByKind.{test_itself}
use Rattle.ledger_laws.proofs.Next.{Next, Steady, has_lock, has_forget, has_prepare}
use Rattle.ledger_laws.proofs.Slots.{JournalOk, next_ok}
use Rattle.ledger_laws.proofs.More.{MoreOk, next_more}
use Rattle.ledger_laws.proofs.Lookups.{true_false, number_is}
use Rattle.ledger_laws.proofs.Cuts.{end_trans}
use Rattle.ledger_laws.proofs.Moves.{not_empty, test_step, all_structure, all_more}
use Rattle.ledger_laws.proofs.Recovered.{all_dones, done_forgot}
use Rattle.ledger_laws.proofs.Together.{lists_of}

-- no list of transactions is one of none
held_none : (txs : List Compact) → Contains [] txs → ⊥
held_none txs c = omega (arith, c.1)

-- a record is found in its journal
pub in_journal : (newer rest : List Record) (r : Record) (kind : ℕ) (c : Batch) → ((kind_of r == kind) && is_of c r) ≡ true
    → is_some (record_of kind (newer ++ r ∷ rest) c) ≡ true
in_journal [] rest r kind c t = rw t
in_journal (q ∷ newer) rest r kind c t = elim ((kind_of q == kind) && is_of c q) as
    (λ u. ((kind_of q == kind) && is_of c q) ≡ u → is_some (record_of kind (q ∷ (newer ++ r ∷ rest)) c) ≡ true) [
      | true ↦ λ u. rw u
      | false ↦ λ u. ap is_some (test_step kind q (newer ++ r ∷ rest) c u) ∙ in_journal newer rest r kind c t
    ] refl

-- and still where the journal has grown
pub still_found : (newer L : List Record) (kind : ℕ) (c : Batch) → is_some (record_of kind L c) ≡ true
    → is_some (record_of kind (newer ++ L) c) ≡ true
still_found [] L kind c h = h
still_found (q ∷ newer) L kind c h = elim ((kind_of q == kind) && is_of c q) as
    (λ u. ((kind_of q == kind) && is_of c q) ≡ u → is_some (record_of kind (q ∷ (newer ++ L)) c) ≡ true) [
      | true ↦ λ u. rw u
      | false ↦ λ u. ap is_some (test_step kind q (newer ++ L) c u) ∙ still_found newer L kind c h
    ] refl

pub shifted : (newer more : List Record) (r : Record) (old : List Record) → newer ++ r ∷ (more ++ old) ≡ (newer ++ r ∷ []) ++ (more ++ old)
shifted newer more r old = sym (append_assoc newer (r ∷ []) (more ++ old))

same_of : (lane number : ℕ) (c : Batch) → (c.lane == lane) ≡ true → c.number ≡ number → same_batch c (record { lane = lane; number = number }) ≡ true
same_of lane number c l n = grind arith

-- what holds of a Prepare alone holds of no record that is none
no_prepare_found : (r : Record) (L : List Record) (c : Batch) → Holds [] r → record_of 6 (r ∷ L) c ≡ record_of 6 L c
no_prepare_found (Prepare stamp b txs) L c h = absurd (held_none txs h)
no_prepare_found other L c h = refl

none_prepared : (lane : ℕ) (r : Record) (L : List Record) → Holds [] r → prepared lane (r ∷ L) ≡ prepared lane L
none_prepared lane (Prepare stamp b txs) L h = absurd (held_none txs h)
none_prepared lane other L h = refl

-- what a lane made alone
module _ (K : Shape) (lane : ℕ) (pieces : List (List Compact)) (I J : ℕ → List Record) (made : Made K pieces true lane I J) where
  pub its_own : (n : ℕ) (newer rest : List Record) (r : Record) → J n ≡ newer ++ r ∷ rest → IsEnd (I n) rest
      → (tells_lane lane r ≡ true) × Seen K J n rest r × Holds pieces r
  its_own n newer rest r e h = elim (made.each n newer rest r e h) [
    | inl o ↦ absurd (not_alone lane r o)
    | inr s ↦ s
  ]

-- without a Prepare
module _ (K : Shape) (lane : ℕ) (I J : ℕ → List Record) (made : Made K [] true lane I J) where
  prepared_from : (l n : ℕ) (more newer : List Record) → J n ≡ newer ++ (more ++ I n) → prepared l (more ++ I n) ≡ prepared l (I n)
  prepared_from l n [] newer e = refl
  prepared_from l n (r ∷ more) newer e =
      none_prepared l r (more ++ I n) (its_own K lane [] I J made n newer (more ++ I n) r e (more, refl)).2
      ∙ prepared_from l n more (newer ++ r ∷ []) (e ∙ shifted newer more r (I n))

  pub none_new : (l n : ℕ) → prepared l (J n) ≡ prepared l (I n)
  none_new l n = ap (prepared l) (made.grows n).1 ∙ prepared_from l n (made.grows n).0 [] (made.grows n).1

  found_from : (c : Batch) (n : ℕ) (more newer : List Record) → J n ≡ newer ++ (more ++ I n) → record_of 6 (more ++ I n) c ≡ record_of 6 (I n) c
  found_from c n [] newer e = refl
  found_from c n (r ∷ more) newer e =
      no_prepare_found r (more ++ I n) c (its_own K lane [] I J made n newer (more ++ I n) r e (more, refl)).2
      ∙ found_from c n more (newer ++ r ∷ []) (e ∙ shifted newer more r (I n))

  pub same_prepare : (c : Batch) (n : ℕ) → record_of 6 (J n) c ≡ record_of 6 (I n) c
  same_prepare c n = ap (λ L. record_of 6 L c) (made.grows n).1 ∙ found_from c n (made.grows n).0 [] (made.grows n).1

module _ (K : Shape) (minting : Minted) (P : Compact → Type 0) (some : 0 < K.shards) (before after : List Row) (kept : Steady K minting P before)
    (kept' : Steady K minting P after) (lane : ℕ)
    (home : home_of K lane < K.coordinators) where
  abbrev I : ℕ → List Record
  I n = journal n (before ++ first_rows K minting)

  abbrev J : ℕ → List Record
  J n = journal n (after ++ first_rows K minting)

  module _ (made : Made K [] true lane I J) where
    new_next : (n : ℕ) (newer rest : List Record) (r : Record) → J n ≡ newer ++ r ∷ rest → IsEnd (I n) rest → Next K n rest r
    new_next n newer rest r e h =
        ((lists_of K minting P some after kept').each n newer rest r e
        (end_trans (first_of K minting n) (I n) rest ((lists_of K minting P some before kept).begins n) h)).0

    oks_from : (n : ℕ) (more newer : List Record) → J n ≡ newer ++ (more ++ I n) → JournalOk (more ++ I n) × MoreOk (more ++ I n)
    oks_from n [] newer e = ((all_structure K minting P some before kept).journals n, all_more K minting P some before kept n)
    oks_from n (r ∷ more) newer e =
        let below = oks_from n more (newer ++ r ∷ []) (e ∙ shifted newer more r (I n)) in
        let next : Next K n (more ++ I n) r = new_next n newer (more ++ I n) r e (more, refl) in
        (next_ok K n (more ++ I n) below.0 r next, next_more K n (more ++ I n) below.0 below.1 r next)

    -- at the coordinator the lane's number stays
    number_step : (r : Record) (past : List Record) → tells_lane lane r ≡ true → Holds [] r → Next K (home_of K lane) past r
        → (slot (r ∷ past) lane).number ≡ (slot past lane).number
    number_step (Genesis header hs) past l h next = absurd next
    number_step (Carry stamp header source hs numbers) past l h next = absurd next
    number_step (Start header) past l h next = absurd next
    number_step (CarryStart stamp header source numbers) past l h next = absurd next
    number_step (Prepare stamp c txs) past l h next = absurd (held_none txs h)
    number_step (Commit stamp c os) past l h next = rw l (sym next.4 ∙ ap (λ m. (slot past m).number) (number_is c.lane lane l))
    number_step (Discard stamp c) past l h next = rw l (sym next.4 ∙ ap (λ m. (slot past m).number) (number_is c.lane lane l))
    number_step (Done stamp c) past l h next = rw l (sym next.4 ∙ ap (λ m. (slot past m).number) (number_is c.lane lane l))
    number_step (Upgrade stamp batch) past l h next = absurd (let z : false ≡ true = l in cc)
    number_step (Seal stamp to shards) past l h next = absurd (let z : false ≡ true = l in cc)
    number_step other past l h next = absurd (omega (arith, home, next.1.0))

    number_from : (more newer : List Record) → J (home_of K lane) ≡ newer ++ (more ++ I (home_of K lane))
        → (slot (more ++ I (home_of K lane)) lane).number ≡ (slot (I (home_of K lane)) lane).number
    number_from [] newer e = refl
    number_from (r ∷ more) newer e =
        let own = its_own K lane [] I J made (home_of K lane) newer (more ++ I (home_of K lane)) r e (more, refl) in
        number_step r (more ++ I (home_of K lane)) own.0 own.2 (new_next (home_of K lane) newer (more ++ I (home_of K lane)) r e (more, refl))
        ∙ number_from more (newer ++ r ∷ []) (e ∙ shifted newer more r (I (home_of K lane)))

    abbrev B : Batch
    B = open_batch (I (home_of K lane)) lane

    -- a record of the coordinator
    at_log : (c : Batch) (n : ℕ) (newer rest : List Record) (r : Record) → (c.lane == lane) ≡ true → n ≡ home_of K c.lane
        → (slot rest c.lane).number ≡ c.number → J n ≡ newer ++ r ∷ rest → IsEnd (I n) rest
        → same_batch c B ≡ true
    at_log c n newer rest r l at number e h = same_of lane (slot (I (home_of K lane)) lane).number c l
        (here (at ∙ ap (home_of K) (number_is c.lane lane l)) e h)
      where
        here : n ≡ home_of K lane → J n ≡ newer ++ r ∷ rest → IsEnd (I n) rest → c.number ≡ (slot (I (home_of K lane)) lane).number
        here m = subst (λ k. J k ≡ newer ++ r ∷ rest → IsEnd (I k) rest → c.number ≡ (slot (I (home_of K lane)) lane).number) (sym m)
            (λ e h. sym number ∙ ap (λ k. (slot rest k).number) (number_is c.lane lane l) ∙ ap (λ L. (slot L lane).number) h.1
            ∙ number_from h.0 (newer ++ r ∷ []) (e ∙ ap (λ L. newer ++ r ∷ L) h.1 ∙ shifted newer h.0 r (I (home_of K lane))))

    shard_at : (n : ℕ) → K.coordinators ≤ n → n ≡ shard_node K (n - K.coordinators)
    shard_at n le = omega (arith, le)

    -- a batch that is locked at a shard is prepared, and where it is none of the open one it was forgotten there
    locked_batch : (c : Batch) (s : ℕ) → (c.lane == lane) ≡ true → s < K.shards → has_lock (J (shard_node K s)) c ≡ true
        → (c.number ≡ (slot (I (home_of K lane)) lane).number) ⊎ (has_forget (I (shard_node K s)) c ≡ true)
    locked_batch c s l lt h =
        let st = all_structure K minting P some after kept' in
        let prepared_new : has_prepare (J (home_of K c.lane)) c ≡ true = st.lock_prepared (shard_node K s) c h in
        let same : record_of 6 (J (home_of K c.lane)) c ≡ record_of 6 (I (home_of K c.lane)) c = same_prepare K lane I J made c (home_of K c.lane) in
        let prepared_old : has_prepare (I (home_of K c.lane)) c ≡ true = ap is_some (sym same) ∙ prepared_new in
        let part : Concerned K (txs_of (J (home_of K c.lane)) c) s = (
          lt,
          not_empty (lock_of (J (shard_node K s)) c) _ (st.lock_part s c h) ((all_more K minting P some after kept' (shard_node K s)).lock_some c h),
        ) in
        let le : c.number ≤ (slot (I (home_of K c.lane)) c.lane).number =
        ((all_structure K minting P some before kept).journals (home_of K c.lane)).prepare_below c prepared_old in
        let at_lane : (slot (I (home_of K c.lane)) c.lane).number ≡ (slot (I (home_of K lane)) lane).number =
        ap (λ m. (slot (I (home_of K m)) m).number) (number_is c.lane lane l) in
        elim (either c.number (slot (I (home_of K c.lane)) c.lane).number le) [
          | inl e ↦ inl (e ∙ at_lane)
          | inr low ↦ inr (done_forgot K minting P some before kept c
              ((all_dones K minting P some before kept (home_of K c.lane)).past_done c prepared_old low) s
              (subst (λ o. Concerned K (txs_in o) s) same part))
        ]
      where
        either : (a b : ℕ) → a ≤ b → (a ≡ b) ⊎ (a < b)
        either a b le = grind (arith, le)

    -- a record of a shard: its batch has a Lock below or is locked by it, and was not forgotten
    at_node : (c : Batch) (n : ℕ) (newer rest : List Record) (r : Record) → (c.lane == lane) ≡ true → IsShard K n → has_lock (r ∷ rest) c ≡ true
        → (has_forget rest c ≡ true → ⊥)
        → J n ≡ newer ++ r ∷ rest → IsEnd (I n) rest → same_batch c B ≡ true
    at_node c n newer rest r l shard lock fresh e h =
        let n_is : n ≡ shard_node K (n - K.coordinators) = shard_at n shard.0 in
        let locked : has_lock (J n) c ≡ true = subst (λ L. has_lock L c ≡ true) (sym e) (still_found newer (r ∷ rest) 2 c lock) in
        elim (locked_batch c (n - K.coordinators) l (omega (arith, shard.0, shard.1)) (subst (λ k. has_lock (J k) c ≡ true) n_is locked)) [
          | inl same ↦ same_of lane (slot (I (home_of K lane)) lane).number c l same
          | inr forgotten ↦ absurd (fresh (subst (λ L. has_forget L c ≡ true) (sym h.1)
              (still_found h.0 (I n) 4 c (subst (λ k. has_forget (I k) c ≡ true) (sym n_is) forgotten))))
        ]

    oks_at : (n : ℕ) (newer rest : List Record) (r : Record) → J n ≡ newer ++ r ∷ rest → IsEnd (I n) rest → JournalOk rest × MoreOk rest
    oks_at n newer rest r e h = subst (λ L. JournalOk L × MoreOk L) (sym h.1)
        (oks_from n h.0 (newer ++ r ∷ []) (e ∙ ap (λ L. newer ++ r ∷ L) h.1 ∙ shifted newer h.0 r (I n)))

    locked_first : (stamp : ℕ) (c : Batch) (rest : List Record) (es : _) → has_lock (Lock stamp c es ∷ rest) c ≡ true
    locked_first stamp c rest es = rw (test_itself 2 c)

    pub of_open : (n : ℕ) (newer rest : List Record) (r : Record) → J n ≡ newer ++ r ∷ rest → IsEnd (I n) rest → is_of B r ≡ true
    of_open n newer rest r e h = by_kind r e (its_own K lane [] I J made n newer rest r e h).0 (its_own K lane [] I J made n newer rest r e h).2
        (new_next n newer rest r e h)
      where
        by_kind : (r : Record) → J n ≡ newer ++ r ∷ rest → tells_lane lane r ≡ true → Holds [] r → Next K n rest r → is_of B r ≡ true
        by_kind (Prepare stamp c txs) e l k next = absurd (held_none txs k)
        by_kind (Commit stamp c os) e l k next = at_log c n newer rest (Commit stamp c os) l next.2 next.4 e h
        by_kind (Discard stamp c) e l k next = at_log c n newer rest (Discard stamp c) l next.2 next.4 e h
        by_kind (Done stamp c) e l k next = at_log c n newer rest (Done stamp c) l next.2 next.4 e h
        by_kind (Lock stamp c es) e l k next =
            at_node c n newer rest (Lock stamp c es) l next.1 (locked_first stamp c rest es)
            (λ f. let le : c.number ≤ (slot rest c.lane).number = (oks_at n newer rest (Lock stamp c es) e h).1.forget_below c f in
            omega (arith, le, next.3)) e h
        by_kind (Finish stamp c ds) e l k next =
            let oks = oks_at n newer rest (Finish stamp c ds) e h in
            at_node c n newer rest (Finish stamp c ds) l next.1 (oks.0.locked c next.2 next.3).0
            (λ f. true_false _ f (oks.1.in_lock c next.2 next.3)) e h
        by_kind (Forget stamp c) e l k next =
            let oks = oks_at n newer rest (Forget stamp c) e h in
            at_node c n newer rest (Forget stamp c) l next.1 (oks.1.in_finish c next.2 next.3).0
            (λ f. true_false _ f (oks.1.in_finish c next.2 next.3).1) e h
        by_kind (Upgrade stamp batch) e l k next = absurd (let z : false ≡ true = l in cc)
        by_kind (Seal stamp to shards) e l k next = absurd (let z : false ≡ true = l in cc)
        by_kind other e l k next = absurd next

    pub adds_open : Adds (λ c. c ≡ B) I J
    adds_open = record { grows = made.grows; each = λ n newer rest r e h. (B, of_open n newer rest r e h, refl) }

-- the same of any kept journals
pub open_adds : (K : Shape) (minting : Minted) (P : Compact → Type 0) (some : 0 < K.shards) (before after : List Row)
    (kept : Steady K minting P before) (kept' : Steady K minting P after) (lane : ℕ)
    (home : home_of K lane < K.coordinators) (I J : ℕ → List Record)
    → ((n : ℕ) → journal n (before ++ first_rows K minting) ≡ I n) → ((n : ℕ) → journal n (after ++ first_rows K minting) ≡ J n)
    → Made K [] true lane I J → Adds (λ c. c ≡ open_batch (I (home_of K lane)) lane) I J
open_adds K minting P some before after kept kept' lane home I J is is' =
    subst (λ X. Made K [] true lane X J → Adds (λ c. c ≡ open_batch (X (home_of K lane)) lane) X J) (λ i n. is n i)
    (subst (λ Y. Made K [] true lane (journals_of before) Y
    → Adds (λ c. c ≡ open_batch (journals_of before (home_of K lane)) lane) (journals_of before) Y) (λ i n. is' n i)
    (adds_open K minting P some before after kept kept' lane home))
  where
    journals_of : List Row → ℕ → List Record
    journals_of later n = journal n (later ++ first_rows K minting)
