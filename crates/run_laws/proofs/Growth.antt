-- From checked journals to later ones that keep to the plan: at each node the records that have come, and what is kept for the open batches, weigh no
-- more than what was there and the batches of the plan so far.
use Rattle.std.proofs.Common.{◌≡◌, ◌⊎◌, inl, inr, ℕ, suc, ◌+◌, ◌-◌, ◌*◌, ◌<◌, ◌≤◌, Bool, true, false, List, [], ◌∷◌, ◌++◌, length, refl, sym, ap, ◌∙◌}
use Rattle.std.proofs.Common.{subst, arith, div-lt_iff_lt-mul}
use Rattle.std.specs.List.{filter}
use Rattle.cbdc_model.specs.Records.{Shape, Batch, Compact, Entry, Answered, Record, Row, journal, lock_of, txs_of}
use Rattle.cbdc_model.specs.Slots.{Phase, slot, Idle, InLock, InFinish, InPrepare, InCommit, InDiscard}
use Rattle.cbdc_model.specs.Ranges.{home_of, shard_node, part, is_no_part, Concerned}
use Rattle.cbdc_model.specs.Next.{is_idle}
use Rattle.cbdc_model.specs.Due.{open_batch}
use Rattle.cbdc_model.specs.After.{FitsReplies}
use Rattle.cbdc_model.specs.History.{Minted, first_rows}
use Rattle.cbdc_model.specs.Lanes.{IsEnd, first_of}
use Rattle.ledger_laws.proofs.Next.{Steady, has_lock, has_forget, has_prepare}
use Rattle.ledger_laws.proofs.More.{has_done}
use Rattle.ledger_laws.proofs.Rows.{Structure}
use Rattle.ledger_laws.proofs.Lookups.{true_false}
use Rattle.ledger_laws.proofs.Moves.{not_empty, all_structure, all_more}
use Rattle.ledger_laws.proofs.Recovered.{all_dones, done_forgot}
use Rattle.ledger_laws.proofs.Cuts.{end_self}
use Rattle.run_laws.specs.Ample.{records_of, at_coordinator, coming_at_shard, unwritten}
use Rattle.run_laws.proofs.Sums.{sum_below, sum_le}
use Rattle.run_laws.proofs.Scales.{Scale, Fair, entries_long, commit_at, discard_at, done_at, finish_at, forget_at}
use Rattle.run_laws.proofs.Numbers.{IsCoordSlot, IsShardSlot, lists, coord_slot, shard_slot}
use Rattle.run_laws.proofs.Lanes.{kept_for, kept_in, slot_parts, kept_idle}
use Rattle.run_laws.proofs.Weights.{weight, kept_home, kept_shard, from_finish, from_forget, from_commit, from_discard, from_done}
use Rattle.run_laws.proofs.Budgets.{not_yet, not_there, unwritten_is, budget, budget_own}

pub fits_long : (es : List Answered) (ds : List Bool) → FitsReplies es ds → length ds ≡ length es
fits_long [] [] f = refl
fits_long [] (d ∷ ds) f = absurd f
fits_long (a ∷ es) [] f = absurd f
fits_long (a ∷ es) (d ∷ ds) f = ap (λ n. suc n) (fits_long es ds f.1)

pub home_in : (K : Shape) (lane : ℕ) → 0 < K.lanes → lane < K.coordinators * K.lanes → home_of K lane < K.coordinators
home_in K lane some lt = (div-lt_iff_lt-mul {k = K.lanes} {x = lane} {y = K.coordinators} some).1 lt

not_idle : (p : Phase) → (p ≡ Idle → ⊥) → is_idle p ≡ false
not_idle Idle apart = absurd (apart refl)
not_idle InLock apart = refl
not_idle InFinish apart = refl
not_idle InPrepare apart = refl
not_idle InCommit apart = refl
not_idle InDiscard apart = refl

busy : (p : Phase) → p ≡ InLock → p ≡ Idle → ⊥
busy p e i = let z : InLock ≡ Idle = sym e ∙ i in cc

either : (a b : ℕ) → a ≤ b → (a ≡ b) ⊎ (a < b)
either a b le = grind (arith, le)

pub entries_in_part : (es : List Entry) → is_no_part es ≡ false → 0 < length es
entries_in_part [] h = absurd (let z : true ≡ false = h in cc)
entries_in_part (e ∷ es) h = omega arith

module _ (K : Shape) (m : Minted) (P : Compact → Type 0) (some : 0 < K.shards) (lanes : 0 < K.lanes) (before : List Row) (old : Steady K m P before)
  where
    abbrev E : ℕ → List Record
    E n = journal n (before ++ first_rows K m)

    begins : (n : ℕ) → IsEnd (first_of K m n) (E n)
    begins n = (lists K m P some before old).begins n

    -- a batch that is locked at a shard and not forgotten there is the open one of its lane
    pub record IsOpenBatch (b : Batch) : Type 0 where
      pub number : (slot (E (home_of K b.lane)) b.lane).number ≡ b.number
      pub busy : is_idle (slot (E (home_of K b.lane)) b.lane).phase ≡ false

    -- a prepared batch that some concerned shard has not forgotten
    pub open_where : (j : ℕ) (b : Batch) → has_prepare (E (home_of K b.lane)) b ≡ true → Concerned K (txs_of (E (home_of K b.lane)) b) j
        → (has_forget (E (shard_node K j)) b ≡ true → ⊥) → IsOpenBatch b
    open_where j b prep c none =
        let st : Structure K P (before ++ first_rows K m) = all_structure K m P some before old in
        let dones = all_dones K m P some before old (home_of K b.lane) in
        let over : has_done (E (home_of K b.lane)) b ≡ true → ⊥ = λ d. none (done_forgot K m P some before old b d j c) in
        let le : b.number ≤ (slot (E (home_of K b.lane)) b.lane).number = (st.journals (home_of K b.lane)).prepare_below b prep in
        record {
          number = elim (either b.number (slot (E (home_of K b.lane)) b.lane).number le) [
            | inl e ↦ sym e
            | inr lt ↦ absurd (over (dones.past_done b prep lt))
          ];
          busy = not_idle (slot (E (home_of K b.lane)) b.lane).phase (λ i. over (dones.idle_done b prep i));
        }

    pub open_there : (j : ℕ) (b : Batch) → j < K.shards → has_lock (E (shard_node K j)) b ≡ true → has_forget (E (shard_node K j)) b ≡ false
        → IsOpenBatch b
    open_there j b lt h none =
        let st : Structure K P (before ++ first_rows K m) = all_structure K m P some before old in
        let c : Concerned K (txs_of (E (home_of K b.lane)) b) j =
        (lt, not_empty (lock_of (E (shard_node K j)) b) _ (st.lock_part j b h) ((all_more K m P some before old (shard_node K j)).lock_some b h)) in
        open_where j b (st.lock_prepared (shard_node K j) b h) c (λ f. true_false _ f none)

    module _ (batches : ℕ → List (List Compact)) (s : Scale) (fair : Fair s) where
      -- what is kept at the beginning is still to come
      abbrev IsCovered : ℕ → ℕ → Type 0
      IsCovered n lane = kept_for s (E n) lane ≤ budget K E batches s n lane (slot (E n) lane).number

      covered_idle : (n lane : ℕ) → (slot (E n) lane).phase ≡ Idle → IsCovered n lane
      covered_idle n lane e = omega (arith, kept_idle s fair (E n) lane e)

      module _ (lane : ℕ) (lt : lane < K.coordinators * K.lanes) where
        home_facts : Structure K P (before ++ first_rows K m)
        home_facts = all_structure K m P some before old

        home_slot : IsCoordSlot K (home_of K lane) lane (slot (E (home_of K lane)) lane).phase
        home_slot = coord_slot K m P some before old (home_of K lane) lane (home_in K lane lanes lt) (E (home_of K lane)) (begins (home_of K lane))
            (end_self (E (home_of K lane)))

        abbrev home_batch : Batch
        home_batch = open_batch (E (home_of K lane)) lane

        abbrev home_txs : List Compact
        home_txs = txs_of (E (home_of K lane)) home_batch

        behind_home : (p : Phase) → (slot (E (home_of K lane)) lane).phase ≡ p → (p ≡ Idle → ⊥)
            → weight s (home_of K lane) (filter (not_yet E home_batch) (at_coordinator K lane home_txs))
            ≤ budget K E batches s (home_of K lane) lane (slot (E (home_of K lane)) lane).number
        behind_home p e apart =
            let is : unwritten K E lane ≡ filter (not_yet E home_batch) (records_of K lane home_txs) =
            unwritten_is K E home_batch refl (not_idle (slot (E (home_of K lane)) lane).phase (λ i. apart (sym e ∙ i))) in
            let own : weight s (home_of K lane) (unwritten K E lane)
            ≤ budget K E batches s (home_of K lane) lane (slot (E (home_of K lane)) lane).number
            = budget_own K E batches s (home_of K lane) lane (slot (E (home_of K lane)) lane).number (omega arith) in
            omega (arith, own, ap (weight s (home_of K lane)) is, kept_home s (home_of K lane) K lane home_txs (not_yet E home_batch))

        covered_home : IsCovered (home_of K lane) lane
        covered_home = elim (slot (E (home_of K lane)) lane).phase as
            (λ p. (slot (E (home_of K lane)) lane).phase ≡ p → IsCovered (home_of K lane) lane) [
              | Idle ↦ λ e. covered_idle (home_of K lane) lane e
              | InLock ↦ λ e. absurd (subst (λ p. IsCoordSlot K (home_of K lane) lane p) e home_slot)
              | InFinish ↦ λ e. absurd (subst (λ p. IsCoordSlot K (home_of K lane) lane p) e home_slot)
              | InPrepare ↦ λ e.
                  let one = (home_facts.journals (home_of K lane)).prepared home_batch e refl in
                  let two = (all_more K m P some before old (home_of K lane)).in_prepare home_batch e refl in
                  let room : kept_for s (E (home_of K lane)) lane
                  ≡ s.kept InPrepare (length (lock_of (E (home_of K lane)) home_batch)) (length home_txs) =
                  kept_in s (E (home_of K lane)) home_batch InPrepare (slot_parts s (E (home_of K lane)) home_batch InPrepare e refl) in
                  let le : s.kept InPrepare (length (lock_of (E (home_of K lane)) home_batch)) (length home_txs)
                  ≤ s.coming (commit_at (home_of K lane) (length home_txs))
                  + (s.coming (discard_at (home_of K lane)) + s.coming (done_at (home_of K lane)))
                  = fair.prepared (home_of K lane) (length (lock_of (E (home_of K lane)) home_batch)) (length home_txs) in
                  let there : s.coming (commit_at (home_of K lane) (length home_txs))
                  + (s.coming (discard_at (home_of K lane)) + s.coming (done_at (home_of K lane)))
                  ≤ weight s (home_of K lane) (filter (not_yet E home_batch) (at_coordinator K lane home_txs))
                  = from_commit s (home_of K lane) (not_yet E home_batch) K lane home_txs refl
                  (not_there E home_batch (commit_at (home_of K lane) (length home_txs)) one.1)
                  (not_there E home_batch (discard_at (home_of K lane)) two.0) (not_there E home_batch (done_at (home_of K lane)) two.1) in
                  omega (arith, room, le, there, behind_home InPrepare e (λ (z : InPrepare ≡ Idle). cc))
              | InCommit ↦ λ e.
                  let two = (all_more K m P some before old (home_of K lane)).in_commit home_batch e refl in
                  let room : kept_for s (E (home_of K lane)) lane
                  ≡ s.kept InCommit (length (lock_of (E (home_of K lane)) home_batch)) (length home_txs) =
                  kept_in s (E (home_of K lane)) home_batch InCommit (slot_parts s (E (home_of K lane)) home_batch InCommit e refl) in
                  let le : s.kept InCommit (length (lock_of (E (home_of K lane)) home_batch)) (length home_txs)
                  ≤ s.coming (discard_at (home_of K lane)) + s.coming (done_at (home_of K lane))
                  = fair.committed (home_of K lane) (length (lock_of (E (home_of K lane)) home_batch)) (length home_txs) in
                  let there : s.coming (discard_at (home_of K lane)) + s.coming (done_at (home_of K lane))
                  ≤ weight s (home_of K lane) (filter (not_yet E home_batch) (at_coordinator K lane home_txs))
                  = from_discard s (home_of K lane) (not_yet E home_batch) K lane home_txs refl
                  (not_there E home_batch (discard_at (home_of K lane)) two.0) (not_there E home_batch (done_at (home_of K lane)) two.1) in
                  omega (arith, room, le, there, behind_home InCommit e (λ (z : InCommit ≡ Idle). cc))
              | InDiscard ↦ λ e.
                  let two = (all_more K m P some before old (home_of K lane)).in_discard home_batch e refl in
                  let room : kept_for s (E (home_of K lane)) lane
                  ≡ s.kept InDiscard (length (lock_of (E (home_of K lane)) home_batch)) (length home_txs) =
                  kept_in s (E (home_of K lane)) home_batch InDiscard (slot_parts s (E (home_of K lane)) home_batch InDiscard e refl) in
                  let le : s.kept InDiscard (length (lock_of (E (home_of K lane)) home_batch)) (length home_txs)
                  ≤ s.coming (done_at (home_of K lane)) =
                  fair.discarded (home_of K lane) (length (lock_of (E (home_of K lane)) home_batch)) (length home_txs) in
                  let there : s.coming (done_at (home_of K lane))
                  ≤ weight s (home_of K lane) (filter (not_yet E home_batch) (at_coordinator K lane home_txs))
                  = from_done s (home_of K lane) (not_yet E home_batch) K lane home_txs refl (not_there E home_batch (done_at (home_of K lane)) two)
                  in
                  omega (arith, room, le, there, behind_home InDiscard e (λ (z : InDiscard ≡ Idle). cc))
            ] refl

      covered_coord : (n : ℕ) → n < K.coordinators → (lane : ℕ) → lane < K.coordinators * K.lanes → IsCovered n lane
      covered_coord n low lane lt = elim (slot (E n) lane).phase as (λ p. (slot (E n) lane).phase ≡ p → IsCoordSlot K n lane p → IsCovered n lane) [
        | Idle ↦ λ e i. covered_idle n lane e
        | InLock ↦ λ e i. absurd i
        | InFinish ↦ λ e i. absurd i
        | InPrepare ↦ λ e i. subst (λ k. IsCovered k lane) (sym i) (covered_home lane lt)
        | InCommit ↦ λ e i. subst (λ k. IsCovered k lane) (sym i) (covered_home lane lt)
        | InDiscard ↦ λ e i. subst (λ k. IsCovered k lane) (sym i) (covered_home lane lt)
      ] refl (coord_slot K m P some before old n lane low (E n) (begins n) (end_self (E n)))

      module _ (j : ℕ) (lt : j < K.shards) (lane : ℕ) where
        shard_facts : Structure K P (before ++ first_rows K m)
        shard_facts = all_structure K m P some before old

        abbrev shard_batch : Batch
        shard_batch = open_batch (E (shard_node K j)) lane

        abbrev shard_part : List Entry
        shard_part = part K j 0 (txs_of (E (home_of K lane)) shard_batch)

        there_is : has_lock (E (shard_node K j)) shard_batch ≡ true → is_no_part shard_part ≡ false
        there_is h = not_empty (lock_of (E (shard_node K j)) shard_batch) shard_part (shard_facts.lock_part j shard_batch h)
            ((all_more K m P some before old (shard_node K j)).lock_some shard_batch h)

        behind_shard : has_lock (E (shard_node K j)) shard_batch ≡ true → has_forget (E (shard_node K j)) shard_batch ≡ false
            → weight s (shard_node K j) (filter (not_yet E shard_batch) (coming_at_shard (shard_node K j) shard_part))
            ≤ budget K E batches s (shard_node K j) lane (slot (E (shard_node K j)) lane).number
        behind_shard h none =
            let opened : IsOpenBatch shard_batch = open_there j shard_batch lt h none in
            let is : unwritten K E lane ≡ filter (not_yet E shard_batch) (records_of K lane (txs_of (E (home_of K lane)) shard_batch)) =
            unwritten_is K E shard_batch opened.number opened.busy in
            let own : weight s (shard_node K j) (unwritten K E lane)
            ≤ budget K E batches s (shard_node K j) lane (slot (E (shard_node K j)) lane).number
            = budget_own K E batches s (shard_node K j) lane (slot (E (shard_node K j)) lane).number (omega (arith, opened.number)) in
            omega (
              arith,
              own,
              ap (weight s (shard_node K j)) is,
              kept_shard s (shard_node K j) K lane (txs_of (E (home_of K lane)) shard_batch) (not_yet E shard_batch) j lt,
            )

        covered_shard : IsCovered (shard_node K j) lane
        covered_shard = elim (slot (E (shard_node K j)) lane).phase as
            (λ p. (slot (E (shard_node K j)) lane).phase ≡ p → IsShardSlot p → IsCovered (shard_node K j) lane) [
              | Idle ↦ λ e i. covered_idle (shard_node K j) lane e
              | InPrepare ↦ λ e i. absurd i
              | InCommit ↦ λ e i. absurd i
              | InDiscard ↦ λ e i. absurd i
              | InLock ↦ λ e i.
                  let locked = (shard_facts.journals (shard_node K j)).locked shard_batch e refl in
                  let none : has_forget (E (shard_node K j)) shard_batch ≡ false =
                  (all_more K m P some before old (shard_node K j)).in_lock shard_batch e refl in
                  let room : kept_for s (E (shard_node K j)) lane
                  ≡ s.kept InLock (length (lock_of (E (shard_node K j)) shard_batch)) (length (txs_of (E (shard_node K j)) shard_batch))
                  = kept_in s (E (shard_node K j)) shard_batch InLock (slot_parts s (E (shard_node K j)) shard_batch InLock e refl) in
                  let le : s.kept InLock (length (lock_of (E (shard_node K j)) shard_batch)) (length (txs_of (E (shard_node K j)) shard_batch))
                  ≤ s.coming (finish_at (shard_node K j) (length (lock_of (E (shard_node K j)) shard_batch))) + s.coming (forget_at (shard_node K j))
                  = fair.locked (shard_node K j) (length (lock_of (E (shard_node K j)) shard_batch))
                  (length (txs_of (E (shard_node K j)) shard_batch)) in
                  let long : length (lock_of (E (shard_node K j)) shard_batch) ≡ length shard_part =
                  sym (entries_long (lock_of (E (shard_node K j)) shard_batch)) ∙ ap length (shard_facts.lock_part j shard_batch locked.0) in
                  let there : s.coming (finish_at (shard_node K j) (length shard_part)) + s.coming (forget_at (shard_node K j))
                  ≤ weight s (shard_node K j) (filter (not_yet E shard_batch) (coming_at_shard (shard_node K j) shard_part))
                  = from_finish s (shard_node K j) (not_yet E shard_batch) shard_part (there_is locked.0)
                  (not_there E shard_batch (finish_at (shard_node K j) (length shard_part)) locked.1)
                  (not_there E shard_batch (forget_at (shard_node K j)) none) in
                  let size : s.coming (finish_at (shard_node K j) (length (lock_of (E (shard_node K j)) shard_batch)))
                  ≡ s.coming (finish_at (shard_node K j) (length shard_part)) = ap (λ k. s.coming (finish_at (shard_node K j) k)) long in
                  omega (arith, room, le, size, there, behind_shard locked.0 none)
              | InFinish ↦ λ e i.
                  let locked = (all_more K m P some before old (shard_node K j)).in_finish shard_batch e refl in
                  let room : kept_for s (E (shard_node K j)) lane
                  ≡ s.kept InFinish (length (lock_of (E (shard_node K j)) shard_batch)) (length (txs_of (E (shard_node K j)) shard_batch))
                  = kept_in s (E (shard_node K j)) shard_batch InFinish (slot_parts s (E (shard_node K j)) shard_batch InFinish e refl) in
                  let le : s.kept InFinish (length (lock_of (E (shard_node K j)) shard_batch)) (length (txs_of (E (shard_node K j)) shard_batch))
                  ≤ s.coming (forget_at (shard_node K j))
                  = fair.finished (shard_node K j) (length (lock_of (E (shard_node K j)) shard_batch))
                  (length (txs_of (E (shard_node K j)) shard_batch)) in
                  let there : s.coming (forget_at (shard_node K j))
                  ≤ weight s (shard_node K j) (filter (not_yet E shard_batch) (coming_at_shard (shard_node K j) shard_part))
                  = from_forget s (shard_node K j) (not_yet E shard_batch) shard_part (there_is locked.0)
                  (not_there E shard_batch (forget_at (shard_node K j)) locked.1) in
                  omega (arith, room, le, there, behind_shard locked.0 locked.1)
            ] refl (shard_slot K m P some before old (shard_node K j) lane (omega arith) (E (shard_node K j)) (begins (shard_node K j))
            (end_self (E (shard_node K j))))

      pub covered : (n : ℕ) → n < K.coordinators + K.shards → (lane : ℕ) → lane < K.coordinators * K.lanes → IsCovered n lane
      covered n inside lane lt = elim (below n K.coordinators) [
        | inl low ↦ covered_coord n low lane lt
        | inr high ↦
            let e : shard_node K (n - K.coordinators) ≡ n = omega (arith, high) in
            subst (λ k. IsCovered k lane) e (covered_shard (n - K.coordinators) (omega (arith, high, inside)) lane)
      ]
        where
          below : (n c : ℕ) → (n < c) ⊎ (c ≤ n)
          below n c = grind arith

      -- behind the beginning already: what is there and what is kept weighs no more than with what is still to come
      pub kept_covered : (n : ℕ) → n < K.coordinators + K.shards
          → sum_below (λ lane. kept_for s (E n) lane) (K.coordinators * K.lanes)
          ≤ sum_below (λ lane. budget K E batches s n lane (slot (E n) lane).number) (K.coordinators * K.lanes)
      kept_covered n inside = sum_le (λ lane. kept_for s (E n) lane) (λ lane. budget K E batches s n lane (slot (E n) lane).number)
          (K.coordinators * K.lanes) (λ lane lt. covered n inside lane lt)
