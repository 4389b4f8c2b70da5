-- Journals that have grown as planned: at each node the records that have come, and what is kept for the open batches, weigh no more than what was
-- there and the batches of the plan up to each lane's number.
use Rattle.std.proofs.Common.{◌≡◌, inl, inr, ℕ, ◌+◌, ◌-◌, ◌*◌, ◌<◌, ◌≤◌, Bool, true, false, ◌&&◌, ◌==◌, List, [], ◌∷◌, ◌++◌, length, reverse, Some}
use Rattle.std.proofs.Common.{is_some, refl, sym, ap, ◌∙◌, subst, arith, append_assoc}
use Rattle.std.specs.List.{filter}
use Rattle.cbdc_model.specs.Records.{Shape, Batch, Compact, Entry, Answered, Outcome, Record, Row, journal, record_of, tells_lane, is_of, txs_in}
use Rattle.cbdc_model.specs.Records.{lock_of, txs_of, Lock, Finish, Forget, Prepare, Commit, Discard, Done, Upgrade, Seal}
use Rattle.cbdc_model.specs.Slots.{slot, InLock, InFinish, InPrepare, InCommit, InDiscard}
use Rattle.cbdc_model.specs.Replies.{entries}
use Rattle.cbdc_model.specs.Ranges.{home_of, shard_node, part, is_no_part, Concerned}
use Rattle.cbdc_model.specs.Grammar.{IsInGrammar}
use Rattle.cbdc_model.specs.History.{Minted, header_of, first_rows}
use Rattle.cbdc_model.specs.Lanes.{IsEnd, Seen, first_of}
use Rattle.cbdc_model.specs.World.{replaced}
use Rattle.cbdc_model.specs.Waves.{prepared}
use Rattle.ledger_laws.proofs.ByKind.{some_is}
use Rattle.ledger_laws.proofs.Next.{Next, Steady, has_lock, has_finish, has_forget, has_prepare}
use Rattle.ledger_laws.proofs.Lookups.{not_true}
use Rattle.ledger_laws.proofs.Moves.{not_empty}
use Rattle.ledger_laws.proofs.Finds.{stands, replaced_away}
use Rattle.ledger_laws.proofs.Cuts.{end_trans, cut}
use Rattle.run_laws.proofs.LastRecords.{prepare_stands}
use Rattle.run_laws.proofs.NewRecords.{in_journal, still_found}
use Rattle.run_laws.specs.Ample.{Coming, records_of, coming_at_shard, unwritten}
use Rattle.run_laws.proofs.Sums.{total, sum_below, sum_moves}
use Rattle.run_laws.proofs.Scales.{Scale, Fair, lock_at, finish_at, forget_at}
use Rattle.run_laws.proofs.Numbers.{Fine, Piece, same_number, lists, further, fine, found_in, piece_there}
use Rattle.run_laws.proofs.Lanes.{others_stay, new_slot, lock_found, txs_found, kept_for, kept_same, kept_in, slot_parts, kept_idle}
use Rattle.run_laws.proofs.Weights.{weight, all_at_home, home_in_records, kept_shard, from_lock, shard_in_records}
use Rattle.run_laws.proofs.Budgets.{not_yet, not_there, unwritten_is, budget, budget_open, budget_new}
use Rattle.run_laws.proofs.Growth.{home_in, fits_long, IsOpenBatch, open_where, kept_covered}
use Rattle.cbdc_model.specs.After.{IsFirst}

-- behind the same journal
past : (newer rest : List Record) (r : Record) → newer ++ r ∷ rest ≡ (newer ++ r ∷ []) ++ rest
past newer rest r = sym (append_assoc newer (r ∷ []) rest)

apart_from : (h n : ℕ) → h < n → (n == h) ≡ false
apart_from h n lt = grind arith

module _ (K : Shape) (m : Minted) (P : Compact → Type 0) (some : 0 < K.shards) (lanes : 0 < K.lanes) (before after : List Row)
    (old : Steady K m P before) (new : Steady K m P after)
    (grows : (n : ℕ) → IsEnd (journal n (before ++ first_rows K m)) (journal n (after ++ first_rows K m))) where
  abbrev E : ℕ → List Record
  E n = journal n (before ++ first_rows K m)

  abbrev X : ℕ → List Record
  X n = journal n (after ++ first_rows K m)

  begins : (n : ℕ) → IsEnd (first_of K m n) (E n)
  begins n = (lists K m P some before old).begins n

  -- the lane has prepared the first of its batches
  pub record IsPlan (batches : ℕ → List (List Compact)) (lane : ℕ) : Type 0 where
    pub done : List (List Compact)
    pub left : List (List Compact)
    pub parts : batches lane ≡ done ++ left
    pub prepares : prepared lane (X (home_of K lane)) ≡ reverse done ++ prepared lane (E (home_of K lane))

  module _ (batches : ℕ → List (List Compact)) (plan : (lane : ℕ) → lane < K.coordinators * K.lanes → IsPlan batches lane) (s : Scale)
      (fair : Fair s) where
    abbrev B : ℕ → ℕ → ℕ → ℕ
    B n lane k = budget K E batches s n lane k

    abbrev IsWithin : ℕ → List Record → Type 0
    IsWithin n V = total s.taken V + sum_below (λ lane. kept_for s V lane) (K.coordinators * K.lanes)
        ≤ total s.taken (E n) + sum_below (λ lane. B n lane (slot V lane).number) (K.coordinators * K.lanes)

    -- a record that weighs no more, with what is kept behind it, than what was kept and the batches that come with it
    within_step : (n : ℕ) (rest : List Record) (r : Record) (lane : ℕ) → (IsFirst r → ⊥) → lane < K.coordinators * K.lanes → tells_lane lane r ≡ true
        → s.taken r + kept_for s (r ∷ rest) lane + B n lane (slot rest lane).number ≤ kept_for s rest lane + B n lane (slot (r ∷ rest) lane).number
        → IsWithin n rest → IsWithin n (r ∷ rest)
    within_step n rest r lane new lt of own h =
        let keeps : sum_below (λ l. kept_for s (r ∷ rest) l) (K.coordinators * K.lanes) + kept_for s rest lane
        ≡ sum_below (λ l. kept_for s rest l) (K.coordinators * K.lanes) + kept_for s (r ∷ rest) lane
        = sum_moves (λ l. kept_for s rest l) (λ l. kept_for s (r ∷ rest) l) lane (K.coordinators * K.lanes)
        (λ l apart. kept_same s rest (r ∷ rest) l (others_stay rest r lane l new of apart)) lt in
        let plans : sum_below (λ l. B n l (slot (r ∷ rest) l).number) (K.coordinators * K.lanes) + B n lane (slot rest lane).number
        ≡ sum_below (λ l. B n l (slot rest l).number) (K.coordinators * K.lanes) + B n lane (slot (r ∷ rest) lane).number
        = sum_moves (λ l. B n l (slot rest l).number) (λ l. B n l (slot (r ∷ rest) l).number) lane (K.coordinators * K.lanes)
        (λ l apart. ap (λ x. B n l x.number) (others_stay rest r lane l new of apart).slots) lt in
        omega (arith, keeps, plans, own, h)

    -- the batch of a Lock that is still to come at a shard, by its Prepare
    module _ (j t : ℕ) (b : Batch) (txs : List Compact) (V : List Record) (lt : j < K.shards) (lane : b.lane < K.coordinators * K.lanes)
        (found : record_of 6 (X (home_of K b.lane)) b ≡ Some (Prepare t b txs)) (concerned : is_no_part (part K j 0 txs) ≡ false)
        (h : IsEnd (E (shard_node K j)) V) (v : IsEnd V (X (shard_node K j))) (low : (slot V b.lane).number < b.number) where
      abbrev lock_node : ℕ
      lock_node = shard_node K j

      abbrev entries_here : List Entry
      entries_here = part K j 0 txs

      lock_fine : Fine V
      lock_fine = fine K m P some after new lock_node V (end_trans (first_of K m lock_node) (E lock_node) V (begins lock_node) h) v

      abbrev filter_of : List Coming → List Coming
      filter_of cs = filter (not_yet E b) cs

      still_there : (kind : ℕ) → is_some (record_of kind (E lock_node) b) ≡ true → is_some (record_of kind V b) ≡ true
      still_there kind f = subst (λ L. is_some (record_of kind L b) ≡ true) (sym h.1) (still_found h.0 (E lock_node) kind b f)

      its_prepare : ((6 == 6) && is_of b (Prepare t b txs)) ≡ true
      its_prepare = same b
        where
          same : (b : Batch) → ((6 == 6) && is_of b (Prepare t b txs)) ≡ true
          same b = grind arith

      was_there : (newer rest : List Record) → E (home_of K b.lane) ≡ newer ++ Prepare t b txs ∷ rest
          → B lock_node b.lane (slot V b.lane).number
          + (s.coming (lock_at lock_node entries_here) + (s.coming (finish_at lock_node (length entries_here)) + s.coming (forget_at lock_node)))
          ≤ B lock_node b.lane b.number
      was_there newer rest e =
          let prep : has_prepare (E (home_of K b.lane)) b ≡ true =
          subst (λ L. has_prepare L b ≡ true) (sym e) (in_journal newer rest (Prepare t b txs) 6 b its_prepare) in
          let same : record_of 6 (E (home_of K b.lane)) b ≡ Some (Prepare t b txs) =
          found_in K m P some after new (home_of K b.lane) (E (home_of K b.lane)) (grows (home_of K b.lane)) 6 b prep ∙ found in
          let held : txs_of (E (home_of K b.lane)) b ≡ txs = ap txs_in same in
          let c : Concerned K (txs_of (E (home_of K b.lane)) b) j = (lt, ap (λ ts. is_no_part (part K j 0 ts)) held ∙ concerned) in
          let no_lock : has_lock (E lock_node) b ≡ true
          → ⊥ = λ f. (let le : b.number ≤ (slot V b.lane).number = lock_fine.ok.lock_below b (still_there 2 f) in
          absurd (omega (arith, le, low))) in
          let no_finish : has_finish (E lock_node) b ≡ true
          → ⊥ = λ f. (let le : b.number ≤ (slot V b.lane).number = lock_fine.ok.finish_below b (still_there 3 f) in
          absurd (omega (arith, le, low))) in
          let no_forget : has_forget (E lock_node) b ≡ true
          → ⊥ = λ f. (let le : b.number ≤ (slot V b.lane).number = lock_fine.more.forget_below b (still_there 4 f) in
          absurd (omega (arith, le, low))) in
          let opened : IsOpenBatch K m P some lanes before old b = open_where K m P some lanes before old j b prep c no_forget in
          let is = unwritten_is K E b opened.number opened.busy in
          let still : weight s lock_node (unwritten K E b.lane) ≡ weight s lock_node (filter_of (records_of K b.lane txs)) =
          ap (weight s lock_node) (is ∙ ap (λ ts. filter_of (records_of K b.lane ts)) held) in
          let own : s.coming (lock_at lock_node entries_here)
          + (s.coming (finish_at lock_node (length entries_here)) + s.coming (forget_at lock_node))
          ≤ weight s lock_node (filter_of (coming_at_shard lock_node entries_here))
          = from_lock s lock_node (not_yet E b) entries_here concerned (not_there E b (lock_at lock_node entries_here) (not_true _ no_lock))
          (not_there E b (finish_at lock_node (length entries_here)) (not_true _ no_finish))
          (not_there E b (forget_at lock_node) (not_true _ no_forget)) in
          let inside : weight s lock_node (filter_of (coming_at_shard lock_node entries_here))
          ≤ weight s lock_node (filter_of (records_of K b.lane txs)) = kept_shard s lock_node K b.lane txs (not_yet E b) j lt in
          let opens : B lock_node b.lane (slot V b.lane).number + weight s lock_node (unwritten K E b.lane) ≤ B lock_node b.lane b.number
          = budget_open K E batches s lock_node b.lane (slot V b.lane).number b.number (omega (arith, low, opened.number))
          (omega (arith, opened.number)) in
          omega (arith, still, own, inside, opens)

      is_new : (newer rest : List Record) → X (home_of K b.lane) ≡ newer ++ Prepare t b txs ∷ rest → IsEnd (E (home_of K b.lane)) rest
          → B lock_node b.lane (slot V b.lane).number
          + (s.coming (lock_at lock_node entries_here) + (s.coming (finish_at lock_node (length entries_here)) + s.coming (forget_at lock_node)))
          ≤ B lock_node b.lane b.number
      is_new newer rest e back =
          let p : IsPlan batches b.lane = plan b.lane lane in
          let piece : Piece K m P some after new b.lane (E (home_of K b.lane)) rest p.done txs
          = piece_there K m P some after new b.lane (home_in K b.lane lanes lane) (E (home_of K b.lane)) newer rest t b txs p.done
          (begins (home_of K b.lane)) back e refl p.prepares in
          let next : Next K (home_of K b.lane) rest (Prepare t b txs)
          = ((lists K m P some after new).each (home_of K b.lane) newer rest (Prepare t b txs) e
          (end_trans (first_of K m (home_of K b.lane)) (E (home_of K b.lane)) rest (begins (home_of K b.lane)) back)).0 in
          let parts : batches b.lane ≡ piece.front ++ txs ∷ (piece.back ++ p.left) =
          p.parts ∙ ap (λ q. q ++ p.left) piece.parts ∙ append_assoc piece.front (txs ∷ piece.back) p.left in
          let adds : B lock_node b.lane (slot V b.lane).number + weight s lock_node (records_of K b.lane txs) ≤ B lock_node b.lane b.number
          = budget_new K E batches s lock_node b.lane piece.front (piece.back ++ p.left) txs (slot V b.lane).number b.number parts
          (omega (arith, low, piece.counts, next.4)) (omega (arith, piece.counts, next.4)) in
          omega (arith, adds, shard_in_records s lock_node K b.lane txs j lt refl concerned)

      pub lock_room : B lock_node b.lane (slot V b.lane).number
          + (s.coming (lock_at lock_node entries_here) + (s.coming (finish_at lock_node (length entries_here)) + s.coming (forget_at lock_node)))
          ≤ B lock_node b.lane b.number
      lock_room =
          let at = stands (X (home_of K b.lane)) 6 b (ap is_some found) in
          let r_is : at.1 ≡ Prepare t b txs = some_is at.1 (Prepare t b txs) (sym at.5 ∙ found) in
          let e : X (home_of K b.lane) ≡ at.0 ++ Prepare t b txs ∷ at.2 = at.3 ∙ ap (λ r. at.0 ++ r ∷ at.2) r_is in
          elim (cut (grows (home_of K b.lane)).0 (E (home_of K b.lane)) at.0 at.2 (Prepare t b txs) (sym (grows (home_of K b.lane)).1 ∙ e)) [
            | inl there ↦ was_there there.0 at.2 there.1
            | inr fresh ↦ is_new at.0 at.2 e (fresh.back, fresh.rest_is)
          ]

    -- each kind of record
    own_prepare : (n : ℕ) (newer rest : List Record) (t : ℕ) (b : Batch) (txs : List Compact) → X n ≡ newer ++ Prepare t b txs ∷ rest
        → IsEnd (E n) rest → Next K n rest (Prepare t b txs) → b.lane < K.coordinators * K.lanes
        → s.taken (Prepare t b txs) + kept_for s (Prepare t b txs ∷ rest) b.lane + B n b.lane (slot rest b.lane).number
        ≤ kept_for s rest b.lane + B n b.lane (slot (Prepare t b txs ∷ rest) b.lane).number
    own_prepare n newer rest t b txs e h next lane =
        let p : IsPlan batches b.lane = plan b.lane lane in
        let home : n ≡ home_of K b.lane = next.2 in
        let piece : Piece K m P some after new b.lane (E (home_of K b.lane)) rest p.done txs
        = piece_there K m P some after new b.lane (home_in K b.lane lanes lane) (E (home_of K b.lane)) newer rest t b txs p.done
        (begins (home_of K b.lane))
        (subst (λ k. IsEnd (E k) rest) home h) (subst (λ k. X k ≡ newer ++ Prepare t b txs ∷ rest) home e) refl p.prepares in
        let parts : batches b.lane ≡ piece.front ++ txs ∷ (piece.back ++ p.left) =
        p.parts ∙ ap (λ q. q ++ p.left) piece.parts ∙ append_assoc piece.front (txs ∷ piece.back) p.left in
        let number : (slot (Prepare t b txs ∷ rest) b.lane).number ≡ b.number =
        ap (λ x. x.number) (new_slot rest (Prepare t b txs) b.lane (same_number b.lane)) in
        let adds : B n b.lane (slot rest b.lane).number + weight s n (records_of K b.lane txs)
        ≤ B n b.lane (slot (Prepare t b txs ∷ rest) b.lane).number
        = budget_new K E batches s n b.lane piece.front (piece.back ++ p.left) txs (slot rest b.lane).number
        (slot (Prepare t b txs ∷ rest) b.lane).number parts (omega (arith, piece.counts)) (omega (arith, piece.counts, next.4, number)) in
        let none : kept_for s rest b.lane ≡ 0 = kept_idle s fair rest b.lane next.3 in
        let long : length (txs_of (Prepare t b txs ∷ rest) b) ≡ length txs = ap length (txs_found rest t b txs) in
        let keeps : kept_for s (Prepare t b txs ∷ rest) b.lane ≡ s.kept InPrepare (length (lock_of (Prepare t b txs ∷ rest) b)) (length txs)
        = kept_in s (Prepare t b txs ∷ rest) b InPrepare (new_slot rest (Prepare t b txs) b.lane (same_number b.lane))
        ∙ ap (λ k. s.kept InPrepare (length (lock_of (Prepare t b txs ∷ rest) b)) k) long in
        let weighs = fair.prepare (home_of K b.lane) t (length (lock_of (Prepare t b txs ∷ rest) b)) b txs in
        omega (arith, adds, none, keeps, weighs, all_at_home s n K b.lane txs home, home_in_records s n K b.lane txs)

    own_commit : (n : ℕ) (rest : List Record) (t : ℕ) (b : Batch) (os : List Outcome) → Next K n rest (Commit t b os)
        → s.taken (Commit t b os) + kept_for s (Commit t b os ∷ rest) b.lane + B n b.lane (slot rest b.lane).number
        ≤ kept_for s rest b.lane + B n b.lane (slot (Commit t b os ∷ rest) b.lane).number
    own_commit n rest t b os next =
        let same : B n b.lane (slot (Commit t b os ∷ rest) b.lane).number ≡ B n b.lane (slot rest b.lane).number =
        ap (λ k. B n b.lane k) (ap (λ x. x.number) (new_slot rest (Commit t b os) b.lane (same_number b.lane)) ∙ sym next.4) in
        let was : kept_for s rest b.lane ≡ s.kept InPrepare (length (lock_of rest b)) (length os)
        = kept_in s rest b InPrepare (slot_parts s rest b InPrepare next.3 next.4)
        ∙ ap (λ k. s.kept InPrepare (length (lock_of rest b)) k) (sym next.5) in
        let keeps : kept_for s (Commit t b os ∷ rest) b.lane
        ≡ s.kept InCommit (length (lock_of (Commit t b os ∷ rest) b)) (length (txs_of (Commit t b os ∷ rest) b)) =
        kept_in s (Commit t b os ∷ rest) b InCommit (new_slot rest (Commit t b os) b.lane (same_number b.lane)) in
        omega (
          arith,
          same,
          was,
          keeps,
          fair.commit t (length (lock_of rest b)) (length (lock_of (Commit t b os ∷ rest) b)) (length (txs_of (Commit t b os ∷ rest) b)) b os,
        )

    own_discard : (n : ℕ) (rest : List Record) (t : ℕ) (b : Batch) → Next K n rest (Discard t b)
        → s.taken (Discard t b) + kept_for s (Discard t b ∷ rest) b.lane + B n b.lane (slot rest b.lane).number
        ≤ kept_for s rest b.lane + B n b.lane (slot (Discard t b ∷ rest) b.lane).number
    own_discard n rest t b next =
        let same : B n b.lane (slot (Discard t b ∷ rest) b.lane).number ≡ B n b.lane (slot rest b.lane).number =
        ap (λ k. B n b.lane k) (ap (λ x. x.number) (new_slot rest (Discard t b) b.lane (same_number b.lane)) ∙ sym next.4) in
        let was : kept_for s rest b.lane ≡ s.kept InCommit (length (lock_of rest b)) (length (txs_of rest b)) =
        kept_in s rest b InCommit (slot_parts s rest b InCommit next.3 next.4) in
        let keeps : kept_for s (Discard t b ∷ rest) b.lane
        ≡ s.kept InDiscard (length (lock_of (Discard t b ∷ rest) b)) (length (txs_of (Discard t b ∷ rest) b)) =
        kept_in s (Discard t b ∷ rest) b InDiscard (new_slot rest (Discard t b) b.lane (same_number b.lane)) in
        omega (
          arith,
          same,
          was,
          keeps,
          fair.discard t (length (lock_of rest b)) (length (txs_of rest b)) (length (lock_of (Discard t b ∷ rest) b))
              (length (txs_of (Discard t b ∷ rest) b)) b,
        )

    own_done : (n : ℕ) (rest : List Record) (t : ℕ) (b : Batch) → Next K n rest (Done t b)
        → s.taken (Done t b) + kept_for s (Done t b ∷ rest) b.lane + B n b.lane (slot rest b.lane).number
        ≤ kept_for s rest b.lane + B n b.lane (slot (Done t b ∷ rest) b.lane).number
    own_done n rest t b next =
        let same : B n b.lane (slot (Done t b ∷ rest) b.lane).number ≡ B n b.lane (slot rest b.lane).number =
        ap (λ k. B n b.lane k) (ap (λ x. x.number) (new_slot rest (Done t b) b.lane (same_number b.lane)) ∙ sym next.4) in
        let was : kept_for s rest b.lane ≡ s.kept InDiscard (length (lock_of rest b)) (length (txs_of rest b)) =
        kept_in s rest b InDiscard (slot_parts s rest b InDiscard next.3 next.4) in
        let keeps : kept_for s (Done t b ∷ rest) b.lane ≡ 0 =
        kept_idle s fair (Done t b ∷ rest) b.lane (ap (λ x. x.phase) (new_slot rest (Done t b) b.lane (same_number b.lane))) in
        omega (arith, same, was, keeps, fair.done t (length (lock_of rest b)) (length (txs_of rest b)) b)

    own_finish : (n : ℕ) (rest : List Record) (t : ℕ) (b : Batch) (ds : List Bool) → Next K n rest (Finish t b ds)
        → s.taken (Finish t b ds) + kept_for s (Finish t b ds ∷ rest) b.lane + B n b.lane (slot rest b.lane).number
        ≤ kept_for s rest b.lane + B n b.lane (slot (Finish t b ds ∷ rest) b.lane).number
    own_finish n rest t b ds next =
        let same : B n b.lane (slot (Finish t b ds ∷ rest) b.lane).number ≡ B n b.lane (slot rest b.lane).number =
        ap (λ k. B n b.lane k) (ap (λ x. x.number) (new_slot rest (Finish t b ds) b.lane (same_number b.lane)) ∙ sym next.3) in
        let was : kept_for s rest b.lane ≡ s.kept InLock (length ds) (length (txs_of rest b))
        = kept_in s rest b InLock (slot_parts s rest b InLock next.2 next.3)
        ∙ ap (λ k. s.kept InLock k (length (txs_of rest b))) (sym (fits_long (lock_of rest b) ds next.4)) in
        let keeps : kept_for s (Finish t b ds ∷ rest) b.lane
        ≡ s.kept InFinish (length (lock_of (Finish t b ds ∷ rest) b)) (length (txs_of (Finish t b ds ∷ rest) b)) =
        kept_in s (Finish t b ds ∷ rest) b InFinish (new_slot rest (Finish t b ds) b.lane (same_number b.lane)) in
        omega (
          arith,
          same,
          was,
          keeps,
          fair.finish t (length (txs_of rest b)) (length (lock_of (Finish t b ds ∷ rest) b)) (length (txs_of (Finish t b ds ∷ rest) b)) b ds,
        )

    own_forget : (n : ℕ) (rest : List Record) (t : ℕ) (b : Batch) → Next K n rest (Forget t b)
        → s.taken (Forget t b) + kept_for s (Forget t b ∷ rest) b.lane + B n b.lane (slot rest b.lane).number
        ≤ kept_for s rest b.lane + B n b.lane (slot (Forget t b ∷ rest) b.lane).number
    own_forget n rest t b next =
        let same : B n b.lane (slot (Forget t b ∷ rest) b.lane).number ≡ B n b.lane (slot rest b.lane).number =
        ap (λ k. B n b.lane k) (ap (λ x. x.number) (new_slot rest (Forget t b) b.lane (same_number b.lane)) ∙ sym next.3) in
        let was : kept_for s rest b.lane ≡ s.kept InFinish (length (lock_of rest b)) (length (txs_of rest b)) =
        kept_in s rest b InFinish (slot_parts s rest b InFinish next.2 next.3) in
        let keeps : kept_for s (Forget t b ∷ rest) b.lane ≡ 0 =
        kept_idle s fair (Forget t b ∷ rest) b.lane (ap (λ x. x.phase) (new_slot rest (Forget t b) b.lane (same_number b.lane))) in
        omega (arith, same, was, keeps, fair.forget t (length (lock_of rest b)) (length (txs_of rest b)) b)

    own_lock : (j : ℕ) (newer rest : List Record) (t : ℕ) (b : Batch) (es : List Answered) → j < K.shards
        → X (shard_node K j) ≡ newer ++ Lock t b es ∷ rest → IsEnd (E (shard_node K j)) rest
        → Next K (shard_node K j) rest (Lock t b es) → Seen K X (shard_node K j) rest (Lock t b es) → b.lane < K.coordinators * K.lanes
        → s.taken (Lock t b es) + kept_for s (Lock t b es ∷ rest) b.lane + B (shard_node K j) b.lane (slot rest b.lane).number
        ≤ kept_for s rest b.lane + B (shard_node K j) b.lane (slot (Lock t b es ∷ rest) b.lane).number
    own_lock j newer rest t b es lt e h next seen lane =
        let n = shard_node K j in
        let home = home_of K b.lane in
        let low : home_of K b.lane < K.coordinators = home_in K b.lane lanes lane in
        let away : replaced seen.lists (shard_node K j) rest (home_of K b.lane) ≡ seen.lists (home_of K b.lane) =
        replaced_away seen.lists (shard_node K j) rest (home_of K b.lane) (apart_from (home_of K b.lane) (shard_node K j) (omega (arith, low))) in
        let there : is_some (record_of 6 (seen.lists (home_of K b.lane)) b) ≡ true = subst (λ L. is_some (record_of 6 L b) ≡ true) away seen.caused.0
        in
        let same : record_of 6 (seen.lists (home_of K b.lane)) b ≡ record_of 6 (X (home_of K b.lane)) b =
        found_in K m P some after new (home_of K b.lane) (seen.lists (home_of K b.lane)) (seen.ends (home_of K b.lane)) 6 b there in
        let prep = prepare_stands (X (home_of K b.lane)) b (subst (λ o. is_some o ≡ true) same there) in
        let txs : List Compact = txs_of (X (home_of K b.lane)) b in
        let is : entries es ≡ part K j 0 (txs_of (X (home_of K b.lane)) b)
        = seen.caused.1 j refl ∙ ap (λ L. part K j 0 (txs_in (record_of 6 L b))) away ∙ ap (λ o. part K j 0 (txs_in o)) same in
        let concerned : is_no_part (part K j 0 (txs_of (X (home_of K b.lane)) b)) ≡ false = not_empty es _ is next.5 in
        let v : IsEnd rest (X (shard_node K j)) = (newer ++ Lock t b es ∷ [], e ∙ past newer rest (Lock t b es)) in
        let room = lock_room j prep.0 b (txs_of (X (home_of K b.lane)) b) rest lt lane prep.1 concerned h v next.3 in
        let number : (slot (Lock t b es ∷ rest) b.lane).number ≡ b.number =
        ap (λ x. x.number) (new_slot rest (Lock t b es) b.lane (same_number b.lane)) in
        let up : B (shard_node K j) b.lane (slot (Lock t b es ∷ rest) b.lane).number ≡ B (shard_node K j) b.lane b.number =
        ap (λ k. B (shard_node K j) b.lane k) number in
        let none : kept_for s rest b.lane ≡ 0 = kept_idle s fair rest b.lane next.2 in
        let long : length (lock_of (Lock t b es ∷ rest) b) ≡ length es = ap length (lock_found rest t b es) in
        let keeps : kept_for s (Lock t b es ∷ rest) b.lane ≡ s.kept InLock (length es) (length (txs_of (Lock t b es ∷ rest) b))
        = kept_in s (Lock t b es ∷ rest) b InLock (new_slot rest (Lock t b es) b.lane (same_number b.lane))
        ∙ ap (λ k. s.kept InLock k (length (txs_of (Lock t b es ∷ rest) b))) long in
        let weighs = fair.lock (shard_node K j) t (length (txs_of (Lock t b es ∷ rest) b)) b es in
        let first : s.coming (lock_at (shard_node K j) (entries es))
        ≡ s.coming (lock_at (shard_node K j) (part K j 0 (txs_of (X (home_of K b.lane)) b))) = ap (λ q. s.coming (lock_at (shard_node K j) q)) is
        in
        let second : s.coming (finish_at (shard_node K j) (length (entries es)))
        ≡ s.coming (finish_at (shard_node K j) (length (part K j 0 (txs_of (X (home_of K b.lane)) b)))) =
        ap (λ q. s.coming (finish_at (shard_node K j) (length q))) is in
        omega (arith, room, up, none, keeps, weighs, first, second)

    step : (n : ℕ) (newer rest : List Record) (r : Record) → X n ≡ newer ++ r ∷ rest → IsEnd (E n) rest → Next K n rest r → Seen K X n rest r
        → IsInGrammar (header_of K m.id n) r → IsWithin n rest → IsWithin n (r ∷ rest)
    step n newer rest (Prepare t b txs) e h next seen g w =
        within_step n rest (Prepare t b txs) b.lane (λ f. f) g.1.0 (same_number b.lane) (own_prepare n newer rest t b txs e h next g.1.0) w
    step n newer rest (Commit t b os) e h next seen g w =
        within_step n rest (Commit t b os) b.lane (λ f. f) g.1.0 (same_number b.lane) (own_commit n rest t b os next) w
    step n newer rest (Discard t b) e h next seen g w =
        within_step n rest (Discard t b) b.lane (λ f. f) g.1.0 (same_number b.lane) (own_discard n rest t b next) w
    step n newer rest (Done t b) e h next seen g w =
        within_step n rest (Done t b) b.lane (λ f. f) g.1.0 (same_number b.lane) (own_done n rest t b next) w
    step n newer rest (Finish t b ds) e h next seen g w =
        within_step n rest (Finish t b ds) b.lane (λ f. f) g.1.0 (same_number b.lane) (own_finish n rest t b ds next) w
    step n newer rest (Forget t b) e h next seen g w =
        within_step n rest (Forget t b) b.lane (λ f. f) g.1.0 (same_number b.lane) (own_forget n rest t b next) w
    step n newer rest (Lock t b es) e h next seen g w =
        within_step n rest (Lock t b es) b.lane (λ f. f) g.1.0 (same_number b.lane) (at_shard_of n e h next seen) w
      where
        at_shard_of : (n : ℕ) → X n ≡ newer ++ Lock t b es ∷ rest → IsEnd (E n) rest → Next K n rest (Lock t b es) → Seen K X n rest (Lock t b es)
            → s.taken (Lock t b es) + kept_for s (Lock t b es ∷ rest) b.lane + B n b.lane (slot rest b.lane).number
            ≤ kept_for s rest b.lane + B n b.lane (slot (Lock t b es ∷ rest) b.lane).number
        at_shard_of n e h next seen =
            let at : shard_node K (n - K.coordinators) ≡ n = omega (arith, next.1.0) in
            subst (λ k. X k ≡ newer ++ Lock t b es ∷ rest → IsEnd (E k) rest → Next K k rest (Lock t b es) → Seen K X k rest (Lock t b es)
            → s.taken (Lock t b es) + kept_for s (Lock t b es ∷ rest) b.lane + B k b.lane (slot rest b.lane).number
            ≤ kept_for s rest b.lane + B k b.lane (slot (Lock t b es ∷ rest) b.lane).number) at
            (λ e h next seen. own_lock (n - K.coordinators) newer rest t b es (omega (arith, next.1.0, next.1.1)) e h next seen g.1.0) e h next seen
    step n newer rest (Upgrade t batch) e h next seen g w = absurd g
    step n newer rest (Seal t to shards) e h next seen g w = absurd g
    step n newer rest other e h next seen g w = absurd next

    -- so it is of each journal between
    pub within : (n : ℕ) → n < K.coordinators + K.shards → (V : List Record) → IsEnd (E n) V → IsEnd V (X n) → IsWithin n V
    within n inside V h v =
        subst (λ L. IsWithin n L) (sym h.1)
        (further K m P some after new n (E n) (begins n) (λ L. IsWithin n L) (first n inside)
        (λ newer rest r e back next w. (let f = (lists K m P some after new).each n newer rest r e
        (end_trans (first_of K m n) (E n) rest (begins n) back) in step n newer rest r e back next f.1 f.3 w))
        v.0 h.0 (v.1 ∙ ap (λ L. v.0 ++ L) h.1))
      where
        first : (n : ℕ) → n < K.coordinators + K.shards → IsWithin n (E n)
        first n inside = omega (arith, kept_covered K m P some lanes before old batches s fair n inside)
