-- Room and stamps enough for all that is still to come are enough for each record that comes.
use Rattle.std.proofs.Common.{◌≡◌, ℕ, zero, suc, ◌+◌, ◌-◌, ◌*◌, ◌^◌, ◌<◌, ◌≤◌, Bool, true, false, cond, ◌==◌, if◌then◌else◌, List, [], ◌∷◌, ◌++◌}
use Rattle.std.proofs.Common.{length, take, drop, reverse, not, is_some, Some, refl, sym, ap, ◌∙◌, subst, arith}
use Rattle.std.specs.List.{filter, flat_map}
use Rattle.std.proofs.lemmas.List.{length-append, length-reverse}
use Rattle.cbdc_types.specs.Limits.{IsWithinLimits}
use Rattle.cbdc_model.specs.Records.{Digest, Shape, Batch, Compact, Entry, Answered, Record, Row, journal, is_held, record_of, txs_of, stamp_of}
use Rattle.cbdc_model.specs.Records.{stamp_in, last_stamp, Prepare}
use Rattle.cbdc_model.specs.Slots.{slot, Idle}
use Rattle.cbdc_model.specs.Replies.{reply_to, answered, entries}
use Rattle.cbdc_model.specs.Ranges.{home_of, shard_node, part, Concerned}
use Rattle.cbdc_model.specs.Causes.{greatest}
use Rattle.cbdc_model.specs.Room.{size_of, lane_room, kept_below, kept_room, need_of}
use Rattle.cbdc_model.specs.Due.{used_of, prepare_record, lock_record, new_batch, open_batch}
use Rattle.cbdc_model.specs.Next.{is_idle, next_stamp}
use Rattle.cbdc_model.specs.Coins.{FullTx}
use Rattle.cbdc_model.specs.History.{Minted, first_rows}
use Rattle.cbdc_model.specs.Lanes.{IsEnd, first_of}
use Rattle.cbdc_model.specs.Waves.{sent_to, IsCut, prepared}
use Rattle.cbdc_model.specs.World.{AreIdle}
use Rattle.ledger_laws.proofs.Next.{Steady}
use Rattle.ledger_laws.proofs.Moves.{greatest_bound}
use Rattle.ledger_laws.proofs.Cuts.{end_self, end_trans}
use Rattle.run_laws.proofs.Checked.{Any, rows_of}
use Rattle.run_laws.specs.Ample.{Coming, Ample, AreCut, records_of, unwritten, still_to_come, bytes_at}
use Rattle.run_laws.specs.Enough.{HasBatchesLeft, HasRoom, PrepareRoomLaw, LockRoomLaw, KeptRoomLaw, IdleRoomLaw}
use Rattle.run_laws.proofs.Sums.{total, total_is, sum_below, sum_le, sum_more, sum_add, one_at, once_below}
use Rattle.run_laws.proofs.Scales.{Scale, Fair, bytes, bytes_fair, ones, ones_fair, lock_at, finish_at, forget_at}
use Rattle.run_laws.proofs.Numbers.{lists, number_is, number_grows}
use Rattle.run_laws.proofs.Lanes.{kept_for}
use Rattle.run_laws.proofs.Weights.{weight, weight_range, all_at_home, home_in_records}
use Rattle.run_laws.proofs.Budgets.{budget, budget_new, budget_top, all_of, first_number, each_batch}
use Rattle.run_laws.proofs.Growth.{home_in, kept_covered}
use Rattle.run_laws.proofs.Planned.{IsPlan, lock_room, within}
use Rattle.run_laws.proofs.Stamps.{come, found_most, front_most}

-- ---- batches are cut in one way

take_none : {A : Type 0} (n : ℕ) → take {A = A} n [] ≡ []
take_none zero = refl
take_none (suc n) = refl

no_piece : {A : Type 0} (n : ℕ) (xs p : List A) → xs ≡ [] → 0 < length p → p ≡ take n xs → ⊥
no_piece n xs p none some e = let z : p ≡ [] = e ∙ ap (take n) none ∙ take_none n in absurd (omega (arith, some, ap length z))

cut_once : {A : Type 0} (n : ℕ) (xs : List A) (a b : List (List A)) → IsCut n xs a → IsCut n xs b → a ≡ b
cut_once n xs [] [] one other = refl
cut_once n xs [] (q ∷ b) one other = absurd (no_piece n xs q one other.0 other.1)
cut_once n xs (p ∷ a) [] one other = absurd (no_piece n xs p other one.0 one.1)
cut_once n xs (p ∷ a) (q ∷ b) one other =
    let rest : a ≡ b = cut_once n (drop n xs) a b one.2 other.2 in
    let first : p ≡ q = one.1 ∙ sym other.1 in
    λ i. first i ∷ rest i

pub are_cut_once : (K : Shape) (sound : FullTx → Bool) (files : List (List FullTx)) (lane : ℕ) (a b : List (List Compact))
    → AreCut K sound files lane a → AreCut K sound files lane b → a ≡ b
are_cut_once K sound [] lane a b one other = one ∙ sym other
are_cut_once K sound (file ∷ files) lane a b one other =
    let own : one.0 ≡ other.0 = cut_once K.batch (sent_to K sound file lane) one.0 other.0 one.2 other.2 in
    let later : one.1 ≡ other.1 = are_cut_once K sound files lane one.1 other.1 one.3 other.3 in
    one.4 ∙ (λ i. own i ++ later i) ∙ sym other.4

-- ---- sums

total_ones : {X : Type 0} (xs : List X) → total (λ x. 1) xs ≡ length xs
total_ones [] = refl
total_ones (x ∷ xs) = let rest : total (λ x. 1) xs ≡ length xs = total_ones xs in omega arith

kept_is : (J : List Record) (n : ℕ) → kept_below J n ≡ sum_below (λ lane. kept_for bytes J lane) n
kept_is J zero = refl
kept_is J (suc n) = ap (λ k. k + lane_room J n) (kept_is J n)

-- each record still to come comes at one node at most
one_more : (n : ℕ) (c : Coming) (cs : List Coming) → weight ones n (c ∷ cs) ≤ one_at c.node n + weight ones n cs
one_more n c cs = elim (c.node == n) as (λ t. total (λ (d : Coming). 1)
    (cond t (c ∷ filter (λ (d : Coming). d.node == n) cs) (filter (λ (d : Coming). d.node == n) cs)) ≤ (if t then 1 else 0) + weight ones n cs) [
      | true ↦ omega arith
      | false ↦ omega arith
    ]

nodes_once : (N : ℕ) (cs : List Coming) → sum_below (λ n. weight ones n cs) N ≤ length cs
nodes_once N [] = none N
  where
    none : (N : ℕ) → sum_below (λ n. weight ones n []) N ≤ 0
    none zero = omega arith
    none (suc N) = let rest : sum_below (λ n. weight ones n []) N ≤ 0 = none N in omega arith
nodes_once N (c ∷ cs) =
    let each : sum_below (λ n. weight ones n (c ∷ cs)) N ≤ sum_below (λ n. one_at c.node n + weight ones n cs) N =
    sum_le (λ n. weight ones n (c ∷ cs)) (λ n. one_at c.node n + weight ones n cs) N (λ n lt. one_more n c cs) in
    let both : sum_below (λ n. one_at c.node n + weight ones n cs) N ≡ sum_below (one_at c.node) N + sum_below (λ n. weight ones n cs) N =
    sum_add (one_at c.node) (λ n. weight ones n cs) N in
    omega (arith, each, both, once_below c.node N, nodes_once N cs)

entries_are : (past : List Record) (b : Batch) (es : List Entry) (claimed : List Digest) → entries (answered past b claimed es) ≡ es
entries_are past b [] claimed = refl
entries_are past b (e ∷ es) claimed = ap (λ l. e ∷ l)
    (entries_are past b es (if is_held (reply_to past b claimed e.inputs) then e.inputs ++ claimed else claimed))

module _ (K : Shape) (m : Minted) (sound : FullTx → Bool) (capacity : ℕ → ℕ) (files : List (List FullTx)) (limits : IsWithinLimits K)
    (before : List Row) (old : Steady K m Any before) where
  abbrev E : ℕ → List Record
  E n = journal n (before ++ first_rows K m)

  some : 0 < K.shards
  some = omega (arith, limits.shards)

  lanes : 0 < K.lanes
  lanes = omega (arith, limits.lanes)

  abbrev L : ℕ
  L = K.coordinators * K.lanes

  begins : (n : ℕ) → IsEnd (first_of K m n) (E n)
  begins n = (lists K m Any some before old).begins n

  module _ (a : Ample K sound capacity files E) where
    abbrev still : List Coming
    still = still_to_come K E a.batches

    all_still : (s : Scale) (n : ℕ) → sum_below (λ lane. all_of K E a.batches s n lane) L ≡ weight s n still
    all_still s n = sym (weight_range s n (λ lane. unwritten K E lane ++ flat_map (records_of K lane) (a.batches lane)) L)

    bytes_still : (n : ℕ) → bytes_at n still ≡ weight bytes n still
    bytes_still n = total_is (λ (c : Coming). c.size) (filter (λ (c : Coming). c.node == n) still)

    used_is : (J : List Record) → used_of J ≡ 1 + total size_of J
    used_is J = ap (λ k. 1 + k) (total_is size_of J)

    pub kept_core : (n : ℕ) → n < K.coordinators + K.shards → used_of (E n) + kept_room K (E n) ≤ capacity n
    kept_core n inside =
        let kept : kept_room K (E n) ≡ sum_below (λ lane. kept_for bytes (E n) lane) L = kept_is (E n) L in
        let cover = kept_covered K m Any some lanes before old a.batches bytes bytes_fair n inside in
        let top : sum_below (λ lane. budget K E a.batches bytes n lane (slot (E n) lane).number) L
        ≤ sum_below (λ lane. all_of K E a.batches bytes n lane) L
        = sum_le (λ lane. budget K E a.batches bytes n lane (slot (E n) lane).number) (λ lane. all_of K E a.batches bytes n lane) L
        (λ lane lt. budget_top K E a.batches bytes n lane (slot (E n) lane).number) in
        omega (arith, kept, cover, top, all_still bytes n, bytes_still n, a.room n inside)

    module _ (after : List Row) (new : Steady K m Any after) (grows : (n : ℕ) → IsEnd (E n) (journal n (after ++ first_rows K m)))
        (underway : (lane : ℕ) → lane < K.coordinators * K.lanes
        → (left : List (List Compact)) × HasBatchesLeft K sound files E (λ n. journal n (after ++ first_rows K m)) lane left) where
      abbrev X : ℕ → List Record
      X n = journal n (after ++ first_rows K m)

      batches_are : (lane : ℕ) → lane < K.coordinators * K.lanes → (left : List (List Compact)) → (h : HasBatchesLeft K sound files E X lane left)
          → a.batches lane ≡ h.done ++ left
      batches_are lane lt left h = are_cut_once K sound files lane (a.batches lane) (h.done ++ left) (a.cut lane lt) h.cut

      plan : (lane : ℕ) → lane < K.coordinators * K.lanes → IsPlan K m Any some lanes before after old new grows a.batches lane
      plan lane lt = let u = underway lane lt in record { done = u.1.done; left = u.0; parts = batches_are lane lt u.0 u.1; prepares = u.1.prepares }

      -- what is there and kept, with one record more of a lane, weighs no more than all
      with_one : (s : Scale) (fair : Fair s) (n : ℕ) (front : List Record) (lane more : ℕ) → n < K.coordinators + K.shards → lane < L
          → IsEnd (E n) front → IsEnd front (X n)
          → budget K E a.batches s n lane (slot front lane).number + more ≤ all_of K E a.batches s n lane
          → total s.taken front + sum_below (λ l. kept_for s front l) L + more ≤ total s.taken (E n) + weight s n still
      with_one s fair n front lane more inside lt h v own =
          let in_plan = within K m Any some lanes before after old new grows a.batches plan s fair n inside front h v in
          let top : sum_below (λ l. budget K E a.batches s n l (slot front l).number) L + more ≤ sum_below (λ l. all_of K E a.batches s n l) L
          = sum_more (λ l. budget K E a.batches s n l (slot front l).number) (λ l. all_of K E a.batches s n l) lane more L
          (λ l below. budget_top K E a.batches s n l (slot front l).number) lt own in
          omega (arith, in_plan, top, all_still s n)

      without : (n : ℕ) → n < K.coordinators + K.shards → length (X n) - length (E n) ≤ weight ones n still
      without n inside =
          let in_plan = within K m Any some lanes before after old new grows a.batches plan ones ones_fair n inside (X n) (grows n) (end_self (X n))
          in
          let top : sum_below (λ l. budget K E a.batches ones n l (slot (X n) l).number) L ≤ sum_below (λ l. all_of K E a.batches ones n l) L
          = sum_le (λ l. budget K E a.batches ones n l (slot (X n) l).number) (λ l. all_of K E a.batches ones n l) L
          (λ l below. budget_top K E a.batches ones n l (slot (X n) l).number) in
          omega (arith, in_plan, top, all_still ones n, total_ones (X n), total_ones (E n))

      -- one is still to come, so fewer have
      fewer : (n lane : ℕ) → n < K.coordinators + K.shards → lane < L
          → budget K E a.batches ones n lane (slot (X n) lane).number + 1 ≤ all_of K E a.batches ones n lane
          → come K m Any some before after old new grows X + 1 ≤ length still
      fewer n lane inside lt own =
          let longer : length (E n) ≤ length (X n) = omega (arith, ap length (grows n).1, length-append (grows n).0 (E n)) in
          let here : length (X n) - length (E n) + 1 ≤ weight ones n still
          = (let one = with_one ones ones_fair n (X n) lane 1 inside lt (grows n) (end_self (X n)) own in
          omega (arith, one, total_ones (X n), total_ones (E n))) in
          let all : sum_below (λ k. length (X k) - length (E k)) (K.coordinators + K.shards) + 1
          ≤ sum_below (λ k. weight ones k still) (K.coordinators + K.shards)
          = sum_more (λ k. length (X k) - length (E k)) (λ k. weight ones k still) n 1 (K.coordinators + K.shards) (λ k below. without k below)
          inside here in
          omega (arith, all, nodes_once (K.coordinators + K.shards) still)

      abbrev top : ℕ
      top = greatest (λ n. last_stamp (E n)) (K.coordinators + K.shards)

      tops : (n : ℕ) → n < K.coordinators + K.shards → last_stamp (E n) ≤ top
      tops n inside = greatest_bound (λ n. last_stamp (E n)) (K.coordinators + K.shards) n inside

      -- ---- a Prepare

      module _ (lane : ℕ) (txs : List Compact) (left : List (List Compact)) (front : List Record) (lt : lane < K.coordinators * K.lanes)
          (has : HasBatchesLeft K sound files E X lane (txs ∷ left))
          (h : IsEnd (E (home_of K lane)) front) (v : IsEnd front (X (home_of K lane))) where
        abbrev prepare_node : ℕ
        prepare_node = home_of K lane

        prepare_low : home_of K lane < K.coordinators
        prepare_low = home_in K lane lanes lt

        prepare_inside : home_of K lane < K.coordinators + K.shards
        prepare_inside = omega (arith, prepare_low)

        prepare_parts : a.batches lane ≡ has.done ++ txs ∷ left
        prepare_parts = batches_are lane lt (txs ∷ left) has

        at_end : (slot (X prepare_node) lane).number ≡ first_number K E a.batches bytes prepare_node lane + length has.done
        at_end =
            let x : (slot (X prepare_node) lane).number ≡ length (prepared lane (X prepare_node)) =
            number_is K m Any some after new prepare_node lane prepare_low (X prepare_node) ((lists K m Any some after new).begins prepare_node)
            (end_self (X prepare_node)) in
            let e : (slot (E prepare_node) lane).number ≡ length (prepared lane (E prepare_node)) =
            number_is K m Any some before old prepare_node lane prepare_low (E prepare_node) (begins prepare_node) (end_self (E prepare_node)) in
            let long : length (prepared lane (X prepare_node)) ≡ length has.done + length (prepared lane (E prepare_node))
            = ap length has.prepares ∙ length-append (reverse has.done) (prepared lane (E prepare_node))
            ∙ ap (λ k. k + length (prepared lane (E prepare_node))) (length-reverse has.done) in
            omega (arith, x, e, long)

        prepare_no_later : (V : List Record) → IsEnd (E prepare_node) V → IsEnd V (X prepare_node)
            → (slot V lane).number ≤ first_number K E a.batches bytes prepare_node lane + length has.done
        prepare_no_later V h v =
            let le : (slot V lane).number ≤ (slot (X prepare_node) lane).number =
            number_grows K m Any some after new prepare_node lane V (X prepare_node)
            (end_trans (first_of K m prepare_node) (E prepare_node) V (begins prepare_node) h) v (end_self (X prepare_node)) in
            omega (arith, le, at_end)

        with_batch : (s : Scale) (V : List Record) → (slot V lane).number ≤ first_number K E a.batches bytes prepare_node lane + length has.done
            → budget K E a.batches s prepare_node lane (slot V lane).number + each_batch K E a.batches s prepare_node lane txs
            ≤ all_of K E a.batches s prepare_node lane
        with_batch s V le =
            let j = suc (first_number K E a.batches bytes prepare_node lane + length has.done) in
            let adds = budget_new K E a.batches s prepare_node lane has.done left txs (slot V lane).number
            (suc (first_number K E a.batches bytes prepare_node lane + length has.done)) prepare_parts le (omega arith) in
            omega (
              arith,
              adds,
              budget_top K E a.batches s prepare_node lane (suc (first_number K E a.batches bytes prepare_node lane + length has.done)),
            )

        prepare_room : used_of front + need_of K front (prepare_record front lane txs) ≤ capacity prepare_node
        prepare_room =
            let one = with_one bytes bytes_fair prepare_node front lane (each_batch K E a.batches bytes prepare_node lane txs) prepare_inside lt h v
            (with_batch bytes front (prepare_no_later front h v)) in
            let weighs = bytes_fair.prepare (home_of K lane) (next_stamp front 0) 0 (new_batch front lane) txs in
            omega (
              arith,
              one,
              weighs,
              all_at_home bytes prepare_node K lane txs refl,
              home_in_records bytes prepare_node K lane txs,
              kept_is front L,
              used_is front,
              used_is (E prepare_node),
              bytes_still prepare_node,
              a.room prepare_node prepare_inside,
            )

        prepare_stamp : stamp_of (prepare_record front lane txs) ≤ 2 ^ 62
        prepare_stamp =
            let some_there : 1 ≤ each_batch K E a.batches ones prepare_node lane txs =
            omega (arith, all_at_home ones prepare_node K lane txs refl, home_in_records ones prepare_node K lane txs) in
            let few = fewer prepare_node lane prepare_inside lt
            (omega (
              arith,
              with_batch ones (X prepare_node) (prepare_no_later (X prepare_node) (grows prepare_node) (end_self (X prepare_node))),
              some_there,
            )) in
            omega (arith, few, front_most K m Any some before after old new grows top tops prepare_node front h v, a.stamps)

        pub prepare_core : HasRoom K capacity (home_of K lane) front (prepare_record front lane txs)
        prepare_core = (prepare_room, prepare_stamp)

      -- ---- a Lock

      module _ (b : Batch) (t : ℕ) (txs : List Compact) (j : ℕ) (front : List Record) (lt : b.lane < K.coordinators * K.lanes)
          (found : record_of 6 (X (home_of K b.lane)) b ≡ Some (Prepare t b txs)) (concerned : Concerned K txs j)
          (low : (slot (X (shard_node K j)) b.lane).number < b.number)
          (h : IsEnd (E (shard_node K j)) front) (v : IsEnd front (X (shard_node K j))) where
        abbrev lock_node : ℕ
        lock_node = shard_node K j

        lock_inside : shard_node K j < K.coordinators + K.shards
        lock_inside = omega (arith, concerned.0)

        abbrev es : List Answered
        es = answered front b [] (part K j 0 txs)

        es_are : entries es ≡ part K j 0 txs
        es_are = entries_are front b (part K j 0 txs) []

        lock_no_later : (slot front b.lane).number < b.number
        lock_no_later =
            let le : (slot front b.lane).number ≤ (slot (X lock_node) b.lane).number =
            number_grows K m Any some after new lock_node b.lane front (X lock_node)
            (end_trans (first_of K m lock_node) (E lock_node) front (begins lock_node) h) v (end_self (X lock_node)) in
            omega (arith, le, low)

        with_lock : (s : Scale) (fair : Fair s) (V : List Record) → IsEnd (E lock_node) V → IsEnd V (X lock_node) → (slot V b.lane).number < b.number
            → budget K E a.batches s lock_node b.lane (slot V b.lane).number
            + (s.coming (lock_at lock_node (part K j 0 txs))
            + (s.coming (finish_at lock_node (length (part K j 0 txs))) + s.coming (forget_at lock_node)))
            ≤ all_of K E a.batches s lock_node b.lane
        with_lock s fair V h v lt' =
            let adds = lock_room K m Any some lanes before after old new grows a.batches plan s fair j t b txs V concerned.0 lt found concerned.1 h v
            lt' in
            omega (arith, adds, budget_top K E a.batches s lock_node b.lane b.number)

        has_lock_room : used_of front + need_of K front (lock_record front (record { batch = b; part = part K j 0 txs; cause = t }))
            ≤ capacity lock_node
        has_lock_room =
            let one = with_one bytes bytes_fair lock_node front b.lane
            (bytes.coming (lock_at lock_node (part K j 0 txs))
            + (bytes.coming (finish_at lock_node (length (part K j 0 txs))) + bytes.coming (forget_at lock_node))) lock_inside lt h v
            (with_lock bytes bytes_fair front h v lock_no_later) in
            let weighs = bytes_fair.lock lock_node (next_stamp front t) 0 b es in
            let first : bytes.coming (lock_at lock_node (entries es)) ≡ bytes.coming (lock_at lock_node (part K j 0 txs)) =
            ap (λ q. bytes.coming (lock_at lock_node q)) es_are in
            let second : bytes.coming (finish_at lock_node (length (entries es))) ≡ bytes.coming (finish_at lock_node (length (part K j 0 txs))) =
            ap (λ q. bytes.coming (finish_at lock_node (length q))) es_are in
            omega (
              arith,
              one,
              weighs,
              first,
              second,
              kept_is front L,
              used_is front,
              used_is (E lock_node),
              bytes_still lock_node,
              a.room lock_node lock_inside,
            )

        lock_stamp : stamp_of (lock_record front (record { batch = b; part = part K j 0 txs; cause = t })) ≤ 2 ^ 62
        lock_stamp =
            let few = fewer lock_node b.lane lock_inside lt
            (omega (arith, with_lock ones ones_fair (X lock_node) (grows lock_node) (end_self (X lock_node)) low)) in
            let cause : t ≤ top + come K m Any some before after old new grows X =
            omega (arith, found_most K m Any some before after old new grows top tops (home_of K b.lane) 6 b, ap stamp_in found) in
            omega (arith, few, cause, front_most K m Any some before after old new grows top tops lock_node front h v, a.stamps)

        pub lock_core : HasRoom K capacity (shard_node K j) front (lock_record front (record { batch = b; part = part K j 0 txs; cause = t }))
        lock_core = (has_lock_room, lock_stamp)

-- ---- where every lane is idle

module _ (K : Shape) (m : Minted) (limits : IsWithinLimits K) (before : List Row) (old : Steady K m Any before) where
  abbrev J : ℕ → List Record
  J n = journal n (before ++ first_rows K m)

  zeros : (n : ℕ) → sum_below (λ lane. 0) n ≡ 0
  zeros zero = refl
  zeros (suc n) = let rest : sum_below (λ lane. 0) n ≡ 0 = zeros n in omega (arith, rest)

  none_of : (n lane : ℕ) → (slot (J (home_of K lane)) lane).phase ≡ Idle → all_of K J (λ l. []) bytes n lane ≤ 0
  none_of n lane idle =
      let is : is_idle (slot (J (home_of K lane)) lane).phase ≡ true = ap is_idle idle in
      let none : unwritten K J lane ≡ [] = ap (λ t. if t then []
      else filter (λ (c : Coming). not (is_some (record_of c.kind (J c.node) (open_batch (J (home_of K lane)) lane))))
      (records_of K lane (txs_of (J (home_of K lane)) (open_batch (J (home_of K lane)) lane)))) is in
      let nothing : all_of K J (λ l. []) bytes n lane ≡ 0 = ap (λ (cs : List Coming). weight bytes n (cs ++ [])) none in
      omega (arith, nothing)

  pub idle_core : ((lane : ℕ) → lane < K.coordinators * K.lanes → (slot (J (home_of K lane)) lane).phase ≡ Idle) → (n : ℕ)
      → n < K.coordinators + K.shards → kept_room K (J n) ≡ 0
  idle_core idle n inside =
      let L : ℕ = K.coordinators * K.lanes in
      let kept : kept_room K (J n) ≡ sum_below (λ lane. kept_for bytes (J n) lane) L = kept_is (J n) L in
      let cover = kept_covered K m Any (omega (arith, limits.shards)) (omega (arith, limits.lanes)) before old (λ l. []) bytes bytes_fair n inside in
      let top : sum_below (λ lane. budget K J (λ l. []) bytes n lane (slot (J n) lane).number) L
      ≤ sum_below (λ lane. all_of K J (λ l. []) bytes n lane) L
      = sum_le (λ lane. budget K J (λ l. []) bytes n lane (slot (J n) lane).number) (λ lane. all_of K J (λ l. []) bytes n lane) L
      (λ lane lt. budget_top K J (λ l. []) bytes n lane (slot (J n) lane).number) in
      let nothing : sum_below (λ lane. all_of K J (λ l. []) bytes n lane) L ≤ sum_below (λ lane. 0) L =
      sum_le (λ lane. all_of K J (λ l. []) bytes n lane) (λ lane. 0) L (λ lane lt. none_of n lane (idle lane lt)) in
      omega (arith, kept, cover, top, nothing, zeros L)

pub idle_room_law : IdleRoomLaw
idle_room_law K m E n limits c idle inside =
    subst (λ e. AreIdle K e → kept_room K (e n) ≡ 0) (λ i k. c.history.journals_are k i)
    (λ is. idle_core K m limits c.later (rows_of K m E c) is n inside) idle

pub kept_room_law : KeptRoomLaw
kept_room_law K m sound capacity files E n limits a c inside =
    subst (λ e. Ample K sound capacity files e → used_of (e n) + kept_room K (e n) ≤ capacity n) (λ i k. c.history.journals_are k i)
    (λ a. kept_core K m sound capacity files limits c.later (rows_of K m E c) a n inside) a

pub prepare_room_law : PrepareRoomLaw
prepare_room_law K m sound capacity files E X lane txs left front limits a way lt has h v =
    subst (λ e. Ample K sound capacity files e → ((n : ℕ) → IsEnd (e n) (X n))
    → ((lane : ℕ) → lane < K.coordinators * K.lanes → (left : List (List Compact)) × HasBatchesLeft K sound files e X lane left)
    → HasBatchesLeft K sound files e X lane (txs ∷ left) → IsEnd (e (home_of K lane)) front → IsEnd front (X (home_of K lane))
    → HasRoom K capacity (home_of K lane) front (prepare_record front lane txs))
    (λ i k. way.old.history.journals_are k i)
    (subst (λ x. Ample K sound capacity files (λ k. journal k (way.old.later ++ first_rows K m))
    → ((n : ℕ) → IsEnd (journal n (way.old.later ++ first_rows K m)) (x n))
    → ((lane : ℕ) → lane < K.coordinators * K.lanes
    → (left : List (List Compact)) × HasBatchesLeft K sound files (λ k. journal k (way.old.later ++ first_rows K m)) x lane left)
    → HasBatchesLeft K sound files (λ k. journal k (way.old.later ++ first_rows K m)) x lane (txs ∷ left)
    → IsEnd (journal (home_of K lane) (way.old.later ++ first_rows K m)) front → IsEnd front (x (home_of K lane))
    → HasRoom K capacity (home_of K lane) front (prepare_record front lane txs))
    (λ i k. way.new.history.journals_are k i)
    (λ a grows under has h v. prepare_core K m sound capacity files limits way.old.later (rows_of K m E way.old) a way.new.later
    (rows_of K m X way.new) grows under lane txs left front lt has h v))
    a way.grows way.lanes has h v

pub lock_room_law : LockRoomLaw
lock_room_law K m sound capacity files E X b t txs s front limits a way lt found concerned low h v =
    subst (λ e. Ample K sound capacity files e → ((n : ℕ) → IsEnd (e n) (X n))
    → ((lane : ℕ) → lane < K.coordinators * K.lanes → (left : List (List Compact)) × HasBatchesLeft K sound files e X lane left)
    → record_of 6 (X (home_of K b.lane)) b ≡ Some (Prepare t b txs) → (slot (X (shard_node K s)) b.lane).number < b.number
    → IsEnd (e (shard_node K s)) front → IsEnd front (X (shard_node K s))
    → HasRoom K capacity (shard_node K s) front (lock_record front (record { batch = b; part = part K s 0 txs; cause = t })))
    (λ i k. way.old.history.journals_are k i)
    (subst (λ x. Ample K sound capacity files (λ k. journal k (way.old.later ++ first_rows K m))
    → ((n : ℕ) → IsEnd (journal n (way.old.later ++ first_rows K m)) (x n))
    → ((lane : ℕ) → lane < K.coordinators * K.lanes
    → (left : List (List Compact)) × HasBatchesLeft K sound files (λ k. journal k (way.old.later ++ first_rows K m)) x lane left)
    → record_of 6 (x (home_of K b.lane)) b ≡ Some (Prepare t b txs) → (slot (x (shard_node K s)) b.lane).number < b.number
    → IsEnd (journal (shard_node K s) (way.old.later ++ first_rows K m)) front → IsEnd front (x (shard_node K s))
    → HasRoom K capacity (shard_node K s) front (lock_record front (record { batch = b; part = part K s 0 txs; cause = t })))
    (λ i k. way.new.history.journals_are k i)
    (λ a grows under found low h v. lock_core K m sound capacity files limits way.old.later (rows_of K m E way.old) a way.new.later
    (rows_of K m X way.new) grows under b t txs s front lt found concerned low h v))
    a way.grows way.lanes found low h v
