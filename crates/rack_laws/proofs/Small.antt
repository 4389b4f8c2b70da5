-- Room on a new ledger for small transactions.
use Rattle.std.proofs.Common.{◌≡◌, ◌≢◌, inl, inr, ℕ, zero, suc, ◌+◌, ◌-◌, ◌*◌, ◌%◌, ◌^◌, ◌<◌, ◌≤◌, Bool, true, false, nat_lt, ◌&&◌, ◌==◌, cond}
use Rattle.std.proofs.Common.{if◌then◌else◌, List, [], ◌∷◌, ◌++◌, length, map, take, drop, is_some, not, length-take, length-drop, refl, sym, ap, ◌∙◌}
use Rattle.std.proofs.Common.{subst, arith}
use Rattle.std.specs.List.{filter, flat_map, range_with_len, sum_by}
use Rattle.std.proofs.lemmas.List.{length-append, length-map}
use Rattle.std.proofs.lemmas.Bool.{cases_lt, true≢false}
use Rattle.std.proofs.lemmas.Nat.{div_below}
use Rattle.std.proofs.Math.Nat.{mul-add}
use Rattle.cbdc_types.specs.Limits.{IsWithinLimits}
use Rattle.cbdc_model.specs.Records.{Digest, Shape, Compact, Entry, Record, journal, record_of, txs_of, last_stamp, Genesis, Start}
use Rattle.cbdc_model.specs.Slots.{slot, Idle}
use Rattle.cbdc_model.specs.Ranges.{home_of, shard_node, shard_of, on_shard, is_empty, entry_of, part}
use Rattle.cbdc_model.specs.Causes.{greatest}
use Rattle.cbdc_model.specs.Next.{is_idle}
use Rattle.cbdc_model.specs.Room.{compact_size, size_of}
use Rattle.cbdc_model.specs.Due.{used_of, open_batch}
use Rattle.cbdc_model.specs.Coins.{Output, FullTx, coin_hash, made_coins, tx_coins, tx_id, compact}
use Rattle.cbdc_model.specs.History.{Minted, header_of, first_rows}
use Rattle.cbdc_model.specs.Waves.{IsCut, sent_to, share}
use Rattle.cbdc_model.specs.World.{first_record}
use Rattle.ledger_laws.proofs.FirstJournals.{first_is}
use Rattle.input_files.specs.Contents.{all_txs}
use Rattle.run_laws.specs.Ample.{Coming, Ample, AreCut, largest_answered, at_coordinator, coming_at_shard, records_of, unwritten, still_to_come}
use Rattle.run_laws.specs.Ample.{bytes_at}
use Rattle.run_laws.proofs.Sums.{Yes, No, same_nat, total, total_is, total-append, sum_below, sum_le, sum_add, sum_none, one_at, once_below}
use Rattle.run_laws.proofs.Sums.{total_range}
use Rattle.run_laws.proofs.Scales.{bytes}
use Rattle.run_laws.proofs.Weights.{weight, weight-append, weight_flat, weight_range}
use Rattle.ledger_runs.proofs.Preparing.{cut_of}
use Rattle.rack_laws.specs.Small.{AreSmall, AllSmall, HasNewRoom, NewRoomLaw}

-- ---- sums

-- one term alone
single : (f : ℕ → ℕ) (at n most : ℕ) → ((k : ℕ) → at ≢ k → f k ≡ 0) → f at ≤ most → sum_below f n ≤ most
single f at zero most others own = omega arith
single f at (suc n) most others own = elim (same_nat at n) [
  | Yes e ↦
      let none : sum_below f n ≡ 0 = sum_none f n (λ k lt. others k (λ h. omega (arith, h, e, lt))) in
      let here : f at ≡ f n = ap f e in
      omega (arith, none, here, own)
  | No apart ↦
      let none : f n ≡ 0 = others n apart in
      let below : sum_below f n ≤ most = single f at n most others own in
      omega (arith, none, below)
]

-- so much of each
sum_times : (c : ℕ) (f g : ℕ → ℕ) (n : ℕ) → ((k : ℕ) → k < n → f k ≤ c * g k) → sum_below f n ≤ c * sum_below g n
sum_times c f g zero each = omega arith
sum_times c f g (suc n) each =
    let below : sum_below f n ≤ c * sum_below g n = sum_times c f g n (λ k lt. each k (omega (arith, lt))) in
    let here : f n ≤ c * g n = each n (omega arith) in
    omega (arith, below, here, mul-add c (sum_below g n) (g n))

-- what comes at one node is a part of all
weight_top : (n : ℕ) (cs : List Coming) → weight bytes n cs ≤ total (λ (c : Coming). c.size) cs
weight_top n [] = omega arith
weight_top n (c ∷ cs) =
    let rest : weight bytes n cs ≤ total (λ (c : Coming). c.size) cs = weight_top n cs in
    elim (c.node == n) as (λ t. total (λ (c : Coming). c.size)
    (cond t (c ∷ filter (λ (c : Coming). c.node == n) cs) (filter (λ (c : Coming). c.node == n) cs))
    ≤ c.size + total (λ (c : Coming). c.size) cs) [
      | true ↦ omega (arith, rest)
      | false ↦ omega (arith, rest)
    ]

-- ---- small transactions

abbrev AreFew : List Compact → Type 0
AreFew [] = Unit {0}
AreFew (t ∷ ts) = (length t.inputs + length t.outputs ≤ 3) × AreFew ts

few_take : (k : ℕ) (txs : List Compact) → AreFew txs → AreFew (take k txs)
few_take zero txs few = tt
few_take (suc k) [] few = tt
few_take (suc k) (t ∷ txs) few = (few.0, few_take k txs few.1)

few_drop : (k : ℕ) (txs : List Compact) → AreFew txs → AreFew (drop k txs)
few_drop zero txs few = few
few_drop (suc k) [] few = tt
few_drop (suc k) (t ∷ txs) few = few_drop k txs few.1

made_many : (id : Digest) (k : ℕ) (os : List Output) → length (made_coins id k os) ≡ length os
made_many id k [] = refl
made_many id k (o ∷ os) = let rest = made_many id (suc k) os in omega (arith, rest)

small_compact : (t : FullTx) → length t.inputs + length t.outputs ≤ 3 → length (compact t).inputs + length (compact t).outputs ≤ 3
small_compact t small =
    let ins : length (compact t).inputs ≡ length t.inputs = length-map t.inputs coin_hash in
    let outs : length (compact t).outputs ≡ length (tx_coins t) = length-map (tx_coins t) coin_hash in
    let made : length (tx_coins t) ≡ length t.outputs = made_many (tx_id t) 0 t.outputs in
    omega (arith, ins, outs, made, small)

-- what goes to a lane of a file
few_sent : (sound : FullTx → Bool) (lanes lane k : ℕ) (file : List FullTx) → AreSmall file
    → AreFew (map compact (filter sound (share lanes lane k file)))
few_sent sound lanes lane k [] small = tt
few_sent sound lanes lane k (t ∷ file) small =
    let rest = few_sent sound lanes lane (suc k) file small.1 in
    elim (k % lanes == lane) as (λ b. AreFew (map compact
    (filter sound (if b then t ∷ share lanes lane (suc k) file else share lanes lane (suc k) file)))) [
      | true ↦ elim (sound t) as (λ b. AreFew (map compact
          (cond b (t ∷ filter sound (share lanes lane (suc k) file)) (filter sound (share lanes lane (suc k) file))))) [
            | true ↦ (small_compact t small.0, rest)
            | false ↦ rest
          ]
      | false ↦ rest
    ]

-- how many go to a lane, and to all
abbrev sent_count : (FullTx → Bool) → ℕ → ℕ → List FullTx → ℕ → ℕ
sent_count sound lanes k file lane = length (map compact (filter sound (share lanes lane k file)))

one_sent : (sound : FullTx → Bool) (lanes k : ℕ) (t : FullTx) (file : List FullTx) (lane : ℕ)
    → sent_count sound lanes k (t ∷ file) lane ≤ one_at (k % lanes) lane + sent_count sound lanes (suc k) file lane
one_sent sound lanes k t file lane =
    elim (k % lanes == lane) as (λ b. length (map compact
    (filter sound (if b then t ∷ share lanes lane (suc k) file else share lanes lane (suc k) file)))
    ≤ (if b then 1 else 0) + sent_count sound lanes (suc k) file lane) [
      | true ↦ elim (sound t) as (λ b. length (map compact
          (cond b (t ∷ filter sound (share lanes lane (suc k) file)) (filter sound (share lanes lane (suc k) file))))
          ≤ 1 + sent_count sound lanes (suc k) file lane) [
            | true ↦ omega arith
            | false ↦ omega arith
          ]
      | false ↦ omega arith
    ]

all_sent : (sound : FullTx → Bool) (lanes k n : ℕ) (file : List FullTx) → sum_below (sent_count sound lanes k file) n ≤ length file
all_sent sound lanes k n [] = let none : sum_below (sent_count sound lanes k []) n ≡ 0 = sum_none (sent_count sound lanes k []) n (λ j lt. refl) in
    omega (arith, none)
all_sent sound lanes k n (t ∷ file) =
    let each : sum_below (sent_count sound lanes k (t ∷ file)) n
    ≤ sum_below (λ lane. one_at (k % lanes) lane + sent_count sound lanes (suc k) file lane) n
    = sum_le (sent_count sound lanes k (t ∷ file)) (λ lane. one_at (k % lanes) lane + sent_count sound lanes (suc k) file lane) n
    (λ lane lt. one_sent sound lanes k t file lane) in
    let both : sum_below (λ lane. one_at (k % lanes) lane + sent_count sound lanes (suc k) file lane) n
    ≡ sum_below (one_at (k % lanes)) n + sum_below (sent_count sound lanes (suc k) file) n
    = sum_add (one_at (k % lanes)) (sent_count sound lanes (suc k) file) n in
    let rest : sum_below (sent_count sound lanes (suc k) file) n ≤ length file = all_sent sound lanes (suc k) n file in
    omega (arith, each, both, rest, once_below (k % lanes) n)

-- ---- a batch

-- hashes on a shard are no more than all
on_few : (K : Shape) (s : ℕ) (xs : List Digest) → length (on_shard K s xs) ≤ length xs
on_few K s [] = omega arith
on_few K s (x ∷ xs) = elim (shard_of K x == s) as
    (λ b. length (if b then x ∷ on_shard K s xs else on_shard K s xs) ≤ length (x ∷ xs)) [
      | true ↦ omega (arith, on_few K s xs)
      | false ↦ omega (arith, on_few K s xs)
    ]

-- a part has no more entries than transactions, each of 201 bytes at most
part_few : (K : Shape) (s k : ℕ) (txs : List Compact) → AreFew txs
    → (length (part K s k txs) ≤ length txs) × (total largest_answered (part K s k txs) ≤ 201 * length (part K s k txs))
part_few K s k [] few = (omega arith, omega arith)
part_few K s k (t ∷ txs) few =
    let rest = part_few K s (suc k) txs few.1 in
    elim (is_empty (on_shard K s t.inputs) && is_empty (on_shard K s t.outputs)) as
    (λ b. (length (if b then part K s (suc k) txs else entry_of K s k t ∷ part K s (suc k) txs) ≤ length (t ∷ txs))
    × (total largest_answered (if b then part K s (suc k) txs else entry_of K s k t ∷ part K s (suc k) txs)
    ≤ 201 * length (if b then part K s (suc k) txs else entry_of K s k t ∷ part K s (suc k) txs))) [
      | true ↦ (omega (arith, rest.0), rest.1)
      | false ↦ (omega (arith, rest.0), omega (arith, rest.1, few.0, on_few K s t.inputs, on_few K s t.outputs))
    ]

sizes_few : (txs : List Compact) → AreFew txs → total compact_size txs ≤ 144 * length txs
sizes_few [] few = omega arith
sizes_few (t ∷ txs) few = let rest = sizes_few txs few.1 in omega (arith, rest, few.0)

elsewhere : (n node kind size : ℕ) (cs : List Coming) → node ≢ n → weight bytes n cs ≡ 0
    → weight bytes n (record { node = node; kind = kind; size = size } ∷ cs) ≡ 0
elsewhere n node kind size cs apart none = go (node == n) refl
  where
    go : (b : Bool) → (node == n) ≡ b → weight bytes n (record { node = node; kind = kind; size = size } ∷ cs) ≡ 0
    go true e = absurd (apart (grind (arith, e)))
    go false e = ap (λ t. total (λ (c : Coming). c.size)
        (cond t (record { node = node; kind = kind; size = size } ∷ filter (λ (c : Coming). c.node == n) cs)
        (filter (λ (c : Coming). c.node == n) cs))) e ∙ none

module _ (K : Shape) (lane : ℕ) (txs : List Compact) (few : AreFew txs) (some : 0 < length txs) where
  -- at a coordinator
  home_most : (n : ℕ) → weight bytes n (at_coordinator K lane txs) ≤ 353 * length txs
  home_most n =
      let all = weight_top n (at_coordinator K lane txs) in
      let is = total_is compact_size txs in
      omega (arith, all, is, sizes_few txs few, some)

  home_none : (n : ℕ) → home_of K lane ≢ n → weight bytes n (at_coordinator K lane txs) ≡ 0
  home_none n apart =
      let last : List Coming = record { node = home_of K lane; kind = 9; size = 34 } ∷ [] in
      let third : List Coming = record { node = home_of K lane; kind = 8; size = 34 } ∷ (record { node = home_of K lane; kind = 9; size = 34 } ∷ [])
      in
      let second : List Coming =
      record { node = home_of K lane; kind = 7; size = 42 + 57 * length txs }
      ∷ (record { node = home_of K lane; kind = 8; size = 34 } ∷ (record { node = home_of K lane; kind = 9; size = 34 } ∷ [])) in
      elsewhere n (home_of K lane) 6 (42 + sum_by compact_size txs) second apart
      (elsewhere n (home_of K lane) 7 (42 + 57 * length txs) third apart
      (elsewhere n (home_of K lane) 8 34 last apart (elsewhere n (home_of K lane) 9 34 [] apart refl)))

  -- at a shard
  shard_none : (n node : ℕ) (es : List Entry) → node ≢ n → weight bytes n (coming_at_shard node es) ≡ 0
  shard_none n node [] apart = refl
  shard_none n node (e ∷ es) apart =
      let last : List Coming = record { node = node; kind = 4; size = 34 } ∷ [] in
      let second : List Coming = record { node = node; kind = 3; size = 42 + length (e ∷ es) } ∷ (record { node = node; kind = 4; size = 34 } ∷ []) in
      elsewhere n node 2 (42 + sum_by largest_answered (e ∷ es)) second apart
      (elsewhere n node 3 (42 + length (e ∷ es)) last apart (elsewhere n node 4 34 [] apart refl))

  shard_most : (n node s : ℕ) → weight bytes n (coming_at_shard node (part K s 0 txs)) ≤ 320 * length txs
  shard_most n node s = go (part K s 0 txs) (part_few K s 0 txs few)
    where
      go : (es : List Entry) → (length es ≤ length txs) × (total largest_answered es ≤ 201 * length es)
          → weight bytes n (coming_at_shard node es) ≤ 320 * length txs
      go [] bound = omega arith
      go (e ∷ es) bound =
          let all = weight_top n (coming_at_shard node (e ∷ es)) in
          let is = total_is largest_answered (e ∷ es) in
          omega (arith, all, is, bound.0, bound.1)

  abbrev shards_of : List Coming
  shards_of = flat_map (λ s. coming_at_shard (shard_node K s) (part K s 0 txs)) (range_with_len 0 K.shards)

  both : (n : ℕ) → weight bytes n (records_of K lane txs) ≡ weight bytes n (at_coordinator K lane txs) + weight bytes n shards_of
  both n = weight-append bytes n (at_coordinator K lane txs) shards_of

  -- all records of a batch at a coordinator, and at a shard
  at_home : (n : ℕ) → n < K.coordinators → weight bytes n (records_of K lane txs) ≤ 353 * length txs
  at_home n low =
      let range : weight bytes n shards_of ≡ sum_below (λ s. weight bytes n (coming_at_shard (shard_node K s) (part K s 0 txs))) K.shards =
      weight_range bytes n (λ s. coming_at_shard (shard_node K s) (part K s 0 txs)) K.shards in
      let none : sum_below (λ s. weight bytes n (coming_at_shard (shard_node K s) (part K s 0 txs))) K.shards ≡ 0 =
      sum_none (λ s. weight bytes n (coming_at_shard (shard_node K s) (part K s 0 txs))) K.shards
      (λ s lt. shard_none n (shard_node K s) (part K s 0 txs) (λ h. omega (arith, h, low))) in
      omega (arith, both n, range, none, home_most n)

  at_shards : (n : ℕ) → home_of K lane < K.coordinators → K.coordinators ≤ n → weight bytes n (records_of K lane txs) ≤ 320 * length txs
  at_shards n home high =
      let range : weight bytes n shards_of ≡ sum_below (λ s. weight bytes n (coming_at_shard (shard_node K s) (part K s 0 txs))) K.shards =
      weight_range bytes n (λ s. coming_at_shard (shard_node K s) (part K s 0 txs)) K.shards in
      let own : sum_below (λ s. weight bytes n (coming_at_shard (shard_node K s) (part K s 0 txs))) K.shards ≤ 320 * length txs =
      single (λ s. weight bytes n (coming_at_shard (shard_node K s) (part K s 0 txs))) (n - K.coordinators) K.shards (320 * length txs)
      (λ s apart. shard_none n (shard_node K s) (part K s 0 txs) (λ h. apart (omega (arith, h))))
      (shard_most n (shard_node K (n - K.coordinators)) (n - K.coordinators)) in
      let none = home_none n (λ h. omega (arith, h, home, high)) in
      omega (arith, both n, range, own, none)

  -- how many they are
  shard_count : (node : ℕ) (es : List Entry) → length (coming_at_shard node es) ≤ 3
  shard_count node [] = omega arith
  shard_count node (e ∷ es) = omega arith

  shards_count : (ss : List ℕ) → length (flat_map (λ s. coming_at_shard (shard_node K s) (part K s 0 txs)) ss) ≤ 3 * length ss
  shards_count [] = omega arith
  shards_count (s ∷ ss) =
      let here = shard_count (shard_node K s) (part K s 0 txs) in
      let long = length-append (coming_at_shard (shard_node K s) (part K s 0 txs))
      (flat_map (λ s. coming_at_shard (shard_node K s) (part K s 0 txs)) ss) in
      omega (arith, here, long, shards_count ss)

  records_count : K.shards ≤ 64 → length (records_of K lane txs) ≤ 196 * length txs
  records_count limit =
      let long = length-append (at_coordinator K lane txs) shards_of in
      let range = length_range 0 K.shards in
      omega (arith, long, shards_count (range_with_len 0 K.shards), range, limit, some)
    where
      length_range : (k n : ℕ) → length (range_with_len k n) ≡ n
      length_range k zero = refl
      length_range k (suc n) = let rest = length_range (k + 1) n in omega (arith, rest)

-- ---- the batches of a lane

cut_many : {A : Type 0} (n : ℕ) (xs : List A) (pieces : List (List A)) → IsCut n xs pieces → total length pieces ≡ length xs
cut_many n xs [] cut = sym (ap length cut)
cut_many n xs (piece ∷ pieces) cut =
    let rest : total length pieces ≡ length (drop n xs) = cut_many n (drop n xs) pieces cut.2 in
    omega (arith, rest, ap length cut.1, length-take n xs, length-drop n xs)

abbrev AreFilled : List (List Compact) → Type 0
AreFilled [] = Unit {0}
AreFilled (b ∷ bs) = AreFew b × (0 < length b) × AreFilled bs

filled_cut : (n : ℕ) (xs : List Compact) (pieces : List (List Compact)) → AreFew xs → IsCut n xs pieces → AreFilled pieces
filled_cut n xs [] few cut = tt
filled_cut n xs (piece ∷ pieces) few cut = (
  subst AreFew (sym cut.1) (few_take n xs few),
  cut.0,
  filled_cut n (drop n xs) pieces (few_drop n xs few) cut.2,
)

filled_both : (a b : List (List Compact)) → AreFilled a → AreFilled b → AreFilled (a ++ b)
filled_both [] b one other = other
filled_both (p ∷ a) b one other = (one.0, one.1, filled_both a b one.2 other)

-- how many transactions of files a lane gets
abbrev files_count : (FullTx → Bool) → ℕ → List (List FullTx) → ℕ → ℕ
files_count sound lanes [] lane = 0
files_count sound lanes (file ∷ files) lane = sent_count sound lanes 0 file lane + files_count sound lanes files lane

all_counted : (sound : FullTx → Bool) (lanes n : ℕ) (files : List (List FullTx)) → sum_below (files_count sound lanes files) n ≤ all_txs files
all_counted sound lanes n [] = let none : sum_below (files_count sound lanes []) n ≡ 0 = sum_none (files_count sound lanes []) n (λ j lt. refl) in
    omega (arith, none)
all_counted sound lanes n (file ∷ files) =
    let both : sum_below (files_count sound lanes (file ∷ files)) n
    ≡ sum_below (sent_count sound lanes 0 file) n + sum_below (files_count sound lanes files) n
    = sum_add (sent_count sound lanes 0 file) (files_count sound lanes files) n in
    let rest : sum_below (files_count sound lanes files) n ≤ all_txs files = all_counted sound lanes n files in
    omega (arith, both, rest, all_sent sound lanes 0 n file)

record IsPlanned (K : Shape) (sound : FullTx → Bool) (files : List (List FullTx)) (lane : ℕ) : Type 0 where
  batches : List (List Compact)
  cut : AreCut K sound files lane batches
  filled : AreFilled batches
  count : total length batches ≡ files_count sound (K.coordinators * K.lanes) files lane

planned : (K : Shape) (sound : FullTx → Bool) (files : List (List FullTx)) (lane : ℕ) → 0 < K.batch → AllSmall files → IsPlanned K sound files lane
planned K sound [] lane some small = record { batches = []; cut = refl; filled = tt; count = refl }
planned K sound (file ∷ files) lane some small =
    let own : (pieces : List (List Compact)) × IsCut K.batch (sent_to K sound file lane) pieces = cut_of K.batch (sent_to K sound file lane) some in
    let rest : IsPlanned K sound files lane = planned K sound files lane some small.1 in
    let few : AreFew (sent_to K sound file lane) = few_sent sound (K.coordinators * K.lanes) lane 0 file small.0 in
    record {
      batches = own.0 ++ rest.batches;
      cut = (own.0, rest.batches, own.1, rest.cut, refl);
      filled = filled_both own.0 rest.batches (filled_cut K.batch (sent_to K sound file lane) own.0 few own.1) rest.filled;
      count = let mine : total length own.0 ≡ sent_count sound (K.coordinators * K.lanes) 0 file lane =
          cut_many K.batch (sent_to K sound file lane) own.0 own.1 in omega (arith, total-append length own.0 rest.batches, mine, rest.count);
    }

-- so much of each batch is so much of all
filled_weight : (K : Shape) (lane c n : ℕ) (bs : List (List Compact)) → AreFilled bs
    → ((b : List Compact) → AreFew b → 0 < length b → weight bytes n (records_of K lane b) ≤ c * length b)
    → total (λ b. weight bytes n (records_of K lane b)) bs ≤ c * total length bs
filled_weight K lane c n [] filled each = omega arith
filled_weight K lane c n (b ∷ bs) filled each =
    let rest = filled_weight K lane c n bs filled.2 each in
    let here = each b filled.0 filled.1 in
    omega (arith, rest, here, mul-add c (length b) (total length bs))

length_flat : {X A : Type 0} (f : X → List A) (xs : List X) → length (flat_map f xs) ≡ total (λ x. length (f x)) xs
length_flat f [] = refl
length_flat f (x ∷ xs) = let rest = length_flat f xs in omega (arith, rest, length-append (f x) (flat_map f xs))

filled_count : (K : Shape) (lane : ℕ) (bs : List (List Compact)) → K.shards ≤ 64 → AreFilled bs
    → length (flat_map (records_of K lane) bs) ≤ 196 * total length bs
filled_count K lane [] limit filled = omega arith
filled_count K lane (b ∷ bs) limit filled =
    let rest = filled_count K lane bs limit filled.2 in
    let here = records_count K lane b filled.0 filled.1 limit in
    omega (arith, rest, here, length-append (records_of K lane b) (flat_map (records_of K lane) bs))

greatest_none : (f : ℕ → ℕ) (n : ℕ) → ((k : ℕ) → k < n → f k ≡ 0) → greatest f n ≡ 0
greatest_none f zero none = refl
greatest_none f (suc n) none =
    let below : greatest f n ≡ 0 = greatest_none f n (λ k lt. none k (omega (arith, lt))) in
    let here : f n ≡ 0 = none n (omega arith) in
    omega (arith, below, here)

-- an idle lane has nothing to write
idle_unwritten : (K : Shape) (E : ℕ → List Record) (lane : ℕ) → (slot (E (home_of K lane)) lane).phase ≡ Idle → unwritten K E lane ≡ []
idle_unwritten K E lane idle =
    ap (λ t. if t then [] else filter (λ (c : Coming). not (is_some (record_of c.kind (E c.node) (open_batch (E (home_of K lane)) lane))))
    (records_of K lane (txs_of (E (home_of K lane)) (open_batch (E (home_of K lane)) lane)))) (ap is_idle idle)

-- ---- a new ledger

first_idle : (K : Shape) (m : Minted) (n lane : ℕ) → (slot (first_record K m n ∷ []) lane).phase ≡ Idle
first_idle K m n lane = elim (nat_lt n K.coordinators) as
    (λ b. (slot ((if b then Start (header_of K m.id n) else Genesis (header_of K m.id n) (on_shard K (n - K.coordinators) m.hashes)) ∷ [])
    lane).phase ≡ Idle) [
      | true ↦ refl
      | false ↦ refl
    ]

first_stamp : (K : Shape) (m : Minted) (n : ℕ) → last_stamp (first_record K m n ∷ []) ≡ 0
first_stamp K m n = elim (nat_lt n K.coordinators) as
    (λ b. last_stamp ((if b then Start (header_of K m.id n) else Genesis (header_of K m.id n) (on_shard K (n - K.coordinators) m.hashes)) ∷ []) ≡ 0) [
      | true ↦ refl
      | false ↦ refl
    ]

used_one : (r : Record) → used_of (r ∷ []) ≡ 1 + size_of r
used_one r = let is : sum_by size_of (r ∷ []) ≡ size_of r + 0 = total_is size_of (r ∷ []) in omega (arith, is)

first_used : (K : Shape) (m : Minted) (n : ℕ) → (n < K.coordinators → used_of (first_record K m n ∷ []) ≤ 99)
    × (used_of (first_record K m n ∷ []) ≤ 107 + 32 * length m.hashes)
first_used K m n = go (nat_lt n K.coordinators) refl
  where
    go : (b : Bool) → nat_lt n K.coordinators ≡ b
        → (n < K.coordinators → used_of ((if b then Start (header_of K m.id n)
        else Genesis (header_of K m.id n) (on_shard K (n - K.coordinators) m.hashes)) ∷ []) ≤ 99)
        × (used_of ((if b then Start (header_of K m.id n) else Genesis (header_of K m.id n) (on_shard K (n - K.coordinators) m.hashes)) ∷ [])
        ≤ 107 + 32 * length m.hashes)
    go true e = ((λ low. omega (arith, used_one (Start (header_of K m.id n)))), omega (arith, used_one (Start (header_of K m.id n))))
    go false e = (
      (λ low. absurd (let z : nat_lt n K.coordinators ≡ true = grind (arith, low) in true≢false (sym z ∙ e))),
      omega (
        arith,
        used_one (Genesis (header_of K m.id n) (on_shard K (n - K.coordinators) m.hashes)),
        on_few K (n - K.coordinators) m.hashes,
      ),
    )

module _ (K : Shape) (m : Minted) (sound : FullTx → Bool) (capacity : ℕ → ℕ) (files : List (List FullTx)) (limits : IsWithinLimits K)
    (small : AllSmall files) (bounded : all_txs files ≤ 2 ^ 54)
    (room : HasNewRoom K m capacity (all_txs files)) where
  abbrev E : ℕ → List Record
  E n = journal n (first_rows K m)

  abbrev L : ℕ
  L = K.coordinators * K.lanes

  abbrev B : ℕ → List (List Compact)
  B lane = (planned K sound files lane limits.some_batch small).batches

  home_low : (lane : ℕ) → lane < L → home_of K lane < K.coordinators
  home_low lane lt = div_below lane K.lanes K.coordinators limits.some_lane lt

  -- nothing is open
  none_open : (lane : ℕ) → lane < L → unwritten K E lane ≡ []
  none_open lane lt =
      let first = first_is K m (home_of K lane) (let low = home_low lane lt in omega (arith, low)) in
      let idle : (slot (E (home_of K lane)) lane).phase ≡ Idle = ap (λ J. (slot J lane).phase) first ∙ first_idle K m (home_of K lane) lane in
      idle_unwritten K E lane idle

  lane_weight : (c n lane : ℕ) → lane < L → ((b : List Compact) → AreFew b → 0 < length b → weight bytes n (records_of K lane b) ≤ c * length b)
      → weight bytes n (unwritten K E lane ++ flat_map (records_of K lane) (B lane)) ≤ c * files_count sound L files lane
  lane_weight c n lane lt each =
      let p = planned K sound files lane limits.some_batch small in
      let none : weight bytes n (unwritten K E lane ++ flat_map (records_of K lane) (B lane))
      ≡ weight bytes n (flat_map (records_of K lane) (B lane)) =
      ap (λ cs. weight bytes n (cs ++ flat_map (records_of K lane) (B lane))) (none_open lane lt) in
      let flat = weight_flat bytes n (records_of K lane) (B lane) in
      let most = filled_weight K lane c n (B lane) p.filled each in
      let count : c * total length (B lane) ≡ c * files_count sound L files lane = ap (λ k. c * k) p.count in
      omega (arith, none, flat, most, count)

  -- all that comes at a node
  all_weight : (c n : ℕ) → ((lane : ℕ) → lane < L → (b : List Compact) → AreFew b → 0 < length b
      → weight bytes n (records_of K lane b) ≤ c * length b)
      → bytes_at n (still_to_come K E B) ≤ c * sum_below (files_count sound L files) L
  all_weight c n each =
      let is : bytes_at n (still_to_come K E B) ≡ weight bytes n (still_to_come K E B) =
      total_is (λ (c : Coming). c.size) (filter (λ (c : Coming). c.node == n) (still_to_come K E B)) in
      let range = weight_range bytes n (λ lane. unwritten K E lane ++ flat_map (records_of K lane) (B lane)) L in
      let most = sum_times c (λ lane. weight bytes n (unwritten K E lane ++ flat_map (records_of K lane) (B lane))) (files_count sound L files) L
      (λ lane lt. lane_weight c n lane lt (each lane lt)) in
      omega (arith, is, range, most)

  used : (n : ℕ) → n < K.coordinators + K.shards → used_of (E n) ≡ used_of (first_record K m n ∷ [])
  used n inside = ap used_of (first_is K m n inside)

  has_room : (n : ℕ) → n < K.coordinators + K.shards → used_of (E n) + bytes_at n (still_to_come K E B) ≤ capacity n
  has_room n inside = elim (cases_lt n K.coordinators) [
    | inl low ↦
        let all = all_weight 353 n (λ lane lt b few some. at_home K lane b few some n low) in
        let count = all_counted sound L L files in
        let own = (first_used K m n).0 low in
        omega (arith, all, count, own, used n inside, room.0 n low)
    | inr high ↦
        let all = all_weight 320 n (λ lane lt b few some. at_shards K lane b few some n (home_low lane lt) high) in
        let count = all_counted sound L L files in
        let own = (first_used K m n).1 in
        omega (arith, all, count, own, used n inside, room.1 n high inside)
  ]

  lane_count : (lane : ℕ) → lane < L → length (unwritten K E lane ++ flat_map (records_of K lane) (B lane)) ≤ 196 * files_count sound L files lane
  lane_count lane lt =
      let p = planned K sound files lane limits.some_batch small in
      let none : length (unwritten K E lane ++ flat_map (records_of K lane) (B lane)) ≡ length (flat_map (records_of K lane) (B lane)) =
      ap (λ (cs : List Coming). length (cs ++ flat_map (records_of K lane) (B lane))) (none_open lane lt) in
      let most = filled_count K lane (B lane) limits.shards p.filled in
      omega (arith, none, most, p.count)

  still_count : length (still_to_come K E B) ≤ 196 * all_txs files
  still_count =
      let flat = length_flat (λ lane. unwritten K E lane ++ flat_map (records_of K lane) (B lane)) (range_with_len 0 L) in
      let range = total_range (λ lane. length (unwritten K E lane ++ flat_map (records_of K lane) (B lane))) L in
      let most = sum_times 196 (λ lane. length (unwritten K E lane ++ flat_map (records_of K lane) (B lane))) (files_count sound L files) L
      lane_count in
      omega (arith, flat, range, most, all_counted sound L L files)

  has_stamps : greatest (λ n. last_stamp (E n)) (K.coordinators + K.shards) + length (still_to_come K E B) ≤ 2 ^ 62
  has_stamps =
      let none = greatest_none (λ n. last_stamp (E n)) (K.coordinators + K.shards)
      (λ n inside. ap last_stamp (first_is K m n inside) ∙ first_stamp K m n) in
      omega (arith, none, still_count, bounded)

  is_ample : Ample K sound capacity files (λ n. journal n (first_rows K m))
  is_ample = record { batches = B; cut = λ lane lt. (planned K sound files lane limits.some_batch small).cut; room = has_room; stamps = has_stamps }

pub new_room : NewRoomLaw
new_room K m sound capacity files limits small bounded room = is_ample K m sound capacity files limits small bounded room
