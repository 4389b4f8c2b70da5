-- How many batches the lanes cut a workload into.
use Rattle.std.proofs.Common.{◌≡◌, ◌⊎◌, inl, inr, ◌+◌, ◌-◌, ◌*◌, ◌%◌, ◌<◌, ◌≤◌, ◌==◌, ℕ, zero, suc, Bool, true, false, if◌then◌else◌, List, [], ◌∷◌}
use Rattle.std.proofs.Common.{◌++◌, length, get_or, take, drop, reverse, refl, sym, ap, ◌∙◌, arith}
use Rattle.std.specs.Prelude.{All}
use Rattle.std.specs.List.{filter, range_with_len}
use Rattle.std.proofs.lemmas.List.{length-append, length-map, length-drop, length-reverse}
use Rattle.std.proofs.Math.Seq.{take-nil}
use Rattle.std.proofs.lemmas.List.Elements.{All-cons, All-head, All-tail}
use Rattle.std.proofs.lemmas.List.FromFn.{length-map-range_with_len, length-range_with_len}
use Rattle.std.proofs.Math.Nat.{div-eq_of_lt-le}
use Rattle.cbdc_types.specs.Limits.{IsWithinLimits}
use Rattle.cbdc_model.specs.Records.{Shape, Compact, Record, Genesis, Start, Carry, CarryStart}
use Rattle.cbdc_model.specs.Coins.{FullTx, compact, genesis_id}
use Rattle.cbdc_model.specs.History.{minted, first_rows}
use Rattle.cbdc_model.specs.Lanes.{IsEnd}
use Rattle.cbdc_model.specs.Ranges.{home_of}
use Rattle.cbdc_model.specs.Waves.{share, sent_to, IsCut, prepared}
use Rattle.ledger_laws.proofs.First.{AllFirst, journal_first, all_first}
use Rattle.ledger_runs.proofs.Sizes.{prepared_more}
use Rattle.submissions.specs.SoundTest.{sound_by}
use Rattle.submissions.proofs.Telling.{is_sound_law}
use Rattle.file_runs.specs.Telling.{TellFiles, TellsRun}
use Rattle.file_runs.specs.declared.waves.Wave.{Wave}
use Rattle.file_runs.specs.declared.ran.Ran.{Ran}
use Rattle.printed_lines.specs.Decided.{added, batches_below, new_batches}
use Rattle.workload.specs.Generator.{mint_of, minted_of, joined_of, splits_of, joins_of, split_of, join_of}
use Rattle.gen_command.specs.Generated.{all_good, files_of, made_for, rounded_up, sent_of, cut_below, batches_for}
use Rattle.run_lines.proofs.Decisions.{added_is}
use Rattle.submission_laws.proofs.Sound.{IsGood, splits_sound, joins_sound}

-- ---- pieces

-- a list that is cut into pieces has something in it
some_there : {A : Type 0} (n : ℕ) (xs piece : List A) → piece ≡ take n xs → 0 < length piece → 0 < length xs
some_there n [] piece e some = absurd (let l = ap length (e ∙ take-nil n) in omega (arith, l, some))
some_there n (x ∷ xs) piece e some = omega arith

none_or_some : {A : Type 0} (n : ℕ) (xs : List A) (pieces : List (List A)) → IsCut n xs pieces → (length pieces ≡ 0) ⊎ (0 < length xs)
none_or_some n xs [] cut = inl refl
none_or_some n xs (piece ∷ pieces) cut = inr (some_there n xs piece cut.1 cut.0)

next_bounds : (n a p left : ℕ) → left ≡ a - n → 0 < a → (p ≡ 0) ⊎ (0 < left) → left ≤ p * n → p * n < left + n → (a ≤ suc p * n) × (suc p * n < a + n)
next_bounds n a p left is here (inl none) low high = let z : p * n ≡ 0 * n = ap (λ k. k * n) none in (omega (arith, is, low), omega (arith, z, here))
next_bounds n a p left is here (inr more) low high = (omega (arith, is, low), omega (arith, is, more, high))

cut_bounds : {A : Type 0} (n : ℕ) (xs : List A) (pieces : List (List A)) → 1 ≤ n → IsCut n xs pieces
    → (length xs ≤ length pieces * n) × (length pieces * n < length xs + n)
cut_bounds n xs [] some cut = let l = ap length cut in (omega (arith, l), omega (arith, l, some))
cut_bounds n xs (piece ∷ pieces) some cut =
    let rest = cut_bounds n (drop n xs) pieces some cut.2 in
    next_bounds n (length xs) (length pieces) (length (drop n xs)) (length-drop n xs) (some_there n xs piece cut.1 cut.0)
    (none_or_some n (drop n xs) pieces cut.2) rest.0 rest.1

many_pieces : {A : Type 0} (n : ℕ) (xs : List A) (pieces : List (List A)) → 1 ≤ n → IsCut n xs pieces → length pieces ≡ rounded_up (length xs) n
many_pieces n xs pieces some cut =
    let b = cut_bounds n xs pieces some cut in
    let low = b.0 in
    let high = b.1 in
    sym (div-eq_of_lt-le n (omega (arith, high, some)) (omega (arith, low, some)))

-- ---- what goes to lanes

shared : {A B : Type 0} (lanes lane k : ℕ) (xs : List A) (ys : List B) → length xs ≡ length ys
    → length (share lanes lane k xs) ≡ length (share lanes lane k ys)
shared lanes lane k [] [] long = refl
shared lanes lane k [] (y ∷ ys) long = absurd (omega (arith, long))
shared lanes lane k (x ∷ xs) [] long = absurd (omega (arith, long))
shared lanes lane k (x ∷ xs) (y ∷ ys) long =
    let rest = shared lanes lane (suc k) xs ys (omega (arith, long)) in
    elim (k % lanes == lane) as (λ b. length (if b then x ∷ share lanes lane (suc k) xs else share lanes lane (suc k) xs)
    ≡ length (if b then y ∷ share lanes lane (suc k) ys else share lanes lane (suc k) ys)) [
      | true ↦ ap suc rest
      | false ↦ rest
    ]

shared_all : (P : FullTx → Type 0) (lanes lane k : ℕ) (xs : List FullTx) → All P xs → All P (share lanes lane k xs)
shared_all P lanes lane k [] all = all
shared_all P lanes lane k (x ∷ xs) all =
    let rest = shared_all P lanes lane (suc k) xs (All-tail P x xs all) in
    elim (k % lanes == lane) as (λ b. All P (if b then x ∷ share lanes lane (suc k) xs else share lanes lane (suc k) xs)) [
      | true ↦ All-cons P x (share lanes lane (suc k) xs) (All-head P x xs all) rest
      | false ↦ rest
    ]

kept_all : (test : FullTx → Bool) (xs : List FullTx) → All (λ t. test t ≡ true) xs → length (filter test xs) ≡ length xs
kept_all test [] all = refl
kept_all test (x ∷ xs) all =
    ap (λ b. length (if b then x ∷ filter test xs else filter test xs)) (All-head (λ t. test t ≡ true) x xs all)
    ∙ ap suc (kept_all test xs (All-tail (λ t. test t ≡ true) x xs all))

module _ (K : Shape) where
  sound_all : (file : List FullTx) → All IsGood file → All (λ t. sound_by all_good t ≡ true) file
  sound_all file good k d low = (is_sound_law all_good (get_or file k d)).1 (good k d low)

  many_sent : (file : List FullTx) (m lane : ℕ) → All IsGood file → length file ≡ m
      → length (sent_to K (sound_by all_good) file lane) ≡ sent_of K m lane
  many_sent file m lane good long =
      let L = K.coordinators * K.lanes in
      length-map (filter (sound_by all_good) (share (K.coordinators * K.lanes) lane 0 file)) compact
      ∙ kept_all (sound_by all_good) (share (K.coordinators * K.lanes) lane 0 file)
      (shared_all (λ t. sound_by all_good t ≡ true) (K.coordinators * K.lanes) lane 0 file (sound_all file good))
      ∙ shared (K.coordinators * K.lanes) lane 0 file (range_with_len 0 m) (long ∙ sym (length-range_with_len 0 m))

-- ---- first records prepare nothing

none_prepared : (lane : ℕ) (J : List Record) → AllFirst J → prepared lane J ≡ []
none_prepared lane [] first = refl
none_prepared lane (Genesis header hs ∷ J) first = none_prepared lane J first.1
none_prepared lane (Carry stamp header source hs numbers ∷ J) first = none_prepared lane J first.1
none_prepared lane (Start header ∷ J) first = none_prepared lane J first.1
none_prepared lane (CarryStart stamp header source numbers ∷ J) first = none_prepared lane J first.1
none_prepared lane (other ∷ J) first = absurd first.0

-- ---- the batches of two files, one behind the other

module _ (K : Shape) (one two : List FullTx) where
  two_runs : (M X : ℕ → List Record) (ws : List Wave) → TellFiles K all_good (one ∷ two ∷ []) M X ws → (lane : ℕ) → lane < K.coordinators * K.lanes
      → (p : List (List Compact)) × (q : List (List Compact)) × IsCut K.batch (sent_to K (sound_by all_good) one lane) p
      × IsCut K.batch (sent_to K (sound_by all_good) two lane) q
      × (prepared lane (X (home_of K lane)) ≡ reverse q ++ (reverse p ++ prepared lane (M (home_of K lane))))
  two_runs M X ws (M1, w1, more1, is1, one1, (M2, w2, more2, is2, one2, (none, same))) lane low =
      let tests = is_sound_law all_good in
      let c1 = (one1.runs (sound_by all_good) tests).cut lane low in
      let c2 = (one2.runs (sound_by all_good) tests).cut lane low in
      (c1.0, c2.0, c1.1, c2.1, ap (prepared lane) (same (home_of K lane)) ∙ c2.2 ∙ ap (λ l. reverse c2.0 ++ l) c1.2)

module _ (K : Shape) (seed n : ℕ) (within : IsWithinLimits K) (X : ℕ → List Record) (ran : Ran)
    (grows : (node : ℕ) → IsEnd (made_for K seed n node) (X node))
    (told : TellsRun K all_good (files_of seed n) (made_for K seed n) X ran.resumed.items ran.waves.items) where
  one_lane : (lane : ℕ) → lane < K.coordinators * K.lanes
      → length (prepared lane (added (made_for K seed n (home_of K lane)) (X (home_of K lane))))
      ≡ rounded_up (sent_of K (minted_of n) lane) K.batch + rounded_up (sent_of K (joined_of n) lane) K.batch
  one_lane lane low =
      let home = home_of K lane in
      let old = made_for K seed n home in
      let (p, q, cut1, cut2, whole) = two_runs K (splits_of seed n) (joins_of seed n) told.middle X ran.waves.items told.told lane low in
      let g = grows home in
      let fresh = ap (λ l. length (prepared lane l)) (added_is old (X home) g.0 g.1) in
      let grown = ap (λ l. length (prepared lane l)) g.1 ∙ ap length (prepared_more lane g.0 old)
      ∙ length-append (prepared lane g.0) (prepared lane old) in
      let none = ap length (none_prepared lane old
      (journal_first home (first_rows K (minted (mint_of seed n)))
      (all_first K (minted (mint_of seed n)) (λ (k : Compact). Unit {0}) (omega (arith, within.some_shard))))) in
      let mid = ap length (told.unprepared lane) in
      let parts = ap length whole ∙ length-append (reverse q) (reverse p ++ prepared lane (told.middle home)) in
      let behind = length-append (reverse p) (prepared lane (told.middle home)) in
      let long1 = length-reverse p in
      let long2 = length-reverse q in
      let many : length (prepared lane (added old (X home))) ≡ length p + length q =
      omega (arith, fresh, grown, none, mid, parts, behind, long1, long2) in
      let some : 1 ≤ K.batch = within.some_batch in
      let first = length-map-range_with_len (split_of seed n (genesis_id (mint_of seed n))) 0 (minted_of n) in
      let second = length-map-range_with_len (join_of seed n (genesis_id (mint_of seed n))) 0 (joined_of n) in
      many
      ∙ ap (λ k. k + length q) (many_pieces K.batch (sent_to K (sound_by all_good) (splits_of seed n) lane) p some cut1
      ∙ ap (λ k. rounded_up k K.batch) (many_sent K (splits_of seed n) (minted_of n) lane (splits_sound seed n) first))
      ∙ ap (λ k. rounded_up (sent_of K (minted_of n) lane) K.batch + k)
      (many_pieces K.batch (sent_to K (sound_by all_good) (joins_of seed n) lane) q some cut2
      ∙ ap (λ k. rounded_up k K.batch) (many_sent K (joins_of seed n) (joined_of n) lane (joins_sound seed n) second))

  below : (lanes : ℕ) → lanes ≤ K.coordinators * K.lanes → batches_below K (made_for K seed n) X lanes ≡ cut_below K n lanes
  below zero le = refl
  below (suc lane) le =
      ap (λ k. k + length (prepared lane (added (made_for K seed n (home_of K lane)) (X (home_of K lane))))) (below lane (omega (arith, le)))
      ∙ ap (λ k. cut_below K n lane + k) (one_lane lane (omega (arith, le)))

  pub batches_are_cut : new_batches K (made_for K seed n) X ≡ batches_for K n
  batches_are_cut = below (K.coordinators * K.lanes) (omega arith)
