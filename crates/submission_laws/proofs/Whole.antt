-- The numbers of a workload: what is unspent, what is committed, and what the last book has.
use Rattle.std.proofs.Common.{◌≡◌, ◌⊎◌, inl, inr, ℕ, zero, suc, ◌+◌, ◌-◌, ◌*◌, ◌<◌, ◌≤◌, List, [], ◌∷◌, ◌++◌, length, map, reverse, Some, None, refl}
use Rattle.std.proofs.Common.{sym, ap, ◌∙◌, subst, arith}
use Rattle.std.specs.Prelude.{slice_get}
use Rattle.std.specs.List.{range_with_len}
use Rattle.std.specs.FinMap as book
use Rattle.std.proofs.lemmas.Bool.{cases_lt}
use Rattle.std.proofs.lemmas.List.{length-append, length-map}
use Rattle.std.proofs.lemmas.List.FromFn.{length-map-range_with_len}
use Rattle.cbdc_model.specs.Records.{Digest, Shape, Batch, Compact, Record, Row, journal}
use Rattle.cbdc_model.specs.Status.{status}
use Rattle.cbdc_model.specs.Ranges.{shard_of, shard_node}
use Rattle.cbdc_model.specs.Book.{Book, key, genesis_book, fold_txs, value, money}
use Rattle.cbdc_model.specs.Money.{money_of, issued, redeemed}
use Rattle.cbdc_model.specs.Coins.{Output, Coin, FullTx, coin_hash, tx_id, tx_coins, compact, genesis_tx, genesis_id, genesis_hashes}
use Rattle.cbdc_model.specs.Clean.{Clean, IsNamed, IsProperCompact, value_out}
use Rattle.cbdc_model.specs.History.{minted, history_of, committed, all_inputs, all_outputs, won_of, IsKept, IsOrdered, AreHandedIn}
use Rattle.cbdc_model.specs.World.{KeptJournals, AreIdle, IsUnspent}
use Rattle.cbdc_model.specs.Headline.{Headline}
use Rattle.cbdc_model.specs.Waves.{Waves}
use Rattle.ledger_laws.proofs.Next.{Each, Steady}
use Rattle.ledger_laws.proofs.Counts.{count}
use Rattle.ledger_laws.proofs.Ledger.{steady}
use Rattle.ledger_laws.proofs.HistoryLaws.{one_history_law}
use Rattle.ledger_laws.proofs.Recovery.{idle_law, one_list}
use Rattle.ledger_laws.proofs.Members.{In, in_contains, contains_in, count_in}
use Rattle.submissions.specs.SoundTest.{sound_by}
use Rattle.cbdc_types.specs.declared.answer.Totals.{Totals}
use Rattle.audit.specs.Laws.{AllAfter}
use Rattle.audit.specs.Verdicts.{IsSoundHistory}
use Rattle.audit.proofs.Ordered.{ordered_rows}
use Rattle.printed_lines.specs.Unspent.{IsUnspentCount}
use Rattle.submission_laws.specs.Sent.{IsSent}
use Rattle.submission_laws.specs.Settled.{AreSettled}
use Rattle.submission_laws.specs.Free.{IsSubmissionConfirmed}
use Rattle.submission_laws.proofs.Settling.{settled_law}
use Rattle.workload.specs.Generator.{mint_of, minted_of, joined_of, split_of, splits_of, joins_of}
use Rattle.submission_laws.specs.Files.{all_good, files_of, all_submissions, made_for}
use Rattle.submission_laws.specs.Whole.{left_of, totals_of, WholeLaw}
use Rattle.submission_laws.proofs.Ranges.{in_left, in_right, in_both, in_range, From, from_range}
use Rattle.submission_laws.proofs.Coins.{split, join, mint_coin, low_coin, high_coin, join_coin, from_mint, IsOne, is_split, is_join, one_of, fewer}
use Rattle.submission_laws.proofs.Coins.{same_split, same_join, apart_ids, low_named, high_named, join_named, mint_mint, mint_low, mint_high}
use Rattle.submission_laws.proofs.Coins.{mint_joined, low_low, high_high, low_high, low_joined, high_joined, joined_joined}
use Rattle.submission_laws.proofs.Worlds.{OneOf, spender, maker, each_passes, won_spends, won_makes, unspent_is, is_unspent}
use Rattle.submission_laws.proofs.Sets.{Once, once_both, once_range, no_longer, has_in, in_has, set_once, distinct_once}
use Rattle.submission_laws.proofs.Committed.{is_committed}
use Rattle.submission_laws.proofs.FirstFile.{in_map, one_in, kept_first, split_confirmed, split_sent}
use Rattle.submission_laws.proofs.SecondFile.{two_in, zero_or, join_confirmed, join_sent}
use Rattle.submission_laws.proofs.Books.{AllFrom, book_from, handed_in, no_more_entries, no_fewer_entries, genesis_worth, genesis_total}
use Rattle.submission_laws.proofs.MoneyAlone.{MovesNone, split_moves, join_moves, none_issued, none_redeemed, mint_money}

from_map : {A B : Type 0} (f : A → B) (y : B) (xs : List A) → In y (map f xs) → (x : A) × In x xs × (y ≡ f x)
from_map f y [] h = absurd h
from_map f y (x ∷ xs) (inl e) = (x, inl refl, e)
from_map f y (x ∷ xs) (inr h) = let r = from_map f y xs h in (r.0, inr r.1, r.2)

-- ---- the hashes that are left

module _ (seed n : ℕ) where
  abbrev a : ℕ
  a = minted_of n

  abbrev b : ℕ
  b = joined_of n

  abbrev lows : {A : Type 0} → (Coin → A) → List A
  lows f = map (λ i. f (low_coin seed n i)) (range_with_len (joined_of n) (minted_of n - joined_of n))

  abbrev highs : {A : Type 0} → (Coin → A) → List A
  highs f = map (λ i. f (high_coin seed n i)) (range_with_len (joined_of n) (minted_of n - joined_of n))

  abbrev joins : {A : Type 0} → (Coin → A) → List A
  joins f = map (λ i. f (join_coin seed n i)) (range_with_len 0 (joined_of n))

  -- something of each coin that is left
  abbrev left : {A : Type 0} → (Coin → A) → List A
  left f = map (λ i. f (low_coin seed n i)) (range_with_len (joined_of n) (minted_of n - joined_of n))
      ++ (map (λ i. f (high_coin seed n i)) (range_with_len (joined_of n) (minted_of n - joined_of n))
      ++ map (λ i. f (join_coin seed n i)) (range_with_len 0 (joined_of n)))

  left_long : {A : Type 0} (f : Coin → A) → length (left f) ≡ left_of n
  left_long f =
      let p = length-append (lows f) (highs f ++ joins f) in
      let q = length-append (highs f) (joins f) in
      let l = length-map-range_with_len (λ i. f (low_coin seed n i)) (joined_of n) (minted_of n - joined_of n) in
      let h = length-map-range_with_len (λ i. f (high_coin seed n i)) (joined_of n) (minted_of n - joined_of n) in
      let j = length-map-range_with_len (λ i. f (join_coin seed n i)) 0 (joined_of n) in
      let few = fewer seed n in
      omega (arith, p, q, l, h, j, few)

  -- a coin that is left
  pub data IsLeft {A : Type 0} (f : Coin → A) (x : A) : Type 0 where
    is_low : (i : ℕ) → joined_of n ≤ i → i < minted_of n → x ≡ f (low_coin seed n i) → IsLeft f x
    is_high : (i : ℕ) → joined_of n ≤ i → i < minted_of n → x ≡ f (high_coin seed n i) → IsLeft f x
    is_joined : (i : ℕ) → i < joined_of n → x ≡ f (join_coin seed n i) → IsLeft f x

  in_left_list : {A : Type 0} (f : Coin → A) (x : A) → IsLeft f x → In x (left f)
  in_left_list f x (is_low i from low e) =
      in_left x (lows f) (highs f ++ joins f) (subst (λ y. In y (lows f)) (sym e)
      (in_range (λ i. f (low_coin seed n i)) (minted_of n - joined_of n) (joined_of n) i from (omega (arith, low))))
  in_left_list f x (is_high i from low e) =
      in_right x (lows f) (highs f ++ joins f)
      (in_left x (highs f) (joins f) (subst (λ y. In y (highs f)) (sym e)
      (in_range (λ i. f (high_coin seed n i)) (minted_of n - joined_of n) (joined_of n) i from (omega (arith, low)))))
  in_left_list f x (is_joined i low e) =
      in_right x (lows f) (highs f ++ joins f)
      (in_right x (highs f) (joins f) (subst (λ y. In y (joins f)) (sym e)
      (in_range (λ i. f (join_coin seed n i)) (joined_of n) 0 i (omega arith) (omega (arith, low)))))

  from_left_list : {A : Type 0} (f : Coin → A) (x : A) → In x (left f) → IsLeft f x
  from_left_list f x h = elim (in_both x (lows f) (highs f ++ joins f) h) [
    | inl l ↦
        let r : From (λ i. f (low_coin seed n i)) (minted_of n - joined_of n) (joined_of n) x =
        from_range (λ i. f (low_coin seed n i)) (minted_of n - joined_of n) (joined_of n) x l in
        let high = r.high in
        let few = fewer seed n in
        is_low r.number r.low (omega (arith, high, few)) r.is
    | inr g ↦ elim (in_both x (highs f) (joins f) g) [
      | inl m ↦
          let r : From (λ i. f (high_coin seed n i)) (minted_of n - joined_of n) (joined_of n) x =
          from_range (λ i. f (high_coin seed n i)) (minted_of n - joined_of n) (joined_of n) x m in
          let high = r.high in
          let few = fewer seed n in
          is_high r.number r.low (omega (arith, high, few)) r.is
      | inr j ↦
          let r : From (λ i. f (join_coin seed n i)) (joined_of n) 0 x = from_range (λ i. f (join_coin seed n i)) (joined_of n) 0 x j in
          let high = r.high in
          is_joined r.number (omega (arith, high)) r.is
    ]
  ]

  -- what tells coins apart tells those that are left apart
  record TellsApart {A : Type 0} (f : Coin → A) : Type 0 where
    lows_apart : (i j : ℕ) → i < minted_of n → j < minted_of n → f (low_coin seed n i) ≡ f (low_coin seed n j) → i ≡ j
    highs_apart : (i j : ℕ) → i < minted_of n → j < minted_of n → f (high_coin seed n i) ≡ f (high_coin seed n j) → i ≡ j
    joins_apart : (i j : ℕ) → i < joined_of n → j < joined_of n → f (join_coin seed n i) ≡ f (join_coin seed n j) → i ≡ j
    low_high_apart : (i j : ℕ) → i < minted_of n → j < minted_of n → f (low_coin seed n i) ≡ f (high_coin seed n j) → ⊥
    low_join_apart : (i j : ℕ) → i < minted_of n → j < joined_of n → f (low_coin seed n i) ≡ f (join_coin seed n j) → ⊥
    high_join_apart : (i j : ℕ) → i < minted_of n → j < joined_of n → f (high_coin seed n i) ≡ f (join_coin seed n j) → ⊥

  left_once : {A : Type 0} (f : Coin → A) → TellsApart f → Once (left f)
  left_once {A = A} f t =
      let few = fewer seed n in
      once_both (lows f) (highs f ++ joins f)
      (once_range (λ i. f (low_coin seed n i)) (minted_of n - joined_of n) (joined_of n) (minted_of n) (omega (arith, few)) t.lows_apart)
      (once_both (highs f) (joins f)
      (once_range (λ i. f (high_coin seed n i)) (minted_of n - joined_of n) (joined_of n) (minted_of n) (omega (arith, few)) t.highs_apart)
      (once_range (λ i. f (join_coin seed n i)) (joined_of n) 0 (joined_of n) (omega arith) t.joins_apart)
      (λ x h g. high_or_join x (of_highs x h) (of_joins x g)))
      (λ x h g. elim (in_both x (highs f) (joins f) g)
      [ inl m ↦ low_or_high x (of_lows x h) (of_highs x m) | inr j ↦ low_or_join x (of_lows x h) (of_joins x j) ])
    where
      of_lows : (x : A) → In x (lows f) → (i : ℕ) × (i < minted_of n) × (x ≡ f (low_coin seed n i))
      of_lows x h =
          let r : From (λ i. f (low_coin seed n i)) (minted_of n - joined_of n) (joined_of n) x =
          from_range (λ i. f (low_coin seed n i)) (minted_of n - joined_of n) (joined_of n) x h in
          (r.number, (let high = r.high in let few = fewer seed n in omega (arith, high, few)), r.is)

      of_highs : (x : A) → In x (highs f) → (i : ℕ) × (i < minted_of n) × (x ≡ f (high_coin seed n i))
      of_highs x h =
          let r : From (λ i. f (high_coin seed n i)) (minted_of n - joined_of n) (joined_of n) x =
          from_range (λ i. f (high_coin seed n i)) (minted_of n - joined_of n) (joined_of n) x h in
          (r.number, (let high = r.high in let few = fewer seed n in omega (arith, high, few)), r.is)

      of_joins : (x : A) → In x (joins f) → (i : ℕ) × (i < joined_of n) × (x ≡ f (join_coin seed n i))
      of_joins x h =
          let r : From (λ i. f (join_coin seed n i)) (joined_of n) 0 x = from_range (λ i. f (join_coin seed n i)) (joined_of n) 0 x h in
          (r.number, (let high = r.high in omega (arith, high)), r.is)

      high_or_join : (x : A) → (i : ℕ) × (i < minted_of n) × (x ≡ f (high_coin seed n i))
          → (j : ℕ) × (j < joined_of n) × (x ≡ f (join_coin seed n j)) → ⊥
      high_or_join x (i, low, e) (j, low', g) = t.high_join_apart i j low low' (sym e ∙ g)

      low_or_high : (x : A) → (i : ℕ) × (i < minted_of n) × (x ≡ f (low_coin seed n i)) → (j : ℕ) × (j < minted_of n) × (x ≡ f (high_coin seed n j))
          → ⊥
      low_or_high x (i, low, e) (j, low', g) = t.low_high_apart i j low low' (sym e ∙ g)

      low_or_join : (x : A) → (i : ℕ) × (i < minted_of n) × (x ≡ f (low_coin seed n i)) → (j : ℕ) × (j < joined_of n) × (x ≡ f (join_coin seed n j))
          → ⊥
      low_or_join x (i, low, e) (j, low', g) = t.low_join_apart i j low low' (sym e ∙ g)

-- ---- by what is committed

each_in : (P : Compact → Type 0) (ks : List Compact) (k : Compact) → Each P ks → In k ks → P k
each_in P [] k each h = absurd h
each_in P (l ∷ ks) k each (inl e) = subst P (sym e) each.0
each_in P (l ∷ ks) k each (inr h) = each_in P ks k each.1 h

all_after : (K : Shape) (mint : List Output) (submissions : List FullTx) (later : List Row) → IsKept K mint submissions later
    → AllAfter K (minted mint) later
all_after K mint submissions [] kept = tt
all_after K mint submissions (row ∷ later) kept = (kept.0, all_after K mint submissions later kept.3)

same_coin : (c d : Coin) → key c.point ≡ key d.point → c.output ≡ d.output → c ≡ d
same_coin c d p o =
    let t : c.point.tx ≡ d.point.tx = cc in
    let i : c.point.index ≡ d.point.index = cc in
    λ j. record { point = record { tx = t j; index = i j }; output = o j }

tails : (i j : ℕ) (x y : Digest) → i ∷ x ≡ j ∷ y → x ≡ y
tails i j x y e = cc

heads : (i j : ℕ) (x y : Digest) → i ∷ x ≡ j ∷ y → i ≡ j
heads i j x y e = cc

module _ (K : Shape) (seed n : ℕ) (some : 0 < K.shards) (lanes : 0 < K.lanes) (some_lane : 0 < K.coordinators * K.lanes)
    (clean : Clean (mint_of seed n) (all_submissions seed n))
    (X : ℕ → List Record) (kept : KeptJournals K (mint_of seed n) (all_submissions seed n) X)
    (waves : Waves K (sound_by all_good) (files_of seed n) (made_for K seed n) X) where
  abbrev E : ℕ → List Record
  E = made_for K seed n

  abbrev mint : List Output
  mint = mint_of seed n

  abbrev all : List FullTx
  all = all_submissions seed n

  idle : AreIdle K X
  idle = subst (λ J. AreIdle K J) (λ i node. sym (waves.2.2.2 node) i) waves.2.2.1.idle

  headline : Headline K (mint_of seed n) (all_submissions seed n) X
  headline = idle_law K (mint_of seed n) (all_submissions seed n) X some lanes clean kept idle

  abbrev later : List Row
  later = headline.later

  abbrev past : List Row
  past = history_of K (mint_of seed n) headline.later

  kept_rows : IsKept K (mint_of seed n) (all_submissions seed n) headline.later
  kept_rows = subst (IsKept K (mint_of seed n) (all_submissions seed n))
      (one_history_law K (minted (mint_of seed n)) X kept.later headline.later kept.history headline.history) kept.kept

  rows : Steady K (minted (mint_of seed n)) (IsProperCompact (all_submissions seed n)) headline.later
  rows = steady K (minted (mint_of seed n)) (IsProperCompact (all_submissions seed n)) headline.later kept_rows

  rows_are : (node : ℕ) → journal node (history_of K (mint_of seed n) headline.later) ≡ X node
  rows_are node = headline.history.journals_are node

  idle_rows : AreIdle K (λ node. journal node (history_of K (mint_of seed n) headline.later))
  idle_rows = subst (λ J. AreIdle K J) (λ i node. sym (rows_are node) i) idle

  settled : AreSettled K all_good (files_of seed n) (made_for K seed n) X
  settled = settled_law K (mint_of seed n) (all_submissions seed n) all_good (files_of seed n) (made_for K seed n) X some some_lane
      (kept_first K seed n some lanes some_lane clean (all_submissions seed n)) kept waves

  each : Each (IsProperCompact (all_submissions seed n)) (committed (history_of K (mint_of seed n) headline.later))
  each = each_passes K (mint_of seed n) (all_submissions seed n) clean some lanes headline.later rows

  -- each transaction is committed
  abbrev Won : FullTx → Type 0
  Won t = (batch : Batch) × In (compact t) (won_of K (history_of K (mint_of seed n) headline.later) batch)

  split_won : (i : ℕ) → i < minted_of n → Won (split seed n i)
  split_won i low =
      let it = split_sent K seed n some lanes some_lane clean (joins_of seed n ∷ []) i low in
      let s = settled.each 0 i (split seed n i) it in (
        s.place.batch,
        is_committed K all_good (files_of seed n) (made_for K seed n) X (history_of K (mint_of seed n) headline.later) 0 i (split seed n i) it
            rows_are s
            (split_confirmed K seed n some lanes some_lane clean (joins_of seed n ∷ []) X kept waves i (split seed n i) it),
      )

  join_won : (i : ℕ) → i < joined_of n → Won (join seed n i)
  join_won i low =
      let it = join_sent K seed n some lanes some_lane clean X kept waves i low in
      let s = settled.each 1 i (join seed n i) it in (
        s.place.batch,
        is_committed K all_good (files_of seed n) (made_for K seed n) X (history_of K (mint_of seed n) headline.later) 1 i (join seed n i) it
            rows_are s
            (join_confirmed K seed n some lanes some_lane clean X kept waves i (join seed n i) it),
      )

  abbrev spent : Digest → ℕ
  spent x = count x (all_inputs (committed (history_of K (mint_of seed n) headline.later)))

  abbrev made : Digest → ℕ
  made x = count x (all_outputs (committed (history_of K (mint_of seed n) headline.later)))

  spends : (t : FullTx) (x : Digest) → Won t → In x (compact t).inputs → 0 < spent x
  spends t x w h = won_spends K (mint_of seed n) (all_submissions seed n) clean some lanes headline.later rows w.0 (compact t) x w.1 h

  makes : (t : FullTx) (x : Digest) → Won t → In x (compact t).outputs → 0 < made x
  makes t x w h = won_makes K (mint_of seed n) (all_submissions seed n) clean some lanes headline.later rows w.0 (compact t) x w.1 h

  -- and nothing else is: what spends a hash, and what makes it
  data SpentBy (x : Digest) (k : Compact) : Type 0 where
    by_split : (i : ℕ) → i < minted_of n → k ≡ compact (split seed n i) → x ≡ coin_hash (mint_coin seed n i) → SpentBy x k
    by_join : (i : ℕ) → i < joined_of n → k ≡ compact (join seed n i) → (x ≡ coin_hash (low_coin seed n i)) ⊎ (x ≡ coin_hash (high_coin seed n i))
        → SpentBy x k

  data MadeBy (x : Digest) : Type 0 where
    made_by_split : (i : ℕ) → i < minted_of n → (x ≡ coin_hash (low_coin seed n i)) ⊎ (x ≡ coin_hash (high_coin seed n i)) → MadeBy x
    made_by_join : (i : ℕ) → i < joined_of n → x ≡ coin_hash (join_coin seed n i) → MadeBy x

  spent_as : (x : Digest) (k : Compact) → IsProperCompact (all_submissions seed n) k → In x k.inputs → SpentBy x k
  spent_as x k (t, there, proper, is) h = go (one_of seed n t (in_contains (all_submissions seed n) t there))
    where
      go : IsOne seed n t → SpentBy x k
      go (is_split i low e) = by_split i low (sym is ∙ ap compact e)
          (one_in x (coin_hash (mint_coin seed n i)) (subst (λ c. In x c.inputs) (sym is ∙ ap compact e) h))
      go (is_join i low e) = by_join i low (sym is ∙ ap compact e)
          (two_in x (coin_hash (low_coin seed n i)) (coin_hash (high_coin seed n i)) (subst (λ c. In x c.inputs) (sym is ∙ ap compact e) h))

  made_as : (x : Digest) (k : Compact) → IsProperCompact (all_submissions seed n) k → In x k.outputs → MadeBy x
  made_as x k (t, there, proper, is) h = go (one_of seed n t (in_contains (all_submissions seed n) t there))
    where
      go : IsOne seed n t → MadeBy x
      go (is_split i low e) = made_by_split i low
          (two_in x (coin_hash (low_coin seed n i)) (coin_hash (high_coin seed n i)) (subst (λ c. In x c.outputs) (sym is ∙ ap compact e) h))
      go (is_join i low e) = made_by_join i low (one_in x (coin_hash (join_coin seed n i)) (subst (λ c. In x c.outputs) (sym is ∙ ap compact e) h))

  spender_of : (x : Digest) → 0 < spent x → (k : Compact) × In k (committed (history_of K (mint_of seed n) headline.later)) × SpentBy x k
  spender_of x some_spent =
      let o : OneOf (IsProperCompact (all_submissions seed n)) (committed (history_of K (mint_of seed n) headline.later)) x (λ k. k.inputs)
      = spender (IsProperCompact (all_submissions seed n)) (committed (history_of K (mint_of seed n) headline.later)) x each some_spent in
      (o.form, o.inside, spent_as x o.form o.passes o.has_it)

  maker_of : (x : Digest) → 0 < made x → MadeBy x
  maker_of x some_made =
      let o : OneOf (IsProperCompact (all_submissions seed n)) (committed (history_of K (mint_of seed n) headline.later)) x (λ k. k.outputs)
      = maker (IsProperCompact (all_submissions seed n)) (committed (history_of K (mint_of seed n) headline.later)) x each some_made in
      made_as x o.form o.passes o.has_it

  -- ---- what is unspent

  low_left : (i : ℕ) → i < minted_of n → spent (coin_hash (low_coin seed n i)) ≡ 0 → joined_of n ≤ i
  low_left i low none = elim (cases_lt i (joined_of n)) [
    | inl joined ↦ absurd (let s = spends (join seed n i) (coin_hash (low_coin seed n i)) (join_won i joined) (inl refl) in omega (arith, s, none))
    | inr from ↦ from
  ]

  high_left : (i : ℕ) → i < minted_of n → spent (coin_hash (high_coin seed n i)) ≡ 0 → joined_of n ≤ i
  high_left i low none = elim (cases_lt i (joined_of n)) [
    | inl joined ↦ absurd (let s = spends (join seed n i) (coin_hash (high_coin seed n i)) (join_won i joined) (inr (inl refl)) in
        omega (arith, s, none))
    | inr from ↦ from
  ]

  left_by : (x : Digest) → MadeBy x → spent x ≡ 0 → IsLeft seed n coin_hash x
  left_by x (made_by_split i low (inl e)) none = is_low i (low_left i low (subst (λ y. spent y ≡ 0) e none)) low e
  left_by x (made_by_split i low (inr e)) none = is_high i (high_left i low (subst (λ y. spent y ≡ 0) e none)) low e
  left_by x (made_by_join i low e) none = is_joined i low e

  some_of : (p q : ℕ) → 0 < p + q → (0 < p) ⊎ (0 < q)
  some_of zero q h = inr (omega (arith, h))
  some_of (suc p) q h = inl (omega arith)

  unspent_left : (x : Digest) → IsUnspent K X x → IsLeft seed n coin_hash x
  unspent_left x u =
      let facts = unspent_is K (mint_of seed n) (all_submissions seed n) clean some lanes headline.later rows x
      (ap (λ L. status L x) (rows_are (shard_node K (shard_of K x))) ∙ u) in
      elim (some_of (count x (genesis_hashes (mint_of seed n))) (made x) facts.0) [
        | inl minted ↦
            let c = from_map coin_hash x (tx_coins (genesis_tx (mint_of seed n))) (count_in x (genesis_hashes (mint_of seed n)) minted) in
            let m = from_mint seed n c.0 c.1 in
            let is : x ≡ coin_hash (mint_coin seed n m.0) = c.2 ∙ ap coin_hash m.2 in
            absurd (let s = spends (split seed n m.0) x (split_won m.0 m.1) (inl is) in let none = facts.1 in omega (arith, s, none))
        | inr by ↦ left_by x (maker_of x by) facts.1
      ]

  -- nothing spends what is left
  not_spent : (x : Digest) (k : Compact) → IsLeft seed n coin_hash x → SpentBy x k → ⊥
  not_spent x k (is_low i from low e) (by_split j low' is f) = mint_low seed n clean j i low' low (sym f ∙ e)
  not_spent x k (is_low i from low e) (by_join j low' is (inl f)) =
      let few = fewer seed n in
      let same = low_low seed n clean i j low (omega (arith, low', few)) (sym e ∙ f) in
      omega (arith, from, low', same)
  not_spent x k (is_low i from low e) (by_join j low' is (inr f)) = let few = fewer seed n in
      low_high seed n clean i j low (omega (arith, low', few)) (sym e ∙ f)
  not_spent x k (is_high i from low e) (by_split j low' is f) = mint_high seed n clean j i low' low (sym f ∙ e)
  not_spent x k (is_high i from low e) (by_join j low' is (inl f)) = let few = fewer seed n in
      low_high seed n clean j i (omega (arith, low', few)) low (sym f ∙ e)
  not_spent x k (is_high i from low e) (by_join j low' is (inr f)) =
      let few = fewer seed n in
      let same = high_high seed n clean i j low (omega (arith, low', few)) (sym e ∙ f) in
      omega (arith, from, low', same)
  not_spent x k (is_joined i low e) (by_split j low' is f) = mint_joined seed n clean j i low' low (sym f ∙ e)
  not_spent x k (is_joined i low e) (by_join j low' is (inl f)) = let few = fewer seed n in
      low_joined seed n clean j i (omega (arith, low', few)) low (sym f ∙ e)
  not_spent x k (is_joined i low e) (by_join j low' is (inr f)) = let few = fewer seed n in
      high_joined seed n clean j i (omega (arith, low', few)) low (sym f ∙ e)

  left_made : (x : Digest) → IsLeft seed n coin_hash x → 0 < made x
  left_made x (is_low i from low e) = makes (split seed n i) x (split_won i low) (inl e)
  left_made x (is_high i from low e) = makes (split seed n i) x (split_won i low) (inr (inl e))
  left_made x (is_joined i low e) = makes (join seed n i) x (join_won i low) (inl e)

  left_unspent : (x : Digest) → IsLeft seed n coin_hash x → IsUnspent K X x
  left_unspent x l =
      let by = left_made x l in
      ap (λ L. status L x) (sym (rows_are (shard_node K (shard_of K x))))
      ∙ is_unspent K (mint_of seed n) (all_submissions seed n) clean some lanes headline.later rows idle_rows x (omega (arith, by))
      (zero_or (spent x) (λ s. let o = spender_of x s in not_spent x o.0 l o.2))

  hashes_apart : TellsApart seed n coin_hash
  hashes_apart = record {
    lows_apart = low_low seed n clean;
    highs_apart = high_high seed n clean;
    joins_apart = joined_joined seed n clean;
    low_high_apart = low_high seed n clean;
    low_join_apart = low_joined seed n clean;
    high_join_apart = high_joined seed n clean;
  }

  pub unspent_many : (m : ℕ) → IsUnspentCount K X m → m ≡ left_of n
  unspent_many m counted =
      let up = no_longer counted.hashes (left seed n coin_hash) (set_once counted.hashes counted.once)
      (λ x h. in_left_list seed n coin_hash x (unspent_left x ((counted.all x).0 (in_has x counted.hashes h)))) in
      let down = no_longer (left seed n coin_hash) counted.hashes (left_once seed n coin_hash hashes_apart)
      (λ x h. has_in x counted.hashes ((counted.all x).1 (left_unspent x (from_left_list seed n coin_hash x h)))) in
      let long = left_long seed n coin_hash in
      let is = counted.count in
      omega (arith, up, down, long, is)

  -- ---- how many are committed

  abbrev splits_ids : List Digest
  splits_ids = map (λ i. tx_id (split seed n i)) (range_with_len 0 (minted_of n))

  abbrev joins_ids : List Digest
  joins_ids = map (λ i. tx_id (join seed n i)) (range_with_len 0 (joined_of n))

  abbrev ids : List Digest
  ids = map (λ k. k.id) (committed (history_of K (mint_of seed n) headline.later))

  split_id : (id : Digest) → In id splits_ids → (i : ℕ) × (i < minted_of n) × (id ≡ tx_id (split seed n i))
  split_id id h =
      let r : From (λ i. tx_id (split seed n i)) (minted_of n) 0 id = from_range (λ i. tx_id (split seed n i)) (minted_of n) 0 id h in
      (r.number, (let high = r.high in omega (arith, high)), r.is)

  join_id : (id : Digest) → In id joins_ids → (i : ℕ) × (i < joined_of n) × (id ≡ tx_id (join seed n i))
  join_id id h =
      let r : From (λ i. tx_id (join seed n i)) (joined_of n) 0 id = from_range (λ i. tx_id (join seed n i)) (joined_of n) 0 id h in
      (r.number, (let high = r.high in omega (arith, high)), r.is)

  all_once : Once (splits_ids ++ joins_ids)
  all_once =
      once_both splits_ids joins_ids
      (once_range (λ i. tx_id (split seed n i)) (minted_of n) 0 (minted_of n) (omega arith) (same_split seed n clean))
      (once_range (λ i. tx_id (join seed n i)) (joined_of n) 0 (joined_of n) (omega arith) (same_join seed n clean))
      (λ id h g. (let s = split_id id h in let j = join_id id g in apart_ids seed n clean s.0 j.0 s.1 j.1 (sym s.2 ∙ j.2)))

  all_long : length (splits_ids ++ joins_ids) ≡ n
  all_long =
      let p = length-append splits_ids joins_ids in
      let s = length-map-range_with_len (λ i. tx_id (split seed n i)) 0 (minted_of n) in
      let j = length-map-range_with_len (λ i. tx_id (join seed n i)) 0 (joined_of n) in
      omega (arith, p, s, j)

  id_among : (k : Compact) → IsProperCompact (all_submissions seed n) k → In k.id (splits_ids ++ joins_ids)
  id_among k (t, there, proper, is) = go (one_of seed n t (in_contains (all_submissions seed n) t there))
    where
      go : IsOne seed n t → In k.id (splits_ids ++ joins_ids)
      go (is_split i low e) =
          subst (λ id. In id (splits_ids ++ joins_ids)) (sym (ap (λ c. c.id) (sym is ∙ ap compact e)))
          (in_left (tx_id (split seed n i)) splits_ids joins_ids
          (in_range (λ i. tx_id (split seed n i)) (minted_of n) 0 i (omega arith) (omega (arith, low))))
      go (is_join i low e) =
          subst (λ id. In id (splits_ids ++ joins_ids)) (sym (ap (λ c. c.id) (sym is ∙ ap compact e)))
          (in_right (tx_id (join seed n i)) splits_ids joins_ids
          (in_range (λ i. tx_id (join seed n i)) (joined_of n) 0 i (omega arith) (omega (arith, low))))

  -- the one that spends its first input
  split_there_too : (i : ℕ) → i < minted_of n → In (tx_id (split seed n i)) ids
  split_there_too i low =
      let o = spender_of (coin_hash (mint_coin seed n i)) (spends (split seed n i) (coin_hash (mint_coin seed n i)) (split_won i low) (inl refl)) in
      subst (λ id. In id ids) (by o.0 o.2) (in_map (λ k. k.id) o.0 (committed (history_of K (mint_of seed n) headline.later)) o.1)
    where
      by : (k : Compact) → SpentBy (coin_hash (mint_coin seed n i)) k → k.id ≡ tx_id (split seed n i)
      by k (by_split j low' is f) = ap (λ c. c.id) is ∙ ap (λ m. tx_id (split seed n m)) (sym (mint_mint seed n clean i j low low' f))
      by k (by_join j low' is (inl f)) = let few = fewer seed n in absurd (mint_low seed n clean i j low (omega (arith, low', few)) f)
      by k (by_join j low' is (inr f)) = let few = fewer seed n in absurd (mint_high seed n clean i j low (omega (arith, low', few)) f)

  join_there_too : (i : ℕ) → i < joined_of n → In (tx_id (join seed n i)) ids
  join_there_too i low =
      let o = spender_of (coin_hash (low_coin seed n i)) (spends (join seed n i) (coin_hash (low_coin seed n i)) (join_won i low) (inl refl)) in
      subst (λ id. In id ids) (by o.0 o.2) (in_map (λ k. k.id) o.0 (committed (history_of K (mint_of seed n) headline.later)) o.1)
    where
      by : (k : Compact) → SpentBy (coin_hash (low_coin seed n i)) k → k.id ≡ tx_id (join seed n i)
      by k (by_split j low' is f) = let few = fewer seed n in absurd (mint_low seed n clean j i low' (omega (arith, low, few)) (sym f))
      by k (by_join j low' is (inl f)) =
          let few = fewer seed n in
          ap (λ c. c.id) is ∙ ap (λ m. tx_id (join seed n m)) (sym (low_low seed n clean i j (omega (arith, low, few)) (omega (arith, low', few)) f))
      by k (by_join j low' is (inr f)) = let few = fewer seed n in
          absurd (low_high seed n clean i j (omega (arith, low, few)) (omega (arith, low', few)) f)

  committed_many : length (committed (history_of K (mint_of seed n) headline.later)) ≡ n
  committed_many =
      let up = no_longer ids (splits_ids ++ joins_ids) (distinct_once ids headline.no_id_twice) (λ id h.
      let k = from_map (λ c. c.id) id (committed (history_of K (mint_of seed n) headline.later)) h in
      subst (λ j. In j (splits_ids ++ joins_ids)) (sym k.2)
      (id_among k.0 (each_in (IsProperCompact (all_submissions seed n)) (committed (history_of K (mint_of seed n) headline.later)) k.0 each
      k.1))) in
      let down = no_longer (splits_ids ++ joins_ids) ids all_once (λ id h. elim (in_both id splits_ids joins_ids h) [
        | inl l ↦ let s = split_id id l in subst (λ j. In j ids) (sym s.2) (split_there_too s.0 s.1)
        | inr r ↦ let s = join_id id r in subst (λ j. In j ids) (sym s.2) (join_there_too s.0 s.1)
      ]) in
      let long = all_long in
      let same = length-map (committed (history_of K (mint_of seed n) headline.later)) (λ k. k.id) in
      omega (arith, up, down, long, same)

  -- ---- what the last book has

  abbrev Named : Coin → Type 0
  Named = IsNamed (mint_of seed n) (all_submissions seed n)

  from : AllFrom (IsNamed (mint_of seed n) (all_submissions seed n)) headline.book
  from =
      book_from (IsNamed (mint_of seed n) (all_submissions seed n)) (mint_of seed n) headline.txs headline.book
      (λ c h. (genesis_tx (mint_of seed n), inl refl, inr (contains_in (tx_coins (genesis_tx (mint_of seed n))) c h)))
      (λ t h c g. (
        t,
        inr (contains_in (all_submissions seed n) t
            (handed_in (all_submissions seed n) (committed (history_of K (mint_of seed n) headline.later)) headline.txs headline.committed t h)),
        inr (contains_in (tx_coins t) c g),
      ))
      headline.folds

  abbrev point : Coin → List ℕ
  point c = key c.point

  -- a coin with the hash of one that is left is that one
  left_point : (c : Coin) → IsNamed (mint_of seed n) (all_submissions seed n) c → IsLeft seed n coin_hash (coin_hash c)
      → IsLeft seed n (λ c. key c.point) (key c.point)
  left_point c named (is_low i from low e) = is_low i from low
      (ap (λ d. key d.point) (clean.hashes c (low_coin seed n i) named (low_named seed n clean i low) e))
  left_point c named (is_high i from low e) = is_high i from low
      (ap (λ d. key d.point) (clean.hashes c (high_coin seed n i) named (high_named seed n clean i low) e))
  left_point c named (is_joined i low e) = is_joined i low
      (ap (λ d. key d.point) (clean.hashes c (join_coin seed n i) named (join_named seed n clean i low) e))

  in_the_book : (q : List ℕ) (o : Output) → book.get headline.book q ≡ Some o → In q (left seed n (λ c. key c.point))
  in_the_book q o e =
      let c = from q o e in
      let here : book.get headline.book (key c.0.point) ≡ Some c.0.output = ap (book.get headline.book) (sym c.2) ∙ e ∙ ap (λ p. Some p) c.3 in
      let l = unspent_left (coin_hash c.0) ((headline.unspent (coin_hash c.0)).1 (c.0, here, refl)) in
      in_left_list seed n (λ c. key c.point) q (subst (λ r. IsLeft seed n (λ c. key c.point) r) (sym c.2) (left_point c.0 c.1 l))

  -- a named coin whose hash is unspent is in the book
  has_coin : (c : Coin) → IsNamed (mint_of seed n) (all_submissions seed n) c → IsUnspent K X (coin_hash c)
      → (o : Output) × (book.get headline.book (key c.point) ≡ Some o)
  has_coin c named u =
      let d = (headline.unspent (coin_hash c)).0 u in
      let f = from (key d.0.point) d.0.output d.1 in
      let same : d.0 ≡ c = same_coin d.0 f.0 f.2 f.3 ∙ clean.hashes f.0 c f.1 named (ap coin_hash (sym (same_coin d.0 f.0 f.2 f.3)) ∙ d.2) in
      (d.0.output, ap (λ e. book.get headline.book (key e.point)) (sym same) ∙ d.1)

  has_left : (q : List ℕ) → IsLeft seed n (λ c. key c.point) q → (o : Output) × (book.get headline.book q ≡ Some o)
  has_left q (is_low i from low e) =
      subst (λ r. (o : Output) × (book.get headline.book r ≡ Some o)) (sym e)
      (has_coin (low_coin seed n i) (low_named seed n clean i low) (left_unspent (coin_hash (low_coin seed n i)) (is_low i from low refl)))
  has_left q (is_high i from low e) =
      subst (λ r. (o : Output) × (book.get headline.book r ≡ Some o)) (sym e)
      (has_coin (high_coin seed n i) (high_named seed n clean i low) (left_unspent (coin_hash (high_coin seed n i)) (is_high i from low refl)))
  has_left q (is_joined i low e) =
      subst (λ r. (o : Output) × (book.get headline.book r ≡ Some o)) (sym e)
      (has_coin (join_coin seed n i) (join_named seed n clean i low) (left_unspent (coin_hash (join_coin seed n i)) (is_joined i low refl)))

  points_apart : TellsApart seed n (λ c. key c.point)
  points_apart = record {
    lows_apart = λ i j low low' e. same_split seed n clean i j low low' (tails 0 0 (tx_id (split seed n i)) (tx_id (split seed n j)) e);
    highs_apart = λ i j low low' e. same_split seed n clean i j low low' (tails 1 1 (tx_id (split seed n i)) (tx_id (split seed n j)) e);
    joins_apart = λ i j low low' e. same_join seed n clean i j low low' (tails 0 0 (tx_id (join seed n i)) (tx_id (join seed n j)) e);
    low_high_apart = λ i j low low' e. (let z = heads 0 1 (tx_id (split seed n i)) (tx_id (split seed n j)) e in omega (arith, z));
    low_join_apart = λ i j low low' e. apart_ids seed n clean i j low low' (tails 0 0 (tx_id (split seed n i)) (tx_id (join seed n j)) e);
    high_join_apart = λ i j low low' e. (let z = heads 1 0 (tx_id (split seed n i)) (tx_id (join seed n j)) e in omega (arith, z));
  }

  coins_many : book.len headline.book ≡ left_of n
  coins_many =
      let up = no_more_entries (left seed n (λ c. key c.point)) headline.book in_the_book in
      let down = no_fewer_entries (left seed n (λ c. key c.point)) headline.book (left_once seed n (λ c. key c.point) points_apart)
      (λ q h. has_left q (from_left_list seed n (λ c. key c.point) q h)) in
      let long = left_long seed n (λ c. key c.point) in
      omega (arith, up, down, long)

  -- ---- the totals

  moves : (t : FullTx) → In t headline.txs → MovesNone t
  moves t h =
      by_one (one_of seed n t (handed_in (all_submissions seed n) (committed (history_of K (mint_of seed n) headline.later)) headline.txs
      headline.committed t h))
    where
      by_one : IsOne seed n t → MovesNone t
      by_one (is_split i low e) = subst MovesNone (sym e) (split_moves seed n i (genesis_id (mint_of seed n)))
      by_one (is_join i low e) = subst MovesNone (sym e) (join_moves seed n i (tx_id (split_of seed n (genesis_id (mint_of seed n)) i)))

  module _ (told : List Row) (totals : Totals) (are : (node : ℕ) → journal node (reverse told) ≡ X node) (in_order : IsOrdered (reverse told))
      (sound : IsSoundHistory K (mint_of seed n) (all_submissions seed n) told totals) where
    same_rows : reverse told ≡ history_of K (mint_of seed n) headline.later
    same_rows = ordered_rows K (mint_of seed n) X headline.later (reverse told)
        (all_after K (mint_of seed n) (all_submissions seed n) headline.later kept_rows) headline.history in_order are

    same_txs : sound.pass.spent.txs ≡ headline.txs
    same_txs =
        let handed = subst (λ rs. AreHandedIn (all_submissions seed n) (committed rs) sound.pass.spent.txs) same_rows sound.pass.spent.handed_in in
        one_list (all_submissions seed n) (committed (history_of K (mint_of seed n) headline.later)) sound.pass.spent.txs headline.txs handed
        headline.committed

    same_book : sound.book ≡ headline.book
    same_book = one_book sound.book headline.book
        (sym (ap (fold_txs (Some (genesis_book (mint_of seed n)))) (sym same_txs) ∙ sound.pass.spent.folds) ∙ headline.folds)
      where
        one_book : (a b : Book) → Some a ≡ Some b → a ≡ b
        one_book a b e = cc

    pub totals_are : totals ≡ totals_of seed n
    totals_are =
        let coins : totals.coins ≡ left_of n = sound.coins ∙ ap book.len same_book ∙ coins_many in
        let worth : totals.value ≡ value_out (mint_of seed n) =
        sound.value ∙ ap value same_book ∙ headline.value_kept ∙ genesis_worth (mint_of seed n) in
        let issued_none : totals.issued ≡ 0 = sound.issued ∙ ap issued same_txs ∙ none_issued headline.txs moves in
        let redeemed_none : totals.redeemed ≡ 0 = sound.redeemed ∙ ap redeemed same_txs ∙ none_redeemed headline.txs moves in
        let minted_money : money (genesis_book (mint_of seed n)) ≡ value_out (mint_of seed n) =
        genesis_total money_of (mint_of seed n) ∙ mint_money seed n in
        let money_is : totals.money ≡ value_out (mint_of seed n) =
        sound.money ∙ ap money same_book ∙ all_money (none_issued headline.txs moves) (none_redeemed headline.txs moves) minted_money in
        let many : totals.committed ≡ n = sound.committed ∙ ap (λ rs. length (committed rs)) same_rows ∙ committed_many in
        λ i. record {
          coins = coins i;
          value = worth i;
          minted = sound.minted i;
          committed = many i;
          money = money_is i;
          issued = issued_none i;
          redeemed = redeemed_none i;
        }
      where
        all_money : issued headline.txs ≡ 0 → redeemed headline.txs ≡ 0 → money (genesis_book (mint_of seed n)) ≡ value_out (mint_of seed n)
            → money headline.book ≡ value_out (mint_of seed n)
        all_money i r m = omega (arith, i, r, m, headline.issuance.money_kept)

  -- ---- each is confirmed

  pub confirmed : (k j : ℕ) (t : FullTx) (it : IsSent all_good (files_of seed n) k j t)
      → IsSubmissionConfirmed K all_good (files_of seed n) (made_for K seed n) X k it.file j t
  confirmed zero j t it = split_confirmed K seed n some lanes some_lane clean (joins_of seed n ∷ []) X kept waves j t it
  confirmed (suc zero) j t it = join_confirmed K seed n some lanes some_lane clean X kept waves j t it
  confirmed (suc (suc k)) j t it = absurd (no_file (splits_of seed n) (joins_of seed n) it.file k it.file_is)
    where
      no_file : (f g h : List FullTx) (k : ℕ) → slice_get (f ∷ g ∷ []) (suc (suc k)) ≡ Some h → ⊥
      no_file f g h k e = let z : None ≡ Some h = e in cc

pub whole_law : WholeLaw
whole_law K seed n X some lanes some_lane clean kept waves = record {
  confirmed = confirmed K seed n some lanes some_lane clean X kept waves;
  unspent = unspent_many K seed n some lanes some_lane clean X kept waves;
  totals = totals_are K seed n some lanes some_lane clean X kept waves;
}
