-- The coins of a workload, of which no two share a hash where no hashes clash.
use Rattle.std.proofs.Common.{◌≡◌, inl, inr, ℕ, zero, suc, ◌+◌, ◌*◌, ◌<◌, ◌≤◌, List, [], ◌∷◌, ◌++◌, length, map, refl, ap, ◌∙◌, arith}
use Rattle.std.specs.List.{range_with_len}
use Rattle.std.proofs.lemmas.Bool.{cases_lt}
use Rattle.cbdc_model.specs.Records.{Digest}
use Rattle.cbdc_model.specs.Coins.{Coin, FullTx, coin_hash, tx_id, tx_coins, made_coins, genesis_tx, genesis_id}
use Rattle.cbdc_model.specs.Clean.{IsMember, IsNamed, Clean}
use Rattle.ledger_laws.proofs.Members.{In, in_contains, contains_in}
use Rattle.workload.specs.Generator.{coin, coin_value, program, mint_of, minted_of, joined_of, splits_of, joins_of, split_of, join_of, low_half}
use Rattle.workload.specs.Generator.{high_half}
use Rattle.submission_laws.specs.Files.{all_submissions}
use Rattle.submission_laws.proofs.Ranges.{in_left, in_right, in_both, in_range, From, from_range}

module _ (seed n : ℕ) where
  abbrev pub genesis : Digest
  genesis = genesis_id (mint_of seed n)

  -- the transactions
  abbrev pub split : ℕ → FullTx
  split i = split_of seed n (genesis_id (mint_of seed n)) i

  abbrev pub join : ℕ → FullTx
  join i = join_of seed n (genesis_id (mint_of seed n)) i

  -- a coin of the mint, the two that its split makes, and the one that joins them
  abbrev pub mint_coin : ℕ → Coin
  mint_coin i = record { point = record { tx = genesis_id (mint_of seed n); index = i }; output = coin seed i }

  abbrev pub low_coin : ℕ → Coin
  low_coin i = record { point = record { tx = tx_id (split_of seed n (genesis_id (mint_of seed n)) i); index = 0 }; output = low_half seed n i }

  abbrev pub high_coin : ℕ → Coin
  high_coin i = record { point = record { tx = tx_id (split_of seed n (genesis_id (mint_of seed n)) i); index = 1 }; output = high_half seed n i }

  abbrev pub join_coin : ℕ → Coin
  join_coin i = record {
    point = record { tx = tx_id (join_of seed n (genesis_id (mint_of seed n)) i); index = 0 };
    output = record { program = program (3 * n + i); value = coin_value seed i };
  }

  -- ---- the mint's coins

  coin_there : (id : Digest) (m k s i : ℕ) → s ≡ k → k ≤ i → i < k + m
      → In (record { point = record { tx = id; index = i }; output = coin seed i }) (made_coins id k (map (coin seed) (range_with_len s m)))
  coin_there id zero k s i same low high = absurd (omega (arith, low, high))
  coin_there id (suc m) k s i same low high = elim (cases_lt k i) [
    | inl past ↦ inr (coin_there id m (suc k) (s + 1) i (omega (arith, same)) (omega (arith, past)) (omega (arith, high)))
    | inr here ↦ inl (let is : i ≡ k = omega (arith, low, here) in let is' : i ≡ s = omega (arith, low, here, same) in
        λ j. record { point = record { tx = id; index = is j }; output = coin seed (is' j) })
  ]

  pub in_mint : (i : ℕ) → i < minted_of n → In (mint_coin i) (tx_coins (genesis_tx (mint_of seed n)))
  in_mint i low = coin_there (genesis_id (mint_of seed n)) (minted_of n) 0 0 i refl (omega arith) (omega (arith, low))

  pub record OfMint (id : Digest) (m k : ℕ) (c : Coin) : Type 0 where
    pub number : ℕ
    pub high : number < k + m
    pub is : c ≡ record { point = record { tx = id; index = number }; output = coin seed number }

  of_mint : (id : Digest) (m k s : ℕ) (c : Coin) → s ≡ k → In c (made_coins id k (map (coin seed) (range_with_len s m))) → OfMint id m k c
  of_mint id zero k s c same h = absurd h
  of_mint id (suc m) k s c same (inl e) = record {
    number = k;
    high = omega arith;
    is = e ∙ (λ j. record { point = record { tx = id; index = k }; output = coin seed (same j) });
  }
  of_mint id (suc m) k s c same (inr h) = let r = of_mint id m (suc k) (s + 1) c (omega (arith, same)) h in
      record { number = r.number; high = (let high = r.high in omega (arith, high)); is = r.is }

  pub from_mint : (c : Coin) → In c (tx_coins (genesis_tx (mint_of seed n))) → (i : ℕ) × (i < minted_of n) × (c ≡ mint_coin i)
  from_mint c h = let r = of_mint (genesis_id (mint_of seed n)) (minted_of n) 0 0 c refl h in
      (r.number, (let high = r.high in omega (arith, high)), r.is)

  -- ---- members

  pub split_in : (i : ℕ) → i < minted_of n → In (split i) (splits_of seed n)
  split_in i low = in_range (split_of seed n (genesis_id (mint_of seed n))) (minted_of n) 0 i (omega arith) (omega (arith, low))

  pub split_there : (i : ℕ) → i < minted_of n → In (split i) (all_submissions seed n)
  split_there i low = in_left (split i) (splits_of seed n) (joins_of seed n ++ []) (split_in i low)

  pub join_there : (i : ℕ) → i < joined_of n → In (join i) (all_submissions seed n)
  join_there i low =
      in_right (join i) (splits_of seed n) (joins_of seed n ++ [])
      (in_left (join i) (joins_of seed n) [] (in_range (join_of seed n (genesis_id (mint_of seed n))) (joined_of n) 0 i (omega arith)
      (omega (arith, low))))

  pub data IsOne (t : FullTx) : Type 0 where
    is_split : (i : ℕ) → i < minted_of n → t ≡ split_of seed n (genesis_id (mint_of seed n)) i → IsOne t
    is_join : (i : ℕ) → i < joined_of n → t ≡ join_of seed n (genesis_id (mint_of seed n)) i → IsOne t

  pub of_splits : (t : FullTx) → In t (splits_of seed n) → (i : ℕ) × (i < minted_of n) × (t ≡ split_of seed n (genesis_id (mint_of seed n)) i)
  of_splits t h =
      let r : From (split_of seed n (genesis_id (mint_of seed n))) (minted_of n) 0 t =
      from_range (split_of seed n (genesis_id (mint_of seed n))) (minted_of n) 0 t h in
      (r.number, (let high = r.high in omega (arith, high)), r.is)

  pub one_of : (t : FullTx) → In t (all_submissions seed n) → IsOne t
  one_of t h = elim (in_both t (splits_of seed n) (joins_of seed n ++ []) h) [
    | inl a ↦ let r = of_splits t a in is_split r.0 r.1 r.2
    | inr b ↦ elim (in_both t (joins_of seed n) [] b) [
      | inl c ↦
          let r : From (join_of seed n (genesis_id (mint_of seed n))) (joined_of n) 0 t =
          from_range (join_of seed n (genesis_id (mint_of seed n))) (joined_of n) 0 t c in
          is_join r.number (let high = r.high in omega (arith, high)) r.is
      | inr none ↦ absurd none
    ]
  ]

  pub fewer : joined_of n ≤ minted_of n
  fewer = omega arith

  -- ---- no two are one

  module _ (clean : Clean (mint_of seed n) (all_submissions seed n)) where
    pub split_member : (i : ℕ) → i < minted_of n → IsMember (mint_of seed n) (all_submissions seed n) (split i)
    split_member i low = inr (contains_in (all_submissions seed n) (split i) (split_there i low))

    pub join_member : (i : ℕ) → i < joined_of n → IsMember (mint_of seed n) (all_submissions seed n) (join i)
    join_member i low = inr (contains_in (all_submissions seed n) (join i) (join_there i low))

    pub mint_named : (i : ℕ) → i < minted_of n → IsNamed (mint_of seed n) (all_submissions seed n) (mint_coin i)
    mint_named i low = (
      genesis_tx (mint_of seed n),
      inl refl,
      inr (contains_in (tx_coins (genesis_tx (mint_of seed n))) (mint_coin i) (in_mint i low)),
    )

    pub low_named : (i : ℕ) → i < minted_of n → IsNamed (mint_of seed n) (all_submissions seed n) (low_coin i)
    low_named i low = (split i, split_member i low, inr (contains_in (tx_coins (split i)) (low_coin i) (inl refl)))

    pub high_named : (i : ℕ) → i < minted_of n → IsNamed (mint_of seed n) (all_submissions seed n) (high_coin i)
    high_named i low = (split i, split_member i low, inr (contains_in (tx_coins (split i)) (high_coin i) (inr (inl refl))))

    pub join_named : (i : ℕ) → i < joined_of n → IsNamed (mint_of seed n) (all_submissions seed n) (join_coin i)
    join_named i low = (join i, join_member i low, inr (contains_in (tx_coins (join i)) (join_coin i) (inl refl)))

    no_inputs : (c : Coin) (cs : List Coin) → [] ≡ c ∷ cs → ⊥
    no_inputs c cs e = cc

    one_or_two : (c d e : Coin) → c ∷ [] ≡ d ∷ e ∷ [] → ⊥
    one_or_two c d e h = let l = ap length h in omega (arith, l)

    head_of : (c d : Coin) (cs ds : List Coin) → c ∷ cs ≡ d ∷ ds → c ≡ d
    head_of c d cs ds h = cc

    -- ids
    mint_split : (i : ℕ) → i < minted_of n → genesis_id (mint_of seed n) ≡ tx_id (split i) → ⊥
    mint_split i low e = no_inputs (mint_coin i) [] (clean.ids (genesis_tx (mint_of seed n)) (split i) (inl refl) (split_member i low) e).0

    mint_join : (i : ℕ) → i < joined_of n → genesis_id (mint_of seed n) ≡ tx_id (join i) → ⊥
    mint_join i low e = no_inputs (low_coin i) (high_coin i ∷ [])
        (clean.ids (genesis_tx (mint_of seed n)) (join i) (inl refl) (join_member i low) e).0

    split_join : (i j : ℕ) → i < minted_of n → j < joined_of n → tx_id (split i) ≡ tx_id (join j) → ⊥
    split_join i j low low' e = one_or_two (mint_coin i) (low_coin j) (high_coin j)
        (clean.ids (split i) (join j) (split_member i low) (join_member j low') e).0

    pub same_split : (i j : ℕ) → i < minted_of n → j < minted_of n → tx_id (split i) ≡ tx_id (split j) → i ≡ j
    same_split i j low low' e = ap (λ c. c.point.index)
        (head_of (mint_coin i) (mint_coin j) [] [] (clean.ids (split i) (split j) (split_member i low) (split_member j low') e).0)

    pub same_join : (i j : ℕ) → i < joined_of n → j < joined_of n → tx_id (join i) ≡ tx_id (join j) → i ≡ j
    same_join i j low low' e =
        same_split i j (omega (arith, low, fewer)) (omega (arith, low', fewer))
        (ap (λ c. c.point.tx) (head_of (low_coin i) (low_coin j) (high_coin i ∷ []) (high_coin j ∷ [])
        (clean.ids (join i) (join j) (join_member i low) (join_member j low') e).0))

    pub apart_ids : (i j : ℕ) → i < minted_of n → j < joined_of n → tx_id (split i) ≡ tx_id (join j) → ⊥
    apart_ids i j low low' e = split_join i j low low' e

    -- coins, by their hashes
    pub mint_mint : (i j : ℕ) → i < minted_of n → j < minted_of n → coin_hash (mint_coin i) ≡ coin_hash (mint_coin j) → i ≡ j
    mint_mint i j low low' e = ap (λ c. c.point.index) (clean.hashes (mint_coin i) (mint_coin j) (mint_named i low) (mint_named j low') e)

    pub mint_low : (i j : ℕ) → i < minted_of n → j < minted_of n → coin_hash (mint_coin i) ≡ coin_hash (low_coin j) → ⊥
    mint_low i j low low' e = mint_split j low' (ap (λ c. c.point.tx)
        (clean.hashes (mint_coin i) (low_coin j) (mint_named i low) (low_named j low') e))

    pub mint_high : (i j : ℕ) → i < minted_of n → j < minted_of n → coin_hash (mint_coin i) ≡ coin_hash (high_coin j) → ⊥
    mint_high i j low low' e = mint_split j low' (ap (λ c. c.point.tx)
        (clean.hashes (mint_coin i) (high_coin j) (mint_named i low) (high_named j low') e))

    pub mint_joined : (i j : ℕ) → i < minted_of n → j < joined_of n → coin_hash (mint_coin i) ≡ coin_hash (join_coin j) → ⊥
    mint_joined i j low low' e = mint_join j low'
        (ap (λ c. c.point.tx) (clean.hashes (mint_coin i) (join_coin j) (mint_named i low) (join_named j low') e))

    pub low_low : (i j : ℕ) → i < minted_of n → j < minted_of n → coin_hash (low_coin i) ≡ coin_hash (low_coin j) → i ≡ j
    low_low i j low low' e = same_split i j low low'
        (ap (λ c. c.point.tx) (clean.hashes (low_coin i) (low_coin j) (low_named i low) (low_named j low') e))

    pub high_high : (i j : ℕ) → i < minted_of n → j < minted_of n → coin_hash (high_coin i) ≡ coin_hash (high_coin j) → i ≡ j
    high_high i j low low' e = same_split i j low low'
        (ap (λ c. c.point.tx) (clean.hashes (high_coin i) (high_coin j) (high_named i low) (high_named j low') e))

    pub low_high : (i j : ℕ) → i < minted_of n → j < minted_of n → coin_hash (low_coin i) ≡ coin_hash (high_coin j) → ⊥
    low_high i j low low' e = let z = ap (λ c. c.point.index) (clean.hashes (low_coin i) (high_coin j) (low_named i low) (high_named j low') e) in
        omega (arith, z)

    pub low_joined : (i j : ℕ) → i < minted_of n → j < joined_of n → coin_hash (low_coin i) ≡ coin_hash (join_coin j) → ⊥
    low_joined i j low low' e = split_join i j low low'
        (ap (λ c. c.point.tx) (clean.hashes (low_coin i) (join_coin j) (low_named i low) (join_named j low') e))

    pub high_joined : (i j : ℕ) → i < minted_of n → j < joined_of n → coin_hash (high_coin i) ≡ coin_hash (join_coin j) → ⊥
    high_joined i j low low' e = split_join i j low low'
        (ap (λ c. c.point.tx) (clean.hashes (high_coin i) (join_coin j) (high_named i low) (join_named j low') e))

    pub joined_joined : (i j : ℕ) → i < joined_of n → j < joined_of n → coin_hash (join_coin i) ≡ coin_hash (join_coin j) → i ≡ j
    joined_joined i j low low' e = same_join i j low low'
        (ap (λ c. c.point.tx) (clean.hashes (join_coin i) (join_coin j) (join_named i low) (join_named j low') e))

    -- the first file alone has no clashes either
    pub splits_clean : Clean (mint_of seed n) (splits_of seed n)
    splits_clean = record {
      ids = λ t u a b e. clean.ids t u (more t a) (more u b) e;
      hashes = λ c d a b e. clean.hashes c d (a.0, more a.0 a.1, a.2) (b.0, more b.0 b.1, b.2) e;
    }
      where
        more : (t : FullTx) → IsMember (mint_of seed n) (splits_of seed n) t → IsMember (mint_of seed n) (all_submissions seed n) t
        more t (inl e) = inl e
        more t (inr h) = inr (contains_in (all_submissions seed n) t
            (in_left t (splits_of seed n) (joins_of seed n ++ []) (in_contains (splits_of seed n) t h)))
