-- The joins are confirmed, behind the splits.
use Rattle.std.proofs.Common.{◌≡◌, ◌⊎◌, inl, inr, ℕ, zero, suc, ◌*◌, ◌<◌, true, List, [], ◌∷◌, ◌++◌, Some, None, refl, sym, ap, ◌∙◌, subst, arith}
use Rattle.std.specs.Prelude.{slice_get, All}
use Rattle.std.proofs.lemmas.List.Elements.{All-cons, All-nil}
use Rattle.cbdc_model.specs.Records.{Digest, Shape, Batch, Compact, Record, Row, journal, record_of, txs_in, txs_of, Prepare}
use Rattle.cbdc_model.specs.Status.{has, status}
use Rattle.cbdc_model.specs.Ranges.{home_of, shard_of, shard_node}
use Rattle.cbdc_model.specs.Coins.{Output, FullTx, coin_hash, tx_id, compact, genesis_id}
use Rattle.cbdc_model.specs.Clean.{Clean, IsProperCompact}
use Rattle.cbdc_model.specs.After.{After}
use Rattle.cbdc_model.specs.History.{minted, header_of, first_rows, history_of, committed, all_inputs, all_outputs, won_of, TxsPass}
use Rattle.cbdc_model.specs.World.{KeptJournals, AreIdle, IsUnspent}
use Rattle.cbdc_model.specs.Lanes.{IsEnd, KeptLists, first_of}
use Rattle.cbdc_model.specs.Waves.{Waves}
use Rattle.ledger_laws.proofs.ByKind.{test_itself}
use Rattle.ledger_laws.proofs.Next.{Steady}
use Rattle.ledger_laws.proofs.Counts.{count}
use Rattle.ledger_laws.proofs.Ledger.{steady}
use Rattle.ledger_laws.proofs.LaneLaws.{local_law}
use Rattle.ledger_laws.proofs.Lookups.{not_true}
use Rattle.ledger_laws.proofs.Members.{In, in_contains, contains_in}
use Rattle.run_laws.proofs.Proper.{sound_law}
use Rattle.submissions.specs.SoundTest.{sound_by}
use Rattle.run_laws.specs.Between.{BeginsWave}
use Rattle.run_laws.specs.Placing.{tx_at}
use Rattle.run_laws.proofs.Between.{between_law}
use Rattle.run_laws.proofs.WaveRecords.{found_at}
use Rattle.submission_laws.specs.Sent.{IsSent, place_at, IsNewlyPrepared}
use Rattle.submission_laws.specs.Settled.{IsSubmissionSettled, AreSettled}
use Rattle.submission_laws.specs.Free.{IsUncontended, IsSubmissionConfirmed}
use Rattle.submission_laws.proofs.Settling.{settled_law}
use Rattle.submission_laws.proofs.Freeing.{free_confirmed_law}
use Rattle.workload.specs.Generator.{mint_of, minted_of, joined_of, splits_of, joins_of, join_of}
use Rattle.submission_laws.specs.Files.{all_good, files_of, all_submissions, made_for}
use Rattle.submission_laws.proofs.Ranges.{from_zero, get_range, got_range}
use Rattle.submission_laws.proofs.Sound.{joins_sound}
use Rattle.submission_laws.proofs.Coins.{split, join, mint_coin, low_coin, high_coin, of_splits, fewer, splits_clean, mint_low, mint_high, low_low}
use Rattle.submission_laws.proofs.Coins.{high_high, low_high}
use Rattle.submission_laws.proofs.Worlds.{OneOf, spender, each_passes, won_makes, is_unspent}
use Rattle.submission_laws.proofs.Sets.{has_in}
use Rattle.submission_laws.proofs.Committed.{is_committed}
use Rattle.submission_laws.proofs.FirstFile.{one_in, same_file, sound_at, kept_first, none_prepared, split_confirmed, split_sent}

pub two_in : (x y z : Digest) → In x (y ∷ z ∷ []) → (x ≡ y) ⊎ (x ≡ z)
two_in x y z (inl e) = inl e
two_in x y z (inr (inl e)) = inr e
two_in x y z (inr (inr h)) = absurd h

second_file : (f g h : List FullTx) → slice_get (f ∷ g ∷ []) 1 ≡ Some h → g ≡ h
second_file f g h e = cc

in_get : (xs : List FullTx) (j : ℕ) (t : FullTx) → slice_get xs j ≡ Some t → In t xs
in_get [] j t e = absurd (let z : None ≡ Some t = e in cc)
in_get (x ∷ xs) zero t e = inl (same_file t x (sym e))
  where
    same_file : (f g : FullTx) → Some f ≡ Some g → f ≡ g
    same_file f g e = cc
in_get (x ∷ xs) (suc j) t e = inr (in_get xs j t e)

no_file : (f g : List FullTx) (k : ℕ) → slice_get (f ∷ []) (suc k) ≡ Some g → ⊥
no_file f g k e = let z : None ≡ Some g = e in cc

pub zero_or : (m : ℕ) → (0 < m → ⊥) → m ≡ 0
zero_or zero f = refl
zero_or (suc m) f = absurd (f (omega arith))

-- ---- kept journals whose new Prepares have transactions of these alone are kept with these alone

module _ (K : Shape) (mint : List Output) (all these : List FullTx) (some : 0 < K.shards) (J : ℕ → List Record) (kept : KeptJournals K mint all J)
    (are : (n : ℕ) (newer rest : List Record) (stamp : ℕ) (b : Batch) (txs : List Compact) → J n ≡ newer ++ Prepare stamp b txs ∷ rest
    → IsEnd (first_of K (minted mint) n) rest → n ≡ home_of K b.lane → All (IsProperCompact these) txs) where
  lists : KeptLists K (minted mint) (IsProperCompact all) J
  lists = (local_law K mint all J some).0 kept

  pass : (n : ℕ) (newer rest : List Record) (r : Record) → J n ≡ newer ++ r ∷ rest → IsEnd (first_of K (minted mint) n) rest
      → After (header_of K (minted mint).id n) rest r → TxsPass (IsProperCompact these) r
  pass n newer rest (Prepare stamp b txs) e h after = are n newer rest stamp b txs e h after.1.1
  pass n newer rest other e h after = tt

  pub kept_by_these : KeptJournals K mint these J
  kept_by_these = (local_law K mint these J some).1 (record {
    begins = lists.begins;
    each = λ n newer rest r e h. let it = lists.each n newer rest r e h in (it.0, it.1, pass n newer rest r e h it.0);
  })

each_at : (P : Compact → Type 0) (txs : List Compact) → ((i : ℕ) (c : Compact) → tx_at txs i ≡ Some c → P c) → All P txs
each_at P [] f = All-nil P
each_at P (t ∷ txs) f = All-cons P t txs (f 0 t refl) (each_at P txs (λ i c e. f (suc i) c e))

module _ (K : Shape) (seed n : ℕ) (some : 0 < K.shards) (lanes : 0 < K.lanes) (some_lane : 0 < K.coordinators * K.lanes)
    (clean : Clean (mint_of seed n) (all_submissions seed n))
    (X : ℕ → List Record) (kept : KeptJournals K (mint_of seed n) (all_submissions seed n) X)
    (waves : Waves K (sound_by all_good) (files_of seed n) (made_for K seed n) X) where
  abbrev E : ℕ → List Record
  E = made_for K seed n

  abbrev R : ℕ → List Record
  R = waves.0

  -- the journals between the files
  abbrev M : ℕ → List Record
  M = waves.2.0

  abbrev one : List (List FullTx)
  one = splits_of seed n ∷ []

  second_begins : BeginsWave K (sound_by all_good) (files_of seed n) 1 (made_for K seed n) X M
  second_begins = record { resumed = waves.0; is_resumed = waves.1; before = (waves.2.0, waves.2.1, λ node. refl); behind = waves.2.2 }

  kept_mid : KeptJournals K (mint_of seed n) (all_submissions seed n) M
  kept_mid = between_law K (mint_of seed n) (all_submissions seed n) (sound_by all_good) (files_of seed n) 1 (made_for K seed n) X M some
      (kept_first K seed n some lanes some_lane clean (all_submissions seed n)) kept second_begins

  first_waves : Waves K (sound_by all_good) (splits_of seed n ∷ []) (made_for K seed n) M
  first_waves = (waves.0, waves.1, (waves.2.0, waves.2.1, λ node. refl))

  settled : AreSettled K all_good (splits_of seed n ∷ []) (made_for K seed n) M
  settled = settled_law K (mint_of seed n) (all_submissions seed n) all_good (splits_of seed n ∷ []) (made_for K seed n) M some some_lane
      (kept_first K seed n some lanes some_lane clean (all_submissions seed n)) kept_mid first_waves

  idle_mid : AreIdle K M
  idle_mid = waves.2.1.idle

  -- only splits were prepared so far
  module _ (node : ℕ) (newer rest : List Record) (stamp : ℕ) (b : Batch) (txs : List Compact) (e : M node ≡ newer ++ Prepare stamp b txs ∷ rest)
      (h : IsEnd (first_of K (minted (mint_of seed n)) node) rest) (home : node ≡ home_of K b.lane) where
    found : txs_of (M (home_of K b.lane)) b ≡ txs
    found =
        let by_rows : record_of 6 (journal node (kept_mid.later ++ first_rows K (minted (mint_of seed n)))) b ≡ Some (Prepare stamp b txs)
        = found_at K (minted (mint_of seed n)) (IsProperCompact (all_submissions seed n)) some [] kept_mid.later tt
        (steady K (minted (mint_of seed n)) (IsProperCompact (all_submissions seed n)) kept_mid.later kept_mid.kept) node 6 b newer rest
        (Prepare stamp b txs) (kept_mid.history.journals_are node ∙ e) h (test_itself 6 b) in
        ap (λ m. txs_of (M m) b) (sym home) ∙ ap (λ L. txs_of L b) (sym (kept_mid.history.journals_are node)) ∙ ap txs_in by_rows

    of_split : (i : ℕ) (c : Compact) → tx_at txs i ≡ Some c → IsProperCompact (splits_of seed n) c
    of_split i c at =
        let it : IsNewlyPrepared K (made_for K seed n) M (record { batch = b; at = i }) c
        = record { new = none_prepared K seed n some lanes some_lane clean b; holds = ap (λ l. tx_at l i) found ∙ at } in
        by_first (settled.nothing_else (record { batch = b; at = i }) c it)
      where
        by_first : (k : ℕ) × (j : ℕ) × (t : FullTx) × (it : IsSent all_good (splits_of seed n ∷ []) k j t)
            × (place_at K all_good (splits_of seed n ∷ []) (made_for K seed n) M k it.file j ≡ Some (record { batch = b; at = i })) × (c ≡ compact t)
            → IsProperCompact (splits_of seed n) c
        by_first (zero, j, t, it, place, is) =
            let file : splits_of seed n ≡ it.file = same_file (splits_of seed n) it.file it.file_is in (
              t,
              contains_in (splits_of seed n) t (in_get (splits_of seed n) j t (subst (λ f. slice_get f j ≡ Some t) (sym file) it.tx_is)),
              sound_law t (all_good (tx_id t)) it.sound,
              sym is,
            )
        by_first (suc k, j, t, it, place, is) = absurd (no_file (splits_of seed n) it.file k it.file_is)

    only_splits : All (IsProperCompact (splits_of seed n)) txs
    only_splits = each_at (IsProperCompact (splits_of seed n)) txs of_split

  kept_splits : KeptJournals K (mint_of seed n) (splits_of seed n) M
  kept_splits = kept_by_these K (mint_of seed n) (all_submissions seed n) (splits_of seed n) some M kept_mid only_splits

  abbrev past : List Row
  past = history_of K (mint_of seed n) kept_splits.later

  steady_splits : Steady K (minted (mint_of seed n)) (IsProperCompact (splits_of seed n)) kept_splits.later
  steady_splits = steady K (minted (mint_of seed n)) (IsProperCompact (splits_of seed n)) kept_splits.later kept_splits.kept

  idle_rows : AreIdle K (λ node. journal node (history_of K (mint_of seed n) kept_splits.later))
  idle_rows = subst (λ J. AreIdle K J) (λ i node. sym (kept_splits.history.journals_are node) i) idle_mid

  -- a split's outputs are made, and no split spends them
  module _ (j : ℕ) (low : j < minted_of n) (x : Digest) (of_it : In x (compact (split seed n j)).outputs) where
    sent : IsSent all_good (splits_of seed n ∷ []) 0 j (split seed n j)
    sent = split_sent K seed n some lanes some_lane clean [] j low

    its : IsSubmissionSettled K all_good (splits_of seed n ∷ []) (made_for K seed n) M 0 sent.file j (split seed n j)
    its = settled.each 0 j (split seed n j) sent

    won : In (compact (split seed n j)) (won_of K (history_of K (mint_of seed n) kept_splits.later) its.place.batch)
    won =
        is_committed K all_good (splits_of seed n ∷ []) (made_for K seed n) M (history_of K (mint_of seed n) kept_splits.later) 0 j (split seed n j)
        sent kept_splits.history.journals_are its
        (split_confirmed K seed n some lanes some_lane clean [] M kept_mid first_waves j (split seed n j) sent)

    made : 0 < count x (all_outputs (committed (history_of K (mint_of seed n) kept_splits.later)))
    made =
        won_makes K (mint_of seed n) (splits_of seed n) (splits_clean seed n clean) some lanes kept_splits.later steady_splits its.place.batch
        (compact (split seed n j)) x won of_it

    not_mint : (i : ℕ) → i < minted_of n → x ≡ coin_hash (mint_coin seed n i) → ⊥
    not_mint i low' e = elim (two_in x (coin_hash (low_coin seed n j)) (coin_hash (high_coin seed n j)) of_it) [
      | inl f ↦ mint_low seed n clean i j low' low (sym e ∙ f)
      | inr f ↦ mint_high seed n clean i j low' low (sym e ∙ f)
    ]

    unspent_there : count x (all_inputs (committed (history_of K (mint_of seed n) kept_splits.later))) ≡ 0
    unspent_there = zero_or _ (λ some_spent.
        let o : OneOf (IsProperCompact (splits_of seed n)) (committed (history_of K (mint_of seed n) kept_splits.later)) x (λ k. k.inputs)
        = spender (IsProperCompact (splits_of seed n)) (committed (history_of K (mint_of seed n) kept_splits.later)) x
        (each_passes K (mint_of seed n) (splits_of seed n) (splits_clean seed n clean) some lanes kept_splits.later steady_splits) some_spent in
        by_split o.form o.passes o.has_it)
      where
        by_split : (k : Compact) → IsProperCompact (splits_of seed n) k → In x k.inputs → ⊥
        by_split k (t, there, proper, is) has_x =
            let s = of_splits seed n t (in_contains (splits_of seed n) t there) in
            not_mint s.0 s.1 (one_in x (coin_hash (mint_coin seed n s.0)) (subst (λ c. In x c.inputs) (sym is ∙ ap compact s.2) has_x))

    pub made_unspent : IsUnspent K M x
    made_unspent =
        ap (λ L. status L x) (sym (kept_splits.history.journals_are (shard_node K (shard_of K x))))
        ∙ is_unspent K (mint_of seed n) (splits_of seed n) (splits_clean seed n clean) some lanes kept_splits.later steady_splits idle_rows x
        (omega (arith, made)) unspent_there

  -- ---- the joins

  is_join : (j : ℕ) (t : FullTx) → slice_get (joins_of seed n) j ≡ Some t → (j < joined_of n) × (t ≡ join seed n j)
  is_join j t e =
      let r = got_range (join_of seed n (genesis_id (mint_of seed n))) (joined_of n) 0 j t e in
      (r.0, r.1 ∙ ap (join_of seed n (genesis_id (mint_of seed n))) (from_zero j))

  one_of_pairs : (i j : ℕ) (x : Digest) → i < minted_of n → j < minted_of n
      → In x (coin_hash (low_coin seed n i) ∷ coin_hash (high_coin seed n i) ∷ [])
      → In x (coin_hash (low_coin seed n j) ∷ coin_hash (high_coin seed n j) ∷ []) → i ≡ j
  one_of_pairs i j x low low' h g = elim (two_in x (coin_hash (low_coin seed n i)) (coin_hash (high_coin seed n i)) h) [
    | inl a ↦ elim (two_in x (coin_hash (low_coin seed n j)) (coin_hash (high_coin seed n j)) g) [
      | inl b ↦ low_low seed n clean i j low low' (sym a ∙ b)
      | inr b ↦ absurd (low_high seed n clean i j low low' (sym a ∙ b))
    ]
    | inr a ↦ elim (two_in x (coin_hash (low_coin seed n j)) (coin_hash (high_coin seed n j)) g) [
      | inl b ↦ absurd (low_high seed n clean j i low' low (sym b ∙ a))
      | inr b ↦ high_high seed n clean i j low low' (sym a ∙ b)
    ]
  ]

  joins_apart : (j : ℕ) → j < joined_of n → IsUncontended all_good (joins_of seed n) j (join seed n j)
  joins_apart j low i u at differs sound x has_x =
      let s = is_join i u at in
      let few = fewer seed n in
      not_true (has (compact u).inputs x) (λ t.
      differs (one_of_pairs i j x (let a = s.0 in omega (arith, a, few)) (omega (arith, low, few))
      (has_in x (coin_hash (low_coin seed n i) ∷ coin_hash (high_coin seed n i) ∷ []) (subst (λ v. has (compact v).inputs x ≡ true) s.1 t))
      (has_in x (coin_hash (low_coin seed n j) ∷ coin_hash (high_coin seed n j) ∷ []) has_x)))

  pub join_confirmed : (j : ℕ) (t : FullTx) (it : IsSent all_good (files_of seed n) 1 j t)
      → IsSubmissionConfirmed K all_good (files_of seed n) (made_for K seed n) X 1 it.file j t
  join_confirmed j t it =
      let file : joins_of seed n ≡ it.file = second_file (splits_of seed n) (joins_of seed n) it.file it.file_is in
      let s : (j < joined_of n) × (t ≡ join seed n j) = is_join j t (subst (λ f. slice_get f j ≡ Some t) (sym file) it.tx_is) in
      let few = fewer seed n in
      free_confirmed_law K (mint_of seed n) (all_submissions seed n) all_good (files_of seed n) (made_for K seed n) X some some_lane
      (kept_first K seed n some lanes some_lane clean (all_submissions seed n)) kept 1 j t it M second_begins
      (λ x has_x. made_unspent j (let a = s.0 in omega (arith, a, few)) x
      (has_in x (coin_hash (low_coin seed n j) ∷ coin_hash (high_coin seed n j) ∷ []) (subst (λ v. has (compact v).inputs x ≡ true) s.1 has_x)))
      (subst (λ f. IsUncontended all_good f j t) file (subst (λ v. IsUncontended all_good (joins_of seed n) j v) (sym s.1) (joins_apart j s.0)))

  pub join_sent : (j : ℕ) → j < joined_of n → IsSent all_good (files_of seed n) 1 j (join seed n j)
  join_sent j low =
      let at : slice_get (joins_of seed n) j ≡ Some (join seed n j) =
      get_range (join_of seed n (genesis_id (mint_of seed n))) (joined_of n) 0 j low ∙ ap (λ i. Some (join seed n i)) (from_zero j) in
      record { file = joins_of seed n; file_is = refl; tx_is = at; sound = sound_at (joins_of seed n) j (join seed n j) at (joins_sound seed n) }
