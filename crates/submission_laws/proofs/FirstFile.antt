-- The splits are confirmed, as the first file of a run over the ledger that was just made.
use Rattle.std.proofs.Common.{◌≡◌, inl, inr, ℕ, ◌*◌, ◌<◌, true, false, List, [], ◌∷◌, ◌++◌, map, Some, refl, sym, ap, ◌∙◌, subst, arith}
use Rattle.std.specs.Prelude.{slice_get, All}
use Rattle.std.proofs.lemmas.Option.{get_or_from_slice_get, slice_get_within}
use Rattle.cbdc_model.specs.Records.{Digest, Shape, Batch, Compact, Record}
use Rattle.cbdc_model.specs.Status.{has}
use Rattle.cbdc_model.specs.Ranges.{home_of}
use Rattle.cbdc_model.specs.Coins.{FullTx, coin_hash, tx_id, tx_coins, compact, genesis_tx, genesis_id, genesis_hashes}
use Rattle.cbdc_model.specs.Clean.{Clean}
use Rattle.cbdc_model.specs.History.{minted, first_rows, all_inputs}
use Rattle.cbdc_model.specs.World.{KeptJournals, AreIdle, IsUnspent}
use Rattle.cbdc_model.specs.Waves.{has_prepare, AreFilesRun, Waves}
use Rattle.ledger_laws.proofs.First.{no_committed, journal_first, all_first}
use Rattle.ledger_laws.proofs.Moves.{none_of}
use Rattle.ledger_laws.proofs.Lookups.{true_false, not_true}
use Rattle.ledger_laws.proofs.Counts.{count}
use Rattle.ledger_laws.proofs.Members.{In, in_count}
use Rattle.sentinel.specs.FirstRefusal.{IsSoundTx}
use Rattle.submissions.specs.SoundTest.{sound_by}
use Rattle.run_laws.specs.Between.{BeginsWave}
use Rattle.submission_laws.specs.Sent.{IsSent}
use Rattle.submission_laws.specs.Free.{IsUncontended, IsSubmissionConfirmed}
use Rattle.submission_laws.proofs.Freeing.{free_confirmed_law}
use Rattle.workload.specs.Generator.{mint_of, minted_of, splits_of, split_of}
use Rattle.submission_laws.specs.Files.{all_good, all_submissions, made_for}
use Rattle.submission_laws.proofs.Ranges.{from_zero, get_range, got_range}
use Rattle.submission_laws.proofs.Sound.{IsGood, splits_sound}
use Rattle.submission_laws.proofs.Coins.{split, mint_coin, in_mint, mint_mint}
use Rattle.submission_laws.proofs.Worlds.{is_unspent}
use Rattle.submission_laws.proofs.Sets.{has_in}

pub in_map : {A B : Type 0} (f : A → B) (x : A) (xs : List A) → In x xs → In (f x) (map f xs)
in_map f x [] h = absurd h
in_map f x (y ∷ xs) (inl e) = inl (ap f e)
in_map f x (y ∷ xs) (inr h) = inr (in_map f x xs h)

pub one_in : (x y : Digest) → In x (y ∷ []) → x ≡ y
one_in x y (inl e) = e
one_in x y (inr h) = absurd h

pub same_file : (f g : List FullTx) → Some f ≡ Some g → f ≡ g
same_file f g e = cc

pub sound_at : (xs : List FullTx) (j : ℕ) (t : FullTx) → slice_get xs j ≡ Some t → All IsGood xs → IsSoundTx t (all_good (tx_id t))
sound_at xs j t e all = subst (λ u. IsSoundTx u (all_good (tx_id u))) (get_or_from_slice_get xs j t t e) (all j t (slice_get_within xs j t e))

module _ (K : Shape) (seed n : ℕ) (some : 0 < K.shards) (lanes : 0 < K.lanes) (some_lane : 0 < K.coordinators * K.lanes)
    (clean : Clean (mint_of seed n) (all_submissions seed n)) where
  abbrev E : ℕ → List Record
  E = made_for K seed n

  pub kept_first : (submissions : List FullTx) → KeptJournals K (mint_of seed n) submissions (made_for K seed n)
  kept_first submissions = record { later = []; history = record { ordered = tt; journals_are = λ node. refl }; kept = tt }

  pub none_prepared : (b : Batch) → has_prepare K (made_for K seed n) b ≡ false
  none_prepared b =
      none_of 6 (made_for K seed n (home_of K b.lane))
      (journal_first (home_of K b.lane) (first_rows K (minted (mint_of seed n)))
      (all_first K (minted (mint_of seed n)) (λ (k : Compact). Unit {0}) some)) b

  -- a split of the file
  pub is_split : (j : ℕ) (t : FullTx) → slice_get (splits_of seed n) j ≡ Some t → (j < minted_of n) × (t ≡ split seed n j)
  is_split j t e =
      let r = got_range (split_of seed n (genesis_id (mint_of seed n))) (minted_of n) 0 j t e in
      (r.0, r.1 ∙ ap (split_of seed n (genesis_id (mint_of seed n))) (from_zero j))

  -- no two of them spend one coin
  pub splits_apart : (j : ℕ) → j < minted_of n → IsUncontended all_good (splits_of seed n) j (split seed n j)
  splits_apart j low i u at differs sound x has_x =
      let s = is_split i u at in
      not_true (has (compact u).inputs x) (λ t.
      differs (mint_mint seed n clean i j s.0 low
      (sym (one_in x (coin_hash (mint_coin seed n i))
      (has_in x (coin_hash (mint_coin seed n i) ∷ []) (subst (λ v. has (compact v).inputs x ≡ true) s.1 t)))
      ∙ one_in x (coin_hash (mint_coin seed n j)) (has_in x (coin_hash (mint_coin seed n j) ∷ []) has_x))))

  module _ (rest : List (List FullTx)) (Y : ℕ → List Record) (kept : KeptJournals K (mint_of seed n) (all_submissions seed n) Y)
      (waves : Waves K (sound_by all_good) (splits_of seed n ∷ rest) (made_for K seed n) Y) where
    abbrev R : ℕ → List Record
    R = waves.0

    -- nothing was open
    none_more : (node : ℕ) (more : List Record) → R node ≡ more ++ E node → R node ≡ E node
    none_more node [] e = e
    none_more node (r ∷ more) e =
        let k = waves.1.adds.each node [] (more ++ E node) r e (more, refl) in
        absurd (true_false (has_prepare K (made_for K seed n) k.0) k.2.0 (none_prepared k.0))

    pub opened_none : (node : ℕ) → R node ≡ E node
    opened_none node = let g = waves.1.adds.grows node in none_more node g.0 g.1

    idle_first : AreIdle K (made_for K seed n)
    idle_first = subst (λ J. AreIdle K J) (λ i node. opened_none node i) waves.1.idle

    first_begins : BeginsWave K (sound_by all_good) (splits_of seed n ∷ rest) 0 (made_for K seed n) Y (made_for K seed n)
    first_begins = record {
      resumed = waves.0;
      is_resumed = waves.1;
      before = λ node. sym (opened_none node);
      behind = subst (λ J. AreFilesRun K (sound_by all_good) (splits_of seed n ∷ rest) J Y) (λ i node. opened_none node i) waves.2;
    }

    mint_unspent : (i : ℕ) → i < minted_of n → IsUnspent K (made_for K seed n) (coin_hash (mint_coin seed n i))
    mint_unspent i low =
        let made : 0 < count (coin_hash (mint_coin seed n i)) (genesis_hashes (mint_of seed n))
        = in_count (coin_hash (mint_coin seed n i)) (genesis_hashes (mint_of seed n))
        (in_map coin_hash (mint_coin seed n i) (tx_coins (genesis_tx (mint_of seed n))) (in_mint seed n i low)) in
        is_unspent K (mint_of seed n) (all_submissions seed n) clean some lanes [] tt idle_first (coin_hash (mint_coin seed n i))
        (omega (arith, made))
        (ap (λ ks. count (coin_hash (mint_coin seed n i)) (all_inputs ks))
        (no_committed (first_rows K (minted (mint_of seed n))) (all_first K (minted (mint_of seed n)) (λ (k : Compact). Unit {0}) some)))

    pub split_confirmed : (j : ℕ) (t : FullTx) (it : IsSent all_good (splits_of seed n ∷ rest) 0 j t)
        → IsSubmissionConfirmed K all_good (splits_of seed n ∷ rest) (made_for K seed n) Y 0 it.file j t
    split_confirmed j t it =
        let file : splits_of seed n ≡ it.file = same_file (splits_of seed n) it.file it.file_is in
        let s : (j < minted_of n) × (t ≡ split seed n j) = is_split j t (subst (λ f. slice_get f j ≡ Some t) (sym file) it.tx_is) in
        free_confirmed_law K (mint_of seed n) (all_submissions seed n) all_good (splits_of seed n ∷ rest) (made_for K seed n) Y some some_lane
        (kept_first (all_submissions seed n)) kept 0 j t it (made_for K seed n) first_begins
        (λ x has_x.
        subst (λ y. IsUnspent K (made_for K seed n) y)
        (sym (one_in x (coin_hash (mint_coin seed n j))
        (has_in x (coin_hash (mint_coin seed n j) ∷ []) (subst (λ v. has (compact v).inputs x ≡ true) s.1 has_x))))
        (mint_unspent j s.0))
        (subst (λ f. IsUncontended all_good f j t) file (subst (λ v. IsUncontended all_good (splits_of seed n) j v) (sym s.1) (splits_apart j s.0)))

  -- each of them is sent
  pub split_sent : (rest : List (List FullTx)) (j : ℕ) → j < minted_of n → IsSent all_good (splits_of seed n ∷ rest) 0 j (split seed n j)
  split_sent rest j low =
      let at : slice_get (splits_of seed n) j ≡ Some (split seed n j) =
      get_range (split_of seed n (genesis_id (mint_of seed n))) (minted_of n) 0 j low ∙ ap (λ i. Some (split seed n i)) (from_zero j) in
      record { file = splits_of seed n; file_is = refl; tx_is = at; sound = sound_at (splits_of seed n) j (split seed n j) at (splits_sound seed n) }
