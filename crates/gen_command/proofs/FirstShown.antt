-- The journals of a kept ledger as its nodes' disks show them, and those of one that was just made.
use Rattle.std.proofs.Common.{◌≡◌, ◌+◌, ◌-◌, ◌<◌, ◌≤◌, ◌==◌, ℕ, suc, Bool, true, false, nat_lt, if◌then◌else◌, List, [], ◌∷◌, ◌++◌, length, map}
use Rattle.std.proofs.Common.{reverse, Option, Some, refl, sym, ap, ◌∙◌, subst, arith}
use Rattle.std.specs.Prelude.{All, IsSome}
use Rattle.std.proofs.lemmas.Bool.{ltb-true, ltb-false}
use Rattle.std.proofs.lemmas.List.Elements.{All-nil, All-cons, All-head, All-tail}
use Rattle.outside.specs.declared.disk.Disk.{Ghosts}
use Rattle.sha2.proofs.Facts256.{length-sha256}
use Rattle.cbdc_types.specs.Limits.{IsWithinLimits}
use Rattle.cbdc_model.specs.Records.{Digest, Shape, Header, Record, Row, journal, Genesis, Start}
use Rattle.cbdc_model.specs.Coins.{Output, Coin, FullTx, coin_hash, made_coins, id_of, genesis_id, genesis_hashes}
use Rattle.cbdc_model.specs.Ranges.{shard_of, shard_node, on_shard, node_count}
use Rattle.cbdc_model.specs.Grammar.{IsHash, AreHere}
use Rattle.cbdc_model.specs.After.{After, IsJournal}
use Rattle.cbdc_model.specs.Clean.{IsProperCompact}
use Rattle.cbdc_model.specs.History.{minted, header_of, first_rows, IsSteady}
use Rattle.cbdc_model.specs.World.{first_record, KeptJournals}
use Rattle.ledger_laws.proofs.FirstJournals.{first_is, never_empty}
use Rattle.ledger_laws.proofs.Ledger.{steady}
use Rattle.run_laws.proofs.Rests.{none_beyond}
use Rattle.record_log.specs.Held.{OpensTo}
use Rattle.ledger_init.specs.Made.{HoldsFirst, first_record_of}
use Rattle.rack_laws.specs.Shown.{Shows}
use Rattle.submission_laws.specs.Files.{mint_journals}

-- ---- first records are of the grammar

pub on_length : (K : Shape) (s : ℕ) (xs : List Digest) → length (on_shard K s xs) ≤ length xs
on_length K s [] = omega arith
on_length K s (x ∷ xs) = elim (shard_of K x == s) as
    (λ c. length (if c then x ∷ on_shard K s xs else on_shard K s xs) ≤ length (x ∷ xs)) [
      | true ↦ omega (arith, on_length K s xs)
      | false ↦ omega (arith, on_length K s xs)
    ]

coin_is_hash : (c : Coin) → IsHash (coin_hash c)
unfolding coin_hash
coin_is_hash c = length-sha256 _

id_is_hash : (mint : List Output) → IsHash (genesis_id mint)
unfolding id_of
id_is_hash mint = length-sha256 _

pub made_length : (id : Digest) (k : ℕ) (os : List Output) → length (map coin_hash (made_coins id k os)) ≡ length os
made_length id k [] = refl
made_length id k (o ∷ os) = omega (arith, made_length id (suc k) os)

made_hashes : (id : Digest) (k : ℕ) (os : List Output) → All IsHash (map coin_hash (made_coins id k os))
made_hashes id k [] = All-nil IsHash
made_hashes id k (o ∷ os) = All-cons IsHash (coin_hash (record { point = record { tx = id; index = k }; output = o }))
    (map coin_hash (made_coins id (suc k) os)) (coin_is_hash _) (made_hashes id (suc k) os)

module _ (K : Shape) (s : ℕ) where
  on_all : (P : Digest → Type 0) (xs : List Digest) → All P xs → All P (on_shard K s xs)
  on_all P [] h = h
  on_all P (x ∷ xs) h = elim (shard_of K x == s) as (λ c. All P (if c then x ∷ on_shard K s xs else on_shard K s xs)) [
    | true ↦ All-cons P x (on_shard K s xs) (All-head P x xs h) (on_all P xs (All-tail P x xs h))
    | false ↦ on_all P xs (All-tail P x xs h)
  ]

  on_here : (xs : List Digest) → AreHere K (K.coordinators + s) (on_shard K s xs)
  on_here [] = All-nil (λ x. shard_node K (shard_of K x) ≡ K.coordinators + s)
  on_here (x ∷ xs) = go (shard_of K x == s) refl (on_here xs)
    where
      go : (b : Bool) → (shard_of K x == s) ≡ b → AreHere K (K.coordinators + s) (on_shard K s xs)
          → All (λ x. shard_node K (shard_of K x) ≡ K.coordinators + s) (if b then x ∷ on_shard K s xs else on_shard K s xs)
      go true t rest =
          let same : shard_of K x ≡ s = grind (arith, t) in
          All-cons (λ x. shard_node K (shard_of K x) ≡ K.coordinators + s) x (on_shard K s xs)
          (ap (λ m. K.coordinators + m) same) rest
      go false t rest = rest

module _ (K : Shape) (mint : List Output) (within : IsWithinLimits K) (few : length mint ≤ 1000000) where
  -- a first record is a node's journal
  first_journal : (n : ℕ) → n < node_count K → IsJournal (header_of K (genesis_id mint) n) (first_record K (minted mint) n ∷ [])
  first_journal n inside = go (nat_lt n K.coordinators) refl
    where
      go : (b : Bool) → nat_lt n K.coordinators ≡ b
          → IsJournal (header_of K (genesis_id mint) n)
          ((if b then Start (header_of K (genesis_id mint) n)
          else Genesis (header_of K (genesis_id mint) n) (on_shard K (n - K.coordinators) (genesis_hashes mint))) ∷ [])
      go true t = (tt, ((refl, id_is_hash mint, ltb-true n K.coordinators t), refl))
      go false t =
          let high : K.coordinators ≤ n = ltb-false n K.coordinators t in
          let place : K.coordinators + (n - K.coordinators) ≡ n = omega (arith, high) in
          let long = made_length (genesis_id mint) 0 mint in
          let short = on_length K (n - K.coordinators) (genesis_hashes mint) in (
            tt,
            (
              (
                refl,
                id_is_hash mint,
                (high, omega (arith, inside)),
                omega (arith, long, short, few),
                on_all K (n - K.coordinators) IsHash (genesis_hashes mint) (made_hashes (genesis_id mint) 0 mint),
                subst (λ m. AreHere K m (on_shard K (n - K.coordinators) (genesis_hashes mint))) place
                    (on_here K (n - K.coordinators) (genesis_hashes mint)),
              ),
              refl,
            ),
          )

  one_more : (h : Header) (J : List Record) (r : Record) → (J ≡ [] → ⊥) → After h J r → IsJournal h J → IsJournal h (r ∷ J)
  one_more h [] r some after is = absurd (some refl)
  one_more h (q ∷ J) r some after is = (after, is)

  module _ (submissions : List FullTx) where
    rows_journal : (later : List Row) → IsSteady K (minted mint) (IsProperCompact submissions) later → (n : ℕ) → n < node_count K
        → IsJournal (header_of K (genesis_id mint) n) (journal n (later ++ first_rows K (minted mint)))
    rows_journal [] kept n inside = subst (IsJournal (header_of K (genesis_id mint) n)) (sym (first_is K (minted mint) n inside))
        (first_journal n inside)
    rows_journal (row ∷ later) kept n inside = go (row.node == n) refl (rows_journal later kept.3 n inside)
      where
        go : (b : Bool) → (row.node == n) ≡ b → IsJournal (header_of K (genesis_id mint) n) (journal n (later ++ first_rows K (minted mint)))
            → IsJournal (header_of K (genesis_id mint) n)
            (if b then row.what ∷ journal n (later ++ first_rows K (minted mint)) else journal n (later ++ first_rows K (minted mint)))
        go true t rest =
            let same : row.node ≡ n = grind (arith, t) in
            one_more (header_of K (genesis_id mint) n) (journal n (later ++ first_rows K (minted mint))) row.what
            (never_empty K (minted mint) later n inside)
            (subst (λ m. After (header_of K (genesis_id mint) m) (journal m (later ++ first_rows K (minted mint))) row.what) same kept.0) rest
        go false t rest = rest

    -- each node's journal is one of that node
    pub kept_journal : (X : ℕ → List Record) → KeptJournals K mint submissions X → (n : ℕ) → n < node_count K
        → IsJournal (header_of K (genesis_id mint) n) (X n)
    kept_journal X kept n inside = subst (IsJournal (header_of K (genesis_id mint) n)) (kept.history.journals_are n)
        (rows_journal kept.later kept.kept n inside)

    -- and behind the nodes there is none
    pub kept_beyond : (X : ℕ → List Record) → KeptJournals K mint submissions X → (n : ℕ) → node_count K ≤ n → X n ≡ []
    kept_beyond X kept n past =
        sym (kept.history.journals_are n) ∙ none_beyond K (minted mint) (IsProperCompact submissions) kept.later
        (steady K (minted mint) (IsProperCompact submissions) kept.later kept.kept) n past

  -- ---- a ledger that was just made

  pub first_kept : KeptJournals K mint [] (mint_journals K mint)
  first_kept = record { later = []; history = record { ordered = tt; journals_are = λ n. refl }; kept = tt }

  pub first_shown : {D : Type 0} (device : Ghosts D) (before now : ℕ → Option D)
      → ((n : ℕ) → n < node_count K → (d : D) × (before n ≡ Some d) × IsSome (device.content d))
      → ((n : ℕ) → n < node_count K → (d : D) × (now n ≡ Some d))
      → ((n : ℕ) → n < node_count K → HoldsFirst device (first_record_of K mint n) (before n) (now n))
      → Shows device now K (genesis_id mint) (mint_journals K mint)
  first_shown device before now was is holds n inside =
      let (old, told, some) = was n inside in
      let (d, here) = is n inside in
      let h = holds n inside old told d here some in
      let own : mint_journals K mint n ≡ first_record K (minted mint) n ∷ [] = first_is K (minted mint) n inside in
      let opens : OpensTo (reverse (mint_journals K mint n)) h.bytes = subst (λ J. OpensTo (reverse J) h.bytes) (sym own) h.opens in
      let journal_is : IsJournal (header_of K (genesis_id mint) n) (mint_journals K mint n) =
      kept_journal [] (mint_journals K mint) first_kept n inside in
      (d, here, (h.bytes, h.told, record { opens = opens; limits = within; journal = journal_is; kind = tt }))
