-- The headline: of every run from the first world, once it is recovered.
use Rattle.std.proofs.Common.{◌≡◌, ◌⊎◌, inl, inr, ℕ, ◌+◌, ◌<◌, ◌≤◌, ◌/◌, ◌*◌, true, false, List, [], ◌∷◌, ◌++◌, map, Some, bytes_eq, refl, sym, ap}
use Rattle.std.proofs.Common.{◌∙◌, subst, arith}
use Rattle.std.specs.List.{IsDistinct, AllByRecursion}
use Rattle.std.proofs.lemmas.Slice.Eq.{bytes_eq-Decides}
use Rattle.cbdc_model.specs.Clean.{Clean, IsMember, IsProperCompact}
use Rattle.cbdc_model.specs.Book.{Book, fold_txs, genesis_book, total}
use Rattle.cbdc_model.specs.Money.{taken_sum, made_sum}
use Rattle.cbdc_model.specs.Coins.{Output, Coin, FullTx, coin_hash, tx_coins, genesis_tx, compact, genesis_hashes}
use Rattle.cbdc_model.specs.Headline.{all_spent, NoneTwice, NoIdTwice, Headline}
use Rattle.cbdc_model.specs.History.{committed, won_of, all_inputs, all_outputs, history_of, Minted, minted, AreHandedIn}
use Rattle.cbdc_model.specs.Ranges.{shard_of, shard_node, journal_at}
use Rattle.cbdc_model.specs.Records.{Digest, same_digest, Shape, Compact, Record, Row, journal}
use Rattle.cbdc_model.specs.Slots.{slot, Idle}
use Rattle.cbdc_model.specs.Status.{status, Unspent}
use Rattle.cbdc_model.specs.World.{AreIdle, World, journals, init}
use Rattle.std.proofs.Math.Nat.{div-lt_iff_lt-mul}
use Rattle.ledger_laws.proofs.Ledger.{SteadyWorld, SteadyJournals, steady}
use Rattle.ledger_laws.proofs.FirstWorld.{init_kept, to_steady}
use Rattle.ledger_laws.proofs.Next.{Each, Steady}
use Rattle.ledger_laws.specs.Sets.{IsPlaced, Folds}
use Rattle.ledger_laws.specs.Laws.{HeadlineLaw, RecoveredLaw, IdleLaw, FlowLaw}
use Rattle.ledger_laws.proofs.Counts.{count, count-append, same_digest_is, count_first, count-cons_same}
use Rattle.ledger_laws.proofs.View.{Inv}
use Rattle.ledger_laws.proofs.Rows.{view}
use Rattle.ledger_laws.proofs.Lookups.{not_true}
use Rattle.ledger_laws.proofs.CommitStep.{Apart, Makes, maker}
use Rattle.ledger_laws.proofs.Theory.{kept_inv}
use Rattle.ledger_laws.proofs.Folds.{point_of, hashes_of, EachCoin}
use Rattle.ledger_laws.proofs.Members.{CoinAt, coin_at, In, in_contains, contains_in, Made, made_is, coins_apart, apart, in_count}
use Rattle.ledger_laws.proofs.Folding.{FullForms, full_forms, EachFair, kept_each, folds_steady, fold_law}
use Rattle.ledger_laws.proofs.Worlds.{run_keeps}
use Rattle.ledger_laws.proofs.Recovered.{none_locked, none_coming}
use Rattle.ledger_laws.proofs.Alikes.{alike}

-- what was handed in for compact forms is one list
some_same : (t u : FullTx) → Some t ≡ Some u → t ≡ u
some_same t u e = cc

pub one_list : (txs : List FullTx) (ks : List Compact) (ts us : List FullTx) → AreHandedIn txs ks ts → AreHandedIn txs ks us → ts ≡ us
one_list txs [] [] [] h g = refl
one_list txs [] [] (u ∷ us) h g = absurd g
one_list txs [] (t ∷ ts) us h g = absurd h
one_list txs (k ∷ ks) [] us h g = absurd h
one_list txs (k ∷ ks) (t ∷ ts) [] h g = absurd g
one_list txs (k ∷ ks) (t ∷ ts) (u ∷ us) h g =
    let a : t ≡ u = some_same t u (sym h.0 ∙ g.0) in
    let b : ts ≡ us = one_list txs ks ts us h.1 g.1 in
    λ i. a i ∷ b i

-- the hashes that transactions take
hashes-append : (x : Digest) (cs ds : List Coin) → count x (hashes_of (cs ++ ds)) ≡ count x (hashes_of cs) + count x (hashes_of ds)
hashes-append x [] ds = omega arith
hashes-append x (c ∷ cs) ds = omega (arith, hashes-append x cs ds)

pub hashes_all : (x : Digest) (ts : List FullTx) → count x (hashes_of (all_spent ts)) ≡ count x (all_inputs (map compact ts))
hashes_all x [] = refl
hashes_all x (t ∷ ts) = omega (
  arith,
  hashes-append x t.inputs (all_spent ts),
  hashes_all x ts,
  count-append x (hashes_of t.inputs) (all_inputs (map compact ts)),
)

pub each-append : (Q : Coin → Type 0) (cs ds : List Coin) → EachCoin Q cs → EachCoin Q ds → EachCoin Q (cs ++ ds)
each-append Q [] ds h k = k
each-append Q (c ∷ cs) ds h k = (h.0, each-append Q cs ds h.1 k)

module _ (mint : List Output) (txs : List FullTx) (clean : Clean mint txs) where
  abbrev made : Coin → Type 0
  made = Made mint txs clean

  pub record MadeAt (x : Digest) : Type 0 where
    pub coin : Coin
    pub is_made : made coin
    pub hash : coin_hash coin ≡ x

  pub made_in : (t : FullTx) → IsMember mint txs t → (x : Digest) → 0 < count x (hashes_of (tx_coins t)) → MadeAt x
  made_in t m x h =
      let c : CoinAt (tx_coins t) x = coin_at (tx_coins t) x h in
      record { coin = c.coin; is_made = made_is mint txs clean t c.coin m c.inside; hash = c.hash }

  made_by : (ks : List Compact) → Each (IsProperCompact txs) ks → (x : Digest) → 0 < count x (all_outputs ks) → MadeAt x
  made_by ks each x h =
      let m : Makes (IsProperCompact txs) ks x = maker (IsProperCompact txs) ks x each h in
      made_in m.proper.0 (inr m.proper.1) x (subst (λ k. 0 < count x k.outputs) (sym m.proper.3) m.makes)

  -- made coins with different hashes have different outpoints
  not_here : (c : Coin) (cs : List Coin) → made c → EachCoin made cs → count (coin_hash c) (hashes_of cs) ≡ 0
      → AllByRecursion (λ q. bytes_eq (point_of c) q ≡ false) (map point_of cs)
  not_here c [] m each z = tt
  not_here c (d ∷ ds) m each z =
      (differs, not_here c ds m each.1 (none_later (coin_hash c) (coin_hash d) (hashes_of ds) z))
    where
      none_later : (x y : Digest) (ys : List Digest) → count x (y ∷ ys) ≡ 0 → count x ys ≡ 0
      none_later x y ys h = omega arith

      none_first : (x y : Digest) (ys : List Digest) → count x (y ∷ ys) ≡ 0 → y ≡ x → ⊥
      none_first x y ys h e = omega (arith, count-cons_same x y ys e)

      differs : bytes_eq (point_of c) (point_of d) ≡ false
      differs = elim (bytes_eq (point_of c) (point_of d)) as (λ b. bytes_eq (point_of c) (point_of d) ≡ b → b ≡ false) [
        | true ↦ λ e. absurd (
            let p : point_of c ≡ point_of d = (bytes_eq-Decides (point_of c) (point_of d)).0 e in
            let same : c ≡ d = (coins_apart mint txs clean).same_point c d m each.0 p in
            none_first (coin_hash c) (coin_hash d) (hashes_of ds) z (ap coin_hash (sym same)))
        | false ↦ λ _. refl
      ] refl

  pub distinct_points : (cs : List Coin) → EachCoin made cs → ((x : Digest) → count x (hashes_of cs) ≤ 1)
      → IsDistinct (λ p q. bytes_eq p q) (map point_of cs)
  unfolding IsDistinct
  distinct_points [] each once = tt
  distinct_points (c ∷ cs) each once = (
    not_here c cs each.0 each.1 (head_once (coin_hash c) (hashes_of cs) (once (coin_hash c))),
    distinct_points cs each.1 (λ x. tail_once x (coin_hash c) (hashes_of cs) (once x)),
  )
    where
      head_once : (x : Digest) (xs : List Digest) → count x (x ∷ xs) ≤ 1 → count x xs ≡ 0
      head_once x xs h = omega (arith, count-cons_same x x xs refl)

      tail_once : (x y : Digest) (xs : List Digest) → count x (y ∷ xs) ≤ 1 → count x xs ≤ 1
      tail_once x y xs h = omega arith

  -- each input of fair transactions is made, where each hash that is taken was made
  pub each_is_made : (t : FullTx) → IsMember mint txs t → (cs : List Coin) → ((c : Coin) → In c cs → In c t.inputs)
      → ((x : Digest) → 0 < count x (hashes_of cs) → MadeAt x) → EachCoin made cs
  each_is_made t m [] all source = tt
  each_is_made t m (c ∷ cs) all source =
      let s : MadeAt (coin_hash c) = source (coin_hash c) (first_counts (coin_hash c) (hashes_of cs)) in
      let same : s.coin ≡ c = clean.hashes s.coin c ((coins_apart mint txs clean).made_named s.coin s.is_made)
      (t, m, inl (contains_in t.inputs c (all c (inl refl)))) s.hash in
      (subst made same s.is_made, each_is_made t m cs (λ d h. all d (inr h)) (λ x h. source x (later_counts x (coin_hash c) (hashes_of cs) h)))
    where
      first_counts : (y : Digest) (ys : List Digest) → 0 < count y (y ∷ ys)
      first_counts y ys = count_first y ys

      later_counts : (x y : Digest) (ys : List Digest) → 0 < count x ys → 0 < count x (y ∷ ys)
      later_counts x y ys h = omega arith

  all_are_made : (ts : List FullTx) → EachFair mint txs clean ts → ((x : Digest) → 0 < count x (all_inputs (map compact ts)) → MadeAt x)
      → EachCoin made (all_spent ts)
  all_are_made [] fair source = tt
  all_are_made (t ∷ ts) fair source = each-append made t.inputs (all_spent ts)
      (each_is_made t fair.0.member t.inputs (λ c h. h)
      (λ x h. source x (omega (arith, count-append x (hashes_of t.inputs) (all_inputs (map compact ts))))))
      (all_are_made ts fair.1 (λ x h. source x (omega (arith, count-append x (hashes_of t.inputs) (all_inputs (map compact ts))))))

  pub none_twice : (K : Shape) (past : List Row) → Inv (λ x. count x (genesis_hashes mint)) (IsProperCompact txs) (view K past)
      → Each (IsProperCompact txs) (committed past) → (forms : FullForms mint txs clean (committed past)) → NoneTwice forms.full
  none_twice K past inv each forms =
      let source : (x : Digest) → 0 < count x (all_inputs (map compact forms.full)) → MadeAt x
      = λ x h. let n : 0 < count x (all_inputs (committed past)) = subst (λ ks. 0 < count x (all_inputs ks)) forms.forms h in
      let cases : (0 < count x (genesis_hashes mint))
      ⊎ (0 < count x (all_outputs (committed past))) = some_source x past n (inv.spent_le x) (inv.arrived_le x) in
      elim cases [
        | inl g ↦ made_in (genesis_tx mint) (inl refl) x g
        | inr m ↦ made_by (committed past) each x m
      ] in
      distinct_points (all_spent forms.full) (all_are_made forms.full forms.fair source)
      (λ x. once_each x (hashes_all x forms.full) (ap (λ ks. count x (all_inputs ks)) forms.forms) (inv.spent_le x) (inv.arrived_le x)
      (inv.made_once x))
    where
      some_source : (x : Digest) (past : List Row) {a : ℕ} → 0 < count x (all_inputs (committed past)) → count x (all_inputs (committed past)) ≤ a
          → a ≤ count x (genesis_hashes mint) + count x (all_outputs (committed past))
          → (0 < count x (genesis_hashes mint)) ⊎ (0 < count x (all_outputs (committed past)))
      some_source x past h k l = grind arith

      once_each : (x : Digest) {a b c d e : ℕ} → a ≡ b → b ≡ c → c ≤ d → d ≤ e → e ≤ 1 → a ≤ 1
      once_each x p q r s t = omega arith

-- no id is committed twice: the two would share an input
module _ (mint : List Output) (txs : List FullTx) (clean : Clean mint txs) where
  no_later_id : (k : Compact) (ks : List Compact) → IsProperCompact txs k → Each (IsProperCompact txs) ks
      → ((x : Digest) → count x k.inputs + count x (all_inputs ks) ≤ 1) → AllByRecursion (λ i. same_digest k.id i ≡ false) (map (λ l. l.id) ks)
  no_later_id k [] p each once = tt
  no_later_id k (l ∷ ls) p each once = (
    not_true (same_digest k.id l.id) (λ e. absurd (twice (same_id k l e))),
    no_later_id k ls p each.1 (λ x. omega (arith, once x, count-append x l.inputs (all_inputs ls))),
  )
    where
      same_id : (k l : Compact) → same_digest k.id l.id ≡ true → k.id ≡ l.id
      same_id k l e = same_digest_is k.id l.id e

      twice : k.id ≡ l.id → ⊥
      twice e =
          let q : IsProperCompact txs l = each.0 in
          let same : (p.0.inputs ≡ q.0.inputs) × (p.0.outputs ≡ q.0.outputs)
          = clean.ids p.0 q.0 (inr p.1) (inr q.1) (ap (λ j. j.id) p.3 ∙ e ∙ ap (λ j. j.id) (sym q.3)) in
          let a : Apart (λ x. count x (genesis_hashes mint)) (IsProperCompact txs) = apart mint txs clean in
          let y : Digest = a.first_input k in
          let inputs : k.inputs ≡ l.inputs = ap (λ j. j.inputs) (sym p.3) ∙ ap hashes_of same.0 ∙ ap (λ j. j.inputs) q.3 in
          let n : 0 < count (a.first_input k) k.inputs = a.has_input k p in
          let m : count (a.first_input k) k.inputs ≡ count (a.first_input k) l.inputs = ap (count (a.first_input k)) inputs in
          omega (arith, once (a.first_input k), count-append (a.first_input k) l.inputs (all_inputs ls))

  distinct_ids : (ks : List Compact) → Each (IsProperCompact txs) ks → ((x : Digest) → count x (all_inputs ks) ≤ 1)
      → IsDistinct same_digest (map (λ k. k.id) ks)
  unfolding IsDistinct
  distinct_ids [] each once = tt
  distinct_ids (k ∷ ks) each once = (
    no_later_id k ks each.0 each.1 (λ x. omega (arith, once x, count-append x k.inputs (all_inputs ks))),
    distinct_ids ks each.1 (λ x. omega (arith, once x, count-append x k.inputs (all_inputs ks))),
  )

  pub no_id_twice : (K : Shape) (past : List Row) → Inv (λ x. count x (genesis_hashes mint)) (IsProperCompact txs) (view K past)
      → Each (IsProperCompact txs) (committed past) → NoIdTwice past
  no_id_twice K past inv each = distinct_ids (committed past) each (λ x. omega (arith, inv.spent_le x, inv.arrived_le x, inv.made_once x))

pub kept_headline : (K : Shape) (mint : List Output) (txs : List FullTx) (J : ℕ → List Record) → 0 < K.shards → 0 < K.lanes → Clean mint txs
    → SteadyJournals K (minted mint) (IsProperCompact txs) J → AreIdle K J → Headline K mint txs J
kept_headline K mint txs J shards lanes clean k all_idle =
    let a : Apart (λ x. count x (genesis_hashes mint)) (IsProperCompact txs) = apart mint txs clean in
    let inv : Inv (λ x. count x (genesis_hashes mint)) (IsProperCompact txs) (view K (history_of K mint k.later))
    = kept_inv K (minted mint) (IsProperCompact txs) shards a k.later k.kept in
    let f : Folds K mint txs (history_of K mint k.later) = folds_steady K mint txs clean shards k.later k.kept inv in
    let idle : (lane : ℕ) → lane / K.lanes < K.coordinators → (slot (journal (lane / K.lanes) (history_of K mint k.later)) lane).phase ≡ Idle
    = λ lane lt. ap (λ J. (slot J lane).phase) (k.history (lane / K.lanes)) ∙ all_idle lane (below lane K.lanes K.coordinators lanes lt) in
    let each : Each (IsProperCompact txs) (committed (history_of K mint k.later)) =
    kept_each K (IsProperCompact txs) (minted mint) shards a k.later k.kept in
    let forms : FullForms mint txs clean (committed (history_of K mint k.later)) =
    full_forms mint txs clean (committed (history_of K mint k.later)) each in
    let same : forms.full ≡ f.txs = one_list txs (committed (history_of K mint k.later)) forms.full f.txs forms.is f.committed in
    record {
      later = k.later;
      history = record { ordered = k.ordered; journals_are = k.history };
      txs = f.txs;
      committed = f.committed;
      book = f.book;
      folds = f.folds;
      issuance = f.issuance;
      value_kept = f.value_kept;
      unspent = λ x. (
        λ u. (f.places x).1 (inl (ap (λ J. status J x) (k.history (shard_node K (shard_of K x))) ∙ u)),
        λ i. ap (λ J. status J x) (sym (k.history (shard_node K (shard_of K x))))
            ∙ only_unspent K mint txs k.later shards k.kept idle inv x ((f.places x).0 i),
      );
      none_twice = subst (λ ts. NoneTwice ts) same (none_twice mint txs clean K (history_of K mint k.later) inv each forms);
      no_id_twice = no_id_twice mint txs clean K (history_of K mint k.later) inv each;
      alike = alike K (minted mint) (IsProperCompact txs) shards J k idle;
    }
  where
    below : (lane lanes coordinators : ℕ) → 0 < lanes → lane / lanes < coordinators → lane < coordinators * lanes
    below lane lanes coordinators h lt = (div-lt_iff_lt-mul h).0 lt

    only_unspent : (K : Shape) (mint : List Output) (txs : List FullTx) (later : List Row) → 0 < K.shards
        → Steady K (minted mint) (IsProperCompact txs) later
        → ((lane : ℕ) → lane / K.lanes < K.coordinators → (slot (journal (lane / K.lanes) (history_of K mint later)) lane).phase ≡ Idle)
        → Inv (λ x. count x (genesis_hashes mint)) (IsProperCompact txs) (view K (history_of K mint later)) → (x : Digest)
        → IsPlaced K (history_of K mint later) x → status (journal_at K (history_of K mint later) x) x ≡ Unspent
    only_unspent K mint txs later shards kept idle inv x (inl u) = u
    only_unspent K mint txs later shards kept idle inv x (inr (inl w)) =
        absurd (none_locked K (minted mint) (IsProperCompact txs) shards later kept idle x w.0 inv w.2)
    only_unspent K mint txs later shards kept idle inv x (inr (inr c)) =
        absurd (none_coming K (minted mint) (IsProperCompact txs) shards later kept idle x c.0
        (in_count x (all_outputs (won_of K (history_of K mint later) c.0))
        (in_contains (all_outputs (won_of K (history_of K mint later) c.0)) x c.1)) c.2)

of_world : (K : Shape) (minting : Minted) (P : Compact → Type 0) (w : World) → SteadyWorld K minting P w → SteadyJournals K minting P (journals w)
of_world K minting P w k = record { later = k.later; kept = k.kept; ordered = k.ordered; history = k.history }

pub idle_law : IdleLaw
idle_law K mint txs J shards lanes clean kept idle =
    kept_headline K mint txs J shards lanes clean
    (record {
      later = kept.later;
      kept = steady K (minted mint) (IsProperCompact txs) kept.later kept.kept;
      ordered = kept.history.ordered;
      history = kept.history.journals_are;
    }) idle

pub recovered_law : RecoveredLaw
recovered_law K mint txs w shards lanes clean kept recovered =
    kept_headline K mint txs (journals w) shards lanes clean (of_world K (minted mint) (IsProperCompact txs) w (to_steady K mint txs w kept))
    recovered.idle

pub headline_law : HeadlineLaw
headline_law K mint txs events w shards lanes clean proper run recovered =
    kept_headline K mint txs (journals w) shards lanes clean (of_world K (minted mint) (IsProperCompact txs) w
    (run_keeps K (minted mint) (IsProperCompact txs) shards (init K (minted mint)) w events (init_kept K (minted mint) (IsProperCompact txs)) proper
    run)) recovered.idle

-- what was committed is one list, and leaves one book
pub flow_law : FlowLaw
flow_law K mint txs later list book f shards clean kept are folds =
    let law : Folds K mint txs (history_of K mint later) = fold_law K mint txs later shards clean kept in
    let same : law.txs ≡ list = one_list txs (committed (history_of K mint later)) law.txs list law.committed are in
    let left : law.book ≡ book = one_book law.book book (sym law.folds ∙ ap (fold_txs (Some (genesis_book mint))) same ∙ folds) in
    subst (λ b. total f b + taken_sum f list ≡ total f (genesis_book mint) + made_sum f list) left
    (subst (λ ts. total f law.book + taken_sum f ts ≡ total f (genesis_book mint) + made_sum f ts) same (law.flow f))
  where
    one_book : (b c : Book) → Some b ≡ Some c → b ≡ c
    one_book b c e = cc
