-- Of a sound history the unspent hashes are those of its last book.
use Rattle.std.proofs.Common.{◌≡◌, ◌⊎◌, inl, inr, ℕ, suc, ◌+◌, ◌-◌, ◌<◌, ◌≤◌, min, true, false, ◌&&◌, ◌==◌, List, [], ◌∷◌, ◌++◌, map, length, Option}
use Rattle.std.proofs.Common.{Some, None, refl, sym, ap, ◌∙◌, subst, arith}
use Rattle.cbdc_model.specs.Causes.{IsCaused}
use Rattle.cbdc_model.specs.Records.{Digest, Shape, Batch, Compact, Record, Row, journal, kind_of, is_of, Genesis, Lock, Finish, Start, Prepare}
use Rattle.cbdc_model.specs.Records.{Commit, lock_of, txs_of, outcomes_of, Carry, CarryStart}
use Rattle.cbdc_model.specs.Ranges.{shard_of, shard_node, journal_at, lane_journal, home_of, Concerned}
use Rattle.cbdc_model.specs.Status.{status, held_inputs, Unspent, Locked, Absent}
use Rattle.cbdc_model.specs.Coins.{Output, Coin, FullTx, tx_coins, genesis_tx, genesis_hashes, compact}
use Rattle.cbdc_model.specs.Book.{Book, fold_txs, genesis_book, InBook}
use Rattle.cbdc_model.specs.Clean.{IsMember, Clean}
use Rattle.cbdc_model.specs.History.{Minted, minted, first_rows, committed, newly_won, won_of, all_inputs, all_outputs, same_compact, first_with}
use Rattle.cbdc_model.specs.History.{AreHandedIn}
use Rattle.cbdc_model.specs.World.{IsUnspent}
use Rattle.ledger_laws.proofs.Next.{Next, Steady, has_lock, has_finish, has_prepare}
use Rattle.ledger_laws.proofs.Ledger.{next_at, proper_of, each_passes}
use Rattle.ledger_laws.proofs.More.{has_done}
use Rattle.ledger_laws.proofs.Recovered.{all_dones, done_forgot, part_of_made, held_locked, won_prepared}
use Rattle.ledger_laws.proofs.Moves.{all_structure, all_more, not_empty, split_test}
use Rattle.ledger_laws.proofs.Counts.{count}
use Rattle.ledger_laws.proofs.View.{Inv, Awaited}
use Rattle.ledger_laws.proofs.LockStep.{lock_kept}
use Rattle.ledger_laws.proofs.FinishStep.{finish_kept}
use Rattle.ledger_laws.proofs.CommitStep.{Apart}
use Rattle.ledger_laws.proofs.Rows.{view, quiet_view, at, away, at_node, head_at, head_away}
use Rattle.ledger_laws.proofs.Steps.{prepare_view, newly, commit_changes, finish_changes}
use Rattle.ledger_laws.proofs.First.{first_inv}
use Rattle.ledger_laws.proofs.Lookups.{true_false, shard_of-lt}
use Rattle.ledger_laws.proofs.Folds.{hashes_of}
use Rattle.ledger_laws.proofs.Members.{In, contains_in, CoinAt, coin_at, tx_coins_once, genesis_member}
use Rattle.ledger_laws.proofs.Theory.{in_book}
use Rattle.ledger_laws.proofs.Equality.{same_compact_is}
use Rattle.audit.proofs.Once.{SoFar, AreReady, fold_so_far, counted_in, Maker, maker_in, StandsFor}
use Rattle.audit.proofs.Holders.{Never, capped, capped_inv, capped_finish, capped_commit}
use Rattle.audit.proofs.Locking.{capped_lock, finish_exact}
use Rattle.audit.specs.Spending.{AreSpent}
use Rattle.audit.specs.Walks.{AllCaused, HasDoneRecord}
use Rattle.audit.specs.Laws.{AllAfter}

abbrev Any : Compact → Type 0
Any t = Unit {0}

pub all_steady : (K : Shape) (m : Minted) (later : List Row) → AllAfter K m later → AllCaused K (later ++ first_rows K m) → Steady K m Any later
all_steady K m [] after caused = tt
all_steady K m (row ∷ later) after caused = (
  next_at K m Any later row.node row.what after.0,
  caused.0,
  proper_of Any row.what (each_passes Any (λ t. tt) row.what),
  all_steady K m later after.1 caused.1,
  after.0.0,
)

-- the forms of what was handed in
found_is : (txs : List FullTx) (k : Compact) (t : FullTx) → first_with txs k ≡ Some t → In t txs × (compact t ≡ k)
found_is [] k t h = absurd (let z : None ≡ Some t = h in cc)
found_is (u ∷ us) k t h =
    elim (same_compact (compact u) k) as (λ c. same_compact (compact u) k ≡ c → In t (u ∷ us) × (compact t ≡ k)) [
      | true ↦ λ e. let s : Some u ≡ Some t = rw e at h in let same : u ≡ t = cc in
          (inl (sym same), ap compact (sym same) ∙ same_compact_is (compact u) k e)
      | false ↦ λ e. let r : In t us × (compact t ≡ k) = found_is us k t (rw e at h) in (inr r.0, r.1)
    ] refl

abbrev pub EachSpends : List Compact → Type 0
EachSpends [] = Unit {0}
EachSpends (k ∷ ks) = (0 < length k.inputs) × EachSpends ks

each_spends-append : (ks ls : List Compact) → EachSpends (ks ++ ls) → EachSpends ks
each_spends-append [] ls h = tt
each_spends-append (k ∷ ks) ls h = (h.0, each_spends-append ks ls h.1)

pub length_hashes : (cs : List Coin) → length (hashes_of cs) ≡ length cs
length_hashes [] = refl
length_hashes (c ∷ cs) = ap suc (length_hashes cs)

pub forms_are : (mint : List Output) (handed : List FullTx) (clean : Clean mint handed) (ks : List Compact) (ts : List FullTx)
    → AreHandedIn handed ks ts → EachSpends ks
    → AreReady mint handed clean ts × (map compact ts ≡ ks)
forms_are mint handed clean [] [] h each = (tt, refl)
forms_are mint handed clean [] (t ∷ ts) h each = absurd h
forms_are mint handed clean (k ∷ ks) [] h each = absurd h
forms_are mint handed clean (k ∷ ks) (t ∷ ts) h each =
    let f : In t handed × (compact t ≡ k) = found_is handed k t h.0 in
    let rest : AreReady mint handed clean ts × (map compact ts ≡ ks) = forms_are mint handed clean ks ts h.1 each.1 in (
      (inr (contains_in handed t f.0), omega (arith, length_hashes t.inputs, each.0, ap (λ j. length j.inputs) f.1), rest.0),
      λ i. f.1 i ∷ rest.1 i,
    )

-- what is spent begins with what was spent before
pub split_forms : (handed : List FullTx) (ks ls : List Compact) (ts : List FullTx) → AreHandedIn handed (ks ++ ls) ts
    → (us : List FullTx) × (vs : List FullTx) × AreHandedIn handed ks us × (us ++ vs ≡ ts)
split_forms handed [] ls ts h = ([], ts, tt, refl)
split_forms handed (k ∷ ks) ls [] h = absurd h
split_forms handed (k ∷ ks) ls (t ∷ ts) h =
    let r : (us : List FullTx) × (vs : List FullTx) × AreHandedIn handed ks us × (us ++ vs ≡ ts) = split_forms handed ks ls ts h.1 in
    (t ∷ r.0, r.1, (h.0, r.2), ap (λ l. t ∷ l) r.3)

split_fold : (us vs : List FullTx) (r : Option Book) (e : Book) → fold_txs r (us ++ vs) ≡ Some e → (b : Book) × (fold_txs r us ≡ Some b)
split_fold us vs None e h = absurd (let z : None ≡ Some e = h in cc)
split_fold [] vs (Some b) e h = (b, refl)
split_fold (u ∷ us) vs (Some b) e h = split_fold us vs _ e h

pub spent_before : (mint : List Output) (handed : List FullTx) (ks ls : List Compact) (b : Book) → AreSpent mint handed (ks ++ ls) b
    → (c : Book) × AreSpent mint handed ks c
spent_before mint handed ks ls b s =
    let r : (us : List FullTx) × (vs : List FullTx) × AreHandedIn handed ks us × (us ++ vs ≡ s.txs) = split_forms handed ks ls s.txs s.handed_in in
    let f : (c : Book) × (fold_txs (Some (genesis_book mint)) r.0 ≡ Some c)
    = split_fold r.0 r.1 (Some (genesis_book mint)) b (subst (λ l. fold_txs (Some (genesis_book mint)) l ≡ Some b) (sym r.3) s.folds) in
    (f.0, record { txs = r.0; handed_in = r.2; folds = f.1 })

module _ (K : Shape) where
  -- each batch is done
  abbrev pub EachDone : (ℕ → List Record) → List Row → Type 0
  EachDone J [] = Unit {0}
  EachDone J (row ∷ past) = HasDoneRecord K J row.what × EachDone J past

  done_here : (J : ℕ → List Record) (r : Record) (b : Batch) → HasDoneRecord K J r → ((kind_of r == 6) && is_of b r) ≡ true
      → has_done (J (home_of K b.lane)) b ≡ true
  done_here J (Prepare stamp c txs) b d t = subst (λ e. has_done (J (home_of K e.lane)) e ≡ true) (split_test 6 6 c b t).1 d
  done_here J other b d t = absurd (let z : false ≡ true = t in cc)

  pub done_of : (J : ℕ → List Record) (past : List Row) (n : ℕ) (b : Batch) → EachDone J past → has_prepare (journal n past) b ≡ true
      → has_done (J (home_of K b.lane)) b ≡ true
  done_of J [] n b done h = absurd (let z : false ≡ true = h in cc)
  done_of J (row ∷ past) n b done h = elim (at_node row.node n) [
    | away e ↦ done_of J past n b done.1 (subst (λ I. has_prepare I b ≡ true) (head_away row past n e) h)
    | at e ↦
        let h' : has_prepare (row.what ∷ journal n past) b ≡ true = subst (λ I. has_prepare I b ≡ true) (head_at row past n e) h in
        elim ((kind_of row.what == 6) && is_of b row.what) as
        (λ t. ((kind_of row.what == 6) && is_of b row.what) ≡ t → has_done (J (home_of K b.lane)) b ≡ true) [
          | true ↦ λ t. done_here J row.what b done.0 t
          | false ↦ λ t. done_of J past n b done.1 (rw t at h')
        ] refl
  ]

module _ (K : Shape) (mint : List Output) (handed : List FullTx) (clean : Clean mint handed) (shards : 0 < K.shards) where
  abbrev whole : List Row → List Row
  whole later = later ++ first_rows K (minted mint)

  abbrev genesis : Digest → ℕ
  genesis x = count x (genesis_hashes mint)

  abbrev made : List Row → Digest → ℕ
  made past x = count x (all_outputs (committed past))

  abbrev spent : List Row → Digest → ℕ
  spent past x = count x (all_inputs (committed past))

  record Account (past : List Row) (b : Book) : Type 0 where
    stands : StandsFor mint handed clean b (λ x. in_book (genesis_hashes mint) past x)
    once : (x : Digest) → genesis x + made past x ≤ 1
    covered : (x : Digest) → spent past x ≤ genesis x + made past x
    txs : List FullTx
    forms : map compact txs ≡ committed past
    members : (t : FullTx) → In t txs → IsMember mint handed t

  account : (past : List Row) (b : Book) → AreSpent mint handed (committed past) b → EachSpends (committed past) → Account past b
  account past b s each =
      let f : AreReady mint handed clean s.txs × (map compact s.txs ≡ committed past) =
      forms_are mint handed clean (committed past) s.txs s.handed_in each in
      let so : SoFar mint handed clean s.txs b = fold_so_far mint handed clean s.txs b f.0 s.folds in
      record {
        stands = subst (λ ks. StandsFor mint handed clean b
            (λ x. (count x (genesis_hashes mint) + count x (all_outputs ks)) - count x (all_inputs ks))) f.1 so.stands;
        once = λ x. subst (λ ks. count x (genesis_hashes mint) + count x (all_outputs ks) ≤ 1) f.1 (so.once x);
        covered = λ x. subst (λ ks. count x (all_inputs ks) ≤ count x (genesis_hashes mint) + count x (all_outputs ks)) f.1 (so.covered x);
        txs = s.txs;
        forms = f.1;
        members = so.members;
      }

  none_apart : Apart genesis Never
  none_apart = record {
    one_owner = λ t u x p q h g. absurd p;
    not_genesis = λ t x p h. absurd p;
    first_input = λ t. [];
    has_input = λ t p. absurd p;
    inputs_once = λ t x p. absurd p;
    outputs_once = λ t x p. absurd p;
    genesis_once = λ x. tx_coins_once mint handed clean (genesis_tx mint) (genesis_member mint handed clean) x;
  }

  inv_next : (later : List Row) → Steady K (minted mint) Any later → (node : ℕ) (r : Record) → Next K node (journal node (whole later)) r
      → IsCaused K (λ n. journal n (whole later)) node r
      → ((x : Digest) → genesis x + made (record { node = node; what = r } ∷ whole later) x ≤ 1)
      → ((x : Digest) → spent (record { node = node; what = r } ∷ whole later) x
      ≤ genesis x + made (record { node = node; what = r } ∷ whole later) x)
      → Inv genesis Never (capped (view K (whole later))) → Inv genesis Never (capped (view K (record { node = node; what = r } ∷ whole later)))
  inv_next later kept node (Genesis header hs) next caused once covered inv = absurd next
  inv_next later kept node (Carry stamp header source hs numbers) next caused once covered inv = absurd next
  inv_next later kept node (Start header) next caused once covered inv = absurd next
  inv_next later kept node (CarryStart stamp header source numbers) next caused once covered inv = absurd next
  inv_next later kept node (Lock stamp b es) next caused once covered inv =
      let st = all_structure K (minted mint) Any shards later kept in
      let step = capped_lock K Any (whole later) st node stamp b es next in
      lock_kept inv b step.0 step.1
  inv_next later kept node (Finish stamp b ds) next caused once covered inv =
      let st = all_structure K (minted mint) Any shards later kept in
      finish_kept inv b (capped_finish (view K (whole later)) (view K (record { node = node; what = Finish stamp b ds } ∷ whole later)) b
      (finish_changes K Any (whole later) st node stamp b ds next caused)
      (λ x. let t : count x (all_inputs (won_of K (whole later) b)) ≤ 1 =
      omega (arith, inv.takes_le x b, inv.spent_le x, inv.arrived_le x, inv.made_once x) in t)
      (λ x u n. finish_exact K (minted mint) Any shards later kept node stamp b ds next caused x n))
  inv_next later kept node (Prepare stamp b txs) next caused once covered inv =
      subst (λ v. Inv genesis Never (capped v)) (sym
      (prepare_view K Any (whole later) (all_structure K (minted mint) Any shards later kept) node stamp b txs next)) inv
  inv_next later kept node (Commit stamp b os) next caused once covered inv =
      let st = all_structure K (minted mint) Any shards later kept in
      capped_commit genesis Any (view K (whole later)) (view K (record { node = node; what = Commit stamp b os } ∷ whole later)) inv b
      (newly K Any (whole later) st node stamp b os shards next caused) (commit_changes K Any (whole later) st node stamp b os shards next caused)
      once covered
  inv_next later kept node other next caused once covered inv =
      subst (λ v. Inv genesis Never (capped v)) (sym (quiet_view K (whole later) (record { node = node; what = other })
      (λ J c. refl) (λ J c. refl) (λ J x. refl) (λ J x. refl) (λ J c. refl) (λ J c. refl) refl)) inv

  all_inv : (later : List Row) → Steady K (minted mint) Any later → (b : Book) → AreSpent mint handed (committed (whole later)) b
      → EachSpends (committed (whole later))
      → Inv genesis Never (capped (view K (whole later)))
  all_inv [] kept b s each = capped_inv genesis (view K (first_rows K (minted mint))) (first_inv K (minted mint) Never shards none_apart)
  all_inv (row ∷ later) kept b s each =
      let a : Account (row ∷ whole later) b = account (row ∷ whole later) b s each in
      let before : (c : Book) × AreSpent mint handed (committed (whole later)) c
      = spent_before mint handed (committed (whole later)) (newly_won row.what (journal row.node (whole later))) b s in
      inv_next later kept.3 row.node row.what kept.0 kept.1 a.once a.covered
      (all_inv later kept.3 before.0 before.1 (each_spends-append (committed (whole later)) (newly_won row.what (journal row.node (whole later)))
      each))

  module _ (later : List Row) (kept : Steady K (minted mint) Any later) (done : EachDone K (λ n. journal n (whole later)) (whole later)) where
    finished_at : (b : Batch) → has_prepare (lane_journal K (whole later) b) b ≡ true → (s : ℕ)
        → Concerned K (txs_of (lane_journal K (whole later) b) b) s
        → has_finish (journal (shard_node K s) (whole later)) b ≡ true
    finished_at b h s c = (all_dones K (minted mint) Any shards later kept (shard_node K s)).forgot b
        (done_forgot K (minted mint) Any shards later kept b (done_of K (λ n. journal n (whole later)) (whole later) (home_of K b.lane) b done h) s c)

    none_locked : (x : Digest) (b : Batch) → Inv genesis Never (capped (view K (whole later))) → status (journal_at K (whole later) x) x ≡ Locked b
        → ⊥
    none_locked x b inv e =
        let locked : has_lock (journal_at K (whole later) x) b ≡ true
        = held_locked (journal_at K (whole later) x) x b
        (let n : 0 < min (count x (held_inputs (lock_of (journal_at K (whole later) x) b))) 1 = (inv.locked x b e).3 in omega arith) in
        true_false _ (finished_at b ((all_structure K (minted mint) Any shards later kept).lock_prepared (shard_node K (shard_of K x)) b locked)
        (shard_of K x) (
          shard_of-lt K x shards,
          not_empty (lock_of (journal_at K (whole later) x) b) _
              ((all_structure K (minted mint) Any shards later kept).lock_part (shard_of K x) b locked)
              ((all_more K (minted mint) Any shards later kept (shard_node K (shard_of K x))).lock_some b locked),
        )) (inv.locked x b e).1

    none_coming : (x : Digest) (b : Batch) → 0 < count x (all_outputs (won_of K (whole later) b))
        → has_finish (journal_at K (whole later) x) b ≡ false → ⊥
    none_coming x b n f =
        let prepared = won_prepared (lane_journal K (whole later) b) x b (outcomes_of (lane_journal K (whole later) b) b) n in
        true_false _ (finished_at b prepared (shard_of K x)
        (shard_of-lt K x shards, part_of_made K x (txs_of (lane_journal K (whole later) b) b) (outcomes_of (lane_journal K (whole later) b) b) n)) f

    module _ (b : Book) (s : AreSpent mint handed (committed (whole later)) b) (each : EachSpends (committed (whole later))) where
      the_account : Account (whole later) b
      the_account = account (whole later) b s each

      the_inv : Inv genesis Never (capped (view K (whole later)))
      the_inv = all_inv later kept b s each

      -- an unspent hash is counted once
      counted : (x : Digest) → IsUnspent K (λ n. journal n (whole later)) x → in_book (genesis_hashes mint) (whole later) x ≡ 1
      counted x e = omega (arith, the_inv.unspent x e, the_inv.arrived_le x, the_inv.made_once x)

      -- a hash of the book is unspent
      is_unspent : (x : Digest) → 0 < in_book (genesis_hashes mint) (whole later) x → IsUnspent K (λ n. journal n (whole later)) x
      is_unspent x h = elim (status (journal_at K (whole later) x) x) as
          (λ v. status (journal_at K (whole later) x) x ≡ v → status (journal_at K (whole later) x) x ≡ Unspent) [
            | Unspent ↦ λ e. e
            | Locked c ↦ λ e. absurd (none_locked x c the_inv e)
            | Absent ↦ λ e.
                let a : Awaited (capped (view K (whole later))) x =
                the_inv.awaited x (omega (arith, the_inv.absent x e, the_inv.made_once x)) (omega arith) in
                absurd (none_coming x a.batch a.makes a.unfinished)
          ] refl

      to_book : (x : Digest) → 0 < in_book (genesis_hashes mint) (whole later) x → InBook b x
      to_book x n =
          let cases : (0 < genesis x) ⊎ (0 < made (whole later) x) = grind arith in
          elim cases [
            | inl g ↦ at_coin x n (coin_at (tx_coins (genesis_tx mint)) x g) (genesis_tx mint) (genesis_member mint handed clean) (λ c i. i)
            | inr m ↦
                let k : Maker the_account.txs x = maker_in the_account.txs x (subst (λ ks. 0 < count x (all_outputs ks)) (sym the_account.forms) m) in
                at_coin x n (coin_at (tx_coins k.tx) x k.makes) k.tx (the_account.members k.tx k.inside) (λ c i. i)
          ]
        where
          at_coin : (x : Digest) → 0 < in_book (genesis_hashes mint) (whole later) x → {cs : List Coin} → CoinAt cs x → (t : FullTx)
              → IsMember mint handed t
              → ((c : Coin) → In c cs → In c (tx_coins t)) → InBook b x
          at_coin x n c t m inside = (
            c.coin,
            the_account.stands.found c.coin (t, m, inr (contains_in (tx_coins t) c.coin (inside c.coin c.inside)))
                (subst (λ y. 0 < in_book (genesis_hashes mint) (whole later) y) (sym c.hash) n),
            c.hash,
          )

      pub unspent_law : (x : Digest) → (IsUnspent K (λ n. journal n (whole later)) x → InBook b x)
          × (InBook b x → IsUnspent K (λ n. journal n (whole later)) x)
      unspent_law x = (
        λ u. to_book x (omega (arith, counted x u)),
        λ i. is_unspent x (subst (λ y. 0 < in_book (genesis_hashes mint) (whole later) y) i.2
            (counted_in mint handed clean b (λ y. in_book (genesis_hashes mint) (whole later) y) i.0 the_account.stands i.1)),
      )
