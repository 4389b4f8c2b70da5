-- The committed transactions of a kept history fold to a book, whose hashes are known by their statuses.
use Rattle.std.proofs.Common.{if◌then◌else◌, ◌≡◌, ◌⊎◌, inl, inr, ℕ, suc, ◌+◌, ◌-◌, ◌<◌, ◌≤◌, true, false, List, [], ◌∷◌, ◌++◌, map, Some, None, find}
use Rattle.std.proofs.Common.{refl, sym, ap, ◌∙◌, subst, arith, sum_by}
use Rattle.std.proofs.lemmas.List.Sums.{sum_by-cons}
use Rattle.std.specs.FinMap as book
use Rattle.std.specs.Ordering.{nat_cmp}
use Rattle.std.specs.Cmp.Lexicographic.{slice_cmp}
use Rattle.cbdc_model.specs.Book.{Book, genesis_book, put_all, spend, spend_from, fold_txs, total, InBook}
use Rattle.cbdc_model.specs.Clean.{IsMember, IsNamed, Clean, KeepsMoney, IsProper, IsProperCompact}
use Rattle.cbdc_model.specs.Money.{sum_in, sum_out, taken_sum, made_sum}
use Rattle.cbdc_model.specs.Coins.{Input, Output, Coin, FullTx, coin_hash, tx_id, tx_coins, made_coins, compact, genesis_tx, genesis_hashes}
use Rattle.cbdc_model.specs.History.{first_rows, committed, newly_won, won_of, all_inputs, all_outputs, same_compact, AreHandedIn, minted, history_of}
use Rattle.cbdc_model.specs.History.{Minted}
use Rattle.cbdc_model.specs.Outcomes.{won_txs}
use Rattle.cbdc_model.specs.Records.{Digest, Shape, Compact, Outcome, is_won, Record, Row, journal, Commit, txs_of}
use Rattle.cbdc_model.specs.Status.{Unspent, Locked}
use Rattle.ledger_laws.proofs.Next.{Next, Each, Steady}
use Rattle.ledger_laws.specs.Sets.{IsPlaced, Folds}
use Rattle.ledger_laws.specs.Laws.{FoldLaw}
use Rattle.ledger_laws.proofs.Ledger.{steady}
use Rattle.ledger_laws.proofs.Waiting.{waits_for, none_taken}
use Rattle.ledger_laws.proofs.Counts.{count}
use Rattle.ledger_laws.proofs.Equality.{same_compact_is, same_compact_self}
use Rattle.ledger_laws.proofs.View.{Inv}
use Rattle.ledger_laws.proofs.CommitStep.{Apart, Makes, maker}
use Rattle.ledger_laws.proofs.Rows.{Structure, view}
use Rattle.ledger_laws.proofs.First.{no_committed, all_first}
use Rattle.ledger_laws.proofs.Theory.{kept_structure, kept_inv, Place, unspent, waits, comes, in_book, book_place, place_book, unspent-comes}
use Rattle.ledger_laws.proofs.Theory.{locked-comes}
use Rattle.ledger_laws.proofs.Folds.{Stands, Origin, Took, take_all_stands, put_all_stands, stands_same, point_of, hashes_of, EachCoin}
use Rattle.ledger_laws.proofs.Issuing.{EachKeeps, is_issued, value_stays}
use Rattle.ledger_laws.proofs.Funded.{Funded, behind, behind_all, behind_all-sum, kept_funded}
use Rattle.ledger_laws.proofs.Members.{In, in_contains, contains_in, CoinAt, coin_at, Made, made_is, coins_apart, apart, tx_coins_once}
use Rattle.ledger_laws.proofs.Members.{genesis_member, in_count, count_in}

-- the full forms of compact transactions
record FullForm (txs : List FullTx) (k : Compact) : Type 0 where
  tx : FullTx
  inside : In tx txs
  form : compact tx ≡ k
  is : find (λ t. same_compact (compact t) k) txs ≡ Some tx

full_form : (txs : List FullTx) (k : Compact) (t : FullTx) → In t txs → compact t ≡ k → FullForm txs k
full_form [] k t h e = absurd h
full_form (u ∷ us) k t h e =
    elim (same_compact (compact u) k) as (λ c. same_compact (compact u) k ≡ c → FullForm (u ∷ us) k) [
      | true ↦ λ s. record { tx = u; inside = inl refl; form = same_compact_is (compact u) k s; is = rw s }
      | false ↦ λ s. elim h [
        | inl same ↦ absurd (differs same s)
        | inr h ↦ let f : FullForm us k = full_form us k t h e in
            record { tx = f.tx; inside = inr f.inside; form = f.form; is = rw s f.is }
      ]
    ] refl
  where
    differs : t ≡ u → same_compact (compact u) k ≡ false → ⊥
    differs same s =
        let y : same_compact (compact u) k ≡ true = subst (λ j. same_compact j k ≡ true) (sym e ∙ ap compact same) (same_compact_self k) in
        let no_way : true ≡ false = sym y ∙ s in cc

-- each committed transaction is a compact form
each-append : (P : Compact → Type 0) (ts us : List Compact) → Each P ts → Each P us → Each P (ts ++ us)
each-append P [] us h k = k
each-append P (t ∷ ts) us h k = (h.0, each-append P ts us h.1 k)

won_each : (P : Compact → Type 0) (txs : List Compact) (os : List Outcome) → Each P txs → Each P (won_txs txs os)
won_each P [] os each = tt
won_each P (t ∷ ts) [] each = tt
won_each P (t ∷ ts) (o ∷ os) each = elim (is_won o) as (λ c. Each P (if c then t ∷ won_txs ts os else won_txs ts os)) [
  | true ↦ (each.0, won_each P ts os each.1)
  | false ↦ won_each P ts os each.1
]

module _ (K : Shape) (P : Compact → Type 0) where
  newly_each : (past : List Row) (st : Structure K P past) (node : ℕ) (r : Record) → Next K node (journal node past) r
      → Each P (newly_won r (journal node past))
  newly_each past st node (Commit stamp b os) next =
      won_each P (txs_of (journal node past) b) os (subst (λ n. Each P (txs_of (journal n past) b)) (sym next.2) (st.proper b))
  newly_each past st node other next = tt

  pub kept_each : (minting : Minted) → 0 < K.shards → Apart (λ x. count x minting.hashes) P → (later : List Row) → Steady K minting P later
      → Each P (committed (later ++ first_rows K minting))
  kept_each minting shards ap' [] kept = subst (λ ts. Each P ts) (sym (no_committed (first_rows K minting) (all_first K minting P shards))) tt
  kept_each minting shards ap' (row ∷ later) kept =
      each-append P (committed (later ++ first_rows K minting)) (newly_won row.what (journal row.node (later ++ first_rows K minting)))
      (kept_each minting shards ap' later kept.3)
      (newly_each (later ++ first_rows K minting) (kept_structure K minting P shards ap' later kept.3) row.node row.what kept.0)

module _ (mint : List Output) (txs : List FullTx) (clean : Clean mint txs) where
  -- what the fold needs of a full transaction
  pub record Fair (t : FullTx) : Type 0 where
    pub member : IsMember mint txs t
    pub keeps : KeepsMoney t.inputs t.outputs

  abbrev pub EachFair : List FullTx → Type 0
  EachFair [] = Unit {0}
  EachFair (t ∷ ts) = Fair t × EachFair ts

  keeps_all : (ts : List FullTx) → EachFair ts → EachKeeps ts
  keeps_all [] fair = tt
  keeps_all (t ∷ ts) fair = (fair.0.keeps, keeps_all ts fair.1)

  pub record FullForms (ks : List Compact) : Type 0 where
    pub full : List FullTx
    pub is : AreHandedIn txs ks full
    pub forms : map compact full ≡ ks
    pub fair : EachFair full

  same_keeps : (t u : FullTx) → t.inputs ≡ u.inputs → t.outputs ≡ u.outputs → KeepsMoney u.inputs u.outputs → KeepsMoney t.inputs t.outputs
  same_keeps t u ins outs keeps = subst (λ os. KeepsMoney t.inputs os) (sym outs)
      (subst (λ (cs : List Input). KeepsMoney cs u.outputs) (sym ins) keeps)

  pub full_forms : (ks : List Compact) → Each (IsProperCompact txs) ks → FullForms ks
  full_forms [] each = record { full = []; is = tt; forms = refl; fair = tt }
  full_forms (k ∷ ks) each =
      let rest : FullForms ks = full_forms ks each.1 in
      let p : IsProperCompact txs k = each.0 in
      let f : FullForm txs k = full_form txs k p.0 (in_contains txs p.0 p.1) p.3 in
      let member : IsMember mint txs f.tx = inr (contains_in txs f.tx f.inside) in
      let same : (f.tx.inputs ≡ p.0.inputs) × (f.tx.outputs ≡ p.0.outputs) = clean.ids f.tx p.0 member (inr p.1) (ap (λ j. j.id) (f.form ∙ sym p.3))
      in
      record {
        full = f.tx ∷ rest.full;
        is = (f.is, rest.is);
        forms = λ i. f.form i ∷ rest.forms i;
        fair = (record { member = member; keeps = same_keeps f.tx p.0 same.0 same.1 p.2.keeps_money }, rest.fair);
      }

  each_named : (t : FullTx) → IsMember mint txs t → (cs : List Coin) → ((c : Coin) → In c cs → In c t.inputs) → EachCoin (IsNamed mint txs) cs
  each_named t m [] all = tt
  each_named t m (c ∷ cs) all = ((t, m, inl (contains_in t.inputs c (all c (inl refl)))), each_named t m cs (λ d h. all d (inr h)))

  each_made : (t : FullTx) → IsMember mint txs t → (cs : List Coin) → ((c : Coin) → In c cs → In c (tx_coins t)) → EachCoin (Made mint txs clean) cs
  each_made t m [] all = tt
  each_made t m (c ∷ cs) all = (made_is mint txs clean t c m (all c (inl refl)), each_made t m cs (λ d h. all d (inr h)))

  made_coins-sum : (f : Output → ℕ) (id : Digest) (k : ℕ) (os : List Output) → sum_in f (made_coins id k os) ≡ sum_out f os
  made_coins-sum f id k [] = refl
  made_coins-sum f id k (o ∷ os) =
      omega (
        arith,
        sum_by-cons (λ c. f c.output) (record { point = record { tx = id; index = k }; output = o }) (made_coins id (suc k) os),
        sum_by-cons f o os,
        made_coins-sum f id (suc k) os,
      )

  abbrev StandsFor : Book → (Digest → ℕ) → Type 0
  StandsFor b β = Stands (IsNamed mint txs) (Made mint txs clean) b β

  record Spent (b : Book) (t : FullTx) (β : Digest → ℕ) : Type 0 where
    book : Book
    is : spend b t ≡ Some book
    stands : StandsFor book (behind β (compact t))
    flow : (f : Output → ℕ) → total f book + sum_in f t.inputs ≡ total f b + sum_out f t.outputs

  spend_stands : (b : Book) (β : Digest → ℕ) (t : FullTx) → StandsFor b β → Fair t → ((x : Digest) → count x (hashes_of t.inputs) ≤ β x)
      → ((x : Digest) → β x ≤ 1)
      → ((x : Digest) → behind β (compact t) x ≤ 1) → Spent b t β
  spend_stands b β t st fair enough once room =
      let took : Took (coins_apart mint txs clean) b t.inputs β
      = take_all_stands (coins_apart mint txs clean) t.inputs b β st (each_named t fair.member t.inputs (λ c h. h)) enough once in
      let put : StandsFor (put_all took.rest (tx_coins t)) (λ x. (β x - count x (hashes_of t.inputs)) + count x (hashes_of (tx_coins t)))
      × ((f : Output → ℕ) → total f (put_all took.rest (tx_coins t)) ≡ sum_in f (tx_coins t) + total f took.rest)
      = put_all_stands (coins_apart mint txs clean) (tx_coins t) took.rest (λ x. β x - count x (hashes_of t.inputs)) took.stands
      (each_made t fair.member (tx_coins t) (λ c h. h)) room in
      record {
        book = put_all took.rest (tx_coins t);
        is = ap (λ r. spend_from r t) took.taking;
        stands = put.0;
        flow = λ f. omega (arith, put.1 f, took.flow f, made_coins-sum f (tx_id t) 0 t.outputs);
      }

  record Folded (b : Book) (ts : List FullTx) (β : Digest → ℕ) : Type 0 where
    book : Book
    is : fold_txs (Some b) ts ≡ Some book
    stands : StandsFor book (behind_all β (map compact ts))
    flow : (f : Output → ℕ) → total f book + taken_sum f ts ≡ total f b + made_sum f ts

  fold_stands : (ts : List FullTx) (b : Book) (β : Digest → ℕ) → StandsFor b β → EachFair ts → Funded β (map compact ts) → Folded b ts β
  fold_stands [] b β st fair funded = record { book = b; is = refl; stands = st; flow = λ f. refl }
  fold_stands (t ∷ ts) b β st fair funded =
      let s : Spent b t β = spend_stands b β t st fair.0 funded.0 funded.1 funded.2 in
      let r : Folded s.book ts (behind β (compact t)) = fold_stands ts s.book (behind β (compact t)) s.stands fair.1 funded.3 in
      record {
        book = r.book;
        is = ap (λ o. fold_txs o ts) s.is ∙ r.is;
        stands = r.stands;
        flow = λ f. omega (arith, r.flow f, s.flow f, sum_by-cons (λ u. sum_in f u.inputs) t ts, sum_by-cons (λ u. sum_out f u.outputs) t ts);
      }

  empty_stands : StandsFor book.empty (λ x. 0)
  empty_stands = record {
    origin = λ q o e. absurd (let n : None ≡ Some o = sym (book.get-empty (slice_cmp nat_cmp) q) ∙ e in cc);
    counted = λ c m e. absurd (let n : None ≡ Some c.output = sym (book.get-empty (slice_cmp nat_cmp) (point_of c)) ∙ e in cc);
    found = λ c n k. absurd (omega arith);
  }

  genesis_stands : StandsFor (genesis_book mint) (λ x. count x (genesis_hashes mint))
  genesis_stands =
      stands_same (coins_apart mint txs clean) (genesis_book mint) _ _ (λ x. omega arith)
      (put_all_stands (coins_apart mint txs clean) (tx_coins (genesis_tx mint)) book.empty (λ x. 0) empty_stands
      (each_made (genesis_tx mint) (genesis_member mint txs clean) (tx_coins (genesis_tx mint)) (λ c h. h))
      (λ x. omega (arith, tx_coins_once mint txs clean (genesis_tx mint) (genesis_member mint txs clean) x))).0

  -- a hash that was made is that of a named coin
  pub record NamedAt (x : Digest) : Type 0 where
    pub coin : Coin
    pub named : IsNamed mint txs coin
    pub hash : coin_hash coin ≡ x

  pub named_in : (t : FullTx) → IsMember mint txs t → (x : Digest) → 0 < count x (hashes_of (tx_coins t)) → NamedAt x
  named_in t m x h =
      let c : CoinAt (tx_coins t) x = coin_at (tx_coins t) x h in
      record { coin = c.coin; named = (t, m, inr (contains_in (tx_coins t) c.coin c.inside)); hash = c.hash }

  pub named_made : (ks : List Compact) → Each (IsProperCompact txs) ks → (x : Digest) → 0 < count x (all_outputs ks) → NamedAt x
  named_made ks each x h =
      let m : Makes (IsProperCompact txs) ks x = maker (IsProperCompact txs) ks x each h in
      named_in m.proper.0 (inr m.proper.1) x (subst (λ k. 0 < count x k.outputs) (sym m.proper.3) m.makes)

module _ (K : Shape) (mint : List Output) (txs : List FullTx) (clean : Clean mint txs) (past : List Row)
    (inv : Inv (λ x. count x (genesis_hashes mint)) (IsProperCompact txs) (view K past)) where
  in_of : (x : Digest) (b : Book) (β : Digest → ℕ) → StandsFor mint txs clean b β → InBook b x → 0 < β x
  in_of x b β st i =
      let o : Origin (Made mint txs clean) (point_of i.0) i.0.output = st.origin (point_of i.0) i.0.output i.1 in
      let same : i.0 ≡ o.coin = same_coin i.0 o.coin o.at_point o.output in
      subst (λ y. 0 < β y) (ap coin_hash (sym same) ∙ i.2)
      (st.counted o.coin o.made (ap (book.get b) (sym o.at_point) ∙ i.1 ∙ ap (λ p. Some p) o.output))
    where
      same_coin : (d c : Coin) → point_of d ≡ point_of c → d.output ≡ c.output → d ≡ c
      same_coin d c p o =
          let t : d.point.tx ≡ c.point.tx = cc in
          let i : d.point.index ≡ c.point.index = cc in
          λ j. record { point = record { tx = t j; index = i j }; output = o j }

  book_of : (x : Digest) (b : Book) → StandsFor mint txs clean b (λ y. in_book (genesis_hashes mint) past y)
      → Each (IsProperCompact txs) (committed past) → 0 < in_book (genesis_hashes mint) past x → InBook b x
  book_of x b st each n =
      let made : (0 < count x (genesis_hashes mint)) ⊎ (0 < count x (all_outputs (committed past))) = grind arith in
      let c : NamedAt mint txs clean x = elim made [
        | inl g ↦ named_in mint txs clean (genesis_tx mint) (genesis_member mint txs clean) x g
        | inr m ↦ named_made mint txs clean (committed past) each x m
      ] in
      (c.coin, st.found c.coin c.named (subst (λ y. 0 < in_book (genesis_hashes mint) past y) (sym c.hash) n), c.hash)

module _ (K : Shape) (mint : List Output) (txs : List FullTx) (clean : Clean mint txs) (shards : 0 < K.shards) (later : List Row)
    (kept : Steady K (minted mint) (IsProperCompact txs) later)
    (inv : Inv (λ x. count x (genesis_hashes mint)) (IsProperCompact txs) (view K (history_of K mint later))) where
  to_place : (x : Digest) → Place K (history_of K mint later) x → IsPlaced K (history_of K mint later) x
  to_place x (unspent e) = inl e
  to_place x (waits b e z) = inr (inl (waits_for K (minted mint) (IsProperCompact txs) shards later kept x b e (inv.locked x b e).3 z))
  to_place x (comes b m f) = inr (inr (
    b,
    contains_in (all_outputs (won_of K (history_of K mint later) b)) x (count_in x (all_outputs (won_of K (history_of K mint later) b)) m),
    f,
  ))

  from_place : (x : Digest) → IsPlaced K (history_of K mint later) x → Place K (history_of K mint later) x
  from_place x (inl e) = unspent e
  from_place x (inr (inl w)) =
      waits w.0 w.2 (none_taken K (minted mint) (IsProperCompact txs) shards later kept x w.0 w.1 w.3 w.4 w.5 (inv.held_once x w.0) w.6)
  from_place x (inr (inr c)) =
      comes c.0 (in_count x (all_outputs (won_of K (history_of K mint later) c.0))
      (in_contains (all_outputs (won_of K (history_of K mint later) c.0)) x c.1)) c.2

  pub folds_steady : Folds K mint txs (history_of K mint later)
  folds_steady =
      let a : Apart (λ x. count x (genesis_hashes mint)) (IsProperCompact txs) = apart mint txs clean in
      let funded : Funded (λ x. count x (genesis_hashes mint)) (committed (history_of K mint later))
      = kept_funded K (minted mint) (IsProperCompact txs) shards a later kept in
      let each : Each (IsProperCompact txs) (committed (history_of K mint later)) =
      kept_each K (IsProperCompact txs) (minted mint) shards a later kept in
      let forms : FullForms mint txs clean (committed (history_of K mint later)) =
      full_forms mint txs clean (committed (history_of K mint later)) each in
      let folded : Folded mint txs clean (genesis_book mint) forms.full (λ x. count x (genesis_hashes mint))
      = fold_stands mint txs clean forms.full (genesis_book mint) (λ x. count x (genesis_hashes mint)) (genesis_stands mint txs clean) forms.fair
      (subst (λ ks. Funded (λ x. count x (genesis_hashes mint)) ks) (sym forms.forms) funded) in
      let sums : (x : Digest) → behind_all (λ x. count x (genesis_hashes mint)) (map compact forms.full) x
      ≡ in_book (genesis_hashes mint) (history_of K mint later) x
      = λ x. ap (λ ks. behind_all (λ x. count x (genesis_hashes mint)) ks x) forms.forms
      ∙ (let e : behind_all (λ x. count x (genesis_hashes mint)) (committed (history_of K mint later)) x
      + count x (all_inputs (committed (history_of K mint later)))
      ≡ count x (genesis_hashes mint) + count x (all_outputs (committed (history_of K mint later)))
      = behind_all-sum (λ x. count x (genesis_hashes mint)) (committed (history_of K mint later)) funded x in omega (arith, e)) in
      record {
        txs = forms.full;
        committed = forms.is;
        book = folded.book;
        folds = folded.is;
        flow = folded.flow;
        issuance = is_issued mint forms.full folded.book (keeps_all mint txs clean forms.full forms.fair) folded.flow;
        value_kept = value_stays mint forms.full folded.book (keeps_all mint txs clean forms.full forms.fair) folded.flow;
        places = λ x.
            let st : StandsFor mint txs clean folded.book (λ y. in_book (genesis_hashes mint) (history_of K mint later) y)
            = stands_same (coins_apart mint txs clean) folded.book _ _ (λ y. sym (sums y)) folded.stands in (
              λ i. to_place x
                  (book_place K (minted mint) (IsProperCompact txs) (history_of K mint later) inv x
                  (in_of K mint txs clean (history_of K mint later) inv x folded.book _ st i)),
              λ p. book_of K mint txs clean (history_of K mint later) inv x folded.book st each
                  (let one : in_book (genesis_hashes mint) (history_of K mint later) x ≡ 1
                  = place_book K (minted mint) (IsProperCompact txs) (history_of K mint later) inv x (from_place x p) in omega (arith, one)),
            );
        unspent_or_waiting = λ x u w. (let no_way : Unspent ≡ Locked w.0 = sym u ∙ w.2 in cc);
        unspent_or_coming = λ x u c. unspent-comes K (minted mint) (IsProperCompact txs) (history_of K mint later) inv x c.0 u
            (in_count x _ (in_contains _ x c.1)) c.2;
        waiting_or_coming = λ x w c. locked-comes K (minted mint) (IsProperCompact txs) (history_of K mint later) inv x w.0 c.0 w.2
            (in_count x _ (in_contains _ x c.1)) c.2;
      }

pub fold_law : FoldLaw
fold_law K mint txs later shards clean kept =
    let k : Steady K (minted mint) (IsProperCompact txs) later = steady K (minted mint) (IsProperCompact txs) later kept in
    folds_steady K mint txs clean shards later k (kept_inv K (minted mint) (IsProperCompact txs) shards (apart mint txs clean) later k)
