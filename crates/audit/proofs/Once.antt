-- Of transactions that can be spent in turn, each with an input, no coin is made twice and none is spent twice.
use Rattle.std.proofs.Common.{◌≡◌, inl, inr, ℕ, suc, ◌+◌, ◌-◌, ◌<◌, ◌≤◌, true, false, cond, List, [], ◌∷◌, ◌++◌, map, length, Option, Some, None}
use Rattle.std.proofs.Common.{refl, sym, ap, ◌∙◌, subst, arith}
use Rattle.std.specs.FinMap as book
use Rattle.std.specs.Ordering.{nat_cmp}
use Rattle.std.specs.Cmp.Lexicographic.{slice_cmp}
use Rattle.std.proofs.lemmas.List.{map-append}
use Rattle.std.proofs.lemmas.List.Sums.{sum_by-cons}
use Rattle.cbdc_model.specs.Records.{Digest, same_digest, Compact}
use Rattle.cbdc_model.specs.Coins.{Output, Coin, FullTx, coin_hash, tx_id, tx_coins, made_coins, genesis_tx, genesis_hashes, compact}
use Rattle.cbdc_model.specs.Book.{Book, same_output, taken, take_all, put_all, spend, spend_from, fold_txs, genesis_book, total, value}
use Rattle.cbdc_model.specs.Clean.{IsMember, IsNamed, Clean, value_in, value_out}
use Rattle.cbdc_model.specs.Money.{sum_in, sum_out, taken_sum, made_sum}
use Rattle.cbdc_model.specs.History.{all_inputs, all_outputs}
use Rattle.ledger_laws.proofs.Counts.{count, count-append, same_digest_is, count_first, count-cons_same, count-cons_other, digests}
use Rattle.ledger_laws.proofs.View.{none, some, none_or_some}
use Rattle.ledger_laws.proofs.Folds.{Stands, Origin, EachCoin, point_of, hashes_of, take_one, put_all_stands, stands_same}
use Rattle.ledger_laws.proofs.Members.{In, contains_in, CoinAt, coin_at, Made, made_is, coins_apart, tx_coins_once, genesis_member, made_tx}
use Rattle.audit.proofs.Books.{none_total}

abbrev pub spent_of : List FullTx → Digest → ℕ
spent_of ts x = count x (all_inputs (map compact ts))

abbrev pub made_of : List FullTx → Digest → ℕ
made_of ts x = count x (all_outputs (map compact ts))

pub inputs-append : (x : Digest) (ts us : List Compact) → count x (all_inputs (ts ++ us)) ≡ count x (all_inputs ts) + count x (all_inputs us)
inputs-append x [] us = omega arith
inputs-append x (t ∷ ts) us = omega (
  arith,
  count-append x t.inputs (all_inputs (ts ++ us)),
  count-append x t.inputs (all_inputs ts),
  inputs-append x ts us,
)

pub outputs-append : (x : Digest) (ts us : List Compact) → count x (all_outputs (ts ++ us)) ≡ count x (all_outputs ts) + count x (all_outputs us)
outputs-append x [] us = omega arith
outputs-append x (t ∷ ts) us = omega (
  arith,
  count-append x t.outputs (all_outputs (ts ++ us)),
  count-append x t.outputs (all_outputs ts),
  outputs-append x ts us,
)

spent_more : (ts : List FullTx) (t : FullTx) (x : Digest) → spent_of (ts ++ t ∷ []) x ≡ spent_of ts x + count x (hashes_of t.inputs)
spent_more ts t x =
    let e : count x (all_inputs (map compact (ts ++ t ∷ []))) ≡ count x (all_inputs (map compact ts ++ compact t ∷ [])) =
    ap (λ ks. count x (all_inputs ks)) (map-append compact ts (t ∷ [])) in
    omega (arith, e, inputs-append x (map compact ts) (compact t ∷ []), count-append x (hashes_of t.inputs) [])

made_more : (ts : List FullTx) (t : FullTx) (x : Digest) → made_of (ts ++ t ∷ []) x ≡ made_of ts x + count x (hashes_of (tx_coins t))
made_more ts t x =
    let e : count x (all_outputs (map compact (ts ++ t ∷ []))) ≡ count x (all_outputs (map compact ts ++ compact t ∷ [])) =
    ap (λ ks. count x (all_outputs ks)) (map-append compact ts (t ∷ [])) in
    omega (arith, e, outputs-append x (map compact ts) (compact t ∷ []), count-append x (hashes_of (tx_coins t)) [])

same_output_is : (o p : Output) → same_output o p ≡ true → o ≡ p
same_output_is o p h =
    let d : same_digest o.program p.program ≡ true = grind arith in
    let v : o.value ≡ p.value = grind arith in
    let e : o.program ≡ p.program = same_digest_is o.program p.program d in
    λ i. record { program = e i; value = v i }

pub same_coin : (d c : Coin) → point_of d ≡ point_of c → d.output ≡ c.output → d ≡ c
same_coin d c p o =
    let t : d.point.tx ≡ c.point.tx = cc in
    let i : d.point.index ≡ c.point.index = cc in
    λ j. record { point = record { tx = t j; index = i j }; output = o j }

-- the coins of outputs come to what the outputs do
made_total : (f : Output → ℕ) (id : Digest) (k : ℕ) (os : List Output) → sum_in f (made_coins id k os) ≡ sum_out f os
made_total f id k [] = refl
made_total f id k (o ∷ os) =
    omega (
      arith,
      sum_by-cons (λ c. f c.output) (record { point = record { tx = id; index = k }; output = o }) (made_coins id (suc k) os),
      sum_by-cons f o os,
      made_total f id (suc k) os,
    )

no_book : {A : Type 0} (b : Book) → None ≡ Some b → A
no_book b e = absurd (let z : None ≡ Some b = e in cc)

-- a transaction with this output's hash
pub record Maker (ts : List FullTx) (x : Digest) : Type 0 where
  pub tx : FullTx
  pub inside : In tx ts
  pub makes : 0 < count x (hashes_of (tx_coins tx))
  pub takes : (y : Digest) → count y (hashes_of tx.inputs) ≤ spent_of ts y

pub maker_in : (ts : List FullTx) (x : Digest) → 0 < made_of ts x → Maker ts x
maker_in [] x n = absurd (omega arith)
maker_in (t ∷ ts) x n = elim (none_or_some (count x (hashes_of (tx_coins t)))) [
  | some here ↦ record {
    tx = t;
    inside = inl refl;
    makes = here;
    takes = λ y. omega (arith, count-append y (hashes_of t.inputs) (all_inputs (map compact ts)));
  }
  | none z ↦
      let m : Maker ts x = maker_in ts x (omega (arith, count-append x (hashes_of (tx_coins t)) (all_outputs (map compact ts)))) in
      record {
        tx = m.tx;
        inside = inr m.inside;
        makes = m.makes;
        takes = λ y. omega (arith, m.takes y, count-append y (hashes_of t.inputs) (all_inputs (map compact ts)));
      }
]

module _ (mint : List Output) (handed : List FullTx) (clean : Clean mint handed) where
  abbrev pub IsMade : Coin → Type 0
  IsMade = Made mint handed clean

  abbrev pub StandsFor : Book → (Digest → ℕ) → Type 0
  StandsFor b β = Stands (IsNamed mint handed) IsMade b β

  abbrev pub minted_of : Digest → ℕ
  minted_of x = count x (genesis_hashes mint)

  -- a coin that stands in the book is counted
  pub counted_in : (b : Book) (β : Digest → ℕ) (c : Coin) → StandsFor b β → book.get b (point_of c) ≡ Some c.output → 0 < β (coin_hash c)
  counted_in b β c st is =
      let o : Origin IsMade (point_of c) c.output = st.origin (point_of c) c.output is in
      let same : c ≡ o.coin = same_coin c o.coin o.at_point o.output in
      subst (λ d. 0 < β (coin_hash d)) (sym same) (st.counted o.coin o.made (subst (λ d. book.get b (point_of d) ≡ Some d.output) same is))

  record Took (b : Book) (cs : List Coin) (β : Digest → ℕ) (r : Book) : Type 0 where
    enough : (x : Digest) → count x (hashes_of cs) ≤ β x
    stands : StandsFor r (λ x. β x - count x (hashes_of cs))
    flow : (f : Output → ℕ) → total f b ≡ sum_in f cs + total f r

  take_first : (b : Book) (c : Coin) (cs : List Coin) (r : Book) (o : Option Output) → book.get b (point_of c) ≡ o
      → take_all (taken b c o) cs ≡ Some r
      → (book.get b (point_of c) ≡ Some c.output) × (take_all (Some (book.remove b (point_of c))) cs ≡ Some r)
  take_first b c cs r None e h = no_book r h
  take_first b c cs r (Some o) e h =
      elim (same_output o c.output) as (λ t. same_output o c.output ≡ t → take_all (cond t (Some (book.remove b (point_of c))) None) cs ≡ Some r
      → (book.get b (point_of c) ≡ Some c.output) × (take_all (Some (book.remove b (point_of c))) cs ≡ Some r)) [
        | true ↦ λ t h. (e ∙ ap (λ p. Some p) (same_output_is o c.output t), h)
        | false ↦ λ t h. no_book r h
      ] refl h

  no_coins : (f : Output → ℕ) (b r : Book) → total f b ≡ total f r → total f b ≡ sum_in f [] + total f r
  no_coins f b r e = omega (arith, e)

  took : (cs : List Coin) (b r : Book) (β : Digest → ℕ) → StandsFor b β → EachCoin (IsNamed mint handed) cs → ((x : Digest) → β x ≤ 1)
      → take_all (Some b) cs ≡ Some r → Took b cs β r
  took [] b r β st each once h =
      let e : b ≡ r = cc in
      record {
        enough = λ x. omega arith;
        stands = subst (λ d. StandsFor d (λ x. β x - 0)) e (stands_same (coins_apart mint handed clean) b β (λ x. β x - 0) (λ x. omega arith) st);
        flow = λ f. no_coins f b r (ap (total f) e);
      }
  took (c ∷ cs) b r β st each once h =
      let first : (book.get b (point_of c) ≡ Some c.output)
      × (take_all (Some (book.remove b (point_of c))) cs ≡ Some r) = take_first b c cs r (book.get b (point_of c)) refl h in
      let here : 0 < β (coin_hash c) = counted_in b β c st first.0 in
      let γ : Digest → ℕ = λ x. β x - count x (coin_hash c ∷ []) in
      let one : count (coin_hash c) (coin_hash c ∷ []) ≡ 1 = count-cons_same (coin_hash c) (coin_hash c) [] refl in
      let left = take_one (coins_apart mint handed clean) b β γ c st each.0 (omega (arith, once (coin_hash c)))
      (omega (arith, one, once (coin_hash c)))
      (λ x n. let z : count x (coin_hash c ∷ []) ≡ 0 = count-cons_other x (coin_hash c) [] (λ e. n (sym e)) in omega arith) in
      let rest : Took (book.remove b (point_of c)) cs γ r =
      took cs (book.remove b (point_of c)) r γ left.1 each.1 (λ x. omega (arith, once x)) first.1 in
      record {
        enough = λ x. enough_both x (rest.enough x) here;
        stands = stands_same (coins_apart mint handed clean) r _ _ (λ x. omega arith) rest.stands;
        flow = λ f. omega (arith, left.2 f, rest.flow f, sum_by-cons (λ d. f d.output) c cs);
      }
    where
      enough_both : (x : Digest) → count x (hashes_of cs) ≤ β x - count x (coin_hash c ∷ []) → 0 < β (coin_hash c)
          → count x (hashes_of (c ∷ cs)) ≤ β x
      enough_both x le here = elim (digests (coin_hash c) x) [
        | inl e ↦ let k : 0 < β x = subst (λ y. 0 < β y) e here in
            omega (arith, count-cons_same x (coin_hash c) [] e, count-cons_same x (coin_hash c) (hashes_of cs) e)
        | inr n ↦ omega (arith, count-cons_other x (coin_hash c) [] n, count-cons_other x (coin_hash c) (hashes_of cs) n)
      ]

  each_named : (t : FullTx) → IsMember mint handed t → (cs : List Coin) → ((c : Coin) → In c cs → In c t.inputs) → EachCoin (IsNamed mint handed) cs
  each_named t m [] all = tt
  each_named t m (c ∷ cs) all = ((t, m, inl (contains_in t.inputs c (all c (inl refl)))), each_named t m cs (λ d h. all d (inr h)))

  each_made : (t : FullTx) → IsMember mint handed t → (cs : List Coin) → ((c : Coin) → In c cs → In c (tx_coins t)) → EachCoin IsMade cs
  each_made t m [] all = tt
  each_made t m (c ∷ cs) all = (made_is mint handed clean t c m (all c (inl refl)), each_made t m cs (λ d h. all d (inr h)))

  -- transactions that share an output's hash have the same inputs
  same_inputs : (t u : FullTx) → IsMember mint handed t → IsMember mint handed u → (x : Digest) → 0 < count x (hashes_of (tx_coins t))
      → 0 < count x (hashes_of (tx_coins u)) → t.inputs ≡ u.inputs
  same_inputs t u m n x h g =
      let c : CoinAt (tx_coins t) x = coin_at (tx_coins t) x h in
      let d : CoinAt (tx_coins u) x = coin_at (tx_coins u) x g in
      let same : c.coin ≡ d.coin = clean.hashes c.coin d.coin (t, m, inr (contains_in (tx_coins t) c.coin c.inside))
      (u, n, inr (contains_in (tx_coins u) d.coin d.inside)) (c.hash ∙ sym d.hash) in
      (clean.ids t u m n (sym (made_tx (tx_id t) 0 t.outputs c.coin c.inside).0 ∙ ap (λ e. e.point.tx) same
      ∙ (made_tx (tx_id u) 0 u.outputs d.coin d.inside).0)).0

  -- what holds of the transactions spent so far and the book that they leave
  pub record SoFar (ts : List FullTx) (b : Book) : Type 0 where
    pub stands : StandsFor b (λ x. (minted_of x + made_of ts x) - spent_of ts x)
    pub once : (x : Digest) → minted_of x + made_of ts x ≤ 1
    pub covered : (x : Digest) → spent_of ts x ≤ minted_of x + made_of ts x
    pub members : (t : FullTx) → In t ts → IsMember mint handed t

  left_of : (r : Option Book) (t : FullTx) (e : Book) → spend_from r t ≡ Some e → (b : Book) × (r ≡ Some b) × (put_all b (tx_coins t) ≡ e)
  left_of None t e h = no_book e h
  left_of (Some b) t e h = (b, refl, (let same : put_all b (tx_coins t) ≡ e = cc in same))

  first_hash : (cs : List Coin) → 0 < length cs → (y : Digest) × (0 < count y (hashes_of cs))
  first_hash [] h = absurd (omega arith)
  first_hash (c ∷ cs) h = (coin_hash c, count_first (coin_hash c) (hashes_of cs))

  none_in : (y : Digest) (cs : List Coin) → cs ≡ [] → 0 < count y (hashes_of cs) → ⊥
  none_in y cs e n = let z : count y (hashes_of cs) ≡ 0 = ap (λ ds. count y (hashes_of ds)) e in omega arith

  next_so_far : (ts : List FullTx) (b e : Book) (t : FullTx) → SoFar ts b → IsMember mint handed t → 0 < length t.inputs → spend b t ≡ Some e
      → SoFar (ts ++ t ∷ []) e × ((f : Output → ℕ) → total f e + sum_in f t.inputs ≡ total f b + sum_out f t.outputs)
  next_so_far ts b e t so member some_in h =
      let l : (c : Book) × (take_all (Some b) t.inputs ≡ Some c) × (put_all c (tx_coins t) ≡ e) = left_of (take_all (Some b) t.inputs) t e h in
      let β : Digest → ℕ = λ x. (minted_of x + made_of ts x) - spent_of ts x in
      let took_all : Took b t.inputs β l.0 = took t.inputs b l.0 β so.stands (each_named t member t.inputs (λ c i. i))
      (λ x. omega (arith, so.once x)) l.1 in
      let put = put_all_stands (coins_apart mint handed clean) (tx_coins t) l.0 (λ x. β x - count x (hashes_of t.inputs)) took_all.stands
      (each_made t member (tx_coins t) (λ c i. i))
      (λ x. room x (λ y. took_all.enough y)) in (
        record {
          stands = subst (λ d. StandsFor d (λ x. (minted_of x + made_of (ts ++ t ∷ []) x) - spent_of (ts ++ t ∷ []) x)) l.2
              (stands_same (coins_apart mint handed clean) (put_all l.0 (tx_coins t)) _ _
              (λ x. omega (arith, spent_more ts t x, made_more ts t x, took_all.enough x, so.covered x)) put.0);
          once = λ x. omega (arith, made_more ts t x, so.once x, new_once x (λ y. took_all.enough y));
          covered = λ x. omega (arith, spent_more ts t x, made_more ts t x, took_all.enough x, so.covered x);
          members = λ u i. in_more ts u i so.members;
        },
        λ f. omega (arith, ap (total f) (sym l.2) ∙ put.1 f, took_all.flow f, made_total f (tx_id t) 0 t.outputs),
      )
    where
      new_once : (x : Digest) → ((y : Digest) → count y (hashes_of t.inputs) ≤ (minted_of y + made_of ts y) - spent_of ts y)
          → (minted_of x + made_of ts x) + count x (hashes_of (tx_coins t)) ≤ 1
      new_once x enough = elim (none_or_some (count x (hashes_of (tx_coins t)))) [
        | none z ↦ omega (arith, so.once x)
        | some here ↦ elim (none_or_some (minted_of x)) [
          | some g ↦
              let y : (y : Digest) × (0 < count y (hashes_of t.inputs)) = first_hash t.inputs some_in in
              absurd (none_in y.0 t.inputs (same_inputs t (genesis_tx mint) member (genesis_member mint handed clean) x here g) y.1)
          | none z ↦ elim (none_or_some (made_of ts x)) [
            | none z' ↦ omega (arith, tx_coins_once mint handed clean t member x)
            | some k ↦
                let m : Maker ts x = maker_in ts x k in
                let y : (y : Digest) × (0 < count y (hashes_of t.inputs)) = first_hash t.inputs some_in in
                let same : t.inputs ≡ m.tx.inputs = same_inputs t m.tx member (so.members m.tx m.inside) x here m.makes in
                let twice : 0 < count y.0 (hashes_of m.tx.inputs) = subst (λ cs. 0 < count y.0 (hashes_of cs)) same y.1 in
                absurd (omega (arith, enough y.0, m.takes y.0, so.once y.0))
          ]
        ]
      ]

      room : (x : Digest) → ((y : Digest) → count y (hashes_of t.inputs) ≤ (minted_of y + made_of ts y) - spent_of ts y)
          → (((minted_of x + made_of ts x) - spent_of ts x) - count x (hashes_of t.inputs)) + count x (hashes_of (tx_coins t)) ≤ 1
      room x enough = omega (arith, new_once x enough)

      in_more : (us : List FullTx) (u : FullTx) → In u (us ++ t ∷ []) → ((v : FullTx) → In v us → IsMember mint handed v) → IsMember mint handed u
      in_more [] u (inl e') all = subst (λ v. IsMember mint handed v) (sym e') member
      in_more [] u (inr i) all = absurd i
      in_more (v ∷ us) u (inl e') all = all u (inl e')
      in_more (v ∷ us) u (inr i) all = in_more us u i (λ w j. all w (inr j))

  -- the transactions still to come are members with inputs
  abbrev pub AreReady : List FullTx → Type 0
  AreReady [] = Unit {0}
  AreReady (t ∷ ts) = IsMember mint handed t × (0 < length t.inputs) × AreReady ts

  step_of : (r : Option Book) (ts : List FullTx) (e : Book) → fold_txs r ts ≡ Some e → (b : Book) × (r ≡ Some b)
  step_of None ts e h = no_book e h
  step_of (Some b) ts e h = (b, refl)

  append_one : (ts us : List FullTx) (t : FullTx) → (ts ++ t ∷ []) ++ us ≡ ts ++ t ∷ us
  append_one [] us t = refl
  append_one (u ∷ ts) us t = ap (λ l. u ∷ l) (append_one ts us t)

  append_none : (ts : List FullTx) → ts ++ [] ≡ ts
  append_none [] = refl
  append_none (t ∷ ts) = ap (λ l. t ∷ l) (append_none ts)

  all_so_far : (us ts : List FullTx) (b e : Book) → SoFar ts b → AreReady us → fold_txs (Some b) us ≡ Some e → SoFar (ts ++ us) e
  all_so_far [] ts b e so ready h =
      let same : b ≡ e = cc in
      subst (λ l. SoFar l e) (sym (append_none ts)) (subst (λ d. SoFar ts d) same so)
  all_so_far (u ∷ us) ts b e so ready h =
      let s : (c : Book) × (spend b u ≡ Some c) = step_of (spend b u) us e h in
      subst (λ l. SoFar l e) (append_one ts us u)
      (all_so_far us (ts ++ u ∷ []) s.0 e (next_so_far ts b s.0 u so ready.0 ready.1 s.1).0 ready.2 (ap (λ r. fold_txs r us) (sym s.1) ∙ h))

  empty_stands : StandsFor book.empty (λ x. 0)
  empty_stands = record {
    origin = λ q o e. absurd (let n : None ≡ Some o = sym (book.get-empty (slice_cmp nat_cmp) q) ∙ e in cc);
    counted = λ c m e. absurd (let n : None ≡ Some c.output = sym (book.get-empty (slice_cmp nat_cmp) (point_of c)) ∙ e in cc);
    found = λ c n k. absurd (omega arith);
  }

  mint_stands : StandsFor (genesis_book mint) (λ x. 0 + count x (hashes_of (tx_coins (genesis_tx mint))))
      × ((f : Output → ℕ) → total f (genesis_book mint) ≡ sum_in f (tx_coins (genesis_tx mint)) + total f book.empty)
  mint_stands =
      let member : IsMember mint handed (genesis_tx mint) = genesis_member mint handed clean in
      put_all_stands (coins_apart mint handed clean) (tx_coins (genesis_tx mint)) book.empty (λ x. 0) empty_stands
      (each_made (genesis_tx mint) member (tx_coins (genesis_tx mint)) (λ c i. i))
      (λ x. omega (arith, tx_coins_once mint handed clean (genesis_tx mint) member x))

  -- the book that a mint is has its value
  pub mint_worth : value (genesis_book mint) ≡ value_out mint
  mint_worth = omega (arith, mint_stands.1 (λ o. o.value), none_total (λ o. o.value), made_total (λ o. o.value) (tx_id (genesis_tx mint)) 0 mint)

  minted_so_far : SoFar [] (genesis_book mint)
  minted_so_far =
      let member : IsMember mint handed (genesis_tx mint) = genesis_member mint handed clean in
      record {
        stands = stands_same (coins_apart mint handed clean) (genesis_book mint) _ _ (λ x. omega arith) mint_stands.0;
        once = λ x. omega (arith, tx_coins_once mint handed clean (genesis_tx mint) member x);
        covered = λ x. omega arith;
        members = λ t i. absurd i;
      }

  pub fold_so_far : (ts : List FullTx) (e : Book) → AreReady ts → fold_txs (Some (genesis_book mint)) ts ≡ Some e → SoFar ts e
  fold_so_far ts e ready h = all_so_far ts [] (genesis_book mint) e minted_so_far ready h

  -- by any measure what is left and what was taken come to what there was and what was made
  all_flow : (f : Output → ℕ) (us ts : List FullTx) (b e : Book) → SoFar ts b → AreReady us → fold_txs (Some b) us ≡ Some e
      → total f e + taken_sum f us ≡ total f b + made_sum f us
  all_flow f [] ts b e so ready h = let same : b ≡ e = cc in ap (λ c. total f c + taken_sum f []) (sym same)
  all_flow f (u ∷ us) ts b e so ready h =
      let s : (c : Book) × (spend b u ≡ Some c) = step_of (spend b u) us e h in
      let n = next_so_far ts b s.0 u so ready.0 ready.1 s.1 in
      let rest : total f e + taken_sum f us ≡ total f s.0 + made_sum f us =
      all_flow f us (ts ++ u ∷ []) s.0 e n.0 ready.2 (ap (λ r. fold_txs r us) (sym s.1) ∙ h) in
      omega (arith, rest, n.1 f, sum_by-cons (λ t. sum_in f t.inputs) u us, sum_by-cons (λ t. sum_out f t.outputs) u us)

  pub fold_flow : (ts : List FullTx) (e : Book) → AreReady ts → fold_txs (Some (genesis_book mint)) ts ≡ Some e
      → (f : Output → ℕ) → total f e + taken_sum f ts ≡ total f (genesis_book mint) + made_sum f ts
  fold_flow ts e ready h f = all_flow f ts [] (genesis_book mint) e minted_so_far ready h

-- where each makes as much as it takes, so do all
abbrev pub EachBalanced : List FullTx → Type 0
EachBalanced [] = Unit {0}
EachBalanced (t ∷ ts) = (value_in t.inputs ≡ value_out t.outputs) × EachBalanced ts

pub all_balanced : (ts : List FullTx) → EachBalanced ts → taken_sum (λ o. o.value) ts ≡ made_sum (λ o. o.value) ts
all_balanced [] balanced = refl
all_balanced (t ∷ ts) balanced =
    omega (
      arith,
      balanced.0,
      all_balanced ts balanced.1,
      sum_by-cons (λ u. sum_in (λ o. o.value) u.inputs) t ts,
      sum_by-cons (λ u. sum_out (λ o. o.value) u.outputs) t ts,
    )
