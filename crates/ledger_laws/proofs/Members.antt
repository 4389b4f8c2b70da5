-- What Clean says of coins and of compact transactions.
use Rattle.std.proofs.Common.{◌≡◌, ◌⊎◌, inl, inr, ℕ, zero, suc, ◌<◌, ◌≤◌, true, false, List, [], ◌∷◌, map, length, slice_index_or, Contains, bytes_eq}
use Rattle.std.proofs.Common.{refl, sym, ap, ◌∙◌, subst, arith}
use Rattle.std.specs.List.{IsDistinct, AllByRecursion}
use Rattle.std.proofs.lemmas.Slice.Eq.{bytes_eq-Decides}
use Rattle.cbdc_model.specs.Clean.{IsMember, IsNamed, Clean, IsProper, IsProperCompact}
use Rattle.cbdc_model.specs.Coins.{Output, Coin, FullTx, coin_hash, id_of, tx_id, tx_coins, made_coins, compact, genesis_tx}
use Rattle.cbdc_model.specs.Records.{Digest, Compact}
use Rattle.ledger_laws.proofs.Counts.{count, digests, here_or_later, count_first, count-cons_same, count-cons_other}
use Rattle.ledger_laws.proofs.CommitStep.{Apart}
use Rattle.ledger_laws.proofs.Folds.{CoinsApart, point_of, hashes_of}

-- to stand in a list, by recursion
abbrev pub In : {A : Type 0} → A → List A → Type 0
In a [] = ⊥
In a (b ∷ bs) = (a ≡ b) ⊎ In a bs

pub in_at : {A : Type 0} (xs : List A) (x : A) (k : ℕ) → k < length xs → slice_index_or xs k x ≡ x → In x xs
in_at [] x k lt e = absurd (omega arith)
in_at (y ∷ ys) x zero lt e = inl (sym e)
in_at (y ∷ ys) x (suc k) lt e = inr (in_at ys x k (omega arith) e)

pub in_contains : {A : Type 0} (xs : List A) (x : A) → Contains xs x → In x xs
in_contains xs x h = in_at xs x h.0 h.1 h.2

pub contains_in : {A : Type 0} (xs : List A) (x : A) → In x xs → Contains xs x
contains_in [] x h = absurd h
contains_in (y ∷ ys) x (inl e) = (0, omega arith, sym e)
contains_in (y ∷ ys) x (inr h) = let c : Contains ys x = contains_in ys x h in (suc c.0, omega arith, c.2)

-- a coin with that hash
pub record CoinAt (cs : List Coin) (x : Digest) : Type 0 where
  pub coin : Coin
  pub inside : In coin cs
  pub hash : coin_hash coin ≡ x

pub coin_at : (cs : List Coin) (x : Digest) → 0 < count x (hashes_of cs) → CoinAt cs x
coin_at [] x h = absurd (omega arith)
coin_at (c ∷ cs) x h =
    let cases : (coin_hash c ≡ x) ⊎ (0 < count x (hashes_of cs)) = here_or_later (coin_hash c) (hashes_of cs) x h in
    elim cases [
      | inl e ↦ record { coin = c; inside = inl refl; hash = e }
      | inr l ↦ let r : CoinAt cs x = coin_at cs x l in record { coin = r.coin; inside = inr r.inside; hash = r.hash }
    ]

-- made coins have the id, and differ by their index
pub made_tx : (id : Digest) (k : ℕ) (os : List Output) (c : Coin) → In c (made_coins id k os) → (c.point.tx ≡ id) × (k ≤ c.point.index)
made_tx id k [] c h = absurd h
made_tx id k (o ∷ os) c (inl e) = (ap (λ d. d.point.tx) e, (let i : c.point.index ≡ k = ap (λ d. d.point.index) e in omega arith))
made_tx id k (o ∷ os) c (inr h) = let r : (c.point.tx ≡ id) × (suc k ≤ c.point.index) = made_tx id (suc k) os c h in (r.0, omega arith)

pub made_same : (id : Digest) (k : ℕ) (os : List Output) (c d : Coin) → In c (made_coins id k os) → In d (made_coins id k os)
    → c.point.index ≡ d.point.index → c ≡ d
made_same id k [] c d h g i = absurd h
made_same id k (o ∷ os) c d (inl e) (inl f) i = e ∙ sym f
made_same id k (o ∷ os) c d (inl e) (inr g) i =
    absurd (let r : (d.point.tx ≡ id) × (suc k ≤ d.point.index) = made_tx id (suc k) os d g in let j : c.point.index ≡ k = ap (λ d. d.point.index) e
    in omega arith)
made_same id k (o ∷ os) c d (inr h) (inl f) i =
    absurd (let r : (c.point.tx ≡ id) × (suc k ≤ c.point.index) = made_tx id (suc k) os c h in let j : d.point.index ≡ k = ap (λ d. d.point.index) f
    in omega arith)
made_same id k (o ∷ os) c d (inr h) (inr g) i = made_same id (suc k) os c d h g i

abbrev record_coin : Digest → ℕ → Output → Coin
record_coin id k o = record { point = record { tx = id; index = k }; output = o }

zero_or : (n : ℕ) → (0 < n → ⊥) → n ≡ 0
zero_or zero f = refl
zero_or (suc n) f = absurd (f (omega arith))

count_cons : (x y : Digest) (ys : List Digest) → (0 < count x ys → y ≡ x → ⊥) → count x ys ≤ 1 → count x (y ∷ ys) ≤ 1
count_cons x y ys apart once = elim (digests y x) [
  | inl e ↦ omega (arith, count-cons_same x y ys e, zero_or (count x ys) (λ n. apart n e))
  | inr n ↦ omega (arith, count-cons_other x y ys n)
]

module _ (mint : List Output) (txs : List FullTx) (clean : Clean mint txs) where
  abbrev pub Named : Coin → Type 0
  Named c = IsNamed mint txs c

  pub Made : Coin → Type 0
  Made c = (t : FullTx) × IsMember mint txs t × In c (tx_coins t)

  pub made_is : (t : FullTx) (c : Coin) → IsMember mint txs t → In c (tx_coins t) → Made c
  unfolding Made
  made_is t c m h = (t, m, h)

  same_made : (t u : FullTx) → t.inputs ≡ u.inputs → t.outputs ≡ u.outputs → tx_coins t ≡ tx_coins u
  same_made t u i o = λ j. made_coins (id_of (i j) (o j)) 0 (o j)

  pub coins_apart : CoinsApart Named Made
  unfolding Made
  coins_apart = record {
    same_hash = clean.hashes;
    made_named = λ c m. (m.0, m.1, inr (contains_in (tx_coins m.0) c m.2));
    same_point = λ c d m n e.
        let ids : tx_id m.0 ≡ tx_id n.0 = sym (made_tx (tx_id m.0) 0 m.0.outputs c m.2).0 ∙ point_tx c d e
        ∙ (made_tx (tx_id n.0) 0 n.0.outputs d n.2).0 in
        let same : (m.0.inputs ≡ n.0.inputs) × (m.0.outputs ≡ n.0.outputs) = clean.ids m.0 n.0 m.1 n.1 ids in
        made_same (tx_id n.0) 0 n.0.outputs c d (subst (λ cs. In c cs) (same_made m.0 n.0 same.0 same.1) m.2) n.2 (point_index c d e);
  }
    where
      point_tx : (c d : Coin) → point_of c ≡ point_of d → c.point.tx ≡ d.point.tx
      point_tx c d e = cc

      point_index : (c d : Coin) → point_of c ≡ point_of d → c.point.index ≡ d.point.index
      point_index c d e = cc

  -- coins of one transaction have their hashes once
  made_once : (t : FullTx) → IsMember mint txs t → (id : Digest) (k : ℕ) (os : List Output)
      → ((c : Coin) → In c (made_coins id k os) → In c (tx_coins t))
      → (x : Digest) → count x (hashes_of (made_coins id k os)) ≤ 1
  made_once t m id k [] all x = omega arith
  made_once t m id k (o ∷ os) all x =
      count_cons x (coin_hash (record { point = record { tx = id; index = k }; output = o })) (hashes_of (made_coins id (suc k) os))
      (λ later e.
      let r : CoinAt (made_coins id (suc k) os) x = coin_at (made_coins id (suc k) os) x later in
      let same : record_coin id k o ≡ r.coin = clean.hashes (record_coin id k o) r.coin
      (t, m, inr (contains_in (tx_coins t) (record_coin id k o) (all (record_coin id k o) (inl refl))))
      (t, m, inr (contains_in (tx_coins t) r.coin (all r.coin (inr r.inside)))) (e ∙ sym r.hash) in
      let i : k ≡ r.coin.point.index = ap (λ c. c.point.index) same in
      omega (arith, (made_tx id (suc k) os r.coin r.inside).1))
      (made_once t m id (suc k) os (λ c h. all c (inr h)) x)

  pub tx_coins_once : (t : FullTx) → IsMember mint txs t → (x : Digest) → count x (hashes_of (tx_coins t)) ≤ 1
  tx_coins_once t m x = made_once t m (tx_id t) 0 t.outputs (λ c h. h) x

  distinct_first : (c : Coin) (cs : List Coin) → AllByRecursion (λ q. bytes_eq (point_of c) q ≡ false) (map point_of cs) → (d : Coin) → In d cs
      → c ≡ d → ⊥
  distinct_first c [] all d h e = h
  distinct_first c (b ∷ cs) all d (inl f) e =
      let t : bytes_eq (point_of c) (point_of b) ≡ true = (bytes_eq-Decides (point_of c) (point_of b)).1 (ap point_of (e ∙ f)) in
      let no_way : true ≡ false = sym t ∙ all.0 in cc
  distinct_first c (b ∷ cs) all d (inr h) e = distinct_first c cs all.1 d h e

  once_from : (t : FullTx) → IsMember mint txs t → (cs : List Coin) → ((c : Coin) → In c cs → In c t.inputs)
      → IsDistinct (λ p q. bytes_eq p q) (map point_of cs) → (x : Digest) → count x (hashes_of cs) ≤ 1
  unfolding IsDistinct
  once_from t m [] all distinct x = omega arith
  once_from t m (c ∷ cs) all distinct x =
      count_cons x (coin_hash c) (hashes_of cs)
      (λ later e.
      let r : CoinAt cs x = coin_at cs x later in
      distinct_first c cs distinct.0 r.coin r.inside (clean.hashes c r.coin
      (t, m, inl (contains_in t.inputs c (all c (inl refl)))) (t, m, inl (contains_in t.inputs r.coin (all r.coin (inr r.inside)))) (e ∙ sym r.hash)))
      (once_from t m cs (λ d h. all d (inr h)) distinct.1 x)

  pub inputs_once : (t : FullTx) → IsMember mint txs t → IsProper t → (x : Digest) → count x (hashes_of t.inputs) ≤ 1
  inputs_once t m proper x = once_from t m t.inputs (λ c h. h) proper.no_repeat x

  abbrev head_or_zero : List Digest → Digest
  head_or_zero [] = []
  head_or_zero (y ∷ ys) = y

  has_head : (cs : List Coin) → 0 < length cs → 0 < count (head_or_zero (hashes_of cs)) (hashes_of cs)
  has_head [] h = absurd (omega arith)
  has_head (c ∷ cs) h = first_counts (coin_hash c) (hashes_of cs)
    where
      first_counts : (y : Digest) (ys : List Digest) → 0 < count y (y ∷ ys)
      first_counts y ys = count_first y ys

  -- two members that share an output's hash are one
  same_output_tx : (t u : FullTx) → IsMember mint txs t → IsMember mint txs u → (x : Digest) → 0 < count x (hashes_of (tx_coins t))
      → 0 < count x (hashes_of (tx_coins u))
      → (t.inputs ≡ u.inputs) × (t.outputs ≡ u.outputs)
  same_output_tx t u m n x h k =
      let a : CoinAt (tx_coins t) x = coin_at (tx_coins t) x h in
      let b : CoinAt (tx_coins u) x = coin_at (tx_coins u) x k in
      let same : a.coin ≡ b.coin = clean.hashes a.coin b.coin (t, m, inr (contains_in (tx_coins t) a.coin a.inside))
      (u, n, inr (contains_in (tx_coins u) b.coin b.inside)) (a.hash ∙ sym b.hash) in
      clean.ids t u m n (sym (made_tx (tx_id t) 0 t.outputs a.coin a.inside).0 ∙ ap (λ c. c.point.tx) same
      ∙ (made_tx (tx_id u) 0 u.outputs b.coin b.inside).0)

  pub genesis_member : IsMember mint txs (genesis_tx mint)
  genesis_member = inl refl

  pub apart : Apart (λ x. count x (hashes_of (tx_coins (genesis_tx mint)))) (IsProperCompact txs)
  apart = record {
    one_owner = λ k l x p q h g.
        let same : (p.0.inputs ≡ q.0.inputs) × (p.0.outputs ≡ q.0.outputs)
        = same_output_tx p.0 q.0 (inr p.1) (inr q.1) x (subst (λ j. 0 < count x j.outputs) (sym p.3) h)
        (subst (λ j. 0 < count x j.outputs) (sym q.3) g) in
        sym p.3 ∙ same_compact_form p.0 q.0 same.0 same.1 ∙ q.3;
    not_genesis = λ k x p h. no_genesis k x p h;
    first_input = λ k. head_or_zero k.inputs;
    has_input = λ k p. subst (λ j. 0 < count (head_or_zero j.inputs) j.inputs) p.3 (has_head p.0.inputs p.2.has_input);
    inputs_once = λ k x p. subst (λ j. count x j.inputs ≤ 1) p.3 (inputs_once p.0 (inr p.1) p.2 x);
    outputs_once = λ k x p. subst (λ j. count x j.outputs ≤ 1) p.3 (tx_coins_once p.0 (inr p.1) x);
    genesis_once = λ x. tx_coins_once (genesis_tx mint) genesis_member x;
  }
    where
      same_compact_form : (t u : FullTx) → t.inputs ≡ u.inputs → t.outputs ≡ u.outputs → compact t ≡ compact u
      same_compact_form t u i o = λ j. record {
        id = id_of (i j) (o j);
        inputs = hashes_of (i j);
        outputs = hashes_of (made_coins (id_of (i j) (o j)) 0 (o j));
      }

      no_inputs : (t : FullTx) → IsProper t → t.inputs ≡ [] → ⊥
      no_inputs t p e = let z : length t.inputs ≡ 0 = ap length e in omega (arith, p.has_input)

      no_genesis : (k : Compact) (x : Digest) → IsProperCompact txs k → 0 < count x k.outputs → count x (hashes_of (tx_coins (genesis_tx mint))) ≡ 0
      no_genesis k x p h = zero_or (count x (hashes_of (tx_coins (genesis_tx mint)))) (λ g. no_inputs p.0 p.2
          (same_output_tx p.0 (genesis_tx mint) (inr p.1) genesis_member x (subst (λ j. 0 < count x j.outputs) (sym p.3) h) g).0)

pub in_count : (x : Digest) (xs : List Digest) → In x xs → 0 < count x xs
in_count x [] h = absurd h
in_count x (y ∷ ys) (inl e) = here x y ys e
  where
    here : (x y : Digest) (ys : List Digest) → x ≡ y → 0 < count x (y ∷ ys)
    here x y ys e = omega (arith, count-cons_same x y ys (sym e))
in_count x (y ∷ ys) (inr h) = let r : 0 < count x ys = in_count x ys h in omega arith

pub count_in : (x : Digest) (xs : List Digest) → 0 < count x xs → In x xs
count_in x [] h = absurd (omega arith)
count_in x (y ∷ ys) h =
    elim (here_or_later y ys x h) [ inl e ↦ inl (sym e) | inr l ↦ inr (count_in x ys l) ]
