-- What Clean says, by lists.
use Rattle.std.proofs.Common.{◌≡◌, ◌⊎◌, inl, inr, false, List, [], ◌∷◌, ◌++◌, Contains, refl, sym, subst, rules}
use Rattle.std.specs.Prelude.{IsTrue}
use Rattle.std.specs.List.{AllByRecursion}
use Rattle.cbdc_model.specs.Clean.{IsMember, IsNamed, Clean}
use Rattle.cbdc_model.specs.Coins.{Output, Coin, FullTx, tx_coins, genesis_tx}
use Rattle.ledger_laws.proofs.Members.{In, in_contains, contains_in}
use Rattle.plain_check.specs.Agreeing.{Agree, CoinsAgree, coins_in}

in_left : {A : Type 0} (xs ys : List A) (x : A) → In x xs → In x (xs ++ ys)
in_left [] ys x h = absurd h
in_left (z ∷ xs) ys x (inl e) = inl e
in_left (z ∷ xs) ys x (inr h) = inr (in_left xs ys x h)

in_right : {A : Type 0} (xs ys : List A) (x : A) → In x ys → In x (xs ++ ys)
in_right [] ys x h = h
in_right (z ∷ xs) ys x h = inr (in_right xs ys x h)

in_parts : {A : Type 0} (xs ys : List A) (x : A) → In x (xs ++ ys) → In x xs ⊎ In x ys
in_parts [] ys x h = inr h
in_parts (z ∷ xs) ys x (inl e) = inl (inl e)
in_parts (z ∷ xs) ys x (inr h) = elim (in_parts xs ys x h) [
  | inl a ↦ inl (inr a)
  | inr b ↦ inr b
]

pub all_has : {A : Type 0} (P : A → Type 0) (xs : List A) (x : A) → AllByRecursion P xs → In x xs → P x
all_has P [] x all h = absurd h
all_has P (y ∷ ys) x all (inl e) = subst P (sym e) all.0
all_has P (y ∷ ys) x all (inr h) = all_has P ys x all.1 h

pub each_all : {A : Type 0} (P : A → Type 0) (xs : List A) → ((x : A) → In x xs → P x) → AllByRecursion P xs
each_all P [] f = tt
each_all P (y ∷ ys) f = (f y (inl refl), each_all P ys (λ x h. f x (inr h)))

-- a coin of one of the transactions
abbrev pub In_coins : List FullTx → Coin → Type 0
In_coins ts c = (t : FullTx) × In t ts × (In c t.inputs ⊎ In c (tx_coins t))

to_coins : (ts : List FullTx) (c : Coin) (t : FullTx) → In t ts → (In c t.inputs ⊎ In c (tx_coins t)) → In c (coins_in ts)
to_coins [] c t h i = absurd h
to_coins (u ∷ ts) c t (inl e) (inl i) = in_left u.inputs (tx_coins u ++ coins_in ts) c (subst (λ v. In c v.inputs) e i)
to_coins (u ∷ ts) c t (inl e) (inr i) = in_right u.inputs (tx_coins u ++ coins_in ts) c
    (in_left (tx_coins u) (coins_in ts) c (subst (λ v. In c (tx_coins v)) e i))
to_coins (u ∷ ts) c t (inr h) i = in_right u.inputs (tx_coins u ++ coins_in ts) c (in_right (tx_coins u) (coins_in ts) c (to_coins ts c t h i))

from_coins : (ts : List FullTx) (c : Coin) → In c (coins_in ts) → In_coins ts c
from_coins [] c h = absurd h
from_coins (u ∷ ts) c h = elim (in_parts u.inputs (tx_coins u ++ coins_in ts) c h) [
  | inl i ↦ (u, inl refl, inl i)
  | inr more ↦ elim (in_parts (tx_coins u) (coins_in ts) c more) [
    | inl i ↦ (u, inl refl, inr i)
    | inr later ↦ let found : In_coins ts c = from_coins ts c later in (found.0, inr found.1, found.2)
  ]
]

coin_of : (t : FullTx) (c : Coin) → (In c t.inputs ⊎ In c (tx_coins t)) → Contains t.inputs c ⊎ Contains (tx_coins t) c
coin_of t c (inl i) = inl (contains_in t.inputs c i)
coin_of t c (inr i) = inr (contains_in (tx_coins t) c i)

of_coin : (t : FullTx) (c : Coin) → (Contains t.inputs c ⊎ Contains (tx_coins t) c) → In c t.inputs ⊎ In c (tx_coins t)
of_coin t c (inl i) = inl (in_contains t.inputs c i)
of_coin t c (inr i) = inr (in_contains (tx_coins t) c i)

to_named : (mint : List Output) (txs : List FullTx) (c : Coin) → In c (tx_coins (genesis_tx mint) ++ coins_in txs) → IsNamed mint txs c
to_named mint txs c h = elim (in_parts (tx_coins (genesis_tx mint)) (coins_in txs) c h) [
  | inl i ↦ (genesis_tx mint, inl refl, inr (contains_in (tx_coins (genesis_tx mint)) c i))
  | inr later ↦
      let found : In_coins txs c = from_coins txs c later in
      (found.0, inr (contains_in txs found.0 found.1), coin_of found.0 c found.2)
]

of_member : (mint : List Output) (txs : List FullTx) (c : Coin) (t : FullTx) → IsMember mint txs t → (In c t.inputs ⊎ In c (tx_coins t))
    → In c (tx_coins (genesis_tx mint) ++ coins_in txs)
of_member mint txs c t (inl e) (inl i) = absurd (subst (λ v. In c v.inputs) e i)
of_member mint txs c t (inl e) (inr i) = in_left (tx_coins (genesis_tx mint)) (coins_in txs) c (subst (λ v. In c (tx_coins v)) e i)
of_member mint txs c t (inr h) i = in_right (tx_coins (genesis_tx mint)) (coins_in txs) c (to_coins txs c t (in_contains txs t h) i)

from_named : (mint : List Output) (txs : List FullTx) (c : Coin) → IsNamed mint txs c → In c (tx_coins (genesis_tx mint) ++ coins_in txs)
from_named mint txs c named = of_member mint txs c named.0 named.1 (of_coin named.0 c named.2)

turned : (t u : FullTx) → Agree t u → Agree u t
turned t u a e = let both = a (sym e) in (sym both.0, sym both.1)

agrees : (mint : List Output) (txs : List FullTx) → AllByRecursion (Agree (genesis_tx mint)) txs
    → AllByRecursion (λ t. AllByRecursion (Agree t) txs) txs
    → (t u : FullTx) → IsMember mint txs t → IsMember mint txs u → Agree t u
agrees mint txs first all t u (inl e) (inl f) = λ same. (
  subst (λ v. t.inputs ≡ v.inputs) (sym f) (subst (λ v. v.inputs ≡ (genesis_tx mint).inputs) (sym e) refl),
  subst (λ v. t.outputs ≡ v.outputs) (sym f) (subst (λ v. v.outputs ≡ (genesis_tx mint).outputs) (sym e) refl),
)
agrees mint txs first all t u (inl e) (inr h) = subst (λ v. Agree v u) (sym e) (all_has (Agree (genesis_tx mint)) txs u first (in_contains txs u h))
agrees mint txs first all t u (inr h) (inl f) = subst (λ v. Agree t v) (sym f)
    (turned (genesis_tx mint) t (all_has (Agree (genesis_tx mint)) txs t first (in_contains txs t h)))
agrees mint txs first all t u (inr h) (inr g) = all_has (Agree t) txs u (all_has (λ v. AllByRecursion (Agree v) txs) txs t all (in_contains txs t h))
    (in_contains txs u g)

pub no_lie : IsTrue false → ⊥
no_lie h = search rules

-- the tests together say that all is clean
pub clean_by : (mint : List Output) (txs : List FullTx) → AllByRecursion (Agree (genesis_tx mint)) txs
    → AllByRecursion (λ t. AllByRecursion (Agree t) txs) txs
    → AllByRecursion (λ c. AllByRecursion (CoinsAgree c) (tx_coins (genesis_tx mint) ++ coins_in txs)) (tx_coins (genesis_tx mint) ++ coins_in txs)
    → Clean mint txs
clean_by mint txs first all coins = record {
  ids = agrees mint txs first all;
  hashes = λ c d named other. all_has (CoinsAgree c) (tx_coins (genesis_tx mint) ++ coins_in txs) d
      (all_has (λ x. AllByRecursion (CoinsAgree x) (tx_coins (genesis_tx mint) ++ coins_in txs)) (tx_coins (genesis_tx mint) ++ coins_in txs) c coins
      (from_named mint txs c named))
      (from_named mint txs d other);
}

-- and where all is clean each of them does
pub first_agrees : (mint : List Output) (txs : List FullTx) → Clean mint txs → AllByRecursion (Agree (genesis_tx mint)) txs
first_agrees mint txs clean = each_all (Agree (genesis_tx mint)) txs (λ u h. clean.ids (genesis_tx mint) u (inl refl) (inr (contains_in txs u h)))

pub each_agrees : (mint : List Output) (txs : List FullTx) → Clean mint txs → AllByRecursion (λ t. AllByRecursion (Agree t) txs) txs
each_agrees mint txs clean = each_all (λ t. AllByRecursion (Agree t) txs) txs
    (λ t h. each_all (Agree t) txs (λ u g. clean.ids t u (inr (contains_in txs t h)) (inr (contains_in txs u g))))

pub coins_agree : (mint : List Output) (txs : List FullTx) → Clean mint txs
    → AllByRecursion (λ c. AllByRecursion (CoinsAgree c) (tx_coins (genesis_tx mint) ++ coins_in txs)) (tx_coins (genesis_tx mint) ++ coins_in txs)
coins_agree mint txs clean =
    each_all (λ c. AllByRecursion (CoinsAgree c) (tx_coins (genesis_tx mint) ++ coins_in txs)) (tx_coins (genesis_tx mint) ++ coins_in txs)
    (λ c h. each_all (CoinsAgree c) (tx_coins (genesis_tx mint) ++ coins_in txs)
    (λ d g. clean.hashes c d (to_named mint txs c h) (to_named mint txs d g)))
