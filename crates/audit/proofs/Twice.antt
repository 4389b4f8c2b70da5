-- Of transactions that can be spent in turn, each with an input, no two inputs name one outpoint, and no two have one id.
use Rattle.std.proofs.Common.{◌≡◌, ◌⊎◌, inl, inr, ◌+◌, ◌<◌, ◌≤◌, false, List, [], ◌∷◌, map, length, refl, sym, ap, subst, arith}
use Rattle.std.specs.List.{IsDistinct, AllByRecursion}
use Rattle.cbdc_model.specs.Records.{Digest, same_digest}
use Rattle.cbdc_model.specs.Coins.{Output, Coin, FullTx, coin_hash, tx_id, genesis_tx, compact}
use Rattle.cbdc_model.specs.Book.{Book}
use Rattle.cbdc_model.specs.Clean.{IsMember, Clean}
use Rattle.cbdc_model.specs.Headline.{all_spent, NoneTwice}
use Rattle.cbdc_model.specs.History.{all_inputs}
use Rattle.ledger_laws.proofs.Counts.{count, count-append, same_digest_is, count_first}
use Rattle.ledger_laws.proofs.Lookups.{not_true}
use Rattle.ledger_laws.proofs.Folds.{EachCoin, hashes_of}
use Rattle.ledger_laws.proofs.Members.{In, genesis_member}
use Rattle.ledger_laws.proofs.Recovery.{MadeAt, made_in, distinct_points, hashes_all, each-append, each_is_made}
use Rattle.audit.proofs.Once.{SoFar, AreReady, Maker, maker_in, spent_of, made_of, minted_of, IsMade}

module _ (mint : List Output) (handed : List FullTx) (clean : Clean mint handed) where
  all_are_made : (ts : List FullTx) → ((t : FullTx) → In t ts → IsMember mint handed t)
      → ((x : Digest) → 0 < spent_of ts x → MadeAt mint handed clean x) → EachCoin (IsMade mint handed clean) (all_spent ts)
  all_are_made [] members source = tt
  all_are_made (t ∷ ts) members source = each-append (IsMade mint handed clean) t.inputs (all_spent ts)
      (each_is_made mint handed clean t (members t (inl refl)) t.inputs (λ c h. h)
      (λ x h. source x (omega (arith, count-append x (hashes_of t.inputs) (all_inputs (map compact ts))))))
      (all_are_made ts (λ u i. members u (inr i))
      (λ x h. source x (omega (arith, count-append x (hashes_of t.inputs) (all_inputs (map compact ts))))))

  module _ (ts : List FullTx) (b : Book) (so : SoFar mint handed clean ts b) where
    source : (x : Digest) → 0 < spent_of ts x → MadeAt mint handed clean x
    source x h =
        let cases : (0 < minted_of mint handed clean x) ⊎ (0 < made_of ts x) = one_of x (so.covered x) h in
        elim cases [
          | inl g ↦ made_in mint handed clean (genesis_tx mint) (genesis_member mint handed clean) x g
          | inr m ↦ let k : Maker ts x = maker_in ts x m in made_in mint handed clean k.tx (so.members k.tx k.inside) x k.makes
        ]
      where
        one_of : (x : Digest) → spent_of ts x ≤ minted_of mint handed clean x + made_of ts x → 0 < spent_of ts x
            → (0 < minted_of mint handed clean x) ⊎ (0 < made_of ts x)
        one_of x le h = grind (arith, le, h)

    -- no hash is taken twice
    once : (x : Digest) → spent_of ts x ≤ 1
    once x = omega (arith, so.covered x, so.once x)

    pub none_twice : NoneTwice ts
    none_twice = distinct_points mint handed clean (all_spent ts) (all_are_made ts so.members source) (λ x. omega (arith, hashes_all x ts, once x))

  -- two with one id would share an input
  no_later_id : (t : FullTx) (ts : List FullTx) → IsMember mint handed t → 0 < length t.inputs → ((u : FullTx) → In u ts → IsMember mint handed u)
      → ((x : Digest) → count x (hashes_of t.inputs) + spent_of ts x ≤ 1)
      → AllByRecursion (λ i. same_digest (tx_id t) i ≡ false) (map (λ k. k.id) (map compact ts))
  no_later_id t [] m some members twice = tt
  no_later_id t (u ∷ us) m some members twice = (
    not_true (same_digest (tx_id t) (tx_id u)) (λ e. apart t u m (members u (inl refl)) some
        (λ x. omega (arith, twice x, count-append x (hashes_of u.inputs) (all_inputs (map compact us)))) (same_digest_is (tx_id t) (tx_id u) e)),
    no_later_id t us m some (λ v i. members v (inr i))
        (λ x. omega (arith, twice x, count-append x (hashes_of u.inputs) (all_inputs (map compact us)))),
  )
    where
      shared : (cs ds : List Coin) → cs ≡ ds → 0 < length cs → ((x : Digest) → count x (hashes_of cs) + count x (hashes_of ds) ≤ 1) → ⊥
      shared [] ds e some once = omega (arith, some)
      shared (c ∷ cs) ds e some once =
          let here : 0 < count (coin_hash c) (hashes_of (c ∷ cs)) = count_first (coin_hash c) (hashes_of cs) in
          let there : count (coin_hash c) (hashes_of (c ∷ cs)) ≡ count (coin_hash c) (hashes_of ds) = ap (λ l. count (coin_hash c) (hashes_of l)) e in
          omega (arith, here, there, once (coin_hash c))

      apart : (t u : FullTx) → IsMember mint handed t → IsMember mint handed u → 0 < length t.inputs
          → ((x : Digest) → count x (hashes_of t.inputs) + count x (hashes_of u.inputs) ≤ 1) → tx_id t ≡ tx_id u → ⊥
      apart t u m n some once e = shared t.inputs u.inputs (clean.ids t u m n e).0 some once

  pub distinct_ids : (ts : List FullTx) → AreReady mint handed clean ts → ((x : Digest) → spent_of ts x ≤ 1)
      → IsDistinct same_digest (map (λ k. k.id) (map compact ts))
  unfolding IsDistinct
  distinct_ids [] ready once = tt
  distinct_ids (t ∷ ts) ready once = (
    no_later_id t ts ready.0 ready.1 (members ts ready.2)
        (λ x. omega (arith, once x, count-append x (hashes_of t.inputs) (all_inputs (map compact ts)))),
    distinct_ids ts ready.2 (λ x. omega (arith, once x, count-append x (hashes_of t.inputs) (all_inputs (map compact ts)))),
  )
    where
      members : (us : List FullTx) → AreReady mint handed clean us → (u : FullTx) → In u us → IsMember mint handed u
      members [] ready u i = absurd i
      members (v ∷ us) ready u (inl e) = subst (IsMember mint handed) (sym e) ready.0
      members (v ∷ us) ready u (inr i) = members us ready.2 u i

  pub no_id_twice : (ts : List FullTx) (b : Book) → SoFar mint handed clean ts b → AreReady mint handed clean ts
      → IsDistinct same_digest (map (λ k. k.id) (map compact ts))
  no_id_twice ts b so ready = distinct_ids ts ready (λ x. once ts b so x)
