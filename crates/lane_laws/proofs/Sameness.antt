-- What is kept without a difference is the same.
use Rattle.std.proofs.Common.{◌≡◌, ℕ, suc, Bool, true, false, ◌&&◌, ◌==◌, if◌then◌else◌, List, [], ◌∷◌, Option, Some, None, option_map, refl, sym}
use Rattle.std.proofs.Common.{arith}
use Rattle.cbdc_model.specs.Records.{Digest, same_digest, Entry}
use Rattle.cbdc_model.specs.Next.{difference, same_entry, same_digests, same_decision}
use Rattle.ledger_laws.proofs.Counts.{same_digest_is}

mapped_none : (o : Option ℕ) → option_map (λ n. suc n) o ≡ None → o ≡ None
mapped_none None e = refl
mapped_none (Some n) e = absurd (let z : Some (suc n) ≡ None = e in cc)

pub no_difference : {A : Type 0} (same : A → A → Bool) → ((x y : A) → same x y ≡ true → x ≡ y) → (xs ys : List A) → difference same xs ys ≡ None
    → xs ≡ ys
no_difference same is [] [] e = refl
no_difference same is [] (y ∷ ys) e = absurd (let z : Some 0 ≡ None = e in cc)
no_difference same is (x ∷ xs) [] e = absurd (let z : Some 0 ≡ None = e in cc)
no_difference same is (x ∷ xs) (y ∷ ys) e = go (λ f. no_difference same is xs ys f) (same x y) refl e
  where
    go : (difference same xs ys ≡ None → xs ≡ ys) → (b : Bool) → same x y ≡ b
        → (if b then option_map (λ n. suc n) (difference same xs ys) else Some 0) ≡ None → x ∷ xs ≡ y ∷ ys
    go more true t e = λ i. is x y t i ∷ more (mapped_none (difference same xs ys) e) i
    go more false t e = absurd (let z : Some 0 ≡ None = e in cc)

both : (a b : Bool) → (a && b) ≡ true → (a ≡ true) × (b ≡ true)
both a b h = (grind (arith, h), grind (arith, h))

pub digests_same : (xs ys : List Digest) → same_digests xs ys ≡ true → xs ≡ ys
digests_same [] [] h = refl
digests_same [] (y ∷ ys) h = absurd (let z : false ≡ true = h in cc)
digests_same (x ∷ xs) [] h = absurd (let z : false ≡ true = h in cc)
digests_same (x ∷ xs) (y ∷ ys) h = let b = both (same_digest x y) (same_digests xs ys) h in λ i. same_digest_is x y b.0 i ∷ digests_same xs ys b.1 i

number_same : (a b : ℕ) → (a == b) ≡ true → a ≡ b
number_same a b h = grind (arith, h)

pub entry_same : (e f : Entry) → same_entry e f ≡ true → e ≡ f
entry_same e f h =
    let a = both (e.place == f.place) (same_digest e.id f.id && (same_digests e.inputs f.inputs && same_digests e.outputs f.outputs)) h in
    let b = both (same_digest e.id f.id) (same_digests e.inputs f.inputs && same_digests e.outputs f.outputs) a.1 in
    let c = both (same_digests e.inputs f.inputs) (same_digests e.outputs f.outputs) b.1 in
    λ i. record {
      place = number_same e.place f.place a.0 i;
      id = same_digest_is e.id f.id b.0 i;
      inputs = digests_same e.inputs f.inputs c.0 i;
      outputs = digests_same e.outputs f.outputs c.1 i;
    }

pub decision_same : (d e : Bool) → same_decision d e ≡ true → d ≡ e
decision_same true e h = sym h
decision_same false true h = absurd (let z : false ≡ true = h in cc)
decision_same false false h = refl
