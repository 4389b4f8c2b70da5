-- What the tests of equality say: of lists of hashes, entries, decisions and compact forms.
use Rattle.std.proofs.Common.{◌≡◌, Bool, true, false, ◌&&◌, List, [], ◌∷◌, refl, arith}
use Rattle.cbdc_model.specs.Records.{Digest, same_digest, Compact, Entry}
use Rattle.cbdc_model.specs.Next.{same_digests, same_entry, same_decision}
use Rattle.cbdc_model.specs.History.{same_compact}
use Rattle.ledger_laws.proofs.Lookups.{number_self}
use Rattle.ledger_laws.proofs.Counts.{same_digest_is, same_digest_self}

and_both : (a b : Bool) → (a && b) ≡ true → (a ≡ true) × (b ≡ true)
and_both a b h = grind arith

pub same_digests_is : (xs ys : List Digest) → same_digests xs ys ≡ true → xs ≡ ys
same_digests_is [] [] h = refl
same_digests_is [] (y ∷ ys) h = cc
same_digests_is (x ∷ xs) [] h = cc
same_digests_is (x ∷ xs) (y ∷ ys) h =
    let both : (same_digest x y ≡ true) × (same_digests xs ys ≡ true) = and_both (same_digest x y) (same_digests xs ys) h in
    let e : x ≡ y = same_digest_is x y both.0 in
    let f : xs ≡ ys = same_digests_is xs ys both.1 in
    λ i. e i ∷ f i

pub same_digests_self : (xs : List Digest) → same_digests xs xs ≡ true
same_digests_self [] = refl
same_digests_self (x ∷ xs) = rw (same_digest_self x, same_digests_self xs)

pub same_entry_self : (e : Entry) → same_entry e e ≡ true
same_entry_self e = rw (number_self e.place, same_digest_self e.id, same_digests_self e.inputs, same_digests_self e.outputs)

pub same_decision_self : (d : Bool) → same_decision d d ≡ true
same_decision_self true = refl
same_decision_self false = refl

pub same_compact_is : (a b : Compact) → same_compact a b ≡ true → a ≡ b
same_compact_is a b h =
    let one : (same_digest a.id b.id ≡ true) × ((same_digests a.inputs b.inputs && same_digests a.outputs b.outputs) ≡ true)
    = and_both (same_digest a.id b.id) (same_digests a.inputs b.inputs && same_digests a.outputs b.outputs) h in
    let two : (same_digests a.inputs b.inputs ≡ true)
    × (same_digests a.outputs b.outputs ≡ true) = and_both (same_digests a.inputs b.inputs) (same_digests a.outputs b.outputs) one.1 in
    let i' : a.id ≡ b.id = same_digest_is a.id b.id one.0 in
    let s' : a.inputs ≡ b.inputs = same_digests_is a.inputs b.inputs two.0 in
    let o' : a.outputs ≡ b.outputs = same_digests_is a.outputs b.outputs two.1 in
    λ j. record { id = i' j; inputs = s' j; outputs = o' j }

pub same_compact_self : (a : Compact) → same_compact a a ≡ true
same_compact_self a = rw (same_digest_self a.id, same_digests_self a.inputs, same_digests_self a.outputs)
