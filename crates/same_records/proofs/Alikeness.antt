-- What the tests of equality decide.
use Rattle.std.proofs.Common.{◌≡◌, true, List, [], ◌∷◌, refl, arith}
use Rattle.std.proofs.lemmas.Grind.{common_steps}
use Rattle.std.proofs.lemmas.Slice.Eq.{bytes_eq-Decides}
use Rattle.cbdc_model.specs.Records.{Digest, same_digest, Batch, same_batch, Entry}
use Rattle.cbdc_model.specs.Next.{same_digests, same_entry}

pub same_digest_is : (x y : Digest) → same_digest x y ≡ true → x ≡ y
unfolding same_digest
same_digest_is x y h = (bytes_eq-Decides x y).0 h

pub same_digest_self : (x : Digest) → same_digest x x ≡ true
unfolding same_digest
same_digest_self x = (bytes_eq-Decides x x).1 refl

pub same_digests_is : (xs ys : List Digest) → same_digests xs ys ≡ true → xs ≡ ys
same_digests_is [] [] h = refl
same_digests_is [] (y ∷ ys) h = cc
same_digests_is (x ∷ xs) [] h = cc
same_digests_is (x ∷ xs) (y ∷ ys) h = grind (arith, same_digest_is x y, same_digests_is xs ys)

pub same_digests_self : (xs : List Digest) → same_digests xs xs ≡ true
same_digests_self [] = refl
same_digests_self (x ∷ xs) = grind (arith, same_digest_self x, same_digests_self xs)

pub same_batch_is : (a b : Batch) → same_batch a b ≡ true → a ≡ b
same_batch_is a b h = grind (arith, common_steps)

pub same_batch_self : (a : Batch) → same_batch a a ≡ true
same_batch_self a = grind (arith, common_steps)

pub same_entry_is : (e f : Entry) → same_entry e f ≡ true → e ≡ f
same_entry_is e f h = grind (arith, common_steps, same_digest_is e.id f.id, same_digests_is e.inputs f.inputs, same_digests_is e.outputs f.outputs)

pub same_entry_self : (e : Entry) → same_entry e e ≡ true
same_entry_self e = grind (arith, common_steps, same_digest_self e.id, same_digests_self e.inputs, same_digests_self e.outputs)
