-- The test of lists of hashes.
use Rattle.std.proofs.Common.{◌≡◌, List, [], ◌∷◌, refl, ℕ}
use Rattle.std.specs.Prelude.{bytes_eq}
use lib.Dec.{eqb}
use lib.Pointwise.{pointwise}
use Rattle.base_types.specs.contracts.hash.HashPartialEq.TheImpl.{eq-value}
use Rattle.cbdc_model.specs.Records.{Digest, same_digest}
use Rattle.cbdc_model.specs.Next.{same_digests}

bytes_is : (x y : List ℕ) → pointwise eqb x y ≡ bytes_eq x y
bytes_is [] [] = refl
bytes_is [] (y ∷ ys) = refl
bytes_is (x ∷ xs) [] = refl
bytes_is (x ∷ xs) (y ∷ ys) = let rest = bytes_is xs ys in rw rest

pub digest_is : (x y : Digest) → eq-value.it x y ≡ same_digest x y
unfolding same_digest
digest_is x y = bytes_is x y

pub pointwise_is : (xs ys : List Digest) → pointwise eq-value.it xs ys ≡ same_digests xs ys
pointwise_is [] [] = refl
pointwise_is [] (y ∷ ys) = refl
pointwise_is (x ∷ xs) [] = refl
pointwise_is (x ∷ xs) (y ∷ ys) = let d = digest_is x y in let rest = pointwise_is xs ys in rw (d, rest)
