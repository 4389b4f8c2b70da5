-- Whether a hash stands in a list, and in lists joined.
use Rattle.std.proofs.Common.{◌≡◌, ◌||◌, List, [], ◌∷◌, ◌++◌, refl, arith}
use Rattle.std.proofs.lemmas.Grind.{common_steps}
use Rattle.std.specs.List.{list_any}
use Rattle.base_types.specs.contracts.hash.HashPartialEq.TheImpl as hash
use Rattle.cbdc_model.specs.Status.{has}
use Rattle.cbdc_model.specs.Records.{Digest}
use Rattle.same_records.proofs.Digests.{digest_is}

pub has_append : (xs ys : List Digest) (x : Digest) → has (xs ++ ys) x ≡ has xs x || has ys x
has_append [] ys x = refl
has_append (y ∷ xs) ys x = grind (arith, common_steps, has_append xs ys x)

pub any_is : (xs : List Digest) (x : Digest) → list_any (λ y. hash.eq-value.it y x) xs ≡ has xs x
any_is [] x = refl
any_is (y ∷ ys) x = let d = digest_is y x in let rest = any_is ys x in rw (d, rest)
