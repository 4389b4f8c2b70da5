-- Lists of hashes without those that stand again.
use Rattle.std.proofs.Common.{◌≡◌, ◌↔◌, ℕ, true, false, ◌||◌, List, [], ◌∷◌, if◌then◌else◌, length, refl, sym, ◌∙◌, ap, subst}
use Rattle.cbdc_model.specs.Records.{Digest, same_digest, Shape, Record}
use Rattle.cbdc_model.specs.Status.{has}
use Rattle.cbdc_model.specs.World.{IsUnspent}
use Rattle.shard_table.specs.Members.{IsSet}
use Rattle.same_records.proofs.Alikeness.{same_digest_is}
use Rattle.printed_lines.specs.Unspent.{IsUnspentCount}
use Rattle.plain_check.specs.Searches.{last_ones}

last_has : (xs : List Digest) (y : Digest) → has (last_ones xs) y ≡ has xs y
last_has [] y = refl
last_has (x ∷ xs) y = elim (has xs x) as (λ b. has xs x ≡ b → has (if b then last_ones xs else x ∷ last_ones xs) y ≡ same_digest x y || has xs y) [
  | true ↦ λ e. elim (same_digest x y) as (λ s. same_digest x y ≡ s → has (last_ones xs) y ≡ s || has xs y) [
    | true ↦ λ s. last_has xs y ∙ subst (λ z. has xs z ≡ true) (same_digest_is x y s) e
    | false ↦ λ s. last_has xs y
  ] refl
  | false ↦ λ e. ap (λ t. same_digest x y || t) (last_has xs y)
] refl

last_set : (xs : List Digest) → IsSet (last_ones xs)
last_set [] = tt
last_set (x ∷ xs) = elim (has xs x) as (λ b. has xs x ≡ b → IsSet (if b then last_ones xs else x ∷ last_ones xs)) [
  | true ↦ λ e. last_set xs
  | false ↦ λ e. (last_has xs x ∙ e, last_set xs)
] refl

-- of the unspent hashes, the different ones are counted
pub different_counted : (K : Shape) (J : ℕ → List Record) (xs : List Digest) (n : ℕ) → ((x : Digest) → (has xs x ≡ true) ↔ IsUnspent K J x)
    → n ≡ length (last_ones xs) → IsUnspentCount K J n
different_counted K J xs n all e = record {
  hashes = last_ones xs;
  once = last_set xs;
  all = λ x. (λ h. (all x).0 (sym (last_has xs x) ∙ h), λ u. last_has xs x ∙ (all x).1 u);
  count = e;
}
