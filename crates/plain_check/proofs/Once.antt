-- The unspent hashes among others are found once each.
use Rattle.std.proofs.Common.{◌≡◌, ◌∙◌, ℕ, Bool, true, false, ◌&&◌, ◌||◌, not, List, [], ◌∷◌, if◌then◌else◌, refl, sym, subst, arith}
use Rattle.std.proofs.lemmas.Grind.{common_steps}
use Rattle.std.specs.List.{IsDistinct, AllByRecursion}
use Rattle.cbdc_model.specs.Records.{Digest, same_digest, Shape, Record}
use Rattle.cbdc_model.specs.Status.{has}
use Rattle.plain_check.specs.Named.{is_unspent_at, unspent_among}
use Rattle.same_records.proofs.Alikeness.{same_digest_is, same_digest_self}

-- what does not stand in a list does not stand among its unspent ones
not_among : (K : Shape) (J : ℕ → List Record) (xs : List Digest) (x : Digest) → has xs x ≡ false → has (unspent_among K J xs) x ≡ false
not_among K J [] x h = refl
not_among K J (y ∷ xs) x h =
    let first : same_digest y x ≡ false = grind (arith, common_steps) in
    let rest : has (unspent_among K J xs) x ≡ false = not_among K J xs x (grind (arith, common_steps)) in
    elim (is_unspent_at K J y && not (has xs y)) as (λ b. has (if b then y ∷ unspent_among K J xs else unspent_among K J xs) x ≡ false) [
      | true ↦ rw (first, rest) refl
      | false ↦ rest
    ]

apart : (x y : Digest) → same_digest y x ≡ false → same_digest x y ≡ false
apart x y h = elim (same_digest x y) as (λ b. same_digest x y ≡ b → b ≡ false) [
  | true ↦ λ e. sym (same_digest_self x) ∙ subst (λ z. same_digest z x ≡ false) (sym (same_digest_is x y e)) h
  | false ↦ λ e. refl
] refl

alone : (x : Digest) (ys : List Digest) → has ys x ≡ false → AllByRecursion (λ y. same_digest x y ≡ false) ys
alone x [] h = tt
alone x (y ∷ ys) h = (apart x y (grind (arith, common_steps)), alone x ys (grind (arith, common_steps)))

distinct_none : IsDistinct same_digest []
unfolding IsDistinct
distinct_none = tt

distinct_first : (x : Digest) (ys : List Digest) → has ys x ≡ false → IsDistinct same_digest ys → IsDistinct same_digest (x ∷ ys)
unfolding IsDistinct
distinct_first x ys h rest = (alone x ys h, rest)

pub unspent_once : (K : Shape) (J : ℕ → List Record) (xs : List Digest) → IsDistinct same_digest (unspent_among K J xs)
unspent_once K J [] = distinct_none
unspent_once K J (x ∷ xs) =
    elim (is_unspent_at K J x && not (has xs x)) as
    (λ b. (is_unspent_at K J x && not (has xs x)) ≡ b → IsDistinct same_digest (if b then x ∷ unspent_among K J xs else unspent_among K J xs)) [
      | true ↦ λ e. distinct_first x (unspent_among K J xs) (not_among K J xs x (grind (arith, common_steps))) (unspent_once K J xs)
      | false ↦ λ e. unspent_once K J xs
    ] refl
