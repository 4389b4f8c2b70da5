-- A journal that has grown by records of some batches, by its newer records.
use Rattle.std.proofs.Common.{◌≡◌, inl, inr, ◌↔◌, ℕ, Bool, false, ◌+◌, ◌<◌, ◌≤◌, List, [], ◌∷◌, ◌++◌, take, drop, length, length-append, refl, sym}
use Rattle.std.proofs.Common.{ap, ◌∙◌, subst, arith, rules, append_assoc}
use Rattle.std.proofs.lemmas.Bool.{cases_lt}
use Rattle.std.proofs.lemmas.List.{append_cancel_right, take_at, drop_at, take-append-drop, get_or_past}
use Rattle.std.specs.Prelude.{IsTrue}
use Rattle.std.specs.List.{AllByRecursion}
use Rattle.cbdc_model.specs.Records.{Batch, Record}
use Rattle.cbdc_model.specs.Waves.{Adds}
use Rattle.plain_check.specs.Journals.{journals_in}
use Rattle.plain_check.specs.Adding.{IsAdded, GrowsByNew}

middle : (P : Record → Type 0) (newer back : List Record) (r : Record) → AllByRecursion P (newer ++ r ∷ back) → P r
middle P [] back r all = all.0
middle P (q ∷ newer) back r all = middle P newer back r all.1

pub grown_by_new : (of : Batch → Type 0) (newer old : List Record) → AllByRecursion (IsAdded of) newer → GrowsByNew of old (newer ++ old)
grown_by_new of newer old all = record {
  grows = (newer, refl);
  each = λ more rest r e h.
      let same : newer ≡ more ++ r ∷ h.0 =
      append_cancel_right newer (more ++ r ∷ h.0) old (e ∙ ap (λ L. more ++ r ∷ L) h.1 ∙ sym (append_assoc more (r ∷ h.0) old)) in
      middle (IsAdded of) more h.0 r (subst (AllByRecursion (IsAdded of)) same all);
}

each_new : (of : Batch → Type 0) (newer old : List Record) → GrowsByNew of old (newer ++ old) → AllByRecursion (IsAdded of) newer
each_new of [] old g = tt
each_new of (r ∷ newer) old g =
    let rest : GrowsByNew of old (newer ++ old) =
    record { grows = (newer, refl); each = λ more back q e h. g.each (r ∷ more) back q (ap (λ L. r ∷ L) e) h } in
    (g.each [] (newer ++ old) r refl (newer, refl), each_new of newer old rest)

pub no_shorter : (of : Batch → Type 0) (old new : List Record) → GrowsByNew of old new → length old ≤ length new
no_shorter of old new g =
    let l : length new ≡ length g.grows.0 + length old = ap length g.grows.1 ∙ length-append g.grows.0 old in
    omega arith

-- what a journal that has grown is: its newer records in front of the older journal
pub record Parts (of : Batch → Type 0) (old newer rest : List Record) : Type 0 where
  pub rest_is : rest ≡ old
  pub all : AllByRecursion (IsAdded of) newer

pub parts : (of : Batch → Type 0) (old new newer rest : List Record) → new ≡ newer ++ rest → length rest ≡ length old → GrowsByNew of old new
    → Parts of old newer rest
parts of old new newer rest e l g =
    let both : newer ++ rest ≡ g.grows.0 ++ old = sym e ∙ g.grows.1 in
    let count : length newer + length rest ≡ length g.grows.0 + length old =
    sym (length-append newer rest) ∙ ap length both ∙ length-append g.grows.0 old in
    let same : length g.grows.0 ≡ length newer = omega arith in
    let front : newer ≡ g.grows.0 = sym (take_at newer rest (length newer) refl) ∙ ap (take (length newer)) both
    ∙ take_at g.grows.0 old (length newer) same in
    let back : rest ≡ old = sym (drop_at newer rest (length newer) refl) ∙ ap (drop (length newer)) both ∙ drop_at g.grows.0 old (length newer) same
    in
    let new_is : new ≡ newer ++ old = e ∙ ap (λ L. newer ++ L) back in
    record { rest_is = back; all = each_new of newer old (subst (GrowsByNew of old) new_is g) }

no_lie : IsTrue false → ⊥
no_lie t = search rules

grown_by : (of : Batch → Type 0) (old new newer rest : List Record) → new ≡ newer ++ rest → rest ≡ old → AllByRecursion (IsAdded of) newer
    → GrowsByNew of old new
grown_by of old new newer rest e same all = subst (GrowsByNew of old) (sym (e ∙ ap (λ L. newer ++ L) same)) (grown_by_new of newer old all)

-- a journal that is cut behind as many records as it has more
pub record Cut (old new newer rest : List Record) : Type 0 where
  pub joined : new ≡ newer ++ rest
  pub length_is : length rest ≡ length old

pub is_cut_at : (old new newer rest : List Record) (k : ℕ) → newer ≡ take k new → rest ≡ drop k new → length rest ≡ length old
    → Cut old new newer rest
is_cut_at old new newer rest k e f l = record { joined = sym (take-append-drop k new) ∙ (λ i. e' i ++ f' i); length_is = l }
  where
    e' : take k new ≡ newer
    e' = sym e

    f' : drop k new ≡ rest
    f' = sym f

pub grows_by : (of : Batch → Type 0) (old new newer rest : List Record) (told : Bool) → Cut old new newer rest → rest ≡ old
    → (IsTrue told ↔ AllByRecursion (IsAdded of) newer) → IsTrue told ↔ GrowsByNew of old new
grows_by of old new newer rest told cut same each = (
  λ y. grown_by of old new newer rest cut.joined same (each.0 y),
  λ g. each.1 (parts of old new newer rest cut.joined cut.length_is g).all,
)

pub grows_not : (of : Batch → Type 0) (old new newer rest : List Record) → Cut old new newer rest → (rest ≡ old → ⊥)
    → IsTrue false ↔ GrowsByNew of old new
grows_not of old new newer rest cut other = (
  λ t. absurd (no_lie t),
  λ g. absurd (other (parts of old new newer rest cut.joined cut.length_is g).rest_is),
)

-- the same of journals that are named otherwise
pub grows_cut : (of : Batch → Type 0) (old new before after newer rest : List Record) (k : ℕ) (told : Bool) → before ≡ old → after ≡ new
    → newer ≡ take k after → rest ≡ drop k after
    → length rest ≡ length before → rest ≡ before → (IsTrue told ↔ AllByRecursion (IsAdded of) newer) → IsTrue told ↔ GrowsByNew of old new
grows_cut of old new before after newer rest k told o n front back l same each =
    subst (λ x. IsTrue told ↔ GrowsByNew of x new) o
    (subst (λ y. IsTrue told ↔ GrowsByNew of before y) n
    (grows_by of before after newer rest told (is_cut_at before after newer rest k front back l) same each))

pub grows_short : (of : Batch → Type 0) (old new : List Record) → length new < length old → IsTrue false ↔ GrowsByNew of old new
grows_short of old new lt = (λ t. absurd (no_lie t), λ g. let le : length old ≤ length new = no_shorter of old new g in absurd (omega arith))

-- two journals without records
pub grows_none : (of : Batch → Type 0) (old new : List Record) → old ≡ [] → new ≡ [] → GrowsByNew of old new
grows_none of old new e f = grown_by of old new [] new refl (f ∙ sym e) tt

-- all journals have grown where each of the first n has, and there are no others
pub adds_by : (of : Batch → Type 0) (I J : ℕ → List Record) (n : ℕ) (told : Bool) → ((k : ℕ) → n ≤ k → I k ≡ []) → ((k : ℕ) → n ≤ k → J k ≡ [])
    → (IsTrue told ↔ ((k : ℕ) → k < n → GrowsByNew of (I k) (J k))) → IsTrue told ↔ Adds of I J
adds_by of I J n told none none' each = (
  λ y. let all : (k : ℕ) → GrowsByNew of (I k) (J k) = everywhere y in record { grows = λ k. (all k).grows; each = λ k. (all k).each },
  λ a. each.1 (λ k lt. record { grows = a.grows k; each = a.each k }),
)
  where
    everywhere : IsTrue told → (k : ℕ) → GrowsByNew of (I k) (J k)
    everywhere y k = elim (cases_lt k n) [
      | inl lt ↦ each.0 y k lt
      | inr le ↦ grows_none of (I k) (J k) (none k le) (none' k le)
    ]

pub past_end : (all : List (List Record)) (n k : ℕ) → length all ≤ n → n ≤ k → journals_in all k ≡ []
past_end all n k le more = get_or_past all k [] (omega arith)
