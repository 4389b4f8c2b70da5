-- Proper submissions, one after another.
use Rattle.std.proofs.Common.{◌≡◌, ◌↔◌, inl, inr, Bool, true, false, List, [], ◌∷◌, Contains, refl, sym, subst, arith, rules}
use Rattle.std.specs.Prelude.{All, IsTrue, Result, IfOk}
use Rattle.std.proofs.lemmas.Result.{IfOk-weaker}
use Rattle.cbdc_model.specs.Records.{Compact}
use Rattle.std.proofs.lemmas.List.Elements.{All-cons, All-tail}
use Rattle.cbdc_model.specs.Coins.{FullTx, compact}
use Rattle.cbdc_model.specs.Clean.{IsProper, IsProperCompact}
use Rattle.ledger_laws.proofs.Members.{In, in_contains, contains_in}
use Rattle.base_types.specs.declared.faults.Refusal.{Refusal}
use Rattle.base_types.specs.declared.faults.Refusal.TheVariants.{BadWitness, Unverified}
use Rattle.sentinel.specs.declared.verifier.Verdict.TheVariants.{Good, Bad, Absent}
use Rattle.sentinel.specs.FirstRefusal.{Applies, IsFirstRefusal, IsSoundTx}
use Rattle.run_laws.proofs.Proper.{proper_law, sound_law}

pub no_lie : IsTrue false → ⊥
no_lie t = search rules

-- a transaction that a sentinel refuses to which all witnesses are good is not proper
not_refused : (t : FullTx) (r : Refusal) → IsProper t → Applies t (λ i. Good) r → ⊥
not_refused t (BadWitness i) p least = unlike least.holds.1
  where
    unlike : Good ≡ Bad → ⊥
    unlike e = cc
not_refused t (Unverified i) p least = unlike least.holds.1
  where
    unlike : Good ≡ Absent → ⊥
    unlike e = cc
not_refused t r p applies = (proper_law t (λ i. Good)).0 p r (omega arith) applies

pub sound_is : (t : FullTx) → IsSoundTx t (λ i. Good) → IsTrue true ↔ IsProper t
sound_is t sound = (λ y. sound_law t (λ i. Good) sound, λ p. search rules)

pub refused_is : (t : FullTx) (r : Refusal) → IsFirstRefusal t (λ i. Good) r → IsTrue false ↔ IsProper t
refused_is t r refused = (λ n. absurd (no_lie n), λ p. absurd (not_refused t r p refused.applies))

-- an answer to another question, where there is one
pub told_of : {E : Type 0} (r : Result Bool E) (A B : Type 0) → ((told : Bool) → (IsTrue told ↔ A) → IsTrue told ↔ B)
    → IfOk r (λ told. IsTrue told ↔ A) → IfOk r (λ told. IsTrue told ↔ B)
told_of r A B f h = IfOk-weaker r (λ told. IsTrue told ↔ A) (λ told. IsTrue told ↔ B) f h

-- the first submission has this form
pub proper_first : (all : List FullTx) (t : FullTx) (rest : List FullTx) (k : Compact) → all ≡ t ∷ rest → IsProper t → compact t ≡ k
    → IsTrue true ↔ IsProperCompact all k
proper_first all t rest k e proper form = (
  λ y. (t, subst (λ l. Contains l t) (sym e) (contains_in (t ∷ rest) t (inl refl)), proper, form),
  λ p. search rules,
)

-- it has not: then one behind it
proper_behind : (t : FullTx) (rest : List FullTx) (k : Compact) (u : FullTx) → (IsProper t → compact t ≡ k → ⊥) → In u (t ∷ rest) → IsProper u
    → compact u ≡ k → IsProperCompact rest k
proper_behind t rest k u other (inl e) proper form = absurd (other (subst IsProper e proper) (subst (λ v. compact v ≡ k) e form))
proper_behind t rest k u other (inr h) proper form = (u, contains_in rest u h, proper, form)

pub proper_later : (all : List FullTx) (t : FullTx) (rest : List FullTx) (k : Compact) (told : Bool) → all ≡ t ∷ rest
    → (IsProper t → compact t ≡ k → ⊥)
    → (IsTrue told ↔ IsProperCompact rest k) → IsTrue told ↔ IsProperCompact all k
proper_later all t rest k told e other h = (
  λ y. let p : IsProperCompact rest k = h.0 y in (
    p.0,
    subst (λ l. Contains l p.0) (sym e) (contains_in (t ∷ rest) p.0 (inr (in_contains rest p.0 p.1))),
    p.2,
    p.3,
  ),
  λ p. h.1 (proper_behind t rest k p.0 other (in_contains (t ∷ rest) p.0 (subst (λ l. Contains l p.0) e p.1)) p.2 p.3),
)

pub proper_none : (all : List FullTx) (k : Compact) → all ≡ [] → IsTrue false ↔ IsProperCompact all k
proper_none all k e = (λ t. absurd (no_lie t), λ p. absurd (in_contains [] p.0 (subst (λ l. Contains l p.0) e p.1)))

-- what holds of each item of a list, by its first item and its rest
all_then : {X : Type 0} (P : X → Type 0) (all : List X) (x : X) (rest : List X) (told : Bool) → all ≡ x ∷ rest → P x
    → (IsTrue told ↔ All P rest) → IsTrue told ↔ All P all
all_then P all x rest told e px h =
    (λ t. subst (All P) (sym e) (All-cons P x rest px (h.0 t)), λ each. h.1 (All-tail P x rest (subst (All P) e each)))

pub forms_more : (submissions : List FullTx) (all : List Compact) (k : Compact) (rest : List Compact) (told : Bool) → all ≡ k ∷ rest
    → IsProperCompact submissions k
    → (IsTrue told ↔ All (IsProperCompact submissions) rest) → IsTrue told ↔ All (IsProperCompact submissions) all
forms_more submissions all k rest told e proper h = all_then (IsProperCompact submissions) all k rest told e proper h
