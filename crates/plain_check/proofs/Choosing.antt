-- What given journals may have been once is among the choices.
use Rattle.std.proofs.Common.{◌≡◌, ◌↔◌, inl, inr, ℕ, Bool, ◌≤◌, zero, suc, ◌<◌, List, [], ◌∷◌, ◌++◌, map, length, slice_index_or, refl, sym, ap, ◌∙◌}
use Rattle.std.proofs.Common.{subst, arith}
use Rattle.std.specs.Prelude.{IsTrue}
use Rattle.std.proofs.lemmas.Bool.{cases_lt}
use Rattle.std.proofs.lemmas.Grind.{common_steps}
use Rattle.cbdc_model.specs.Records.{Record}
use Rattle.cbdc_model.specs.Lanes.{IsEnd}
use Rattle.plain_check.specs.Journals.{journals_in}
use Rattle.ledger_laws.proofs.Members.{In}
use Rattle.plain_check.specs.Choices.{ends_of, each_before, choices}

in_left : {A : Type 0} (xs ys : List A) (x : A) → In x xs → In x (xs ++ ys)
in_left [] ys x h = absurd h
in_left (z ∷ xs) ys x (inl e) = inl e
in_left (z ∷ xs) ys x (inr h) = inr (in_left xs ys x h)

in_right : {A : Type 0} (xs ys : List A) (x : A) → In x ys → In x (xs ++ ys)
in_right [] ys x h = h
in_right (z ∷ xs) ys x h = inr (in_right xs ys x h)

in_map : {A B : Type 0} (f : A → B) (xs : List A) (x : A) → In x xs → In (f x) (map f xs)
in_map f [] x h = absurd h
in_map f (y ∷ ys) x (inl e) = inl (ap f e)
in_map f (y ∷ ys) x (inr h) = inr (in_map f ys x h)

self_first : (J : List Record) → In J (ends_of J)
self_first [] = inl refl
self_first (r ∷ J) = inl refl

end_among : (more old J : List Record) → J ≡ more ++ old → In old (ends_of J)
end_among [] old J e = subst (λ L. In old (ends_of L)) (sym e) (self_first old)
end_among (r ∷ more) old J e = subst (λ L. In old (ends_of L)) (sym e) (inr (end_among more old (more ++ old) refl))

both_among : (J : List Record) (w : List (List Record)) (Js : List (List Record)) (others : List (List (List Record))) → In J Js → In w others
    → In (J ∷ w) (each_before Js others)
both_among J w [] others h g = absurd h
both_among J w (I ∷ Js) others (inl e) g = in_left (map (λ v. I ∷ v) others) (each_before Js others) (J ∷ w)
    (subst (λ L. In (J ∷ w) (map (λ v. L ∷ v) others)) e (in_map (λ v. J ∷ v) others w g))
both_among J w (I ∷ Js) others (inr h) g = in_right (map (λ v. I ∷ v) others) (each_before Js others) (J ∷ w) (both_among J w Js others h g)

-- journals that are among the choices
pub record IsChoice (all : List (List Record)) (M : ℕ → List Record) : Type 0 where
  pub world : List (List Record)
  pub among : In world (choices all)
  pub is : (n : ℕ) → M n ≡ journals_in world n

nothing : (more old : List Record) → [] ≡ more ++ old → old ≡ []
nothing [] old e = sym e
nothing (r ∷ more) old e = absurd (no_cons r (more ++ old) e)
  where
    no_cons : (r : Record) (J : List Record) → [] ≡ r ∷ J → ⊥
    no_cons r J e = cc

pub is_some_choice : (all : List (List Record)) (M : ℕ → List Record) → ((n : ℕ) → IsEnd (M n) (journals_in all n)) → IsChoice all M
is_some_choice [] M ends = record { world = []; among = inl refl; is = λ n. nothing (ends n).0 (M n) (past n ∙ (ends n).1) ∙ past n }
  where
    past : (n : ℕ) → [] ≡ journals_in [] n
    past n = grind (arith, common_steps)
is_some_choice (J ∷ Js) M ends =
    let rest : IsChoice Js (λ n. M (suc n)) = is_some_choice Js (λ n. M (suc n)) (λ n. ends (suc n)) in
    record {
      world = M 0 ∷ rest.world;
      among = both_among (M 0) rest.world (ends_of J) (choices Js) (end_among (ends 0).0 (M 0) J (ends 0).1) rest.among;
      is = at J Js M rest.world rest.is;
    }
  where
    at : (J : List Record) (Js : List (List Record)) (M : ℕ → List Record) (w : List (List Record)) → ((n : ℕ) → M (suc n) ≡ journals_in w n)
        → (n : ℕ) → M n ≡ journals_in (M 0 ∷ w) n
    at J Js M w h zero = refl
    at J Js M w h (suc n) = h n

-- its place among them
pub record IsAt (all : List (List (List Record))) (w : List (List Record)) : Type 0 where
  pub place : ℕ
  pub inside : place < length all
  pub is : slice_index_or all place [] ≡ w

pub place_among : (all : List (List (List Record))) (w : List (List Record)) → In w all → IsAt all w
place_among [] w h = absurd h
place_among (v ∷ all) w (inl e) = record { place = 0; inside = omega arith; is = sym e }
place_among (v ∷ all) w (inr h) = let later : IsAt all w = place_among all w h in
    record { place = suc later.place; inside = omega (arith, later.inside); is = later.is }

-- all journals are the same where the first n are, and there are no others
pub same_by : (I J : ℕ → List Record) (n : ℕ) (told : Bool) → ((k : ℕ) → n ≤ k → I k ≡ []) → ((k : ℕ) → n ≤ k → J k ≡ [])
    → (IsTrue told ↔ ((k : ℕ) → k < n → J k ≡ I k)) → IsTrue told ↔ ((k : ℕ) → J k ≡ I k)
same_by I J n told none none' each = (λ y k. everywhere y k, λ all. each.1 (λ k lt. all k))
  where
    everywhere : IsTrue told → (k : ℕ) → J k ≡ I k
    everywhere y k = elim (cases_lt k n) [
      | inl lt ↦ each.0 y k lt
      | inr le ↦ none' k le ∙ sym (none k le)
    ]
