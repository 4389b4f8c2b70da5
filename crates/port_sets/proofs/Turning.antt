-- Lists turned over item by item, from the last to the first.
use Rattle.std.proofs.Common.{◌≡◌, ℕ, ◌+◌, ◌<◌, ◌≤◌, List, [], ◌∷◌, ◌++◌, length, map, reverse, append_assoc, append-nil, length-append, sym, ap, ◌∙◌}
use Rattle.std.proofs.Common.{arith}
use Rattle.std.proofs.lemmas.List.{reverse-append}

last_first : {A : Type 0} (xs ys : List A) (x : A) → ys ≡ xs ++ x ∷ [] → reverse ys ≡ x ∷ reverse xs
last_first xs ys x e = ap reverse e ∙ reverse-append xs (x ∷ [])

pub none_left : {A : Type 0} (xs : List A) (n : ℕ) → n ≡ length xs → n ≡ 0 → xs ≡ []
none_left [] n is zero = cc
none_left (x ∷ xs) n is zero = absurd (omega (arith, is, zero))

module _ {A B : Type 0} where
  -- there is room for all of them where the ones go that are taken off the others
  pub room_first : (xs : List A) (ys : List B) (capacity : ℕ) → ys ≡ [] → length xs ≤ capacity → length xs + length ys ≤ capacity
  room_first xs ys capacity e room = omega (arith, ap {B = ℕ} length e, room)

  module _ (xs xs' : List A) (ys : List B) (x : A) (capacity : ℕ) (e : xs ≡ xs' ++ x ∷ []) (room : length xs + length ys ≤ capacity) where
    shorter : length xs ≡ length xs' + 1
    shorter = ap {B = ℕ} length e ∙ length-append xs' (x ∷ [])

    pub has_room : (n : ℕ) → n ≡ length ys → n < capacity
    has_room n is = omega (arith, shorter, room, is)

    pub room_on : (ys' : List B) (y : B) (after : ℕ) → ys' ≡ ys ++ y ∷ [] → after ≡ capacity → length xs' + length ys' ≤ after
    room_on ys' y after h same = omega (arith, shorter, room, ap {B = ℕ} length h ∙ length-append ys (y ∷ []), same)

  -- those behind `xs` are in `ys`, turned round, each under f
  pub record Sharing (f : B → A) (all xs : List A) (ys : List B) : Type 0 where
    pub done : List A
    pub all_is : all ≡ xs ++ done
    pub made : map f (reverse ys) ≡ done

  pub sharing : (f : B → A) (xs : List A) (ys : List B) → ys ≡ [] → Sharing f xs xs ys
  sharing f xs ys e = record { done = []; all_is = sym (append-nil xs); made = ap (λ zs. map f (reverse zs)) e }

  pub shares_on : (f : B → A) (all xs xs' : List A) (ys ys' : List B) (x : A) (y : B) → Sharing f all xs ys → xs ≡ xs' ++ x ∷ [] → ys' ≡ ys ++ y ∷ []
      → f y ≡ x → Sharing f all xs' ys'
  shares_on f all xs xs' ys ys' x y k e h i = record {
    done = x ∷ k.done;
    all_is = k.all_is ∙ (ap (λ zs. zs ++ k.done) e ∙ append_assoc xs' (x ∷ []) k.done);
    made = ap (map f) (last_first ys ys' y h) ∙ (ap (λ z. z ∷ map f (reverse ys)) i ∙ ap (λ zs. x ∷ zs) k.made);
  }

  pub shared : (f : B → A) (all xs : List A) (ys : List B) → Sharing f all xs ys → xs ≡ [] → map f (reverse ys) ≡ all
  shared f all xs ys k e = k.made ∙ sym (k.all_is ∙ ap (λ zs. zs ++ k.done) e)

  -- those behind `ys` are in `xs`, turned round, without f
  pub record Owning (f : B → A) (all ys : List B) (xs : List A) : Type 0 where
    pub done : List B
    pub all_is : all ≡ ys ++ done
    pub made : reverse xs ≡ map f done

  pub owning : (f : B → A) (ys : List B) (xs : List A) → xs ≡ [] → Owning f ys ys xs
  owning f ys xs e = record { done = []; all_is = sym (append-nil ys); made = ap reverse e }

  pub owns_on : (f : B → A) (all ys ys' : List B) (xs xs' : List A) (x : A) (y : B) → Owning f all ys xs → ys ≡ ys' ++ y ∷ [] → xs' ≡ xs ++ x ∷ []
      → f y ≡ x → Owning f all ys' xs'
  owns_on f all ys ys' xs xs' x y k e h i = record {
    done = y ∷ k.done;
    all_is = k.all_is ∙ (ap (λ zs. zs ++ k.done) e ∙ append_assoc ys' (y ∷ []) k.done);
    made = last_first xs xs' x h ∙ (ap (λ zs. x ∷ zs) k.made ∙ ap (λ z. z ∷ map f k.done) (sym i));
  }

  pub owned : (f : B → A) (all ys : List B) (xs : List A) → Owning f all ys xs → ys ≡ [] → reverse xs ≡ map f all
  owned f all ys xs k e = k.made ∙ sym (ap (map f) (k.all_is ∙ ap (λ zs. zs ++ k.done) e))
