-- A list that is filled with one value for each of another list, in room that was taken for it.
use Rattle.std.proofs.Common.{◌≡◌, ℕ, ◌+◌, ◌<◌, ◌≤◌, List, [], ◌∷◌, ◌++◌, length, map, take, get_or, length-append, refl, ap, ◌∙◌, sym, subst, arith}
use Rattle.std.specs.List.{All}
use Rattle.std.proofs.lemmas.List.{length-map, length-take, map_more, get_or_append_left, get_or_push}

module _ {X Y : Type 0} (f : X → Y) (xs : List X) where
  -- where there is room for one, there is for the other
  pub filled_fits : (ys : List Y) (room : ℕ) → ys ≡ map f xs → length xs ≤ room → length ys ≤ room
  filled_fits ys room is fits = subst (λ n. n ≤ room) (sym (ap length is ∙ length-map xs f)) fits

  -- there is room for the next value
  pub filled_below : (i long room was : ℕ) (ys : List Y) → long ≡ length ys → ys ≡ map f (take i xs) → i < length xs → room ≡ was → length xs ≤ was
      → long < room
  filled_below i long room was ys at is inside same fits =
      let so_far : long ≡ length (take i xs) = at ∙ ap length is ∙ length-map (take i xs) f in
      let short = length-take i xs in
      omega (arith, so_far, short)

  -- one value more
  pub filled_more : (i : ℕ) (x : X) (old new : List Y) (y : Y) → i < length xs → x ≡ get_or xs i x → old ≡ map f (take i xs) → y ≡ f x
      → new ≡ old ++ y ∷ [] → new ≡ map f (take (i + 1) xs)
  filled_more i x old new y inside at so_far is pushed =
      pushed ∙ ap (λ l. l ++ y ∷ []) so_far ∙ ap (λ z. map f (take i xs) ++ z ∷ []) (is ∙ ap f at) ∙ sym (map_more f xs i x inside)

-- what holds of each of a list holds of the last one, and of those before it
module _ {X : Type 0} (P : X → Type 0) (all rest : List X) (x : X) (is : all ≡ rest ++ x ∷ []) (so : All P all) where
  pub last_so : P x
  last_so =
      let long : length all ≡ length rest + 1 = ap length is ∙ length-append rest (x ∷ []) in
      subst P (ap (λ l. get_or l (length rest) x) is ∙ get_or_push rest x x (length rest) refl) (so (length rest) x (omega arith))

  pub rest_so : All P rest
  rest_so k d low =
      let long : length all ≡ length rest + 1 = ap length is ∙ length-append rest (x ∷ []) in
      subst P (ap (λ l. get_or l k d) is ∙ get_or_append_left rest (x ∷ []) d k low) (so k d (omega arith))
