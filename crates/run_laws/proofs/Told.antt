-- What holds of each new Prepare of a lane.
use Rattle.std.proofs.Common.{◌≡◌, true, false, ◌==◌, ℕ, if◌then◌else◌, List, [], ◌∷◌, ◌++◌, reverse, refl, sym, ap, ◌∙◌, subst}
use Rattle.std.proofs.lemmas.List.{map-append, reverse-append, reverse-reverse, append_assoc}
use Rattle.cbdc_model.specs.Records.{Digest, Batch, Compact, Record, Prepare}
use Rattle.run_laws.proofs.Sharing.{AllLack, lack_both, joined, Told, told_before, told_in, txs_all}

abbrev pub AllTold : (Batch → List Compact → Type 0) → List Told → Type 0
AllTold Q [] = Unit {0}
AllTold Q (t ∷ T) = Q t.0 t.1 × AllTold Q T

pub told_append : (Q : Batch → List Compact → Type 0) (A B : List Told) → AllTold Q A → AllTold Q B → AllTold Q (A ++ B)
told_append Q [] B a b = b
told_append Q (t ∷ A) B a b = (a.0, told_append Q A B a.1 b)

pub told_middle : (Q : Batch → List Compact → Type 0) (A B : List Told) (t : Told) → AllTold Q (A ++ t ∷ B) → Q t.0 t.1
told_middle Q [] B t h = h.0
told_middle Q (u ∷ A) B t h = told_middle Q A B t h.1

pub told_reversed : (Q : Batch → List Compact → Type 0) (T : List Told) → AllTold Q T → AllTold Q (reverse T)
told_reversed Q [] h = tt
told_reversed Q (t ∷ T) h = subst (AllTold Q) (sym (reverse-append (t ∷ []) T)) (told_append Q (reverse T) (t ∷ []) (told_reversed Q T h.1) (h.0, tt))

pub told_turned : (Q : Batch → List Compact → Type 0) (T : List Told) → AllTold Q (reverse T) → AllTold Q T
told_turned Q T h = subst (AllTold Q) (reverse-reverse T) (told_reversed Q (reverse T) h)

-- by where their Prepares stand
told_step : (Q : Batch → List Compact → Type 0) (lane : ℕ) (r : Record) (T : List Told) → AllTold Q T
    → ((stamp : ℕ) (c : Batch) (txs : List Compact) → r ≡ Prepare stamp c txs → (c.lane == lane) ≡ true → Q c txs)
    → AllTold Q (told_before lane r T)
told_step Q lane (Prepare stamp c txs) T h f = elim (c.lane == lane) as (λ l. (c.lane == lane) ≡ l → AllTold Q (if l then (c, txs) ∷ T else T)) [
  | true ↦ λ l. (f stamp c txs refl l, h)
  | false ↦ λ l. h
] refl
told_step Q lane other T h f = h

pub all_told : (Q : Batch → List Compact → Type 0) (lane : ℕ) (more front : List Record)
    → ((newer back : List Record) (stamp : ℕ) (c : Batch) (txs : List Compact) → front ++ more ≡ newer ++ Prepare stamp c txs ∷ back
    → (c.lane == lane) ≡ true → Q c txs) → AllTold Q (told_in lane more)
all_told Q lane [] front f = tt
all_told Q lane (r ∷ more) front f = told_step Q lane r (told_in lane more)
    (all_told Q lane more (front ++ r ∷ []) (λ newer back stamp c txs e l. f newer back stamp c txs (sym (append_assoc front (r ∷ []) more) ∙ e) l))
    (λ stamp c txs e l. f front more stamp c txs (ap (λ q. front ++ q ∷ more) e) l)

told_rest : (Q : Batch → List Compact → Type 0) (lane : ℕ) (r : Record) (T : List Told) → AllTold Q (told_before lane r T) → AllTold Q T
told_rest Q lane (Prepare stamp c txs) T h = elim (c.lane == lane) as (λ l. AllTold Q (if l then (c, txs) ∷ T else T) → AllTold Q T) [
  | true ↦ λ g. g.1
  | false ↦ λ g. g
] h
told_rest Q lane other T h = h

pub told_at : (Q : Batch → List Compact → Type 0) (lane : ℕ) (newer back : List Record) (stamp : ℕ) (c : Batch) (txs : List Compact)
    → (c.lane == lane) ≡ true
    → AllTold Q (told_in lane (newer ++ Prepare stamp c txs ∷ back)) → Q c txs
told_at Q lane [] back stamp c txs l h = (subst (λ k. AllTold Q (if k then (c, txs) ∷ told_in lane back else told_in lane back)) l h).0
told_at Q lane (r ∷ newer) back stamp c txs l h =
    told_at Q lane newer back stamp c txs l (told_rest Q lane r (told_in lane (newer ++ Prepare stamp c txs ∷ back)) h)

-- where the transactions joined lack a hash, so do those of each
pub told_lack : (Q : Batch → List Compact → Type 0) (x : Digest) (T : List Told) → ((c : Batch) (txs : List Compact) → AllLack x txs → Q c txs)
    → AllLack x (joined (txs_all T)) → AllTold Q T
told_lack Q x [] f h = tt
told_lack Q x (t ∷ T) f h = let r = lack_both x t.1 (joined (txs_all T)) h in (f t.0 t.1 r.0, told_lack Q x T f r.1)

pub txs_reversed : (T : List Told) → txs_all (reverse T) ≡ reverse (txs_all T)
txs_reversed [] = refl
txs_reversed (t ∷ T) =
    ap txs_all (reverse-append (t ∷ []) T) ∙ map-append (λ u. u.1) (reverse T) (t ∷ []) ∙ ap (λ l. l ++ t.1 ∷ []) (txs_reversed T)
    ∙ sym (reverse-append (t.1 ∷ []) (txs_all T))
