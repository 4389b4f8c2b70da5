-- What lanes have prepared, and how lists are cut into pieces.
use Rattle.std.proofs.Common.{◌≡◌, ◌≢◌, ◌⊎◌, inl, inr, true, false, ◌==◌, ℕ, zero, suc, ◌<◌, ◌≤◌, List, [], ◌∷◌, length, take, drop, refl, sym, ap}
use Rattle.std.proofs.Common.{◌∙◌, subst, arith, length-take, length-drop}
use Rattle.std.proofs.lemmas.Bool.Decides.{eqb_tells}
use Rattle.cbdc_model.specs.Records.{Shape, Compact, Record}
use Rattle.cbdc_model.specs.Ranges.{home_of}
use Rattle.cbdc_model.specs.Waves.{IsCut, prepared}
use Rattle.lane_laws.specs.Batches as batches
use Rattle.run_laws.proofs.TurnKinds.{prepared_own}
use Rattle.ledger_runs.specs.Telling.{SamePrepared}
use Rattle.ledger_runs.specs.Pieces.{HasPreparedPieces, HaveBegun}
use Rattle.ledger_runs.specs.Faults.{GrowBy}
use Rattle.ledger_runs.specs.Lanes.{LaneOf}
use Rattle.ledger_runs.proofs.Others.{own_same}

-- ---- records of another lane prepare nothing for this one

pub same_prepared : (lane other : ℕ) → other ≢ lane → (J X : ℕ → List Record) → GrowBy other J X → (n : ℕ) → prepared lane (X n) ≡ prepared lane (J n)
same_prepared lane other apart J X grown n =
    prepared_own lane (X n) ∙ ap batches.prepares_txs (own_same lane other apart J X grown n) ∙ sym (prepared_own lane (J n))

-- a lane that resumed has prepared nothing, and no other lane has
pub resumed_none : (K H : Shape) (lane : ℕ) (E J L : ℕ → List Record) → H ≡ K → SamePrepared K E J → GrowBy lane J L
    → HasPreparedPieces H lane [] J L → SamePrepared K E L
resumed_none K H lane E J L same before grown none l = go (eqb_tells l lane) ∙ before l
  where
    go : (((l == lane) ≡ true) × (l ≡ lane)) ⊎ (((l == lane) ≡ false) × (l ≢ lane)) → prepared l (L (home_of K l)) ≡ prepared l (J (home_of K l))
    go (inl (b, is)) = subst (λ m. prepared m (L (home_of K m)) ≡ prepared m (J (home_of K m))) (sym is)
        (subst (λ k. prepared lane (L (home_of k lane)) ≡ prepared lane (J (home_of k lane))) same none)
    go (inr (b, other)) = same_prepared l lane (λ h. other (sym h)) J L grown (home_of K l)

-- ---- cuts

pub some_of : {A : Type 0} (n : ℕ) (xs : List A) → 0 < n → 0 < length xs → 0 < length (take n xs)
some_of n xs some left = subst (λ m. 0 < m) (sym (length-take n xs)) (omega (arith, some, left))

-- every list is cut into pieces
cut_within : {A : Type 0} (n most : ℕ) (xs : List A) → 0 < n → length xs ≤ most → (pieces : List (List A)) × IsCut n xs pieces
cut_within n most [] some short = ([], refl)
cut_within n zero (x ∷ xs) some short = absurd (let h : suc (length xs) ≤ 0 = short in omega (arith, h))
cut_within n (suc most) (x ∷ xs) some short =
    let rest = cut_within n most (drop n (x ∷ xs)) some
    (subst (λ m. m ≤ most) (sym (length-drop n (x ∷ xs))) (let h : suc (length xs) ≤ suc most = short in omega (arith, h, some))) in
    (take n (x ∷ xs) ∷ rest.0, (some_of n (x ∷ xs) some (let h : 0 < suc (length xs) = omega arith in h), refl, rest.1))

pub cut_of : {A : Type 0} (n : ℕ) (xs : List A) → 0 < n → (pieces : List (List A)) × IsCut n xs pieces
cut_of n xs some = cut_within n (length xs) xs some (omega arith)

-- ---- the lanes of a wave

pub none_begun : (K : Shape) (E : ℕ → List Record) (lanes : List LaneOf) → 0 < K.batch → HaveBegun K E E lanes
none_begun K E lanes some lane x there = let pieces : (ps : List (List Compact))
    × IsCut K.batch x.txs ps = cut_of K.batch x.txs some in ([], pieces.0, pieces.1, refl)
