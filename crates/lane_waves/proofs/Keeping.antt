-- Lanes made ready, and with their results.
use Rattle.std.proofs.Common.{◌≡◌, ℕ, zero, suc, ◌+◌, ◌<◌, List, [], ◌∷◌, ◌++◌, map, length, reverse, drop, get_or, set, min, ◌-◌, refl, sym, ap, ◌∙◌}
use Rattle.std.proofs.Common.{arith}
use Rattle.std.proofs.lemmas.List.{length-take, length-drop, drop_more}
use Rattle.cbdc_model.specs.Records.{Compact, Batch, Outcome}
use Rattle.lane_driver.specs.Reports.{CutFrom, AreBatchReports, IsReported}
use Rattle.lane_driver.specs.declared.fault.BatchReport.{BatchReport}
use Rattle.ledger_runs.specs.Telling.{decided_in}
use Rattle.thread_laws.specs.Telling.{told_in}
use Rattle.lane_waves.proofs.Closing.{first_last}
use Rattle.lane_waves.proofs.Places.{append_many}

-- a write that a function does not see
pub map_set : {A B : Type 0} (f : A → B) (xs : List A) (i : ℕ) (y d : A) → i < length xs → f y ≡ f (get_or xs i d) → map f (set xs i y) ≡ map f xs
map_set f [] i y d lt e = absurd (let z : i < 0 = lt in omega (arith, z))
map_set f (x ∷ xs) zero y d lt e = ap (λ z. z ∷ map f xs) e
map_set f (x ∷ xs) (suc i) y d lt e = ap (λ zs. f x ∷ zs) (map_set f xs i y d (omega (arith, lt)) e)

decided_many : (b : Batch) (os : List Outcome) → length (decided_in b os) ≡ length os
decided_many b [] = refl
decided_many b (o ∷ os) = let e = decided_many b os in omega (arith, e)

-- as many in all
abbrev summed : List (List Compact) → ℕ
summed [] = 0
summed (p ∷ ps) = length p + summed ps

summed_more : (ps : List (List Compact)) (p : List Compact) → summed (ps ++ p ∷ []) ≡ summed ps + length p
summed_more [] p = omega arith
summed_more (q ∷ ps) p = let e = summed_more ps p in omega (arith, e)

summed_turned : (ps : List (List Compact)) → summed (reverse ps) ≡ summed ps
summed_turned [] = refl
summed_turned (p ∷ ps) = let a : summed (reverse (p ∷ ps)) ≡ summed (reverse ps ++ p ∷ []) = ap summed (first_last p ps) in let b =
    summed_more (reverse ps) p in let c = summed_turned ps in omega (arith, a, b, c)

cut_sum : (n : ℕ) (txs : List Compact) (ps : List (List Compact)) (rest : List Compact) → CutFrom n txs ps rest → summed ps + length rest ≡ length txs
cut_sum n txs [] rest e = let z : length rest ≡ length txs = ap (λ (xs : List Compact). length xs) e in omega (arith, z)
cut_sum n txs (p ∷ ps) rest (before, cut, some, p_is, rest_is) =
    let all = cut_sum n txs ps before cut in
    let front : length p ≡ min n (length before) = ap (λ (xs : List Compact). length xs) p_is ∙ length-take n before in
    let back : length rest ≡ length before - n = ap (λ (xs : List Compact). length xs) rest_is ∙ length-drop n before in
    let whole : min n (length before) + (length before - n) ≡ length before = omega arith in
    omega (arith, all, front, back, whole)

told_sum : (lane : ℕ) (reports : List BatchReport) (ps : List (List Compact)) → AreBatchReports lane reports ps → length (told_in reports) ≡ summed ps
told_sum lane [] [] k = refl
told_sum lane [] (p ∷ ps) k = absurd k
told_sum lane (r ∷ rs) [] k = absurd k
told_sum lane (r ∷ rs) (p ∷ ps) k =
    let one = decided_many r.batch r.outcomes in
    let rest = told_sum lane rs ps k.1 in
    let same = k.0.1 in
    let both = append_many (decided_in r.batch r.outcomes) (told_in rs) in
    omega (arith, one, rest, same, both)

-- an outcome for each transaction
pub reported_many : (lane n : ℕ) (txs : List Compact) (reports : List BatchReport) → IsReported lane n txs [] reports
    → length (told_in reports) ≡ length txs
reported_many lane n txs reports (pieces, cut, are) =
    let a = told_sum lane reports (reverse pieces) are in
    let b = summed_turned pieces in
    let c = cut_sum n txs pieces [] cut in
    omega (arith, a, b, c)

pub told_drop : (reports : List BatchReport) (i : ℕ) (x : BatchReport) → i < length reports → x ≡ get_or reports i x
    → told_in (drop i reports) ≡ decided_in x.batch x.outcomes ++ told_in (drop (i + 1) reports)
told_drop reports i x lt e = ap told_in (drop_more reports i x lt)
    ∙ ap (λ (r : BatchReport). decided_in r.batch r.outcomes ++ told_in (drop (i + 1) reports)) (sym e)

pub told_many : (x : BatchReport) (rest : List BatchReport)
    → length (decided_in x.batch x.outcomes ++ told_in rest) ≡ length x.outcomes + length (told_in rest)
told_many x rest = let a = append_many (decided_in x.batch x.outcomes) (told_in rest) in let b = decided_many x.batch x.outcomes in
    omega (arith, a, b)
