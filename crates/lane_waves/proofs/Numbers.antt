-- The lanes that nodes are locked for: each once, and all within their bounds.
use Rattle.std.proofs.Common.{◌≡◌, ℕ, zero, suc, ◌+◌, ◌<◌, ◌≤◌, Bool, true, false, eqb, List, [], ◌∷◌, ◌++◌, length, refl, sym, ap, subst, arith}
use Rattle.std.proofs.lemmas.Grind.{common_steps}
use Rattle.std.specs.Global.{Vec}
use Rattle.node_lock.specs.Tickets.{times, is_at, one_if}
use Rattle.lane_waves.specs.NodeRows.{IsRow, AreRows, IsWatchedRow, AreWatchedRows}
use Rattle.lane_waves.specs.Places.{AllFrom}
use Rattle.lane_waves.specs.Rows.{lanes_from}

pub many_lanes : (first n : ℕ) → length (lanes_from first n) ≡ n
many_lanes first zero = refl
many_lanes first (suc n) = more (lanes_from first n) (first + n) n (many_lanes first n)
  where
    more : (xs : List ℕ) (x n : ℕ) → length xs ≡ n → length (xs ++ x ∷ []) ≡ suc n
    more xs x n e = let z : length (xs ++ x ∷ []) ≡ n + 1 = grind (arith, common_steps, e) in omega (arith, z)

pub times_more : (x y : ℕ) (xs : List ℕ) → times x (xs ++ y ∷ []) ≡ times x xs + is_at x y
times_more x y [] = omega arith
times_more x y (z ∷ xs) = let e = times_more x y xs in omega (arith, e)

at_none : (x y : ℕ) → (x ≡ y → ⊥) → is_at x y ≡ 0
at_none x y ne = go (eqb x y) refl
  where
    go : (b : Bool) → eqb x y ≡ b → is_at x y ≡ 0
    go true e = absurd (ne (grind (arith, e)))
    go false e = ap one_if e

beyond : (x first n : ℕ) → first + n ≤ x → times x (lanes_from first n) ≡ 0
beyond x first zero e = refl
beyond x first (suc n) e =
    let before = beyond x first n (omega (arith, e)) in
    let here = at_none x (first + n) (λ same. omega (arith, e, same)) in
    let all = times_more x (first + n) (lanes_from first n) in
    omega (arith, before, here, all)

pub once : (x first n : ℕ) → times x (lanes_from first n) ≤ 1
once x first zero = omega arith
once x first (suc n) = go (eqb x (first + n)) refl (once x first n)
  where
    all : times x (lanes_from first n ++ (first + n) ∷ []) ≡ times x (lanes_from first n) + is_at x (first + n)
    all = times_more x (first + n) (lanes_from first n)

    go : (b : Bool) → eqb x (first + n) ≡ b → times x (lanes_from first n) ≤ 1 → times x (lanes_from first n ++ (first + n) ∷ []) ≤ 1
    go true e before =
        let same : x ≡ first + n = grind (arith, e) in
        let none = beyond x first n (omega (arith, same)) in
        let one : is_at x (first + n) ≡ 1 = ap one_if e in
        let a = all in omega (arith, none, one, a)
    go false e before =
        let none : is_at x (first + n) ≡ 0 = ap one_if e in
        let a = all in omega (arith, before, none, a)

pub inside : (x first n : ℕ) → 0 < times x (lanes_from first n) → (first ≤ x) × (x < first + n)
inside x first zero some = absurd (let z : 0 < 0 = some in omega (arith, z))
inside x first (suc n) some = go (eqb x (first + n)) refl (inside x first n)
  where
    all : times x (lanes_from first n ++ (first + n) ∷ []) ≡ times x (lanes_from first n) + is_at x (first + n)
    all = times_more x (first + n) (lanes_from first n)

    go : (b : Bool) → eqb x (first + n) ≡ b → (0 < times x (lanes_from first n) → (first ≤ x) × (x < first + n)) → (first ≤ x) × (x < first + suc n)
    go true e before = let same : x ≡ first + n = grind (arith, e) in (omega (arith, same), omega (arith, same))
    go false e before =
        let none : is_at x (first + n) ≡ 0 = ap one_if e in
        let a = all in
        let m = before (omega (arith, none, a, some)) in
        let low = m.0 in let high = m.1 in
        (low, omega (arith, high))

pub is_row : (first n : ℕ) → 0 < n → n < 4294967296 → IsRow (lanes_from first n)
is_row first n some few = record {
  some = subst (λ m. 0 < m) (sym (many_lanes first n)) some;
  few = subst (λ m. m < 4294967296) (sym (many_lanes first n)) few;
  apart = λ x. once x first n;
}

pub are_rows : (at : ℕ → ℕ) (n k : ℕ) (rows : List (Vec ℕ)) → 0 < n → n < 4294967296 → AllFrom (λ j r. r.items ≡ lanes_from (at j) n) k rows
    → AreRows rows
are_rows at n k [] some few a = tt
are_rows at n k (r ∷ rows) some few a = (subst IsRow (sym a.0) (is_row (at k) n some few), are_rows at n (suc k) rows some few a.1)

-- an auditor's lane is beyond all of them
pub are_watched_rows : (w : ℕ) (at : ℕ → ℕ) (n k : ℕ) (rows : List (Vec ℕ)) → 0 < n → n + 1 < 4294967296
    → ((j : ℕ) → j < k + length rows → at j + n ≤ w)
    → AllFrom (λ j r. r.items ≡ lanes_from (at j) n) k rows → AreWatchedRows w rows
are_watched_rows w at n k [] some few far a = tt
are_watched_rows w at n k (r ∷ rows) some few far a = (
  subst (IsWatchedRow w) (sym a.0) (record {
    row = is_row (at k) n some (omega (arith, few));
    none = beyond w (at k) n (far k (omega arith));
    fits = subst (λ m. m + 1 < 4294967296) (sym (many_lanes (at k) n)) few;
  }),
  are_watched_rows w at n (suc k) rows some few (λ j lt. far j (omega (arith, lt))) a.1,
)
