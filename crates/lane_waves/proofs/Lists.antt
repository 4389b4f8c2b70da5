-- Lists of seats that are dealt from.
use Rattle.std.proofs.Common.{◌≡◌, ℕ, suc, ◌+◌, ◌*◌, ◌<◌, ◌≤◌, List, [], ◌∷◌, ◌++◌, length, Some, refl, sym, ap, ◌∙◌, subst, arith}
use Rattle.std.specs.Prelude.{slice_get}
use Rattle.std.specs.Global.{Vec}
use Rattle.cbdc_model.specs.Sights.{Sight}
use Rattle.node_lock.specs.declared.lock.Guarded.{Guarded}
use Rattle.node_lock.specs.declared.seat.Seat.{Seat}
use Rattle.node_lock.specs.Seats.{AreFresh, knows, first_of, opening_of, table_of}
use Rattle.node_lock.specs.Tickets.{fresh}
use Rattle.cbdc_model.specs.Records.{Shape}
use Rattle.port_sets.specs.Nodes.{log_sight}
use Rattle.port_sets.specs.declared.coordinators.SharedLog.{SharedLog}
use Rattle.lane_waves.specs.Dealing.{PopsEach, HaveOne}
use Rattle.lane_waves.specs.NodeRows.{AreLeft, lanes_of}
use Rattle.lane_waves.proofs.Locking.{fresh_at}
use Rattle.lane_waves.proofs.Passing.{fresh_last, HaveLanes}
use Rattle.lane_waves.specs.Places.{AllFrom}
use Rattle.lane_waves.specs.Rows.{lanes_from}
use Rattle.lane_waves.specs.Deals.{EachHolds, IsHomeLeft}
use Rattle.lane_waves.proofs.Places.{snoc_many}

-- lists that are dealt from
module _ {T : Type 0} where
  pub holds_left : (n : ℕ) (rs qs : List (Vec T)) (ts : List T) → PopsEach rs qs ts → EachHolds n rs → EachHolds n qs
  holds_left n [] [] [] p h = tt
  holds_left n [] [] (t ∷ ts) p h = absurd p
  holds_left n [] (q ∷ qs) ts p h = absurd p
  holds_left n (r ∷ rs) [] ts p h = absurd p
  holds_left n (r ∷ rs) (q ∷ qs) [] p h = absurd p
  holds_left n (r ∷ rs) (q ∷ qs) (t ∷ ts) p h = (subst (λ m. n ≤ m) (sym p.0.room) h.0, holds_left n rs qs ts p.1 h.1)

  pub pops_many : (rs qs : List (Vec T)) (ts : List T) → PopsEach rs qs ts → (length rs ≡ length qs) × (length ts ≡ length qs)
  pops_many [] [] [] p = (refl, refl)
  pops_many [] [] (t ∷ ts) p = absurd p
  pops_many [] (q ∷ qs) ts p = absurd p
  pops_many (r ∷ rs) [] ts p = absurd p
  pops_many (r ∷ rs) (q ∷ qs) [] p = absurd p
  pops_many (r ∷ rs) (q ∷ qs) (t ∷ ts) p = let m = pops_many rs qs ts p.1 in let a = m.0 in let b = m.1 in (omega (arith, a), omega (arith, b))

module _ {N : Type 0} (sight : N → Sight) where
  pub left_many : (ls : List ℕ) (gs : List (Guarded N)) (rs : List (Vec (Seat N))) → AreLeft sight ls gs rs → length rs ≡ length gs
  left_many ls [] [] k = refl
  left_many ls [] (r ∷ rs) k = absurd k
  left_many ls (g ∷ gs) [] k = absurd k
  left_many ls (g ∷ gs) (r ∷ rs) k = let e = left_many ls gs rs k.1 in omega (arith, e)

  pub left_some : (ls : List ℕ) (gs : List (Guarded N)) (rs : List (Vec (Seat N))) → 0 < length ls → AreLeft sight ls gs rs → HaveOne rs
  left_some ls [] [] some k = tt
  left_some ls [] (r ∷ rs) some k = absurd k
  left_some ls (g ∷ gs) [] some k = absurd k
  left_some ls (g ∷ gs) (r ∷ rs) some k =
      let e = (fresh_at sight (sight (opening_of g)) (opening_of g) g ls r.items k.0).1 in
      (omega (arith, some, e), left_some ls gs rs some k.1)

-- the last seat that is left of a coordinator is that of its last lane that is left
pub home_last : {D : Type 0} (K : Shape) (home : ℕ) (gs : List (Guarded (SharedLog D))) (own rest : List (Seat (SharedLog D)))
    (seat : Seat (SharedLog D)) → IsHomeLeft K home gs own → own ≡ rest ++ seat ∷ []
    → (g : Guarded (SharedLog D)) → slice_get gs home ≡ Some g
    → AreFresh (log_sight (opening_of g)) (opening_of g) (table_of g) (lanes_from (home * K.lanes) (length rest)) rest
    × ((seat.token.table_id ≡ table_of g) × (first_of seat ≡ Some (opening_of g))
    × (knows seat ≡ fresh (log_sight (opening_of g)) (home * K.lanes + length rest)))
home_last K home gs own rest seat k e g there =
    let many = snoc_many own rest seat e in
    let one : length own ≡ suc (length rest) = omega (arith, many) in
    let first = home * K.lanes in
    fresh_last (log_sight (opening_of g)) (opening_of g) (table_of g) (lanes_from first (length rest)) (first + length rest) rest seat
    (subst (λ n. AreFresh (log_sight (opening_of g)) (opening_of g) (table_of g) (lanes_from first n) (rest ++ seat ∷ [])) one
    (subst (λ xs. AreFresh (log_sight (opening_of g)) (opening_of g) (table_of g) (lanes_from first (length own)) xs) e (k g there)))

-- lists of all seats hold as many as there are lanes
pub left_holds : {N : Type 0} (sight : N → Sight) (ls : List ℕ) (gs : List (Guarded N)) (rs : List (Vec (Seat N))) → AreLeft sight ls gs rs
    → EachHolds (length ls) rs
left_holds sight ls [] [] k = tt
left_holds sight ls [] (r ∷ rs) k = absurd k
left_holds sight ls (g ∷ gs) [] k = absurd k
left_holds sight ls (g ∷ gs) (r ∷ rs) k =
    let e = (fresh_at sight (sight (opening_of g)) (opening_of g) g ls r.items k.0).1 in
    let a = r.ok.0 in let b = r.ok.1 in
    (omega (arith, e, a, b), left_holds sight ls gs rs k.1)

pub have_lanes : {N : Type 0} (k : ℕ) (ls : List ℕ) (n : ℕ) (gs : List (Guarded N)) → length ls ≡ n → AllFrom (λ i g. lanes_of g ≡ ls) k gs
    → HaveLanes n gs
have_lanes k ls n [] e a = tt
have_lanes k ls n (g ∷ gs) e a = (ap (λ (xs : List ℕ). length xs) a.0 ∙ e, have_lanes (suc k) ls n gs e a.1)
