-- Seats dealt to lanes and given back, round by round.
use Rattle.std.proofs.Common.{◌≡◌, ℕ, ◌+◌, ◌<◌, List, [], ◌∷◌, ◌++◌, length, Option, Some, refl, sym, ap, ◌∙◌, subst, arith}
use Rattle.std.proofs.lemmas.Grind.{common_steps}
use Rattle.std.specs.Global.{Vec}
use Rattle.cbdc_model.specs.Sights.{Sight}
use Rattle.node_lock.specs.declared.lock.Guarded.{Guarded}
use Rattle.node_lock.specs.declared.seat.Seat.{Seat}
use Rattle.node_lock.specs.Seats.{TableId, AreFresh, AllAt, knows, first_of, table_of, opening_of}
use Rattle.node_lock.specs.Tickets.{fresh}
use Rattle.lane_waves.specs.NodeRows.{IsRow, IsLocked, AreLocked, HasAllSeats, HaveAllSeats, IsFreshSeat, AreLeft, AreDealt, AreSeatsBack, AreOf}
use Rattle.lane_waves.specs.NodeRows.{lanes_of}
use Rattle.lane_waves.specs.Dealing.{Pops, PopsEach}

module _ {N : Type 0} where
  pub fresh_last : (first : Sight) (n : N) (id : TableId) (ls : List ℕ) (l : ℕ) (ss : List (Seat N)) (s : Seat N)
      → AreFresh first n id (ls ++ l ∷ []) (ss ++ s ∷ [])
      → AreFresh first n id ls ss × ((s.token.table_id ≡ id) × (first_of s ≡ Some n) × (knows s ≡ fresh first l))
  fresh_last first n id [] l [] s k = (tt, k.0)
  fresh_last first n id [] l (y ∷ []) s k = absurd k.1
  fresh_last first n id [] l (y ∷ (z ∷ ss)) s k = absurd k.1
  fresh_last first n id (x ∷ []) l [] s k = absurd k.1
  fresh_last first n id (x ∷ (w ∷ ls)) l [] s k = absurd k.1
  fresh_last first n id (x ∷ ls) l (y ∷ ss) s k = let m = fresh_last first n id ls l ss s k.1 in ((k.0, m.0), m.1)

  at_more : (id : TableId) (ss : List (Seat N)) (s : Seat N) → AllAt id ss → s.token.table_id ≡ id → AllAt id (ss ++ s ∷ [])
  at_more id [] s k e = (e, tt)
  at_more id (y ∷ ss) s k e = (k.0, at_more id ss s k.1 e)

  length_more : (ss : List (Seat N)) (s : Seat N) (n : ℕ) → length ss ≡ n → length (ss ++ s ∷ []) ≡ n + 1
  length_more ss s n e = grind (arith, common_steps, e)

  module _ (sight : N → Sight) where
    -- a round of dealing gives a lane's fresh seat of each lock
    pub deals : (ls : List ℕ) (l : ℕ) (gs : List (Guarded N)) (rs qs : List (Vec (Seat N))) (ts : List (Seat N)) → AreLeft sight (ls ++ l ∷ []) gs rs
        → PopsEach rs qs ts → AreLeft sight ls gs qs × AreDealt sight l gs ts
    deals ls l [] [] [] [] k p = (tt, tt)
    deals ls l [] [] [] (t ∷ ts) k p = absurd p
    deals ls l [] [] (q ∷ qs) ts k p = absurd p
    deals ls l [] (r ∷ rs) qs ts k p = absurd k
    deals ls l (g ∷ gs) [] qs ts k p = absurd k
    deals ls l (g ∷ gs) (r ∷ rs) [] ts k p = absurd p
    deals ls l (g ∷ gs) (r ∷ rs) (q ∷ qs) [] k p = absurd p
    deals ls l (g ∷ gs) (r ∷ rs) (q ∷ qs) (t ∷ ts) k p =
        let f = fresh_last (sight (opening_of g)) (opening_of g) (table_of g) ls l q.items t
        (subst (λ xs. AreFresh (sight (opening_of g)) (opening_of g) (table_of g) (ls ++ l ∷ []) xs) p.0.items k.0) in
        let m = deals ls l gs rs qs ts k.1 p.1 in
        ((f.0, m.0), (f.1, m.1))

    -- behind the locking all lanes' seats are left, where each lock has the same lanes
    abbrev pub AllAre : List ℕ → List (Vec ℕ) → Type 0
    AllAre lanes [] = Unit {0}
    AllAre lanes (r ∷ rs) = (r.items ≡ lanes) × AllAre lanes rs

    pub all_left : (lanes : List ℕ) (ns : List N) (rs : List (Vec ℕ)) (gs : List (Guarded N)) (ss : List (Vec (Seat N))) → AllAre lanes rs
        → AreLocked sight ns rs gs ss → AreLeft sight lanes gs ss
    all_left lanes [] [] [] [] a k = tt
    all_left lanes [] [] [] (s ∷ ss) a k = absurd k
    all_left lanes [] [] (g ∷ gs) ss a k = absurd k
    all_left lanes [] (r ∷ rs) gs ss a k = absurd k
    all_left lanes (n ∷ ns) [] gs ss a k = absurd k
    all_left lanes (n ∷ ns) (r ∷ rs) [] ss a k = absurd k
    all_left lanes (n ∷ ns) (r ∷ rs) (g ∷ gs) [] a k = absurd k
    all_left lanes (n ∷ ns) (r ∷ rs) (g ∷ gs) (s ∷ ss) a k = (
      subst (λ xs. AreFresh (sight (opening_of g)) (opening_of g) (table_of g) xs s.items) a.0
          (subst (λ o. AreFresh (sight o) o (table_of g) r.items s.items) (sym k.0.node) k.0.seats),
      all_left lanes ns rs gs ss a.1 k.1,
    )

  -- a round of gathering brings one seat of each lock back
  pub gathers : (n : ℕ) (gs : List (Guarded N)) (rs qs : List (Vec (Seat N))) (ts : List (Seat N)) → AreSeatsBack n gs rs → PopsEach qs rs ts
      → AreOf gs ts → AreSeatsBack (n + 1) gs qs
  gathers n [] [] [] [] k p o = tt
  gathers n [] [] [] (t ∷ ts) k p o = absurd p
  gathers n [] [] (q ∷ qs) ts k p o = absurd p
  gathers n [] (r ∷ rs) qs ts k p o = absurd k
  gathers n (g ∷ gs) [] qs ts k p o = absurd k
  gathers n (g ∷ gs) (r ∷ rs) [] ts k p o = absurd p
  gathers n (g ∷ gs) (r ∷ rs) (q ∷ qs) [] k p o = absurd p
  gathers n (g ∷ gs) (r ∷ rs) (q ∷ qs) (t ∷ ts) k p o = (
    subst (λ xs. AllAt (table_of g) xs × (length xs ≡ n + 1)) (sym p.0.items)
        (at_more (table_of g) r.items t k.0.0 o.0, length_more r.items t n k.0.1),
    gathers n gs rs qs ts k.1 p.1 o.1,
  )

  -- when all are back the locks can be closed
  abbrev pub HaveLanes : ℕ → List (Guarded N) → Type 0
  HaveLanes n [] = Unit {0}
  HaveLanes n (g ∷ gs) = (length (lanes_of g) ≡ n) × HaveLanes n gs

  pub all_back : (n : ℕ) (gs : List (Guarded N)) (rs : List (Vec (Seat N))) → 0 < n → HaveLanes n gs → AreSeatsBack n gs rs → HaveAllSeats gs rs
  all_back n [] [] some h k = tt
  all_back n [] (r ∷ rs) some h k = absurd k
  all_back n (g ∷ gs) [] some h k = absurd k
  all_back n (g ∷ gs) (r ∷ rs) some h k = (
    record { ready = (k.0.0, k.0.1 ∙ sym h.0, subst (λ m. 0 < m) (sym k.0.1) some) },
    all_back n gs rs some h.1 k.1,
  )
