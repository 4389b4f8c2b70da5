-- Locks made one after another, from the last node to the first; and nodes that were asked nothing.
use Rattle.std.proofs.Common.{◌≡◌, ◌⊎◌, inl, inr, ⊎_elim, ℕ, ◌+◌, ◌<◌, ◌≤◌, Bool, true, false, eqb, List, [], ◌∷◌, ◌++◌, map, length, reverse, Option}
use Rattle.std.proofs.Common.{Some, None, append_assoc, append-nil, refl, sym, ap, ◌∙◌, subst, arith}
use Rattle.std.specs.Prelude.{if◌then◌else◌}
use Rattle.std.specs.Global.{Vec}
use Rattle.cbdc_model.proofs.Telling.{in_lane_tells}
use Rattle.cbdc_model.specs.Records.{Record, is_in_lane}
use Rattle.cbdc_model.specs.Sights.{Sight}
use Rattle.node_lock.specs.declared.views.Hand.{Hand}
use Rattle.node_lock.specs.declared.lock.Guarded.{Guarded}
use Rattle.node_lock.specs.declared.seat.Seat.{Seat}
use Rattle.node_lock.specs.Moving.{of_lane, Lives, Same}
use Rattle.node_lock.specs.Seats.{AreFresh, AllAt, all_known, table_of, opening_of}
use Rattle.node_lock.specs.Tickets.{times, is_at, one_if, total, fresh, HandOk, AllHands, AllDrawn, HasLeft, Done}
use Rattle.lane_waves.specs.NodeRows.{IsRow, IsWatchedRow, AreWatchedRows, IsLocked, AreLocked, HasAllSeats, HaveAllSeats, IsClosed, AreClosed}
use Rattle.lane_waves.specs.NodeRows.{IsStill, AreStill, lanes_of}
use Rattle.lane_waves.specs.Watching.{IsFreshWatcher, AreFreshWatchers, AreWatching}
use Rattle.lane_waves.proofs.Closing.{last_first}

pub rows_last : (w : ℕ) (rs : List (Vec ℕ)) (r : Vec ℕ) → AreWatchedRows w (rs ++ r ∷ []) → AreWatchedRows w rs × IsWatchedRow w r.items
rows_last w [] r k = (tt, k.0)
rows_last w (x ∷ rs) r k = let m = rows_last w rs r k.1 in ((k.0, m.0), m.1)

-- what fresh seats know
module _ {N : Type 0} (sight : N → Sight) where
  pub fresh_at : (first : Sight) (n : N) (g : Guarded N) (lanes : List ℕ) (ss : List (Seat N)) → AreFresh first n (table_of g) lanes ss
      → AllAt (table_of g) ss × (length ss ≡ length lanes) × (all_known ss ≡ map (fresh first) lanes)
  fresh_at first n g [] [] k = (tt, refl, refl)
  fresh_at first n g [] (s ∷ ss) k = absurd k
  fresh_at first n g (l ∷ ls) [] k = absurd k
  fresh_at first n g (l ∷ ls) (s ∷ ss) k =
      let m = fresh_at first n g ls ss k.1 in (
        (k.0.0, m.0),
        (let e : length ss ≡ length ls = m.1 in grind (arith, e)),
        ap (λ h. h ∷ all_known ss) k.0.2 ∙ ap (λ hs. fresh first l ∷ hs) m.2,
      )

none_left : (first : Sight) (whole : List Record) (flight : Option Record) (lanes : List ℕ) → HasLeft whole flight (map (fresh first) lanes)
    → flight ≡ None
none_left first whole flight [] k = absurd k
none_left first whole flight (l ∷ ls) (inl e) = sym e.0
none_left first whole flight (l ∷ ls) (inr k) = none_left first whole flight ls k

in_lane : (l : ℕ) (r : Record) (log : List Record) → is_in_lane l r ≡ true → of_lane l (r ∷ log) ≡ [] → ⊥
in_lane l r log e f = let z : r ∷ of_lane l log ≡ [] =
    subst (λ b. (if b then r ∷ of_lane l log else of_lane l log) ≡ []) (in_lane_tells l l r e ∙ e) f in cc

made_none : (first : Sight) (log : List Record) (flight : Option Record) (faults : ℕ) (lanes : List ℕ) (x : ℕ)
    → AllHands first.seen log flight faults (map (fresh first) lanes) → 0 < times x lanes → of_lane x log ≡ []
made_none first log flight faults [] x k some = absurd (omega (arith, some))
made_none first log flight faults (l ∷ ls) x k some = go (eqb x l) refl (λ z. made_none first log flight faults ls x k.1 (omega (arith, some, z)))
  where
    go : (b : Bool) → eqb x l ≡ b → (is_at x l ≡ 0 → of_lane x log ≡ []) → of_lane x log ≡ []
    go true e next = let is : l ≡ x = grind (arith, e) in subst (λ y. of_lane y log ≡ []) is k.0.made_is
    go false e next = next (ap one_if e)

-- where no seat made a record there is none
pub no_log : (first : Sight) (lanes : List ℕ) (last : Sight) (log : List Record) → AllDrawn lanes log
    → AllHands first.seen log last.flight last.faults (map (fresh first) lanes) → log ≡ []
no_log first lanes last [] d k = refl
no_log first lanes last (r ∷ log) d k = absurd (in_lane d.0.0 r log d.0.1 (made_none first (r ∷ log) last.flight last.faults lanes d.0.0 k d.0.2))

not_below : (first : Sight) (log : List Record) (flight : Option Record) (faults : ℕ) (lanes : List ℕ)
    → AllHands first.seen log flight faults (map (fresh first) lanes) → 0 < length lanes → first.faults ≤ faults
not_below first log flight faults [] k some = absurd (let z : 0 < 0 = some in omega (arith, z))
not_below first log flight faults (l ∷ ls) k some = k.0.below

module _ {N : Type 0} (sight : N → Sight) (goes : N → N → Type 0) where
  pub still : (n m : N) (lanes : List ℕ) (g : Guarded N) (s : Vec (Seat N)) → IsLocked sight n lanes g s → IsClosed sight goes g s m
      → IsStill sight goes n m
  still n m lanes g s k c =
      let f = fresh_at sight (sight n) n g lanes s.items k.seats in
      let d : Done (sight n) lanes (map (fresh (sight n)) lanes) (sight m) =
      subst (λ hs. Done (sight n) lanes hs (sight m)) f.2
      (subst (λ ls. Done (sight n) ls (all_known s.items) (sight m)) k.lanes_are
      (subst (λ o. Done (sight o) (lanes_of g) (all_known s.items) (sight m)) k.node c.done)) in
      let none = no_log (sight n) lanes (sight m) d.log d.drawn d.hands in record {
        lives = subst (λ o. Lives sight goes o m) k.node c.lives;
        seen = d.list ∙ ap (λ xs. xs ++ (sight n).seen) none;
        flight = elim d.flight [
          | inl a ↦ inl a
          | inr b ↦ elim b [
            | inl e ↦ inr e.0
            | inr h ↦ inl (none_left (sight n) (sight m).seen (sight m).flight lanes h)
          ]
        ];
        later = not_below (sight n) d.log (sight m).flight (sight m).faults lanes d.hands k.row.some;
      }

  pub all_still : (ns : List N) (rs : List (Vec ℕ)) (gs : List (Guarded N)) (ss : List (Vec (Seat N))) (ms : List N) → AreLocked sight ns rs gs ss
      → AreClosed sight goes gs ss ms → AreStill sight goes ns ms
  all_still [] [] [] [] [] k c = tt
  all_still [] [] [] [] (m ∷ ms) k c = absurd c
  all_still [] [] [] (s ∷ ss) ms k c = absurd k
  all_still [] [] (g ∷ gs) ss ms k c = absurd k
  all_still [] (r ∷ rs) gs ss ms k c = absurd k
  all_still (n ∷ ns) [] gs ss ms k c = absurd k
  all_still (n ∷ ns) (r ∷ rs) [] ss ms k c = absurd k
  all_still (n ∷ ns) (r ∷ rs) (g ∷ gs) [] ms k c = absurd k
  all_still (n ∷ ns) (r ∷ rs) (g ∷ gs) (s ∷ ss) [] k c = absurd c
  all_still (n ∷ ns) (r ∷ rs) (g ∷ gs) (s ∷ ss) (m ∷ ms) k c = (still n m r.items g s k.0 c.0, all_still ns rs gs ss ms k.1 c.1)

  module _ (same : (n : N) → goes n n) where
    untouched : (n : N) → IsStill sight goes n n
    untouched n = record {
      lives = (same n, record { header = refl; opened = refl; capacity = refl });
      seen = refl;
      flight = inr refl;
      later = omega arith;
    }

    pub all_same : (ns : List N) → AreStill sight goes ns ns
    all_same [] = tt
    all_same (n ∷ ns) = (untouched n, all_same ns)

    pub same_before : (fs ns ms : List N) → AreStill sight goes ns ms → AreStill sight goes (fs ++ ns) (fs ++ ms)
    same_before [] ns ms k = k
    same_before (f ∷ fs) ns ms k = (untouched f, same_before fs ns ms k)

module _ {N : Type 0} (sight : N → Sight) where
  pub locked_ready : (ns : List N) (rs : List (Vec ℕ)) (gs : List (Guarded N)) (ss : List (Vec (Seat N))) → AreLocked sight ns rs gs ss
      → HaveAllSeats gs ss
  locked_ready [] [] [] [] k = tt
  locked_ready [] [] [] (s ∷ ss) k = absurd k
  locked_ready [] [] (g ∷ gs) ss k = absurd k
  locked_ready [] (r ∷ rs) gs ss k = absurd k
  locked_ready (n ∷ ns) [] gs ss k = absurd k
  locked_ready (n ∷ ns) (r ∷ rs) [] ss k = absurd k
  locked_ready (n ∷ ns) (r ∷ rs) (g ∷ gs) [] k = absurd k
  locked_ready (n ∷ ns) (r ∷ rs) (g ∷ gs) (s ∷ ss) k =
      let f = fresh_at sight (sight n) n g r.items s.items k.0.seats in
      let e : length s.items ≡ length (lanes_of g) = f.1 ∙ sym (ap (λ (xs : List ℕ). length xs) k.0.lanes_are) in
      (record { ready = (f.0, e, let a = f.1 in let b = k.0.row.some in omega (arith, a, b)) }, locked_ready ns rs gs ss k.1)

  pub record Locking (w : ℕ) (ns0 : List N) (rs0 : List (Vec ℕ)) (ns : List N) (rs : List (Vec ℕ)) (gs : List (Guarded N)) (ss : List (Vec (Seat N)))
      (ws : List (Seat N)) : Type 0 where
    pub made : List N
    pub given : List (Vec ℕ)
    pub nodes : ns0 ≡ ns ++ made
    pub rows : rs0 ≡ rs ++ given
    pub locked : AreLocked sight made given (reverse gs) (reverse ss)
    pub watching : AreFreshWatchers sight w (reverse gs) (reverse ws)
    pub fit : AreWatchedRows w rs

  pub first_locked : (w : ℕ) (ns : List N) (rs : List (Vec ℕ)) (gs : List (Guarded N)) (ss : List (Vec (Seat N))) (ws : List (Seat N)) → gs ≡ []
      → ss ≡ [] → ws ≡ [] → AreWatchedRows w rs → Locking w ns rs ns rs gs ss ws
  first_locked w ns rs gs ss ws e f h k = record {
    made = [];
    given = [];
    nodes = sym (append-nil ns);
    rows = sym (append-nil rs);
    locked = subst (λ xs. AreLocked sight [] [] (reverse xs) (reverse ss)) (sym e) (subst (λ ys. AreLocked sight [] [] [] (reverse ys)) (sym f) tt);
    watching = subst (λ xs. AreFreshWatchers sight w (reverse xs) (reverse ws)) (sym e)
        (subst (λ ys. AreFreshWatchers sight w [] (reverse ys)) (sym h) tt);
    fit = k;
  }

  pub more_locked : (w : ℕ) (ns0 : List N) (rs0 : List (Vec ℕ)) (ns ns' : List N) (rs rs' : List (Vec ℕ)) (gs gs' : List (Guarded N))
      (ss ss' : List (Vec (Seat N))) (ws ws' : List (Seat N))
      (n : N) (r : Vec ℕ) (g : Guarded N) (s : Vec (Seat N)) (t : Seat N)
      → Locking w ns0 rs0 ns rs gs ss ws → ns ≡ ns' ++ n ∷ [] → rs ≡ rs' ++ r ∷ [] → gs' ≡ gs ++ g ∷ [] → ss' ≡ ss ++ s ∷ [] → ws' ≡ ws ++ t ∷ []
      → opening_of g ≡ n → lanes_of g ≡ r.items → AreFresh (sight n) n (table_of g) r.items s.items → IsFreshWatcher sight w g t
      → Locking w ns0 rs0 ns' rs' gs' ss' ws'
  more_locked w ns0 rs0 ns ns' rs rs' gs gs' ss ss' ws ws' n r g s t k e f h j i o l fresh_seats watch =
      let fits = rows_last w rs' r (subst (AreWatchedRows w) f k.fit) in record {
        made = n ∷ k.made;
        given = r ∷ k.given;
        nodes = k.nodes ∙ (ap (λ xs. xs ++ k.made) e ∙ append_assoc ns' (n ∷ []) k.made);
        rows = k.rows ∙ (ap (λ xs. xs ++ k.given) f ∙ append_assoc rs' (r ∷ []) k.given);
        locked = subst (λ xs. AreLocked sight (n ∷ k.made) (r ∷ k.given) xs (reverse ss')) (sym (last_first gs gs' g h))
            (subst (λ ys. AreLocked sight (n ∷ k.made) (r ∷ k.given) (g ∷ reverse gs) ys) (sym (last_first ss ss' s j))
            (record { node = o; lanes_are = l; seats = fresh_seats; row = fits.1.row }, k.locked));
        watching = subst (λ xs. AreFreshWatchers sight w xs (reverse ws')) (sym (last_first gs gs' g h))
            (subst (λ ys. AreFreshWatchers sight w (g ∷ reverse gs) ys) (sym (last_first ws ws' t i)) (watch, k.watching));
        fit = fits.0;
      }

  pub all_locked : (w : ℕ) (ns0 : List N) (rs0 : List (Vec ℕ)) (ns : List N) (rs : List (Vec ℕ)) (gs : List (Guarded N)) (ss : List (Vec (Seat N)))
      (ws : List (Seat N)) → Locking w ns0 rs0 ns rs gs ss ws → ns ≡ [] → rs ≡ []
      → AreLocked sight ns0 rs0 (reverse gs) (reverse ss)
  all_locked w ns0 rs0 ns rs gs ss ws k e f =
      subst (λ xs. AreLocked sight xs rs0 (reverse gs) (reverse ss)) (sym (k.nodes ∙ ap (λ xs. xs ++ k.made) e))
      (subst (λ ys. AreLocked sight k.made ys (reverse gs) (reverse ss)) (sym (k.rows ∙ ap (λ ys. ys ++ k.given) f)) k.locked)

  -- fresh watchers have only looked
  pub just_fresh : (w : ℕ) (gs : List (Guarded N)) (ws : List (Seat N)) → AreFreshWatchers sight w gs ws → AreWatching gs ws
  just_fresh w [] [] k = tt
  just_fresh w [] (t ∷ ws) k = absurd k
  just_fresh w (g ∷ gs) [] k = absurd k
  just_fresh w (g ∷ gs) (t ∷ ws) k = (k.0.watching, just_fresh w gs ws k.1)
