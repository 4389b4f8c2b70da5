-- An auditor's lane beside those of a row: a lock has a seat for it, behind all others.
use Rattle.std.proofs.Common.{◌≡◌, ℕ, ◌+◌, ◌<◌, ◌≤◌, Bool, true, false, eqb, List, [], ◌∷◌, ◌++◌, length, Option, Some, refl, sym, ap, ◌∙◌, subst}
use Rattle.std.proofs.Common.{arith}
use Rattle.std.proofs.lemmas.Grind.{common_steps}
use Rattle.cbdc_model.specs.Sights.{Sight}
use Rattle.node_lock.specs.declared.lock.Guarded.{Guarded}
use Rattle.node_lock.specs.declared.seat.Seat.{Seat}
use Rattle.node_lock.specs.Seats.{AreFresh, knows, table_of, opening_of, lanes_of as seated_lanes}
use Rattle.node_lock.specs.Tickets.{times, is_at, one_if, fresh}
use Rattle.lane_waves.specs.NodeRows.{but_last, lanes_of, IsWatchedRow}
use Rattle.lane_waves.specs.Watching.{IsFreshWatcher}
use Rattle.lane_waves.proofs.Numbers.{times_more}
use Rattle.lane_waves.proofs.Passing.{fresh_last}

but_last_more : (ls : List ℕ) (w : ℕ) → but_last (ls ++ w ∷ []) ≡ ls
but_last_more [] w = refl
but_last_more (l ∷ []) w = refl
but_last_more (l ∷ (m ∷ ls)) w = ap (λ xs. l ∷ xs) (but_last_more (m ∷ ls) w)

one_longer : (ls : List ℕ) (w : ℕ) → length (ls ++ w ∷ []) ≡ length ls + 1
one_longer ls w = grind (arith, common_steps)

-- such lanes and an auditor's are lanes that a lock can be made for
pub some_beside : (w : ℕ) (ls : List ℕ) → 0 < length (ls ++ w ∷ [])
some_beside w ls = let e = one_longer ls w in omega (arith, e)

pub few_beside : (w : ℕ) (ls : List ℕ) → IsWatchedRow w ls → length (ls ++ w ∷ []) < 4294967296
few_beside w ls k = let e = one_longer ls w in let f = k.fits in omega (arith, e, f)

pub apart_beside : (w : ℕ) (ls : List ℕ) → IsWatchedRow w ls → (x : ℕ) → times x (ls ++ w ∷ []) ≤ 1
apart_beside w ls k x = go (eqb x w) refl
  where
    go : (b : Bool) → eqb x w ≡ b → times x (ls ++ w ∷ []) ≤ 1
    go true e =
        let same : x ≡ w = grind (arith, e) in
        let none : times x ls ≡ 0 = ap (λ y. times y ls) same ∙ k.none in
        let one : is_at x w ≡ 1 = ap one_if e in
        let all = times_more x w ls in
        omega (arith, none, one, all)
    go false e =
        let none : is_at x w ≡ 0 = ap one_if e in
        let before = k.row.apart x in
        let all = times_more x w ls in
        omega (arith, before, none, all)

module _ {N : Type 0} where
  pub watcher_of : (sight : N → Sight) (w : ℕ) (row : List ℕ) (n : N) (g : Guarded N) (ss : List (Seat N)) (s : Seat N) → opening_of g ≡ n
      → seated_lanes g ≡ row ++ w ∷ []
      → AreFresh (sight n) n (table_of g) (row ++ w ∷ []) (ss ++ s ∷ [])
      → (lanes_of g ≡ row) × AreFresh (sight n) n (table_of g) row ss × IsFreshWatcher sight w g s
  watcher_of sight w row n g ss s o l k =
      let f = fresh_last (sight n) n (table_of g) row w ss s k in
      let lanes : lanes_of g ≡ row = ap but_last l ∙ but_last_more row w in
      let is : knows s ≡ fresh (sight n) w = f.1.2 in (
        lanes,
        f.0,
        record {
          watching = record {
            seat = (f.1.0, f.1.1 ∙ ap (λ m. Some m) (sym o));
            last = l ∙ ap (λ xs. xs ++ w ∷ []) (sym lanes) ∙ ap (λ x. lanes_of g ++ x ∷ []) (sym (ap (λ h. h.lane) is));
            made = ap (λ h. h.made) is;
            left = ap (λ h. h.left) is;
          };
          fresh_is = is ∙ ap (λ m. fresh (sight m) w) (sym o);
        },
      )
