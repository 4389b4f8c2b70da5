-- Seats given back one lane after another.
use Rattle.std.proofs.Common.{◌≡◌, inl, inr, ℕ, suc, ◌+◌, ◌<◌, List, [], ◌∷◌, ◌++◌, length, reverse, append_assoc, append-nil, refl, sym, ap, ◌∙◌}
use Rattle.std.proofs.Common.{subst, arith}
use Rattle.std.specs.List.{AllZip}
use Rattle.std.specs.Global.{Vec}
use Rattle.std.proofs.lemmas.Grind.{common_steps}
use Rattle.cbdc_model.specs.Sights.{Sight}
use Rattle.node_lock.specs.declared.lock.Guarded.{Guarded}
use Rattle.node_lock.specs.declared.seat.Seat.{Seat}
use Rattle.node_lock.specs.Seats.{AllAt, AreFresh, table_of, opening_of}
use Rattle.port_sets.specs.declared.coordinators.SharedLog.{SharedLog}
use Rattle.port_sets.specs.declared.locking.SharedShard.{SharedShard}
use Rattle.port_sets.specs.declared.seated.ShardSeat.{ShardSeat}
use Rattle.port_sets.specs.declared.tables.Locks.{Ghosts}
use Rattle.lane_waves.specs.Dealing.{PopsEach, HaveRoomForOne}
use Rattle.lane_waves.specs.NodeRows.{AreLeft, AreSeatsBack, AreOf}
use Rattle.lane_waves.proofs.Passing.{gathers}
use Rattle.lane_waves.proofs.Closing.{last_first}
use Rattle.lane_waves.specs.Ports.{seats_of}
use Rattle.lane_waves.specs.declared.runs.LaneRun.{LaneRun}
use Rattle.lane_waves.specs.Deals.{EachHolds}
use Rattle.lane_waves.specs.Gathers.{IsSeat, AreSeats, EachTakes, IsOver, AllOver, IsLaneEnd, IsRunBack, AreHome, AllGave, AllOf, RunsGathered}
use Rattle.lane_waves.specs.Gathers.{Chunks, shard_seats, home_seat}
use Rattle.lane_waves.specs.declared.dealing.Table.{Table}

module _ {T : Type 0} where
  pub takes_room : (n : ℕ) (rs : List (Vec T)) → 0 < n → EachTakes n rs → HaveRoomForOne rs
  takes_room n [] some k = tt
  takes_room n (r ∷ rs) some k = ((let e = k.0 in omega (arith, e, some)), takes_room n rs some k.1)

  pub takes_left : (n : ℕ) (qs rs : List (Vec T)) (ts : List T) → PopsEach qs rs ts → EachTakes (suc n) rs → EachTakes n qs
  takes_left n [] [] [] p k = tt
  takes_left n [] [] (t ∷ ts) p k = absurd p
  takes_left n [] (r ∷ rs) ts p k = absurd p
  takes_left n (q ∷ qs) [] ts p k = absurd p
  takes_left n (q ∷ qs) (r ∷ rs) [] p k = absurd p
  takes_left n (q ∷ qs) (r ∷ rs) (t ∷ ts) p k =
      let more : length (r.items ++ t ∷ []) ≡ length r.items + 1 = grind (arith, common_steps) in
      let many : length q.items ≡ length r.items + 1 = ap (λ (xs : List T). length xs) p.0.items ∙ more in
      let room = p.0.room in
      let e = k.0 in
      (omega (arith, many, room, e), takes_left n qs rs ts p.1 k.1)

  abbrev pub EachNone : List (Vec T) → Type 0
  EachNone [] = Unit {0}
  EachNone (r ∷ rs) = (r.items ≡ []) × EachNone rs

  -- lists that all were dealt from take as many as they hold
  pub holds_take : (n : ℕ) (rs : List (Vec T)) → EachHolds n rs → EachNone rs → EachTakes n rs
  holds_take n [] h e = tt
  holds_take n (r ∷ rs) h e = (
    let z : length r.items ≡ 0 = ap (λ (xs : List T). length xs) e.0 in let k = h.0 in omega (arith, z, k),
    holds_take n rs h.1 e.1,
  )

module _ {N : Type 0} where
  pub keeps_seat : (s : Seat N) (ts : List (Seat N)) (t : Seat N) → IsSeat s ts → IsSeat s (ts ++ t ∷ [])
  keeps_seat s [] t k = absurd k
  keeps_seat s (u ∷ ts) t (inl e) = inl e
  keeps_seat s (u ∷ ts) t (inr k) = inr (keeps_seat s ts t k)

  pub last_seat : (ts : List (Seat N)) (t : Seat N) → IsSeat t (ts ++ t ∷ [])
  last_seat [] t = inl refl
  last_seat (u ∷ ts) t = inr (last_seat ts t)

  keep_seats : (ss : List (Seat N)) (qs rs : List (Vec (Seat N))) (ts : List (Seat N)) → PopsEach qs rs ts → AreSeats ss rs → AreSeats ss qs
  keep_seats [] [] [] [] p k = tt
  keep_seats [] [] [] (t ∷ ts) p k = absurd p
  keep_seats [] [] (r ∷ rs) ts p k = absurd p
  keep_seats [] (q ∷ qs) [] ts p k = absurd p
  keep_seats [] (q ∷ qs) (r ∷ rs) ts p k = absurd k
  keep_seats (s ∷ ss) [] [] ts p k = absurd k
  keep_seats (s ∷ ss) [] (r ∷ rs) ts p k = absurd p
  keep_seats (s ∷ ss) (q ∷ qs) [] ts p k = absurd k
  keep_seats (s ∷ ss) (q ∷ qs) (r ∷ rs) [] p k = absurd p
  keep_seats (s ∷ ss) (q ∷ qs) (r ∷ rs) (t ∷ ts) p k =
      (subst (λ xs. IsSeat s xs) (sym p.0.items) (keeps_seat s r.items t k.0), keep_seats ss qs rs ts p.1 k.1)

  new_seats : (qs rs : List (Vec (Seat N))) (ts : List (Seat N)) → PopsEach qs rs ts → AreSeats ts qs
  new_seats [] [] [] p = tt
  new_seats [] [] (t ∷ ts) p = absurd p
  new_seats [] (r ∷ rs) ts p = absurd p
  new_seats (q ∷ qs) [] ts p = absurd p
  new_seats (q ∷ qs) (r ∷ rs) [] p = absurd p
  new_seats (q ∷ qs) (r ∷ rs) (t ∷ ts) p = (subst (λ xs. IsSeat t xs) (sym p.0.items) (last_seat r.items t), new_seats qs rs ts p.1)

  -- behind the dealing all lists are empty
  pub none_back : (sight : N → Sight) (gs : List (Guarded N)) (rs : List (Vec (Seat N))) → AreLeft sight [] gs rs → AreSeatsBack 0 gs rs × EachNone rs
  none_back sight [] [] k = (tt, tt)
  none_back sight [] (r ∷ rs) k = absurd k
  none_back sight (g ∷ gs) [] k = absurd k
  none_back sight (g ∷ gs) (r ∷ rs) k =
      let e = empty r.items k.0 in
      let m = none_back sight gs rs k.1 in
      ((subst (λ xs. AllAt (table_of g) xs × (length xs ≡ 0)) (sym e) (tt, refl), m.0), (e, m.1))
    where
      empty : (ss : List (Seat N)) → AreFresh (sight (opening_of g)) (opening_of g) (table_of g) [] ss → ss ≡ []
      empty [] f = refl
      empty (s ∷ ss) f = absurd f

module _ {W S B : Type 0} {G : Ghosts B} where
  pub seats_many : (ps : List (ShardSeat W S B G)) → length (seats_of ps) ≡ length ps
  seats_many [] = refl
  seats_many (p ∷ ps) = let e = seats_many ps in omega (arith, e)

module _ {W D S B X : Type 0} {G : Ghosts B} where
  pub over_last : (n : ℕ) (rs : List (LaneRun W D S B X G)) (r : LaneRun W D S B X G) → AllOver n (rs ++ r ∷ []) → AllOver n rs × IsOver n r
  over_last n [] r k = (tt, k.0)
  over_last n (x ∷ rs) r k = let m = over_last n rs r k.1 in ((k.0, m.0), m.1)

  of_at : (locks : List (Guarded (SharedShard S))) (xs : List (LaneRun W D S B X G)) (r : LaneRun W D S B X G) (ys : List (LaneRun W D S B X G))
      → AllOf locks (xs ++ r ∷ ys) → AreOf locks (shard_seats r)
  of_at locks [] r ys k = k.0
  of_at locks (x ∷ xs) r ys k = of_at locks xs r ys k.1

  keep_gave : (gone : List (LaneRun W D S B X G)) (qs rs : List (Vec (Seat (SharedShard S)))) (ts : List (Seat (SharedShard S))) → PopsEach qs rs ts
      → AllGave gone rs → AllGave gone qs
  keep_gave [] qs rs ts p k = tt
  keep_gave (r ∷ gone) qs rs ts p k = (keep_seats (shard_seats r) qs rs ts p k.0, keep_gave gone qs rs ts p k.1)

  -- a lane more is back
  pub gathered_more : (locks : List (Guarded (SharedShard S))) (all : List (LaneRun W D S B X G)) (t : Table W D S B X G) (home : Seat (SharedLog D))
      (u : Table W D S B X G) → IsRunBack t home u → RunsGathered locks all t → RunsGathered locks all u
  gathered_more locks all t home u b k =
      let are : all ≡ u.runs.items ++ b.run ∷ k.gone = k.all_are ∙ (ap (λ xs. xs ++ k.gone) b.runs ∙ append_assoc u.runs.items (b.run ∷ []) k.gone) in
      let one : length k.gone + 1 ≡ length (b.run ∷ k.gone) = omega arith in record {
        gone = b.run ∷ k.gone;
        all_are = are;
        of = k.of;
        back = subst (λ n. AreSeatsBack n locks u.rows.items) one
            (gathers (length k.gone) locks t.rows.items u.rows.items (shard_seats b.run) k.back b.rows
            (of_at locks u.runs.items b.run k.gone (subst (AllOf locks) are k.of)));
        gave = (
          new_seats u.rows.items t.rows.items (shard_seats b.run) b.rows,
          keep_gave k.gone u.rows.items t.rows.items (shard_seats b.run) b.rows k.gave,
        );
        lanes = subst (λ xs. AllZip (λ r x. IsLaneEnd r.work r.came x) (b.run ∷ k.gone) xs)
            (sym (last_first t.lanes.items u.lanes.items b.lane b.lanes)) (b.came, k.lanes);
      }

  -- and its seat of its coordinator
  pub home_none : (t : Table W D S B X G) (own : List (Seat (SharedLog D))) → own ≡ [] → AreHome 0 t own t
  home_none t own e = record { gone = []; runs = sym (append-nil t.runs.items); many = refl; seats = ap reverse e }

  pub home_more : (n : ℕ) (t : Table W D S B X G) (own own' : List (Seat (SharedLog D))) (u v : Table W D S B X G) (home : Seat (SharedLog D))
      → AreHome n t own u → IsRunBack u home v → own' ≡ own ++ home ∷ [] → AreHome (n + 1) t own' v
  home_more n t own own' u v home k b e = record {
    gone = b.run ∷ k.gone;
    runs = k.runs ∙ (ap (λ xs. xs ++ k.gone) b.runs ∙ append_assoc v.runs.items (b.run ∷ []) k.gone);
    many = let m = k.many in omega (arith, m);
    seats = last_first own own' home e ∙ (ap (λ s. s ∷ reverse own) b.home_is ∙ ap (λ ss. home_seat b.run ∷ ss) k.seats);
  }

  -- lists of coordinators, from the first on
  pub record HomesGone (n : ℕ) (t : Table W D S B X G) (homes : List (Vec (Seat (SharedLog D)))) (u : Table W D S B X G) : Type 0 where
    pub gone : List (LaneRun W D S B X G)
    pub runs : t.runs.items ≡ u.runs.items ++ gone
    pub chunks : Chunks n (reverse homes) gone

  pub homes_none : (n : ℕ) (t : Table W D S B X G) (homes : List (Vec (Seat (SharedLog D)))) → homes ≡ [] → HomesGone n t homes t
  homes_none n t homes e = record {
    gone = [];
    runs = sym (append-nil t.runs.items);
    chunks = let z : Chunks {W = W} {D = D} {S = S} {B = B} {X = X} {G = G} n [] [] = refl in
        subst (λ xs. Chunks {W = W} {D = D} {S = S} {B = B} {X = X} {G = G} n (reverse xs) []) (sym e) z;
  }

  pub homes_more : (n : ℕ) (t : Table W D S B X G) (homes homes' : List (Vec (Seat (SharedLog D)))) (own : Vec (Seat (SharedLog D)))
      (u v : Table W D S B X G) → HomesGone n t homes u → AreHome n u own.items v → homes' ≡ homes ++ own ∷ [] → HomesGone n t homes' v
  homes_more n t homes homes' own u v k h e = record {
    gone = h.gone ++ k.gone;
    runs = k.runs ∙ (ap (λ xs. xs ++ k.gone) h.runs ∙ append_assoc v.runs.items h.gone k.gone);
    chunks = subst (λ xs. Chunks n xs (h.gone ++ k.gone)) (sym (last_first homes homes' own e)) (h.gone, k.gone, refl, h.many, h.seats, k.chunks);
  }

  pub homes_all : (n : ℕ) (t : Table W D S B X G) (homes : List (Vec (Seat (SharedLog D)))) (u : Table W D S B X G) → HomesGone n t homes u
      → u.runs.items ≡ [] → Chunks n (reverse homes) t.runs.items
  homes_all n t homes u k e = subst (Chunks n (reverse homes)) (sym (k.runs ∙ ap (λ xs. xs ++ k.gone) e)) k.chunks
