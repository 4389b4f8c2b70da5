-- The coordinators' lists of seats, filled by their lanes in order, those of the last coordinator first.
use Rattle.std.proofs.Common.{◌≡◌, inl, inr, ℕ, zero, suc, ◌+◌, ◌*◌, ◌/◌, ◌<◌, ◌≤◌, ◌==◌, Bool, true, false, if◌then◌else◌, List, [], ◌∷◌, ◌++◌, map}
use Rattle.std.proofs.Common.{length, reverse, refl, sym, ap, ◌∙◌, subst, arith}
use Rattle.std.proofs.lemmas.Grind.{common_steps}
use Rattle.std.proofs.lemmas.List.{reverse-reverse, length-reverse}
use Rattle.std.proofs.lemmas.Nat.{div-mul-add, div_below}
use Rattle.std.specs.Global.{Vec}
use Rattle.node_lock.specs.declared.lock.Guarded.{Guarded}
use Rattle.node_lock.specs.declared.seat.Seat.{Seat}
use Rattle.node_lock.specs.Seats.{TableId, AllAt, all_known, knows, table_of}
use Rattle.port_sets.specs.declared.coordinators.SharedLog.{SharedLog}
use Rattle.port_sets.specs.declared.tables.Locks.{Ghosts}
use Rattle.thread_laws.specs.Closing.{IsHand}
use Rattle.lane_waves.specs.NodeRows.{HaveAllSeats, lanes_of}
use Rattle.lane_waves.proofs.Closing.{first_last}
use Rattle.lane_waves.specs.declared.runs.LaneRun.{LaneRun}
use Rattle.lane_waves.specs.Among.{hands_at}
use Rattle.lane_waves.specs.Gathers.{IsSeat, Chunks, home_seat}
use Rattle.lane_waves.specs.Places.{AllFrom}
use Rattle.lane_waves.proofs.Places.{all_more, turned_many, zero_row}
use Rattle.lane_waves.proofs.Giving.{keeps_seat, last_seat}

module _ {N : Type 0} where
  turned_seat : (s : Seat N) (xs : List (Seat N)) → IsSeat s xs → IsSeat s (reverse xs)
  turned_seat s [] k = absurd k
  turned_seat s (x ∷ xs) (inl e) = subst (IsSeat s) (sym (first_last x xs))
      (subst (λ y. IsSeat y (reverse xs ++ x ∷ [])) e (last_seat (reverse xs) x))
  turned_seat s (x ∷ xs) (inr k) = subst (IsSeat s) (sym (first_last x xs)) (keeps_seat s (reverse xs) x (turned_seat s xs k))

  at_last : (id : TableId) (xs : List (Seat N)) (x : Seat N) → AllAt id xs → x.token.table_id ≡ id → AllAt id (xs ++ x ∷ [])
  at_last id [] x a e = (e, tt)
  at_last id (y ∷ xs) x a e = (a.0, at_last id xs x a.1 e)

  turned_at : (id : TableId) (xs : List (Seat N)) → AllAt id xs → AllAt id (reverse xs)
  turned_at id [] a = tt
  turned_at id (x ∷ xs) a = subst (AllAt id) (sym (first_last x xs)) (at_last id (reverse xs) x (turned_at id xs a.1) a.0)

  -- what a seat knows is among what the seats know
  pub hand_among : (s : Seat N) (ss : List (Seat N)) → IsSeat s ss → IsHand (knows s) (all_known ss)
  hand_among s [] k = absurd k
  hand_among s (t ∷ ts) (inl e) = inl (ap knows e)
  hand_among s (t ∷ ts) (inr k) = inr (hand_among s ts k)

  -- a list by the number of those behind it
  abbrev pub down_at : List (Vec (Seat N)) → ℕ → List (Seat N)
  down_at [] c = []
  down_at (r ∷ rs) c = if c == length rs then r.items else down_at rs c

  hands_last : (rs : List (Vec (Seat N))) (r : Vec (Seat N)) (c : ℕ)
      → hands_at (rs ++ r ∷ []) c ≡ (if c == length rs then all_known r.items else hands_at rs c)
  hands_last [] r zero = refl
  hands_last [] r (suc c) = let t : (suc c == 0) ≡ false = grind arith in sym (ap (λ b. if b then all_known r.items else []) t)
  hands_last (q ∷ rs) r zero = let t : (0 == length (q ∷ rs)) ≡ false = grind arith in
      sym (ap (λ b. if b then all_known r.items else all_known q.items) t)
  hands_last (q ∷ rs) r (suc c) = let t : (c == length rs) ≡ (suc c == length (q ∷ rs)) = grind arith in
      hands_last rs r c ∙ ap (λ b. if b then all_known r.items else hands_at rs c) t

  pub hands_down : (ys : List (Vec (Seat N))) (c : ℕ) → hands_at (reverse ys) c ≡ all_known (down_at ys c)
  hands_down [] c = refl
  hands_down (y ∷ ys) c =
      let t : (c == length (reverse ys)) ≡ (c == length ys) = ap (λ n. c == n) (length-reverse ys) in
      ap (λ zs. hands_at zs c) (first_last y ys) ∙
      (hands_last (reverse ys) y c ∙ (ap (λ b. if b then all_known y.items else hands_at (reverse ys) c) t
      ∙ go (c == length ys) (hands_down ys c)))
    where
      go : (b : Bool) → hands_at (reverse ys) c ≡ all_known (down_at ys c)
          → (if b then all_known y.items else hands_at (reverse ys) c) ≡ all_known (if b then y.items else down_at ys c)
      go true e = refl
      go false e = e

-- a coordinator's list has all its seats, of the lock that the wave picks
module _ {D : Type 0} (n : ℕ) (tables : ℕ → TableId) where
  abbrev pub HomeAt : ℕ → Vec (Seat (SharedLog D)) → Type 0
  HomeAt c own = AllAt (tables c) own.items × (length own.items ≡ n)

  abbrev pub HomesAt : List (Vec (Seat (SharedLog D))) → Type 0
  HomesAt [] = Unit {0}
  HomesAt (own ∷ owns) = HomeAt (length owns) own × HomesAt owns

  pub homes_up : (owns : List (Vec (Seat (SharedLog D)))) → HomesAt owns → AllFrom HomeAt 0 (reverse owns)
  homes_up [] k = tt
  homes_up (own ∷ owns) k = subst (AllFrom HomeAt 0) (sym (first_last own owns))
      (all_more HomeAt 0 (reverse owns) own (homes_up owns k.1) (subst (λ c. HomeAt c own) (sym (turned_many owns)) k.0))

  pub homes_ready : (some : 0 < n) (lanes : ℕ → List ℕ) (k : ℕ) (gs : List (Guarded (SharedLog D))) (homes : List (Vec (Seat (SharedLog D))))
      → length homes ≡ length gs → ((c : ℕ) → length (lanes c) ≡ n) → AllFrom HomeAt k homes
      → AllFrom (λ c g. tables c ≡ table_of g) k gs → AllFrom (λ c g. lanes_of g ≡ lanes c) k gs → HaveAllSeats gs homes
  homes_ready some lanes k [] [] e m h t l = tt
  homes_ready some lanes k [] (own ∷ homes) e m h t l = absurd (let z = e in omega (arith, z))
  homes_ready some lanes k (g ∷ gs) [] e m h t l = absurd (let z = e in omega (arith, z))
  homes_ready some lanes k (g ∷ gs) (own ∷ homes) e m h t l =
      let many : length (lanes_of g) ≡ n = ap (λ (xs : List ℕ). length xs) l.0 ∙ m k in (
        record { ready = (subst (λ i. AllAt i own.items) t.0 h.0.0, h.0.1 ∙ sym many, subst (λ i. 0 < i) (sym h.0.1) some) },
        homes_ready some lanes (suc k) gs homes (let z = e in omega (arith, z)) m h.1 t.1 l.1,
      )

module _ {W D S B X : Type 0} {G : Ghosts B} (n : ℕ) (some : 0 < n) where
  -- each run's seat of its coordinator is in the list of that
  abbrev pub HomesHold : List (Vec (Seat (SharedLog D))) → List (LaneRun W D S B X G) → Type 0
  HomesHold owns [] = Unit {0}
  HomesHold owns (q ∷ qs) = IsSeat (home_seat q) (down_at owns (length qs / n)) × HomesHold owns qs

  abbrev EachIn : List (Seat (SharedLog D)) → List (LaneRun W D S B X G) → Type 0
  EachIn zs [] = Unit {0}
  EachIn zs (q ∷ qs) = IsSeat (home_seat q) zs × EachIn zs qs

  each_more : (z : Seat (SharedLog D)) (zs : List (Seat (SharedLog D))) (qs : List (LaneRun W D S B X G)) → EachIn zs qs → EachIn (z ∷ zs) qs
  each_more z zs [] k = tt
  each_more z zs (q ∷ qs) k = (inr k.0, each_more z zs qs k.1)

  each_self : (qs : List (LaneRun W D S B X G)) → EachIn (map home_seat qs) qs
  each_self [] = tt
  each_self (q ∷ qs) = (inl refl, each_more (home_seat q) (map home_seat qs) qs (each_self qs))

  each_turned : (zs : List (Seat (SharedLog D))) (qs : List (LaneRun W D S B X G)) → EachIn zs qs → EachIn (reverse zs) qs
  each_turned zs [] k = tt
  each_turned zs (q ∷ qs) k = (turned_seat (home_seat q) zs k.0, each_turned zs qs k.1)

  -- those behind are in the lists behind
  older : (own : Vec (Seat (SharedLog D))) (owns : List (Vec (Seat (SharedLog D)))) (qs : List (LaneRun W D S B X G)) → length qs ≤ length owns * n
      → HomesHold owns qs → HomesHold (own ∷ owns) qs
  older own owns [] le k = tt
  older own owns (q ∷ qs) le k =
      let low : length qs / n < length owns = div_below (length qs) n (length owns) some (omega (arith, le)) in
      let t : (length qs / n == length owns) ≡ false = grind (arith, low) in (
        subst (λ b. IsSeat (home_seat q) (if b then own.items else down_at owns (length qs / n))) (sym t) k.0,
        older own owns qs (omega (arith, le)) k.1,
      )

  chunk_hold : (own : Vec (Seat (SharedLog D))) (owns : List (Vec (Seat (SharedLog D)))) (cs rest : List (LaneRun W D S B X G)) → length cs ≤ n
      → length rest ≡ length owns * n → EachIn own.items cs → HomesHold owns rest → HomesHold (own ∷ owns) (cs ++ rest)
  chunk_hold own owns [] rest le many k h = older own owns rest (omega (arith, many)) h
  chunk_hold own owns (c ∷ cs) rest le many k h =
      let both : length (cs ++ rest) ≡ length cs + length rest = grind (arith, common_steps) in
      let lane : length (cs ++ rest) ≡ length owns * n + length cs = omega (arith, both, many) in
      let home : length (cs ++ rest) / n ≡ length owns = ap (λ l. l / n) lane ∙ div-mul-add (length owns) n (length cs) (omega (arith, le)) in
      let t : (length (cs ++ rest) / n == length owns) ≡ true = grind (arith, home) in (
        subst (λ b. IsSeat (home_seat c) (if b then own.items else down_at owns (length (cs ++ rest) / n))) (sym t) k.0,
        chunk_hold own owns cs rest (omega (arith, le)) many k.1 h,
      )

  own_holds : (own : Vec (Seat (SharedLog D))) (cs : List (LaneRun W D S B X G)) → reverse own.items ≡ map home_seat cs → EachIn own.items cs
  own_holds own cs e = subst (λ zs. EachIn zs cs) (ap reverse (sym e) ∙ reverse-reverse own.items) (each_turned (map home_seat cs) cs (each_self cs))

  pub homes_hold : (owns : List (Vec (Seat (SharedLog D)))) (qs : List (LaneRun W D S B X G)) → Chunks n owns qs
      → HomesHold owns qs × (length qs ≡ length owns * n)
  homes_hold [] qs e = (subst (HomesHold []) (sym e) tt, ap (λ (zs : List (LaneRun W D S B X G)). length zs) e ∙ sym (zero_row n))
  homes_hold (own ∷ owns) qs (chunk, rest, is, many, seats, more) =
      let m = homes_hold owns rest more in
      let both : length (chunk ++ rest) ≡ length chunk + length rest = grind (arith, common_steps) in
      let a = m.1 in
      let wider : length (own ∷ owns) * n ≡ length owns * n + n = grind (arith, common_steps) in (
        subst (HomesHold (own ∷ owns)) (sym is) (chunk_hold own owns chunk rest (omega (arith, many)) a (own_holds own chunk seats) m.0),
        ap (λ (zs : List (LaneRun W D S B X G)). length zs) is ∙ omega (arith, both, many, a, wider),
      )

  module _ (tables : ℕ → TableId) where
    -- each run's seat of its coordinator is of the lock that the wave picks
    abbrev pub SeatsAt : List (LaneRun W D S B X G) → Type 0
    SeatsAt [] = Unit {0}
    SeatsAt (q ∷ qs) = ((home_seat q).token.table_id ≡ tables (length qs / n)) × SeatsAt qs

    chunk_at : (c : ℕ) (cs rest : List (LaneRun W D S B X G)) → length cs ≤ n → length rest ≡ c * n → SeatsAt (cs ++ rest)
        → AllAt (tables c) (map home_seat cs) × SeatsAt rest
    chunk_at c [] rest le many k = (tt, k)
    chunk_at c (q ∷ cs) rest le many k =
        let both : length (cs ++ rest) ≡ length cs + length rest = grind (arith, common_steps) in
        let lane : length (cs ++ rest) ≡ c * n + length cs = omega (arith, both, many) in
        let home : length (cs ++ rest) / n ≡ c = ap (λ l. l / n) lane ∙ div-mul-add c n (length cs) (omega (arith, le)) in
        let m = chunk_at c cs rest (omega (arith, le)) many k.1 in
        ((k.0 ∙ ap tables home, m.0), m.1)

    map_many : (cs : List (LaneRun W D S B X G)) → length (map home_seat cs) ≡ length cs
    map_many [] = refl
    map_many (q ∷ cs) = let e = map_many cs in omega (arith, e)

    pub homes_at : (owns : List (Vec (Seat (SharedLog D)))) (qs : List (LaneRun W D S B X G)) → Chunks n owns qs → SeatsAt qs → HomesAt n tables owns
    homes_at [] qs e k = tt
    homes_at (own ∷ owns) qs (chunk, rest, is, many, seats, more) k =
        let m = chunk_at (length owns) chunk rest (omega (arith, many)) (homes_hold owns rest more).1 (subst SeatsAt is k) in
        let items : own.items ≡ reverse (map home_seat chunk) = sym (reverse-reverse own.items) ∙ ap reverse seats in
        let a = length-reverse (map home_seat chunk) in
        let b = map_many chunk in (
          (
            subst (AllAt (tables (length owns))) (sym items) (turned_at (tables (length owns)) (map home_seat chunk) m.0),
            ap (λ (zs : List (Seat (SharedLog D))). length zs) items ∙ omega (arith, a, b, many),
          ),
          homes_at owns rest more m.1,
        )
