-- Seats made ports one after another, from the last to the first.
use Rattle.std.proofs.Common.{◌≡◌, ℕ, suc, ◌+◌, List, [], ◌∷◌, ◌++◌, length, reverse, append_assoc, append-nil, refl, sym, ap, ◌∙◌, subst, arith}
use Rattle.node_lock.specs.declared.lock.Guarded.{Guarded}
use Rattle.node_lock.specs.declared.seat.Seat.{Seat}
use Rattle.node_lock.specs.Seats.{IsSeatOf}
use Rattle.port_sets.specs.declared.locking.SharedShard.{SharedShard}
use Rattle.port_sets.specs.declared.seated.ShardSeat.{ShardSeat}
use Rattle.port_sets.specs.declared.tables.Locks.{Ghosts}
use Rattle.lane_waves.proofs.Closing.{last_first}
use Rattle.lane_waves.specs.Ports.{AreSeated, IsPort, ArePorts, AreNumbered, seats_of}

module _ {S : Type 0} where
  last_seated : (gs : List (Guarded (SharedShard S))) (ss : List (Seat (SharedShard S))) (g : Guarded (SharedShard S)) (s : Seat (SharedShard S))
      → AreSeated (gs ++ g ∷ []) (ss ++ s ∷ []) → AreSeated gs ss × IsSeatOf g s
  last_seated [] [] g s k = (tt, k.0)
  last_seated [] (y ∷ []) g s k = absurd k.1
  last_seated [] (y ∷ (z ∷ ss)) g s k = absurd k.1
  last_seated (x ∷ []) [] g s k = absurd k.1
  last_seated (x ∷ (w ∷ gs)) [] g s k = absurd k.1
  last_seated (x ∷ gs) (y ∷ ss) g s k = let m = last_seated gs ss g s k.1 in ((k.0, m.0), m.1)

  pub seated_left : (gs gs' : List (Guarded (SharedShard S))) (ss ss' : List (Seat (SharedShard S))) (g : Guarded (SharedShard S))
      (s : Seat (SharedShard S)) → AreSeated gs ss → gs ≡ gs' ++ g ∷ [] → ss ≡ ss' ++ s ∷ [] → AreSeated gs' ss' × IsSeatOf g s
  seated_left gs gs' ss ss' g s k e f = last_seated gs' ss' g s (subst (λ ys. AreSeated (gs' ++ g ∷ []) ys) f (subst (λ xs. AreSeated xs ss) e k))

  some_left : (ss : List (Seat (SharedShard S))) (s : Seat (SharedShard S)) → AreSeated [] (ss ++ s ∷ []) → ⊥
  some_left [] s k = k
  some_left (y ∷ ss) s k = k

  pub no_locks : (gs : List (Guarded (SharedShard S))) (ss ss' : List (Seat (SharedShard S))) (s : Seat (SharedShard S)) → AreSeated gs ss
      → length gs ≡ 0 → ss ≡ ss' ++ s ∷ [] → ⊥
  no_locks [] ss ss' s k e f = some_left ss' s (subst (λ ys. AreSeated [] ys) f k)
  no_locks (g ∷ gs) ss ss' s k e f = let z = e in omega (arith, z)

  pub none_seated : (gs : List (Guarded (SharedShard S))) → AreSeated gs [] → gs ≡ []
  none_seated [] k = refl
  none_seated (g ∷ gs) k = absurd k

module _ {W S B : Type 0} {G : Ghosts B} where
  pub record Porting (gs0 : List (Guarded (SharedShard S))) (ss0 : List (Seat (SharedShard S))) (gs : List (Guarded (SharedShard S)))
      (ss : List (Seat (SharedShard S))) (ps : List (ShardSeat W S B G)) : Type 0 where
    pub tl : List (Guarded (SharedShard S))
    pub ts : List (Seat (SharedShard S))
    pub locks : gs0 ≡ gs ++ tl
    pub seats : ss0 ≡ ss ++ ts
    pub made : ArePorts tl ts (reverse ps)
    pub left : AreSeated gs ss

  pub porting : (gs : List (Guarded (SharedShard S))) (ss : List (Seat (SharedShard S))) (ps : List (ShardSeat W S B G)) → ps ≡ [] → AreSeated gs ss
      → Porting gs ss gs ss ps
  porting gs ss ps e k = record {
    tl = [];
    ts = [];
    locks = sym (append-nil gs);
    seats = sym (append-nil ss);
    made = subst (λ (xs : List (ShardSeat W S B G)). ArePorts [] [] (reverse xs)) (sym e) tt;
    left = k;
  }

  pub ports_on : (gs0 : List (Guarded (SharedShard S))) (ss0 : List (Seat (SharedShard S))) (gs gs' : List (Guarded (SharedShard S)))
      (ss ss' : List (Seat (SharedShard S))) (ps ps' : List (ShardSeat W S B G)) (g : Guarded (SharedShard S)) (s : Seat (SharedShard S))
      (p : ShardSeat W S B G)
      → Porting gs0 ss0 gs ss ps → gs ≡ gs' ++ g ∷ [] → ss ≡ ss' ++ s ∷ [] → ps' ≡ ps ++ p ∷ [] → IsPort g s p → Porting gs0 ss0 gs' ss' ps'
  ports_on gs0 ss0 gs gs' ss ss' ps ps' g s p k e f h i = record {
    tl = g ∷ k.tl;
    ts = s ∷ k.ts;
    locks = k.locks ∙ (ap (λ xs. xs ++ k.tl) e ∙ append_assoc gs' (g ∷ []) k.tl);
    seats = k.seats ∙ (ap (λ xs. xs ++ k.ts) f ∙ append_assoc ss' (s ∷ []) k.ts);
    made = subst (λ (xs : List (ShardSeat W S B G)). ArePorts (g ∷ k.tl) (s ∷ k.ts) xs) (sym (last_first ps ps' p h)) (i, k.made);
    left = (seated_left gs gs' ss ss' g s k.left e f).0;
  }

  pub ported : (gs0 : List (Guarded (SharedShard S))) (ss0 : List (Seat (SharedShard S))) (gs : List (Guarded (SharedShard S)))
      (ss : List (Seat (SharedShard S))) (ps : List (ShardSeat W S B G)) → Porting gs0 ss0 gs ss ps → ss ≡ [] → ArePorts gs0 ss0 (reverse ps)
  ported gs0 ss0 gs ss ps k e =
      let none = none_seated gs (subst (λ ys. AreSeated gs ys) e k.left) in
      subst (λ xs. ArePorts xs ss0 (reverse ps)) (sym (k.locks ∙ ap (λ xs. xs ++ k.tl) none))
      (subst (λ ys. ArePorts k.tl ys (reverse ps)) (sym (k.seats ∙ ap (λ ys. ys ++ k.ts) e)) k.made)

  pub record Backing (ps0 ps : List (ShardSeat W S B G)) (ss : List (Seat (SharedShard S))) : Type 0 where
    pub done : List (ShardSeat W S B G)
    pub all_is : ps0 ≡ ps ++ done
    pub seats : reverse ss ≡ seats_of done

  pub backing : (ps : List (ShardSeat W S B G)) (ss : List (Seat (SharedShard S))) → ss ≡ [] → Backing ps ps ss
  backing ps ss e = record { done = []; all_is = sym (append-nil ps); seats = ap reverse e }

  pub backs_on : (ps0 ps ps' : List (ShardSeat W S B G)) (ss ss' : List (Seat (SharedShard S))) (p : ShardSeat W S B G) → Backing ps0 ps ss
      → ps ≡ ps' ++ p ∷ [] → ss' ≡ ss ++ p.seat ∷ [] → Backing ps0 ps' ss'
  backs_on ps0 ps ps' ss ss' p k e f = record {
    done = p ∷ k.done;
    all_is = k.all_is ∙ (ap (λ xs. xs ++ k.done) e ∙ append_assoc ps' (p ∷ []) k.done);
    seats = last_first ss ss' p.seat f ∙ ap (λ xs. p.seat ∷ xs) k.seats;
  }

  pub backed : (ps0 ps : List (ShardSeat W S B G)) (ss : List (Seat (SharedShard S))) → Backing ps0 ps ss → ps ≡ [] → reverse ss ≡ seats_of ps0
  backed ps0 ps ss k e = k.seats ∙ sym (ap seats_of (k.all_is ∙ ap (λ xs. xs ++ k.done) e))

  -- the ports so far have the numbers behind those of the locks that are left
  pub numbered_on : (n m : ℕ) (ps ps' : List (ShardSeat W S B G)) (p : ShardSeat W S B G) → AreNumbered m (reverse ps) → m ≡ suc n
      → ps' ≡ ps ++ p ∷ [] → p.node ≡ n → AreNumbered n (reverse ps')
  numbered_on n m ps ps' p k e h is =
      subst (λ (xs : List (ShardSeat W S B G)). AreNumbered n xs) (sym (last_first ps ps' p h)) (is, subst (λ x. AreNumbered x (reverse ps)) e k)
