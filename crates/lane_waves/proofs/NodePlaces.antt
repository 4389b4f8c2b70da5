-- What lists of locks and of nodes come to, place by place.
use Rattle.std.proofs.Common.{◌≡◌, ℕ, zero, suc, ◌≤◌, List, [], ◌∷◌, length, refl, sym, ap, ◌∙◌, subst, arith}
use Rattle.std.specs.Prelude.{All}
use Rattle.std.specs.Global.{Vec}
use Rattle.std.proofs.lemmas.List.Elements.{All-nil, All-cons, All-head, All-tail}
use Rattle.cbdc_model.specs.Sights.{Sight}
use Rattle.node_lock.specs.declared.lock.Guarded.{Guarded}
use Rattle.node_lock.specs.declared.seat.Seat.{Seat}
use Rattle.node_lock.specs.Moving.{Same}
use Rattle.node_lock.specs.Seats.{all_known}
use Rattle.node_lock.specs.Tickets.{Done}
use Rattle.node_ports.specs.Nodes.{no_sight, sight_at}
use Rattle.thread_laws.specs.Running.{NodeRan}
use Rattle.lane_waves.specs.NodeRows.{IsLocked, AreLocked, IsClosed, AreClosed, AreStill, lanes_of}
use Rattle.lane_waves.specs.Laws.{NodesRanLaw, NodesStillLaw, WentOn, HeldLaw}

module _ {N : Type 0} (sight : N → Sight) (goes : N → N → Type 0) where
  one_ran : (n m : N) (r : Vec ℕ) (g : Guarded N) (s t : Vec (Seat N)) → IsLocked sight n r.items g s → IsClosed sight goes g t m
      → NodeRan (sight n) r.items (all_known t.items) (sight m)
  one_ran n m r g s t k c = record {
    apart = k.row.apart;
    done = subst (λ ls. Done (sight n) ls (all_known t.items) (sight m)) k.lanes_are
        (subst (λ o. Done (sight o) (lanes_of g) (all_known t.items) (sight m)) k.node c.done);
    same = subst (λ o. Same (sight o) (sight m)) k.node c.lives.1;
  }

  pub nodes_ran : NodesRanLaw sight goes
  nodes_ran [] rs gs ss ts ms k c n lt = absurd (omega (arith, lt))
  nodes_ran (x ∷ ns) [] gs ss ts ms k c n lt = absurd k
  nodes_ran (x ∷ ns) (r ∷ rs) [] ss ts ms k c n lt = absurd k
  nodes_ran (x ∷ ns) (r ∷ rs) (g ∷ gs) [] ts ms k c n lt = absurd k
  nodes_ran (x ∷ ns) (r ∷ rs) (g ∷ gs) (s ∷ ss) [] ms k c n lt = absurd c
  nodes_ran (x ∷ ns) (r ∷ rs) (g ∷ gs) (s ∷ ss) (t ∷ ts) [] k c n lt = absurd c
  nodes_ran (x ∷ ns) (r ∷ rs) (g ∷ gs) (s ∷ ss) (t ∷ ts) (m ∷ ms) k c zero lt = one_ran x m r g s t k.0 c.0
  nodes_ran (x ∷ ns) (r ∷ rs) (g ∷ gs) (s ∷ ss) (t ∷ ts) (m ∷ ms) k c (suc n) lt = nodes_ran ns rs gs ss ts ms k.1 c.1 n (omega (arith, lt))

  pub nodes_still : NodesStillLaw sight goes
  nodes_still [] ms k n lt = absurd (omega (arith, lt))
  nodes_still (x ∷ ns) [] k n lt = absurd k
  nodes_still (x ∷ ns) (m ∷ ms) k zero lt = record { same = k.0.lives.1; seen = k.0.seen; flight = k.0.flight; later = k.0.later }
  nodes_still (x ∷ ns) (m ∷ ms) k (suc n) lt = nodes_still ns ms k.1 n (omega (arith, lt))

  ran_on : (nodes : List N) (rows : List (Vec ℕ)) (locks : List (Guarded N)) (first last : List (Vec (Seat N))) (closed : List N)
      → AreLocked sight nodes rows locks first → AreClosed sight goes locks last closed → WentOn sight goes nodes closed
  ran_on [] [] [] [] [] [] k c = tt
  ran_on [] [] [] [] [] (m ∷ ms) k c = absurd c
  ran_on [] [] [] [] (t ∷ ts) ms k c = absurd c
  ran_on [] [] [] (s ∷ ss) ts ms k c = absurd k
  ran_on [] [] (g ∷ gs) ss ts ms k c = absurd k
  ran_on [] (r ∷ rs) gs ss ts ms k c = absurd k
  ran_on (x ∷ ns) [] gs ss ts ms k c = absurd k
  ran_on (x ∷ ns) (r ∷ rs) [] ss ts ms k c = absurd k
  ran_on (x ∷ ns) (r ∷ rs) (g ∷ gs) [] ts ms k c = absurd k
  ran_on (x ∷ ns) (r ∷ rs) (g ∷ gs) (s ∷ ss) [] ms k c = absurd c
  ran_on (x ∷ ns) (r ∷ rs) (g ∷ gs) (s ∷ ss) (t ∷ ts) [] k c = absurd c
  ran_on (x ∷ ns) (r ∷ rs) (g ∷ gs) (s ∷ ss) (t ∷ ts) (m ∷ ms) k c = (subst (λ o. goes o m) k.0.node c.0.lives.0, ran_on ns rs gs ss ts ms k.1 c.1)

  still_on : (old new : List N) → AreStill sight goes old new → WentOn sight goes old new
  still_on [] [] k = tt
  still_on [] (m ∷ ms) k = absurd k
  still_on (x ∷ ns) [] k = absurd k
  still_on (x ∷ ns) (m ∷ ms) k = (k.0.lives.0, still_on ns ms k.1)

  pub held : HeldLaw sight goes
  held = (ran_on, still_on)

  -- as many nodes behind as before
  pub same_length : (old new : List N) → WentOn sight goes old new → length new ≡ length old
  same_length [] [] k = refl
  same_length [] (m ∷ ms) k = absurd k
  same_length (x ∷ ns) [] k = absurd k
  same_length (x ∷ ns) (m ∷ ms) k = ap suc (same_length ns ms k.1)

  -- past the end of both there is no node
  pub past_end : (nodes : List N) (n : ℕ) → length nodes ≤ n → sight_at sight nodes n ≡ no_sight
  past_end [] n le = refl
  past_end (x ∷ ns) zero le = absurd (omega (arith, le))
  past_end (x ∷ ns) (suc n) le = past_end ns n (omega (arith, le))

  pub beyond : (old new : List N) → WentOn sight goes old new → (n : ℕ) → length old ≤ n → sight_at sight new n ≡ sight_at sight old n
  beyond old new k n le = past_end new n (let same = same_length old new k in omega (arith, le, same)) ∙ sym (past_end old n le)

-- what a node's going on keeps true of it is true of all behind, where it was of all before
pub all_held : {N : Type 0} (sight : N → Sight) (P : N → Type 0) (old new : List N) → WentOn sight (λ a b. P a → P b) old new → All P old → All P new
all_held sight P [] [] k all = All-nil P
all_held sight P [] (m ∷ ms) k all = absurd k
all_held sight P (x ∷ ns) [] k all = absurd k
all_held sight P (x ∷ ns) (m ∷ ms) k all = All-cons P m ms (k.0 (All-head P x ns all)) (all_held sight P ns ms k.1 (All-tail P x ns all))
