-- Locks closed one after another.
use Rattle.std.proofs.Common.{◌≡◌, ℕ, List, [], ◌∷◌, ◌++◌, length, reverse, append_assoc, append-nil, refl, sym, ap, ◌∙◌, subst, arith}
use Rattle.std.proofs.lemmas.List.{reverse-append, reverse-reverse}
use Rattle.std.specs.Global.{Vec}
use Rattle.cbdc_model.specs.Sights.{Sight}
use Rattle.node_lock.specs.declared.lock.Guarded.{Guarded}
use Rattle.node_lock.specs.declared.seat.Seat.{Seat}
use Rattle.cbdc_model.specs.Lanes.{IsEnd}
use Rattle.node_lock.specs.Seats.{knows}
use Rattle.lane_waves.specs.NodeRows.{HasAllSeats, HaveAllSeats, IsClosed, AreClosed}
use Rattle.lane_waves.specs.Watching.{IsWatching, AreWatching, AreFrontsOf}

pub last_first : {A : Type 0} (xs ys : List A) (x : A) → ys ≡ xs ++ x ∷ [] → reverse ys ≡ x ∷ reverse xs
last_first xs ys x e = ap reverse e ∙ reverse-append xs (x ∷ [])

pub none_of : {A : Type 0} (xs : List A) → length xs ≡ 0 → xs ≡ []
none_of [] e = refl
none_of (x ∷ xs) e = absurd (omega (arith, e))

pub first_last : {A : Type 0} (x : A) (xs : List A) → reverse (x ∷ xs) ≡ reverse xs ++ x ∷ []
first_last x xs = reverse-append (x ∷ []) xs

module _ {N : Type 0} where
  pub ready_parts : (gs gs' : List (Guarded N)) (ss ss' : List (Vec (Seat N))) (g : Guarded N) (s : Vec (Seat N))
      → HaveAllSeats (reverse gs) (reverse ss) → gs ≡ gs' ++ g ∷ [] → ss ≡ ss' ++ s ∷ []
      → HasAllSeats g s × HaveAllSeats (reverse gs') (reverse ss')
  ready_parts gs gs' ss ss' g s k e f = subst (λ ys. HaveAllSeats (g ∷ reverse gs') ys) (last_first ss' ss s f)
      (subst (λ xs. HaveAllSeats xs (reverse ss)) (last_first gs' gs g e) k)

  pub no_seats : (gs gs' : List (Guarded N)) (ss : List (Vec (Seat N))) (g : Guarded N) → HaveAllSeats (reverse gs) (reverse ss) → gs ≡ gs' ++ g ∷ []
      → ss ≡ [] → ⊥
  no_seats gs gs' ss g k e f = subst (λ ys. HaveAllSeats (g ∷ reverse gs') ys) (ap reverse f)
      (subst (λ xs. HaveAllSeats xs (reverse ss)) (last_first gs' gs g e) k)

  none_ready : (ys : List (Vec (Seat N))) → HaveAllSeats {N = N} [] ys → ys ≡ []
  none_ready [] k = refl
  none_ready (y ∷ ys) k = absurd k

  pub watching_parts : (gs gs' : List (Guarded N)) (ws ws' : List (Seat N)) (g : Guarded N) (t : Seat N) → AreWatching (reverse gs) (reverse ws)
      → gs ≡ gs' ++ g ∷ [] → ws ≡ ws' ++ t ∷ []
      → IsWatching g t × AreWatching (reverse gs') (reverse ws')
  watching_parts gs gs' ws ws' g t k e f = subst (λ ys. AreWatching (g ∷ reverse gs') ys) (last_first ws' ws t f)
      (subst (λ xs. AreWatching xs (reverse ws)) (last_first gs' gs g e) k)

  pub no_watchers : (gs gs' : List (Guarded N)) (ws : List (Seat N)) (g : Guarded N) → AreWatching (reverse gs) (reverse ws) → gs ≡ gs' ++ g ∷ []
      → ws ≡ [] → ⊥
  no_watchers gs gs' ws g k e f = subst (λ ys. AreWatching (g ∷ reverse gs') ys) (ap reverse f)
      (subst (λ xs. AreWatching xs (reverse ws)) (last_first gs' gs g e) k)

  none_watching : (ys : List (Seat N)) → AreWatching {N = N} [] ys → ys ≡ []
  none_watching [] k = refl
  none_watching (y ∷ ys) k = absurd k

  module _ (sight : N → Sight) (goes : N → N → Type 0) where
    pub closed_more : (gs : List (Guarded N)) (ss : List (Vec (Seat N))) (ns : List N) (g : Guarded N) (s : Vec (Seat N)) (n : N)
        → AreClosed sight goes gs ss ns → IsClosed sight goes g s n → AreClosed sight goes (gs ++ g ∷ []) (ss ++ s ∷ []) (ns ++ n ∷ [])
    closed_more [] [] [] g s n k c = (c, tt)
    closed_more [] [] (z ∷ ns) g s n k c = absurd k
    closed_more [] (y ∷ ss) ns g s n k c = absurd k
    closed_more (x ∷ gs) [] ns g s n k c = absurd k
    closed_more (x ∷ gs) (y ∷ ss) [] g s n k c = absurd k
    closed_more (x ∷ gs) (y ∷ ss) (z ∷ ns) g s n k c = (k.0, closed_more gs ss ns g s n k.1 c)

    fronts_more : (ws : List (Seat N)) (ns : List N) (t : Seat N) (n : N) → AreFrontsOf sight ws ns → IsEnd (knows t).seen (sight n).seen
        → AreFrontsOf sight (ws ++ t ∷ []) (ns ++ n ∷ [])
    fronts_more [] [] t n k e = (e, tt)
    fronts_more [] (z ∷ ns) t n k e = absurd k
    fronts_more (y ∷ ws) [] t n k e = absurd k
    fronts_more (y ∷ ws) (z ∷ ns) t n k e = (k.0, fronts_more ws ns t n k.1 e)

    pub record Closing (gs0 : List (Guarded N)) (ss0 : List (Vec (Seat N))) (ws0 : List (Seat N)) (ns0 : List N) (gs : List (Guarded N))
        (ss : List (Vec (Seat N))) (ws : List (Seat N)) (ns : List N) : Type 0 where
      pub tl : List (Guarded N)
      pub ts : List (Vec (Seat N))
      pub tw : List (Seat N)
      pub back : List N
      pub locks : gs0 ≡ gs ++ tl
      pub seats : ss0 ≡ ss ++ ts
      pub watchers : ws0 ≡ ws ++ tw
      pub nodes : ns ≡ ns0 ++ back
      pub closed : AreClosed sight goes (reverse tl) (reverse ts) back
      pub fronts : AreFrontsOf sight (reverse tw) back
      pub ready : HaveAllSeats (reverse gs) (reverse ss)
      pub watching : AreWatching (reverse gs) (reverse ws)

    pub begun : (gs : List (Guarded N)) (ss : List (Vec (Seat N))) (ws : List (Seat N)) (ns : List N) → HaveAllSeats (reverse gs) (reverse ss)
        → AreWatching (reverse gs) (reverse ws) → Closing gs ss ws ns gs ss ws ns
    begun gs ss ws ns k w = record {
      tl = [];
      ts = [];
      tw = [];
      back = [];
      locks = sym (append-nil gs);
      seats = sym (append-nil ss);
      watchers = sym (append-nil ws);
      nodes = sym (append-nil ns);
      closed = tt;
      fronts = tt;
      ready = k;
      watching = w;
    }

    pub goes_on : (gs0 : List (Guarded N)) (ss0 : List (Vec (Seat N))) (ws0 : List (Seat N)) (ns0 : List N) (gs gs' : List (Guarded N))
        (ss ss' : List (Vec (Seat N))) (ws ws' : List (Seat N)) (ns ns' : List N)
        (g : Guarded N) (s : Vec (Seat N)) (t : Seat N) (n : N) → Closing gs0 ss0 ws0 ns0 gs ss ws ns → gs ≡ gs' ++ g ∷ [] → ss ≡ ss' ++ s ∷ []
        → ws ≡ ws' ++ t ∷ [] → ns' ≡ ns ++ n ∷ []
        → IsClosed sight goes g s n → IsEnd (knows t).seen (sight n).seen → Closing gs0 ss0 ws0 ns0 gs' ss' ws' ns'
    goes_on gs0 ss0 ws0 ns0 gs gs' ss ss' ws ws' ns ns' g s t n k e f i h c front = record {
      tl = g ∷ k.tl;
      ts = s ∷ k.ts;
      tw = t ∷ k.tw;
      back = k.back ++ n ∷ [];
      locks = k.locks ∙ (ap (λ xs. xs ++ k.tl) e ∙ append_assoc gs' (g ∷ []) k.tl);
      seats = k.seats ∙ (ap (λ xs. xs ++ k.ts) f ∙ append_assoc ss' (s ∷ []) k.ts);
      watchers = k.watchers ∙ (ap (λ xs. xs ++ k.tw) i ∙ append_assoc ws' (t ∷ []) k.tw);
      nodes = h ∙ (ap (λ xs. xs ++ n ∷ []) k.nodes ∙ append_assoc ns0 k.back (n ∷ []));
      closed = subst (λ xs. AreClosed sight goes xs (reverse (s ∷ k.ts)) (k.back ++ n ∷ [])) (sym (first_last g k.tl))
          (subst (λ ys. AreClosed sight goes (reverse k.tl ++ g ∷ []) ys (k.back ++ n ∷ [])) (sym (first_last s k.ts))
          (closed_more (reverse k.tl) (reverse k.ts) k.back g s n k.closed c));
      fronts = subst (λ xs. AreFrontsOf sight xs (k.back ++ n ∷ [])) (sym (first_last t k.tw)) (fronts_more (reverse k.tw) k.back t n k.fronts front);
      ready = (ready_parts gs gs' ss ss' g s k.ready e f).1;
      watching = (watching_parts gs gs' ws ws' g t k.watching e i).1;
    }

    pub ended : (gs0 : List (Guarded N)) (ss0 : List (Vec (Seat N))) (ws0 : List (Seat N)) (ns0 : List N) (gs : List (Guarded N))
        (ss : List (Vec (Seat N))) (ws : List (Seat N)) (ns : List N)
        → Closing gs0 ss0 ws0 ns0 gs ss ws ns → gs ≡ []
        → (back : List N) × (ns ≡ ns0 ++ back) × AreClosed sight goes (reverse gs0) (reverse ss0) back × AreFrontsOf sight (reverse ws0) back
    ended gs0 ss0 ws0 ns0 gs ss ws ns k e =
        let none : ss ≡ [] = sym (reverse-reverse ss)
        ∙ ap reverse (none_ready (reverse ss) (subst (λ xs. HaveAllSeats (reverse xs) (reverse ss)) e k.ready)) in
        let none_watch : ws ≡ [] = sym (reverse-reverse ws)
        ∙ ap reverse (none_watching (reverse ws) (subst (λ xs. AreWatching (reverse xs) (reverse ws)) e k.watching)) in
        let gs_is : gs0 ≡ k.tl = k.locks ∙ ap (λ xs. xs ++ k.tl) e in
        let ss_is : ss0 ≡ k.ts = k.seats ∙ ap (λ xs. xs ++ k.ts) none in
        let ws_is : ws0 ≡ k.tw = k.watchers ∙ ap (λ xs. xs ++ k.tw) none_watch in (
          k.back,
          k.nodes,
          subst (λ xs. AreClosed sight goes (reverse xs) (reverse ss0) k.back) (sym gs_is)
              (subst (λ ys. AreClosed sight goes (reverse k.tl) (reverse ys) k.back) (sym ss_is) k.closed),
          subst (λ xs. AreFrontsOf sight (reverse xs) k.back) (sym ws_is) k.fronts,
        )
