-- A seat that has made nothing and left nothing in flight leaves nothing behind: without it the lock says the same.
use Rattle.std.proofs.Common.{◌≡◌, ◌⊎◌, inl, inr, ℕ, ◌+◌, ◌<◌, Bool, true, false, List, [], ◌∷◌, ◌++◌, length, append_assoc, refl, sym, ap, ◌∙◌}
use Rattle.std.proofs.Common.{subst, arith}
use Rattle.std.specs.Prelude.{Option, Some, None, if◌then◌else◌}
use Rattle.cbdc_model.specs.Records.{Record, tells_lane}
use Rattle.cbdc_model.specs.Lanes.{IsEnd}
use Rattle.cbdc_model.specs.Sights.{Sight}
use Rattle.cbdc_model.proofs.Telling.{in_lane_tells}
use Rattle.node_lock.specs.declared.views.Hand.{Hand}
use Rattle.node_lock.specs.declared.seat.Seat.{Seat}
use Rattle.node_lock.specs.Seats.{TableId, AllAt}
use Rattle.node_lock.specs.Moving.{of_lane}
use Rattle.node_lock.specs.Tickets.{times, is_at, total, hand_at_lane, HandOk, AllHands, HasLeft, AllDrawn, Done}
use Rattle.node_lock.proofs.Totals.{total_snoc, none_or_some, is_at_one}

none_first : (l : ℕ) (r : Record) (log : List Record) → of_lane l (r ∷ log) ≡ [] → (tells_lane l r ≡ true → ⊥) × (of_lane l log ≡ [])
none_first l r log e = go (tells_lane l r) refl e
  where
    go : (b : Bool) → tells_lane l r ≡ b → (if b then r ∷ of_lane l log else of_lane l log) ≡ [] → (tells_lane l r ≡ true → ⊥) × (of_lane l log ≡ [])
    go true is none = absurd (let z : r ∷ of_lane l log ≡ [] = none in cc)
    go false is none = (λ t. (let z : true ≡ false = sym t ∙ is in cc), none)

drawn_without : (lanes : List ℕ) (w : ℕ) (log : List Record) → of_lane w log ≡ [] → AllDrawn (lanes ++ w ∷ []) log → AllDrawn lanes log
drawn_without lanes w [] none d = tt
drawn_without lanes w (r ∷ log) none d =
    let n = none_first w r log none in
    let l : ℕ = d.0.0 in
    let all : times l (lanes ++ w ∷ []) ≡ times l lanes + is_at l w = total_snoc (is_at l) lanes w in
    let some : 0 < times l (lanes ++ w ∷ []) = d.0.2 in
    let here : 0 < times l lanes = elim (none_or_some (is_at l w)) [
      | inl z ↦ omega (arith, all, some, z)
      | inr p ↦ absurd (n.0 (subst (λ k. tells_lane k r ≡ true) (is_at_one l w p) (in_lane_tells l l r d.0.1 ∙ d.0.1)))
    ] in
    ((l, d.0.1, here), drawn_without lanes w log n.1 d.1)

module _ (start log : List Record) (flight : Option Record) (faults : ℕ) where
  all_but_last : (hs : List Hand) (h : Hand) → AllHands start log flight faults (hs ++ h ∷ [])
      → AllHands start log flight faults hs × HandOk start log flight faults h
  all_but_last [] h k = (tt, k.0)
  all_but_last (g ∷ hs) h k = let r = all_but_last hs h k.1 in ((k.0, r.0), r.1)

left_last : (whole : List Record) (flight : Option Record) (hs : List Hand) (h : Hand) → HasLeft whole flight (hs ++ h ∷ [])
    → HasLeft whole flight hs ⊎ (h.left ≡ flight)
left_last whole flight [] h (inl k) = inr k.0
left_last whole flight [] h (inr k) = absurd k
left_last whole flight (g ∷ hs) h (inl k) = inl (inl k)
left_last whole flight (g ∷ hs) h (inr k) = elim (left_last whole flight hs h k) [ inl m ↦ inl (inr m) | inr e ↦ inr e ]

pub unwatched : (first : Sight) (lanes : List ℕ) (hs : List Hand) (h : Hand) (last : Sight) → Done first (lanes ++ h.lane ∷ []) (hs ++ h ∷ []) last
    → h.made ≡ [] → h.left ≡ None → Done first lanes hs last
unwatched first lanes hs h last d made left =
    let hands = all_but_last first.seen d.log last.flight last.faults hs h d.hands in record {
      log = d.log;
      list = d.list;
      drawn = drawn_without lanes h.lane d.log (hands.1.made_is ∙ made) d.drawn;
      cover = λ x.
          let all = d.cover x in
          let own = total_snoc (hand_at_lane x) hs h in
          let rows : times x (lanes ++ h.lane ∷ []) ≡ times x lanes + is_at x h.lane = total_snoc (is_at x) lanes h.lane in
          omega (arith, all, own, rows);
      hands = hands.0;
      flight = elim d.flight [
        | inl none ↦ inl none
        | inr some ↦ elim some [
          | inl was ↦ inr (inl was)
          | inr k ↦ elim (left_last last.seen last.flight hs h k) [ inl m ↦ inr (inr m) | inr e ↦ inl (sym e ∙ left) ]
        ]
      ];
    }

-- what the last hand has seen is a beginning of the journal
pub watched_front : (first : Sight) (lanes : List ℕ) (hs : List Hand) (h : Hand) (last : Sight) → Done first lanes (hs ++ h ∷ []) last
    → IsEnd h.seen last.seen
watched_front first lanes hs h last d =
    let ok = (all_but_last first.seen d.log last.flight last.faults hs h d.hands).1 in
    (ok.rest, d.list ∙ ap (λ l. l ++ first.seen) ok.log_is ∙ append_assoc ok.rest ok.front first.seen ∙ ap (λ l. ok.rest ++ l) (sym ok.seen_is))

pub all_more : {N : Type 0} (id : TableId) (ss : List (Seat N)) (s : Seat N) → AllAt id ss → s.token.table_id ≡ id → AllAt id (ss ++ s ∷ [])
all_more id [] s k e = (e, tt)
all_more id (t ∷ ss) s k e = (k.0, all_more id ss s k.1 e)

pub one_longer : {N : Type 0} (ss : List (Seat N)) (s : Seat N) → length (ss ++ s ∷ []) ≡ length ss + 1
one_longer [] s = refl
one_longer (t ∷ ss) s = let e = one_longer ss s in omega (arith, e)
