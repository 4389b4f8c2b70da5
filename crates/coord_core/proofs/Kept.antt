-- What lanes keep free is what their journal says.
use Rattle.std.proofs.Common.{◌≡◌, ℕ, zero, suc, ◌+◌, ◌-◌, ◌*◌, ◌/◌, ◌%◌, ◌<◌, ◌≤◌, List, length, take, get_or, refl, ap, sym, ◌∙◌, arith, inl, inr}
use Rattle.std.proofs.Common.{mod-lt}
use Rattle.std.specs.List.{sum_by}
use Rattle.std.proofs.Math.Nat.{mul-le-mul_right, suc-mul}
use Rattle.std.proofs.lemmas.Nat.{div-mul-add, mod-mul-add, div-add-mod'}
use Rattle.std.proofs.lemmas.List.{take_more, take_all, length-map}
use Rattle.std.proofs.lemmas.List.Sums.{sum_by_push}
use Rattle.cbdc_model.specs.Records.{Header, Record, Batch, txs_of, lock_of}
use Rattle.cbdc_model.specs.Slots.{Slot, Phase, slot, Idle, InLock, InFinish, InPrepare, InCommit, InDiscard}
use Rattle.cbdc_model.specs.Ranges.{home_of}
use Rattle.cbdc_model.specs.Room.{room_in, lane_room, kept_below, kept_room}
use Rattle.cbdc_model.specs.After.{IsJournal}
use Rattle.coord_core.specs.Masks.{mask_of}
use Rattle.coord_core.specs.Lanes.{CoordOf, IsOwnLane, IsCoordWhole, no_lane, coord_lane, lane_kept, kept_of}
use Rattle.coord_core.specs.Stands.{CoordStands}
use Rattle.coord_core.proofs.Journals.{IsCoordPhase, SlotFacts, slot_facts}

coord_room : (p : Phase) (m n k : ℕ) → IsCoordPhase p → (p ≡ InPrepare → n ≡ k) → room_in p m n ≡ room_in p 0 k
coord_room Idle m n k coord same = refl
coord_room InLock m n k coord same = absurd coord
coord_room InFinish m n k coord same = absurd coord
coord_room InPrepare m n k coord same = ap (λ x. room_in InPrepare 0 x) (same refl)
coord_room InCommit m n k coord same = refl
coord_room InDiscard m n k coord same = refl

idle_room : (p : Phase) (m n : ℕ) → p ≡ Idle → room_in p m n ≡ 0
idle_room p m n e = rw e refl

coord_phase : (h : Header) (lane : ℕ) (s : Slot) → SlotFacts h lane s → IsCoordPhase s.phase
coord_phase h lane s (inl e) = rw e tt
coord_phase h lane s (inr f) = f.2

-- of a lane of its own
own_room : (c : CoordOf) (J : List Record) (lane : ℕ) → IsCoordWhole c → CoordStands c J → IsJournal c.header J → IsOwnLane c.header lane
    → lane_room J lane ≡ lane_kept (coord_lane c lane)
own_room c J lane whole stands j own =
    let s : (coord_lane c lane).slot ≡ slot J lane = stands.slots lane own in
    let b : Batch = record { lane = lane; number = (slot J lane).number } in
    let masks : (slot J lane).phase ≡ InPrepare → length (txs_of J b) ≡ length (coord_lane c lane).masks =
    λ e. sym (ap length (stands.masks lane own e) ∙ length-map (txs_of J b) (λ t. mask_of c.header.shape t)) in
    coord_room (slot J lane).phase (length (lock_of J b)) (length (txs_of J b)) (length (coord_lane c lane).masks)
    (coord_phase c.header lane (slot J lane) (slot_facts c.header J lane whole.node j)) masks
    ∙ ap (λ x. room_in x.phase 0 (length (coord_lane c lane).masks)) (sym s)

-- of a lane of another coordinator
other_room : (h : Header) (J : List Record) (lane : ℕ) → h.node < h.shape.coordinators → IsJournal h J → (home_of h.shape lane ≡ h.node → ⊥)
    → lane_room J lane ≡ 0
other_room h J lane node j other = go (slot_facts h J lane node j)
  where
    go : SlotFacts h lane (slot J lane) → lane_room J lane ≡ 0
    go (inl e) = idle_room (slot J lane).phase _ _ (ap (λ x. x.phase) e)
    go (inr f) = absurd (other (sym f.1))

zeros : (J : List Record) (a k : ℕ) → ((m : ℕ) → a ≤ m → m < a + k → lane_room J m ≡ 0) → kept_below J (a + k) ≡ kept_below J a
zeros J a zero none = ap (kept_below J) (omega arith)
zeros J a (suc k) none =
    let e : a + suc k ≡ suc (a + k) = omega arith in
    let z : lane_room J (a + k) ≡ 0 = none (a + k) (omega arith) (omega arith) in
    let ih : kept_below J (a + k) ≡ kept_below J a = zeros J a k (λ m le lt. none m le (omega arith)) in
    ap (kept_below J) e ∙ ap (λ x. kept_below J (a + k) + x) z ∙ ap (λ x. x + 0) ih ∙ omega arith

own_sum : (c : CoordOf) (J : List Record) (i : ℕ) → IsCoordWhole c → CoordStands c J → IsJournal c.header J → i ≤ length c.lanes
    → kept_below J (c.header.node * c.header.shape.lanes + i)
    ≡ kept_below J (c.header.node * c.header.shape.lanes) + sum_by lane_kept (take i c.lanes)
own_sum c J zero whole stands j le =
    let e : c.header.node * c.header.shape.lanes + 0 ≡ c.header.node * c.header.shape.lanes = omega arith in
    ap (kept_below J) e ∙ omega arith
own_sum c J (suc i) whole stands j le =
    let L : ℕ = c.header.shape.lanes in
    let a : ℕ = c.header.node * L in
    let lt : i < L = omega (arith, whole.lanes) in
    let e : c.header.node * c.header.shape.lanes + suc i ≡ suc (c.header.node * c.header.shape.lanes + i) = omega arith in
    let own : IsOwnLane c.header (c.header.node * c.header.shape.lanes + i) = div-mul-add c.header.node L i lt in
    let place : (c.header.node * c.header.shape.lanes + i) % c.header.shape.lanes ≡ i = mod-mul-add c.header.node L i lt in
    let here : lane_room J (c.header.node * c.header.shape.lanes + i) ≡ lane_kept (get_or c.lanes i no_lane) =
    own_room c J (c.header.node * c.header.shape.lanes + i) whole stands j own ∙ ap (λ x. lane_kept (get_or c.lanes x no_lane)) place in
    let one : suc i ≡ i + 1 = omega arith in
    let more : sum_by lane_kept (take (suc i) c.lanes) ≡ sum_by lane_kept (take i c.lanes) + lane_kept (get_or c.lanes i no_lane) =
    ap (λ x. sum_by lane_kept (take x c.lanes)) one ∙ ap (sum_by lane_kept) (take_more c.lanes i no_lane (omega arith))
    ∙ sum_by_push lane_kept (take i c.lanes) (get_or c.lanes i no_lane) in
    let ih = own_sum c J i whole stands j (omega arith) in
    let here' : kept_below J (suc (c.header.node * c.header.shape.lanes + i))
    ≡ kept_below J (c.header.node * c.header.shape.lanes + i) + lane_kept (get_or c.lanes i no_lane) =
    ap (λ x. kept_below J (c.header.node * c.header.shape.lanes + i) + x) here in
    ap (kept_below J) e ∙ here' ∙ omega (arith, ih, more)

-- what is kept for all lanes below the count
pub kept_is : (c : CoordOf) (J : List Record) → IsCoordWhole c → CoordStands c J → IsJournal c.header J → kept_of c.lanes ≡ kept_room c.header.shape J
kept_is c J whole stands j =
    let L : ℕ = c.header.shape.lanes in
    let p : ℕ = c.header.node in
    let C : ℕ = c.header.shape.coordinators in
    let at_lane : (m : ℕ) → m / L ≡ p → p * L + m % L ≡ m = λ m e. ap (λ x. x * L + m % L) (sym e) ∙ div-add-mod' m L in
    let below : kept_below J (0 + p * L) ≡ 0 =
    zeros J 0 (p * L) (λ m le lt. other_room c.header J m whole.node j (λ e. (let h : p * L + m % L ≡ m = at_lane m e in omega arith))) in
    let own : kept_below J (p * L + L) ≡ kept_below J (p * L) + sum_by lane_kept (take L c.lanes) =
    own_sum c J L whole stands j (omega (arith, whole.lanes)) in
    let whole_list : take L c.lanes ≡ c.lanes = take_all L c.lanes (omega (arith, whole.lanes)) in
    let fits : suc p * L ≤ C * L = mul-le-mul_right L whole.node in
    let one_more : suc p * L ≡ p * L + L = suc-mul p L in
    let k : ℕ = C * L - (p * L + L) in
    let above : kept_below J ((p * L + L) + k) ≡ kept_below J (p * L + L) =
    zeros J (p * L + L) k (λ m le lt. other_room c.header J m whole.node j
    (λ e. (let h : p * L + m % L ≡ m = at_lane m e in let l : m % L < L = mod-lt m whole.limits.some_lane in omega arith))) in
    let all : (p * L + L) + k ≡ C * L = omega arith in
    let start : 0 + p * L ≡ p * L = omega arith in
    sym (sym (ap (kept_below J) all) ∙ above ∙ own ∙ ap (λ x. x + sum_by lane_kept (take L c.lanes)) (sym (ap (kept_below J) start) ∙ below)
    ∙ ap (λ x. 0 + sum_by lane_kept x) whole_list ∙ omega arith)
