-- The room that prepared batches have for their outcomes, behind each record.
use Rattle.std.proofs.Common.{◌≡◌, ◌≢◌, ◌⊎◌, ℕ, zero, suc, ◌%◌, ◌<◌, ◌≤◌, true, false, List, [], ◌∷◌, length, get_or, set, refl, ap, sym, ◌∙◌, subst}
use Rattle.std.proofs.Common.{arith, inl, inr, eqb, mod-lt}
use Rattle.std.specs.Prelude.{All}
use Rattle.std.proofs.lemmas.Bool.Decides.{eqb_tells}
use Rattle.std.proofs.lemmas.List.{get_or-set_same, get_or-set_other, length-map}
use Rattle.cbdc_model.specs.Records.{Header, Record, Prepare, Commit, Discard, Done}
use Rattle.cbdc_model.specs.Slots.{Slot, Idle, InPrepare, InCommit, InDiscard}
use Rattle.coord_core.specs.Masks.{mask_of, masks_of}
use Rattle.coord_core.specs.Lanes.{CoordOf, CoordLaneOf, IsCoordWhole, CoordAdmits, CoordTakes, IsIdleLane, IsFreshCoord, IsRoomed, AllRoomed}
use Rattle.coord_core.specs.Lanes.{OthersRoomed, IsSameButRoom, HasNoLessRoom, KeepsOtherRooms, no_lane, coord_lane, with_lane, with_prepared}
use Rattle.coord_core.specs.Lanes.{with_slot}

pub place_in : (c : CoordOf) (lane : ℕ) → IsCoordWhole c → lane % c.header.shape.lanes < length c.lanes
place_in c lane whole = rw whole.lanes (mod-lt lane whole.limits.some_lane)

-- all lanes have room where one is set
pub room_set : (c : CoordOf) (lane : ℕ) (l : CoordLaneOf) → lane % c.header.shape.lanes < length c.lanes → IsRoomed l → OthersRoomed c lane → (q : ℕ)
    → IsRoomed (coord_lane (with_lane c lane l) q)
room_set c lane l lt roomed others q = go (eqb_tells (q % c.header.shape.lanes) (lane % c.header.shape.lanes))
  where
    go : ((eqb (q % c.header.shape.lanes) (lane % c.header.shape.lanes) ≡ true) × (q % c.header.shape.lanes ≡ lane % c.header.shape.lanes))
        ⊎ ((eqb (q % c.header.shape.lanes) (lane % c.header.shape.lanes) ≡ false) × (q % c.header.shape.lanes ≢ lane % c.header.shape.lanes))
        → IsRoomed (coord_lane (with_lane c lane l) q)
    go (inl (t, e)) =
        let is : coord_lane (with_lane c lane l) q ≡ l =
        ap (λ x. get_or (set c.lanes (lane % c.header.shape.lanes) l) x no_lane) e
        ∙ get_or-set_same c.lanes (lane % c.header.shape.lanes) l no_lane lt in
        let P : CoordLaneOf → Type 0 = λ x. IsRoomed x in subst P (sym is) roomed
    go (inr (f, ne)) =
        let is : coord_lane (with_lane c lane l) q ≡ coord_lane c q =
        get_or-set_other c.lanes (lane % c.header.shape.lanes) (q % c.header.shape.lanes) l no_lane (λ e. ne e) in
        let P : CoordLaneOf → Type 0 = λ x. IsRoomed x in subst P (sym is) (others q ne)

-- all lanes have room, whatever room they have more
pub rooms_grow : (c d : CoordOf) → IsSameButRoom c d → HasNoLessRoom c d → AllRoomed c → AllRoomed d
rooms_grow c d same grown all lane phase =
    let h : length (coord_lane c lane).masks ≤ (coord_lane c lane).room = all lane (sym (ap (λ s. s.phase) (same.slots lane)) ∙ phase) in
    omega (arith, h, grown lane, ap length (same.masks lane))

-- and all others where only one gave it away
pub others_roomed : (c d : CoordOf) (lane : ℕ) → IsSameButRoom c d → KeepsOtherRooms c d lane → AllRoomed c → OthersRoomed d lane
others_roomed c d lane same keeps all q ne phase =
    let ne' : q % c.header.shape.lanes ≢ lane % c.header.shape.lanes =
    λ e. ne (let P : ℕ → Type 0 = λ n. q % n ≡ lane % n in subst P (ap (λ h. h.shape.lanes) (sym same.header)) e) in
    let h : length (coord_lane c q).masks ≤ (coord_lane c q).room = all q (sym (ap (λ s. s.phase) (same.slots q)) ∙ phase) in
    omega (arith, h, keeps q ne', ap length (same.masks q))

pub all_others : (c : CoordOf) (lane : ℕ) → AllRoomed c → OthersRoomed c lane
all_others c lane all q ne = all q

-- all lanes have room behind a record that is taken in
turn_rooms : (c d : CoordOf) (stamp lane : ℕ) (s : Slot) → IsCoordWhole c → d ≡ with_slot c stamp lane s → (s.phase ≡ InPrepare → ⊥) → AllRoomed c
    → AllRoomed d
turn_rooms c d stamp lane s whole is other rooms =
    let n : CoordLaneOf = record (coord_lane c lane) { slot = s } in
    let roomed : AllRoomed (with_slot c stamp lane s) = room_set c lane n (place_in c lane whole) (λ e. absurd (other e)) (all_others c lane rooms) in
    let P : CoordOf → Type 0 = λ x. AllRoomed x in subst P (sym is) roomed

pub taken_rooms : (c d : CoordOf) (r : Record) → IsCoordWhole c → CoordAdmits c r → CoordTakes c d r → AllRoomed c → AllRoomed d
taken_rooms c d (Prepare stamp b txs) whole next takes rooms =
    let n : CoordLaneOf = record (coord_lane c b.lane)
    { slot = record { number = b.number; phase = InPrepare }; masks = masks_of c.header.shape txs } in
    let masks : length (masks_of c.header.shape txs) ≡ length txs = length-map txs (λ t. mask_of c.header.shape t) in
    let roomed : AllRoomed (with_prepared c stamp b txs) =
    room_set c b.lane n (place_in c b.lane whole) (λ e. omega (arith, masks, next.1)) (all_others c b.lane rooms) in
    let P : CoordOf → Type 0 = λ x. AllRoomed x in subst P (sym takes) roomed
taken_rooms c d (Commit stamp b os) whole next takes rooms =
    turn_rooms c d stamp b.lane (record { number = b.number; phase = InCommit }) whole takes (λ e. cc) rooms
taken_rooms c d (Discard stamp b) whole next takes rooms =
    turn_rooms c d stamp b.lane (record { number = b.number; phase = InDiscard }) whole takes (λ e. cc) rooms
taken_rooms c d (Done stamp b) whole next takes rooms =
    turn_rooms c d stamp b.lane (record { number = b.number; phase = Idle }) whole takes (λ e. cc) rooms
taken_rooms c d other whole next takes rooms = absurd next

-- lanes without a batch have room
idle_at : (i : ℕ) (ls : List CoordLaneOf) → All IsIdleLane ls → (get_or ls i no_lane).slot.phase ≡ Idle
idle_at i [] all = refl
idle_at zero (l ∷ ls) all = ap (λ s. s.phase) (all zero l (omega arith)).slot
idle_at (suc i) (l ∷ ls) all = idle_at i ls (λ k d lt. all (suc k) d (omega arith))

pub fresh_rooms : (h : Header) (c : CoordOf) → IsFreshCoord h c → AllRoomed c
fresh_rooms h c fresh lane phase = let e : InPrepare ≡ Idle = sym phase ∙ idle_at (lane % c.header.shape.lanes) c.lanes fresh.lanes in cc
