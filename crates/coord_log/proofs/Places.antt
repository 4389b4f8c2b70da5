-- The room that the later records of open batches have, behind each record.
use Rattle.std.proofs.Common.{◌≡◌, ℕ, ◌+◌, ◌*◌, ◌%◌, ◌≤◌, List, length, get_or, ap, sym, subst, arith}
use Rattle.std.specs.Prelude.{sum_by}
use Rattle.std.proofs.lemmas.List.{length-map}
use Rattle.std.proofs.lemmas.List.Sums.{sum_by-set, sum_by-le}
use Rattle.outside.specs.declared.disk.Disk.{Ghosts}
use Rattle.gate_journal.specs.Shown.{disk_of, gate_of}
use Rattle.cbdc_model.specs.Records.{Batch, Compact, Outcome, Won, Lacks, Blocked, Prepare, Commit, Discard, Done}
use Rattle.cbdc_model.specs.Slots.{Slot, Idle, InPrepare, InCommit, InDiscard}
use Rattle.cbdc_model.specs.Room.{size_of, outcome_size, room_in, room_behind_prepare}
use Rattle.record_log.specs.Logs.{HasLogRoom}
use Rattle.record_log.specs.declared.log.RecordLog.{RecordLog}
use Rattle.coord_core.specs.Masks.{mask_of, masks_of}
use Rattle.coord_core.specs.Lanes.{CoordOf, CoordLaneOf, IsCoordWhole, CoordAdmits, CoordTakes, AllRoomed, OthersRoomed, no_lane, coord_lane}
use Rattle.coord_core.specs.Lanes.{with_lane, with_prepared, with_slot, lane_kept, kept_of, ahead_in, ahead_of}
use Rattle.coord_core.proofs.Rooms.{place_in, room_set, all_others}
use Rattle.coord_log.specs.Inside.{largest, HasPlace}

-- a lane set changes the sums
kept_set : (c : CoordOf) (lane : ℕ) (l : CoordLaneOf) → IsCoordWhole c
    → kept_of (with_lane c lane l).lanes + lane_kept (coord_lane c lane) ≡ kept_of c.lanes + lane_kept l
kept_set c lane l whole = sum_by-set lane_kept c.lanes (lane % c.header.shape.lanes) l no_lane (place_in c lane whole)

ahead_set : (c : CoordOf) (lane : ℕ) (l : CoordLaneOf) → IsCoordWhole c
    → ahead_of (with_lane c lane l).lanes + ahead_in (coord_lane c lane).slot.phase ≡ ahead_of c.lanes + ahead_in l.slot.phase
ahead_set c lane l whole = sum_by-set (λ x. ahead_in x.slot.phase) c.lanes (lane % c.header.shape.lanes) l no_lane (place_in c lane whole)

pub room_for_fewer : {D : Type 0} {G : Ghosts D} (l : RecordLog D G) (m n bytes : ℕ) → n ≤ m → HasLogRoom l m bytes → HasLogRoom l n bytes
room_for_fewer l m n bytes le room = record { records = omega (arith, room.records); body = room.body; row = room.row }

-- behind a Prepare
pub prepare_place : {D : Type 0} {G : Ghosts D} (l : RecordLog D G) (c d : CoordOf) (stamp : ℕ) (b : Batch) (txs : List Compact)
    → IsCoordWhole c → CoordAdmits c (Prepare stamp b txs) → CoordTakes c d (Prepare stamp b txs) → AllRoomed c
    → HasLogRoom l (ahead_of c.lanes + 4) largest
    → gate_of l.journal + 1 + (size_of (Prepare stamp b txs) + room_behind_prepare (length txs) + kept_of c.lanes) ≤ G.limit (disk_of l.journal)
    → HasPlace l d (size_of (Prepare stamp b txs)) 1
prepare_place {D} {G} l c d stamp b txs whole next takes rooms memory space =
    let n : CoordLaneOf = record (coord_lane c b.lane)
    { slot = record { number = b.number; phase = InPrepare }; masks = masks_of c.header.shape txs } in
    let masks : length (masks_of c.header.shape txs) ≡ length txs = length-map txs (λ t. mask_of c.header.shape t) in
    let idle : lane_kept (coord_lane c b.lane) ≡ 0 = ap (λ p. room_in p 0 (length (coord_lane c b.lane).masks)) next.0.1 in
    let idle' : ahead_in (coord_lane c b.lane).slot.phase ≡ 0 = ap ahead_in next.0.1 in
    let kept : kept_of d.lanes ≡ kept_of (with_lane c b.lane n).lanes = ap (λ x. kept_of x.lanes) takes in
    let ahead : ahead_of d.lanes ≡ ahead_of (with_lane c b.lane n).lanes = ap (λ x. ahead_of x.lanes) takes in
    let k : kept_of (with_lane c b.lane n).lanes + lane_kept (coord_lane c b.lane)
    ≡ kept_of c.lanes + (110 + 57 * length (masks_of c.header.shape txs)) = kept_set c b.lane n whole in
    let a : ahead_of (with_lane c b.lane n).lanes + ahead_in (coord_lane c b.lane).slot.phase ≡ ahead_of c.lanes + 3 = ahead_set c b.lane n whole in
    let roomed : AllRoomed (with_prepared c stamp b txs) =
    room_set c b.lane n (place_in c b.lane whole) (λ e. omega (arith, masks, next.1)) (all_others c b.lane rooms) in
    record {
      space = omega (arith, space, kept, k, idle, masks);
      rooms = let P : CoordOf → Type 0 = λ x. AllRoomed x in subst P (sym takes) roomed;
      memory = room_for_fewer l (ahead_of c.lanes + 4) (1 + ahead_of d.lanes) largest (omega (arith, ahead, a, idle')) memory;
    }

-- behind a record that sets a lane's phase: what it and the later ones take is no more than what was kept
turn_place : {D : Type 0} {G : Ghosts D} (l : RecordLog D G) (c d : CoordOf) (stamp lane size : ℕ) (s : Slot)
    → IsCoordWhole c → d ≡ with_slot c stamp lane s → (s.phase ≡ InPrepare → ⊥) → OthersRoomed c lane
    → size + room_in s.phase 0 (length (coord_lane c lane).masks) ≤ lane_kept (coord_lane c lane)
    → 1 + ahead_in s.phase ≤ ahead_in (coord_lane c lane).slot.phase
    → gate_of l.journal + 1 + kept_of c.lanes ≤ G.limit (disk_of l.journal) → HasLogRoom l (ahead_of c.lanes) largest → HasPlace l d size 1
turn_place {D} {G} l c d stamp lane size s whole is other rooms fits fewer_ahead space memory =
    let n : CoordLaneOf = record (coord_lane c lane) { slot = s } in
    let kept : kept_of d.lanes ≡ kept_of (with_lane c lane n).lanes = ap (λ x. kept_of x.lanes) is in
    let ahead : ahead_of d.lanes ≡ ahead_of (with_lane c lane n).lanes = ap (λ x. ahead_of x.lanes) is in
    let k : kept_of (with_lane c lane n).lanes + lane_kept (coord_lane c lane)
    ≡ kept_of c.lanes + room_in s.phase 0 (length (coord_lane c lane).masks) = kept_set c lane n whole in
    let a : ahead_of (with_lane c lane n).lanes + ahead_in (coord_lane c lane).slot.phase ≡ ahead_of c.lanes + ahead_in s.phase =
    ahead_set c lane n whole in
    let roomed : AllRoomed (with_slot c stamp lane s) = room_set c lane n (place_in c lane whole) (λ e. absurd (other e)) rooms in
    record {
      space = omega (arith, space, kept, k, fits);
      rooms = let P : CoordOf → Type 0 = λ x. AllRoomed x in subst P (sym is) roomed;
      memory = room_for_fewer l (ahead_of c.lanes) (1 + ahead_of d.lanes) largest (omega (arith, ahead, a, fewer_ahead)) memory;
    }

outcome_le : (o : Outcome) → outcome_size o ≤ 57
outcome_le Won = omega arith
outcome_le (Lacks shard x) = omega arith
outcome_le (Blocked shard x by) = omega arith

pub commit_size : (os : List Outcome) → sum_by outcome_size os ≤ length os * 57
commit_size os = sum_by-le outcome_size 57 os (λ k d lt. outcome_le (get_or os k d))

pub commit_place : {D : Type 0} {G : Ghosts D} (l : RecordLog D G) (c d : CoordOf) (stamp : ℕ) (b : Batch) (os : List Outcome)
    → IsCoordWhole c → CoordAdmits c (Commit stamp b os) → CoordTakes c d (Commit stamp b os) → OthersRoomed c b.lane
    → gate_of l.journal + 1 + kept_of c.lanes ≤ G.limit (disk_of l.journal) → HasLogRoom l (ahead_of c.lanes) largest
    → HasPlace l d (size_of (Commit stamp b os)) 1
commit_place l c d stamp b os whole next takes rooms space memory =
    let p : (coord_lane c b.lane).slot.phase ≡ InPrepare = ap (λ s. s.phase) next.1 in
    let old : lane_kept (coord_lane c b.lane) ≡ 110 + 57 * length (coord_lane c b.lane).masks =
    ap (λ x. room_in x 0 (length (coord_lane c b.lane).masks)) p in
    let old' : ahead_in (coord_lane c b.lane).slot.phase ≡ 3 = ap ahead_in p in
    turn_place l c d stamp b.lane (size_of (Commit stamp b os)) (record { number = b.number; phase = InCommit }) whole takes (λ e. cc) rooms
    (omega (arith, old, commit_size os, next.2)) (omega (arith, old')) space memory

pub discard_place : {D : Type 0} {G : Ghosts D} (l : RecordLog D G) (c d : CoordOf) (stamp : ℕ) (b : Batch)
    → IsCoordWhole c → CoordAdmits c (Discard stamp b) → CoordTakes c d (Discard stamp b) → OthersRoomed c b.lane
    → gate_of l.journal + 1 + kept_of c.lanes ≤ G.limit (disk_of l.journal) → HasLogRoom l (ahead_of c.lanes) largest
    → HasPlace l d (size_of (Discard stamp b)) 1
discard_place l c d stamp b whole next takes rooms space memory =
    let p : (coord_lane c b.lane).slot.phase ≡ InCommit = ap (λ s. s.phase) next.1 in
    let old : lane_kept (coord_lane c b.lane) ≡ 68 = ap (λ x. room_in x 0 (length (coord_lane c b.lane).masks)) p in
    let old' : ahead_in (coord_lane c b.lane).slot.phase ≡ 2 = ap ahead_in p in
    turn_place l c d stamp b.lane 34 (record { number = b.number; phase = InDiscard }) whole takes (λ e. cc) rooms (omega (arith, old))
    (omega (arith, old')) space memory

pub done_place : {D : Type 0} {G : Ghosts D} (l : RecordLog D G) (c d : CoordOf) (stamp : ℕ) (b : Batch)
    → IsCoordWhole c → CoordAdmits c (Done stamp b) → CoordTakes c d (Done stamp b) → OthersRoomed c b.lane
    → gate_of l.journal + 1 + kept_of c.lanes ≤ G.limit (disk_of l.journal) → HasLogRoom l (ahead_of c.lanes) largest
    → HasPlace l d (size_of (Done stamp b)) 1
done_place l c d stamp b whole next takes rooms space memory =
    let p : (coord_lane c b.lane).slot.phase ≡ InDiscard = ap (λ s. s.phase) next.1 in
    let old : lane_kept (coord_lane c b.lane) ≡ 34 = ap (λ x. room_in x 0 (length (coord_lane c b.lane).masks)) p in
    let old' : ahead_in (coord_lane c b.lane).slot.phase ≡ 1 = ap ahead_in p in
    turn_place l c d stamp b.lane 34 (record { number = b.number; phase = Idle }) whole takes (λ e. cc) rooms (omega (arith, old))
    (omega (arith, old')) space memory

-- what an open lane still needs is kept: its room and its memory
pub next_fits : (c : CoordOf) (lane size : ℕ) → IsCoordWhole c → size ≤ lane_kept (coord_lane c lane) → size ≤ kept_of c.lanes
next_fits c lane size whole le =
    let n : CoordLaneOf = record (coord_lane c lane) { slot = record { number = 0; phase = Idle } } in
    omega (arith, kept_set c lane n whole)

pub next_ahead : (c : CoordOf) (lane : ℕ) → IsCoordWhole c → 1 ≤ ahead_in (coord_lane c lane).slot.phase → 1 ≤ ahead_of c.lanes
next_ahead c lane whole le =
    let n : CoordLaneOf = record (coord_lane c lane) { slot = record { number = 0; phase = Idle } } in
    omega (arith, ahead_set c lane n whole)
