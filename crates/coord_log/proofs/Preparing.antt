-- What is owed to a call that prepares, and that its Prepare has its place.
use Rattle.std.proofs.Common.{◌≡◌, ℕ, suc, ◌+◌, ◌*◌, ◌/◌, ◌%◌, ◌<◌, ◌≤◌, ◌^◌, ◌-◌, min, true, List, length, reverse, get_or, refl, ap, sym, ◌∙◌}
use Rattle.std.proofs.Common.{subst, arith, None, Option, Err, mod-lt}
use Rattle.std.specs.Prelude.{All}
use Rattle.std.proofs.lemmas.Bool.{le-ltb, lt-ltb}
use Rattle.std.proofs.Math.Nat.{mul-le-mul_right, suc-mul}
use Rattle.std.proofs.lemmas.Nat.{div-add-mod'}
use Rattle.std.proofs.lemmas.List.Sums.{sum_by-le}
use Rattle.outside.specs.declared.disk.Disk.{Ghosts}
use Rattle.gate_journal.specs.Shown.{disk_of, gate_of, broken_of}
use Rattle.cbdc_types.specs.declared.calls.NodeFault.{NodeFault}
use Rattle.cbdc_types.specs.declared.calls.NodeFault.TheVariants.{Broken, Refused as Refuses, ClockEnd, Full, DiskFault, Memory}
use Rattle.cbdc_model.specs.Records.{Header, Shape, Record, Batch, Compact, Prepare}
use Rattle.cbdc_model.specs.Slots.{slot}
use Rattle.cbdc_model.specs.Grammar.{IsInGrammar}
use Rattle.cbdc_model.specs.After.{IsJournal}
use Rattle.cbdc_model.specs.Next.{next_stamp}
use Rattle.cbdc_model.specs.Due.{Due, Answers, Writes, last_early, if_room, used_of, new_batch, prepare_due, prepare_record}
use Rattle.cbdc_model.specs.Room.{size_of, compact_size, room_behind_prepare, kept_room, need_of}
use Rattle.cbdc_model.specs.Sights.{Sight, Stays, MeetsFault}
use Rattle.record_log.specs.Logs.{HasLogRoom, KeepsRoom, IsUntouched}
use Rattle.record_log.specs.declared.log.RecordLog.{RecordLog}
use Rattle.node_journal.specs.Nodes.{broken_behind}
use Rattle.coord_core.specs.Hashes.{AreHashed}
use Rattle.coord_core.specs.Lanes.{CoordOf, IsCoordWhole, IsOwnLane, CoordAdmits, IsSameButRoom, HasNoLessRoom, no_lane, coord_lane, kept_of}
use Rattle.coord_core.specs.Lanes.{ahead_of, next_core_batch}
use Rattle.coord_core.specs.Stands.{CoordStands}
use Rattle.coord_log.specs.Logs.{HasShortLists}
use Rattle.node_journal.specs.declared.nodes.Node.{Node}
use Rattle.coord_log.specs.Inside.{largest, StandsOn, IsCoordSound, IsDue, IsNoRoom}
use Rattle.coord_core.proofs.Rooms.{rooms_grow}
use Rattle.coord_core.proofs.Same.{stands_same}
use Rattle.coord_log.proofs.Places.{prepare_place, room_for_fewer}
use Rattle.coord_core.proofs.Kept.{kept_is}
use Rattle.coord_log.proofs.Owed.{in_time}
use Rattle.coord_log.proofs.Written.{stands_on}

-- more room, and nothing else
pub sound_kept : {D : Type 0} {G : Ghosts D} (n : Node CoordOf D G) (l : RecordLog D G) (c : CoordOf) → IsUntouched n.log l
    → l.records.items ≡ n.log.records.items → l.header ≡ n.log.header
    → KeepsRoom n.log l → IsSameButRoom n.core c → HasNoLessRoom n.core c → IsCoordSound n
    → IsCoordSound {D = D} {G = G} (record { log = l; core = c; opened = n.opened; flight = n.flight })
sound_kept {D} {G} n l c untouched records header keeps same grown sound = record {
  on = stands_on n l c untouched records header same sound.on;
  ready = λ e. (let ready = sound.ready (sym untouched.broken ∙ e) in record {
    space = omega (arith, untouched.gate, ready.space, same.kept, ap G.limit untouched.disk);
    rooms = rooms_grow n.core c same grown ready.rooms;
    memory = let P : ℕ → Type 0 = λ k. HasLogRoom l (0 + k) largest in
        subst P (sym same.ahead) (keeps (0 + ahead_of n.core.lanes) largest ready.memory);
  });
}

-- there was no room
pub room_refused : {A : Type 0} (due : Due A) (old new : Sight) (J : List Record) (used need limit : ℕ) (fault : NodeFault)
    → IsNoRoom used need limit fault
    → (limit < used + need → due ≡ Answers (Err (Full used need limit))) → Stays old new J → MeetsFault true due old new J fault
room_refused due old new J used need limit (Full u n c) none owed stays = (
  owed none.0 ∙ ap (λ x. Answers (Err (Full x need limit))) (sym none.1) ∙ ap (λ x. Answers (Err (Full u x limit))) (sym none.2)
      ∙ ap (λ x. Answers (Err (Full u n x))) (sym none.3),
  stays,
)
room_refused due old new J used need limit Memory none owed stays = (refl, stays)
room_refused due old new J used need limit (Broken since) none owed stays = absurd none
room_refused due old new J used need limit (Refuses why) none owed stays = absurd none
room_refused due old new J used need limit (ClockEnd stamp) none owed stays = absurd none
room_refused due old new J used need limit DiskFault none owed stays = absurd none

-- and none of these faults is the disk's
pub room_unbroken : (A : Type 0) (used need limit count : ℕ) (before : Option ℕ) (fault : NodeFault) → IsNoRoom used need limit fault
    → before ≡ broken_behind {A = A} (Err fault) count before
room_unbroken A used need limit count before (Full u n c) none = refl
room_unbroken A used need limit count before Memory none = refl
room_unbroken A used need limit count before (Broken since) none = absurd none
room_unbroken A used need limit count before (Refuses why) none = absurd none
room_unbroken A used need limit count before (ClockEnd stamp) none = absurd none
room_unbroken A used need limit count before DiskFault none = absurd none

compact_le : (t : Compact) → HasShortLists t → compact_size t ≤ 16368
compact_le t short = omega (arith, short.0, short.1)

-- a Prepare is small
pub prepare_small : (stamp : ℕ) (b : Batch) (txs : List Compact) → All HasShortLists txs → length txs ≤ 1024 → size_of (Prepare stamp b txs) < 2 ^ 25
prepare_small stamp b txs short le = omega (arith, le, sum_by-le compact_size 16368 txs (λ k d lt. compact_le (get_or txs k d) (short k d lt)))

-- and in the grammar
own_below : (h : Header) (lane : ℕ) → 1 ≤ h.shape.lanes → h.node < h.shape.coordinators → lane / h.shape.lanes ≡ h.node
    → lane < h.shape.coordinators * h.shape.lanes
own_below h lane some node own =
    let at : h.node * h.shape.lanes + lane % h.shape.lanes ≡ lane =
    ap (λ x. x * h.shape.lanes + lane % h.shape.lanes) (sym own) ∙ div-add-mod' lane h.shape.lanes in
    omega (arith, at, mod-lt lane some, mul-le-mul_right h.shape.lanes node, suc-mul h.node h.shape.lanes)

pub prepare_grammar : (h : Header) (c : CoordOf) (lane : ℕ) (txs : List Compact) → IsCoordWhole c → c.header ≡ h → IsOwnLane c.header lane
    → c.last + 1 ≤ last_early → 1 ≤ length txs → length txs ≤ h.shape.batch
    → All HasShortLists txs → All AreHashed txs → IsInGrammar h (Prepare (c.last + 1) (next_core_batch c lane) txs)
prepare_grammar h c lane txs whole is own early some limit short hashed =
    let W : Header → Type 0 = λ x. (x.node < x.shape.coordinators) × (1 ≤ x.shape.lanes) × (lane / x.shape.lanes ≡ x.node) in
    let w : W h = subst W is (whole.node, whole.limits.some_lane, own) in
    let number : (coord_lane c lane).slot.number ≤ c.last =
    whole.numbers (lane % c.header.shape.lanes) no_lane (rw whole.lanes (mod-lt lane whole.limits.some_lane)) in (
      ((omega arith), early),
      ((own_below h lane w.1 w.0 w.2), (omega arith), (omega (arith, number, early))),
      w.0,
      (some, limit),
      (λ k d lt. record {
        id = (hashed k d lt).id;
        inputs = ((short k d lt).0, (hashed k d lt).inputs);
        outputs = ((short k d lt).1, (hashed k d lt).outputs);
      }),
    )

pub prepare_ready : {D : Type 0} {G : Ghosts D} (n : Node CoordOf D G) (l : RecordLog D G) (c : CoordOf) (lane size : ℕ) (txs : List Compact)
    (r : Record)
    → IsCoordWhole c → IsSameButRoom n.core c → HasNoLessRoom n.core c → IsCoordSound n → broken_of n.log.journal ≡ None → IsUntouched n.log l
    → l.records.items ≡ n.log.records.items → l.header ≡ n.log.header
    → IsOwnLane n.core.header lane → 1 ≤ length txs → length txs ≤ n.core.header.shape.batch → All HasShortLists txs → All AreHashed txs
    → n.core.last + 1 ≤ last_early
    → r ≡ Prepare (n.core.last + 1) (next_core_batch n.core lane) txs → CoordAdmits c r → size ≡ size_of r → HasLogRoom l (ahead_of c.lanes + 4) size
    → HasLogRoom l (ahead_of c.lanes + 4) largest
    → gate_of n.log.journal + 1 + (size + room_behind_prepare (length txs) + kept_of c.lanes) ≤ G.limit (disk_of n.log.journal)
    → IsDue {D = D} {G = G} (record { log = l; core = c; opened = n.opened; flight = n.flight }) r
prepare_ready {D} {G} n l c lane size txs r whole same grown sound unbroken untouched records header own some limit short hashed early r-is next
    size-is room memory space =
    let b : CoordOf = n.core in
    let J : List Record = reverse l.records.items in
    let on : StandsOn {D = D} {G = G} (record { log = l; core = c; opened = n.opened; flight = n.flight }) =
    stands_on n l c untouched records header same sound.on in
    let limits : G.limit (disk_of l.journal) ≡ G.limit (disk_of n.log.journal) = ap G.limit untouched.disk in
    let batch : next_core_batch c lane ≡ next_core_batch n.core lane = ap (λ s. record { lane = lane; number = s.number + 1 }) (same.slots lane) in
    let is : r ≡ Prepare (c.last + 1) (next_core_batch c lane) txs =
    r-is ∙ ap (λ x. Prepare (x + 1) (next_core_batch n.core lane) txs) (sym same.last) ∙ ap (λ x. Prepare (c.last + 1) x txs) (sym batch) in
    let P : Record → Type 0 = λ x. IsDue {D = D} {G = G} (record { log = l; core = c; opened = n.opened; flight = n.flight }) x in
    let next' : CoordAdmits c (Prepare (c.last + 1) (next_core_batch c lane) txs) = let Q : Record
    → Type 0 = λ x. CoordAdmits c x in subst Q is next in
    let own' : IsOwnLane c.header lane = let Q : Header → Type 0 = λ h. IsOwnLane h lane in subst Q (sym same.header) own in
    let batch_le : length txs ≤ l.header.shape.batch = let Q : Header
    → Type 0 = λ h. length txs ≤ h.shape.batch in subst Q (sound.on.header ∙ sym header) limit in
    let s : size ≡ size_of (Prepare (c.last + 1) (next_core_batch c lane) txs) = size-is ∙ ap size_of is in
    let used : gate_of n.log.journal + 1 ≡ used_of (reverse l.records.items) =
    sound.on.node.used unbroken ∙ ap (λ x. used_of (reverse x)) (sym records) in
    let there : IsJournal c.header (reverse l.records.items) = let Q : Header
    → Type 0 = λ h. IsJournal h (reverse l.records.items) in subst Q (sym on.header) on.node.journal in
    let kept : kept_of c.lanes ≡ kept_room l.header.shape (reverse l.records.items) =
    kept_is c J whole on.stands there ∙ ap (λ h. kept_room h.shape (reverse l.records.items)) on.header in
    let room' : HasLogRoom l 1 (size_of (Prepare (c.last + 1) (next_core_batch c lane) txs)) = let Q : ℕ
    → Type 0 = λ k. HasLogRoom l 1 k in subst Q s (room_for_fewer l (ahead_of c.lanes + 4) 1 size (omega arith) room) in
    subst P (sym is) (record {
      on = on;
      whole = untouched.broken ∙ unbroken;
      next = next';
      grammar = prepare_grammar l.header c lane txs whole on.header own' (omega (arith, early, same.last)) some batch_le short hashed;
      size = room';
      needs = omega (arith, used, limits, space, s, kept);
      place = λ d takes. prepare_place l c d (c.last + 1) (next_core_batch c lane) txs whole next' takes
          (rooms_grow b c same grown (sound.ready unbroken).rooms) memory (omega (arith, untouched.gate, limits, space, s));
    })

-- what the lanes say of the Prepare is what the journal says
pub record_is : (c : CoordOf) (J : List Record) (lane : ℕ) (txs : List Compact) → CoordStands c J → IsOwnLane c.header lane
    → Prepare (c.last + 1) (next_core_batch c lane) txs ≡ prepare_record J lane txs
record_is c J lane txs stands own =
    let s : c.last + 1 ≡ next_stamp J 0 = omega (arith, stands.last) in
    let n : (coord_lane c lane).slot.number + 1 ≡ suc (slot J lane).number = omega (arith, ap (λ x. x.number) (stands.slots lane own)) in
    ap (λ x. Prepare x (next_core_batch c lane) txs) s ∙ ap (λ x. Prepare (next_stamp J 0) (record { lane = lane; number = x }) txs) n

-- what is owed where the room is known
pub prepare_by : (K : Shape) (J : List Record) (broken : Option ℕ) (capacity lane : ℕ) (txs : List Compact) → broken ≡ None
    → next_stamp J 0 ≤ last_early
    → prepare_due K capacity lane txs broken J ≡ if_room (used_of J) (need_of K J (prepare_record J lane txs)) capacity
    (Writes (new_batch J lane, next_stamp J 0) (prepare_record J lane txs))
prepare_by K J broken capacity lane txs whole early =
    in_time broken last_early (next_stamp J 0) (if_room (used_of J) (need_of K J (prepare_record J lane txs)) capacity
    (Writes (new_batch J lane, next_stamp J 0) (prepare_record J lane txs))) whole early

pub room_is_there : {A : Type 0} (used need capacity : ℕ) (due : Due A) → used + need ≤ capacity → if_room used need capacity due ≡ due
room_is_there used need capacity due le = let f = le-ltb capacity (used + need) le in rw f refl

pub is_full : {A : Type 0} (used need capacity : ℕ) (due : Due A) → capacity < used + need
    → if_room used need capacity due ≡ Answers (Err (Full used need capacity))
is_full used need capacity due lt = let t = lt-ltb capacity (used + need) lt in rw t refl

-- what the lanes add up to is what the journal needs
pub need_is : (c : CoordOf) (K : Shape) (J : List Record) (lane size : ℕ) (txs : List Compact) (r : Record) → IsCoordWhole c → CoordStands c J
    → IsJournal c.header J → K ≡ c.header.shape → r ≡ prepare_record J lane txs → size ≡ size_of r
    → size + room_behind_prepare (length txs) + kept_of c.lanes ≡ need_of K J (prepare_record J lane txs)
need_is c K J lane size txs r whole stands j shape r-is s =
    let a : size ≡ size_of (prepare_record J lane txs) = s ∙ ap size_of r-is in
    let k : kept_of c.lanes ≡ kept_room K J = kept_is c J whole stands j ∙ ap (λ x. kept_room x J) (sym shape) in
    omega (arith, a, k)

-- a size that fits its type
pub exact_size : (b : CoordOf) (lane size batch : ℕ) (txs : List Compact) (r : Record) → r ≡ Prepare (b.last + 1) (next_core_batch b lane) txs
    → All HasShortLists txs → length txs ≤ batch → batch ≤ 1024
    → size ≡ min (size_of r) (2 ^ 64 - 1) → size ≡ size_of r
exact_size b lane size batch txs r is short count limit size-is =
    let small = prepare_small (b.last + 1) (next_core_batch b lane) txs short (omega arith) in
    let e : size_of r ≡ size_of (Prepare (b.last + 1) (next_core_batch b lane) txs) = ap size_of is in
    omega arith

-- the lanes behind the reservation, and the journal
pub record Prepares (b c : CoordOf) (K : Shape) (J : List Record) (broken : Option ℕ) (lane size used t : ℕ) (batch : Batch)
    (txs told : List Compact) (r : Record) : Type 0 where
  pub whole : IsCoordWhole c
  pub same : IsSameButRoom b c
  pub stands : CoordStands b J
  pub journal : IsJournal b.header J
  pub shape : K ≡ b.header.shape
  pub own : IsOwnLane b.header lane
  pub sound : broken ≡ None
  pub early : t ≤ last_early
  pub record_is : r ≡ Prepare (b.last + 1) (next_core_batch b lane) txs
  pub answer : r ≡ Prepare t batch told
  pub size_is : size ≡ size_of r
  pub used_is : used ≡ used_of J

before_room : (b c : CoordOf) (K : Shape) (J : List Record) (broken : Option ℕ) (capacity lane size used t : ℕ) (batch : Batch)
    (txs told : List Compact) (r : Record) → Prepares b c K J broken lane size used t batch txs told r
    → prepare_due K capacity lane txs broken J ≡ if_room used (size + room_behind_prepare (length txs) + kept_of c.lanes) capacity
    (Writes (batch, t) r)
before_room b c K J broken capacity lane size used t batch txs told r p =
    let rec : r ≡ prepare_record J lane txs = p.record_is ∙ record_is b J lane txs p.stands p.own in
    let both : Prepare t batch told ≡ Prepare (next_stamp J 0) (new_batch J lane) txs = sym p.answer ∙ rec in
    let s : next_stamp J 0 ≡ t = cc in
    let n : new_batch J lane ≡ batch = cc in
    let j : IsJournal c.header J = let P : Header → Type 0 = λ h. IsJournal h J in subst P (sym p.same.header) p.journal in
    let need : size + room_behind_prepare (length txs) + kept_of c.lanes ≡ need_of K J (prepare_record J lane txs) =
    need_is c K J lane size txs r p.whole (stands_same b c J p.same p.stands) j (p.shape ∙ ap (λ h. h.shape) (sym p.same.header)) rec p.size_is in
    prepare_by K J broken capacity lane txs p.sound (rw s p.early)
    ∙ ap (λ x. if_room x (need_of K J (prepare_record J lane txs)) capacity (Writes (new_batch J lane, next_stamp J 0) (prepare_record J lane txs)))
    (sym p.used_is)
    ∙ ap (λ x. if_room used x capacity (Writes (new_batch J lane, next_stamp J 0) (prepare_record J lane txs))) (sym need)
    ∙ ap (λ x. if_room used (size + room_behind_prepare (length txs) + kept_of c.lanes) capacity
    (Writes (x, next_stamp J 0) (prepare_record J lane txs))) n
    ∙ ap (λ x. if_room used (size + room_behind_prepare (length txs) + kept_of c.lanes) capacity (Writes (batch, x) (prepare_record J lane txs))) s
    ∙ ap (λ x. if_room used (size + room_behind_prepare (length txs) + kept_of c.lanes) capacity (Writes (batch, t) x)) (sym rec)

pub prepare_owed : (b c : CoordOf) (K : Shape) (J : List Record) (broken : Option ℕ) (capacity lane size used t : ℕ) (batch : Batch)
    (txs told : List Compact) (r : Record) → Prepares b c K J broken lane size used t batch txs told r
    → used + (size + room_behind_prepare (length txs) + kept_of c.lanes) ≤ capacity → prepare_due K capacity lane txs broken J ≡ Writes (batch, t) r
prepare_owed b c K J broken capacity lane size used t batch txs told r p le =
    before_room b c K J broken capacity lane size used t batch txs told r p
    ∙ room_is_there used (size + room_behind_prepare (length txs) + kept_of c.lanes) capacity (Writes (batch, t) r) le

pub prepare_full : (b c : CoordOf) (K : Shape) (J : List Record) (broken : Option ℕ) (capacity lane size used t : ℕ) (batch : Batch)
    (txs told : List Compact) (r : Record) → Prepares b c K J broken lane size used t batch txs told r
    → capacity < used + (size + room_behind_prepare (length txs) + kept_of c.lanes)
    → prepare_due K capacity lane txs broken J ≡ Answers (Err (Full used (size + room_behind_prepare (length txs) + kept_of c.lanes) capacity))
prepare_full b c K J broken capacity lane size used t batch txs told r p lt =
    before_room b c K J broken capacity lane size used t batch txs told r p
    ∙ is_full used (size + room_behind_prepare (length txs) + kept_of c.lanes) capacity (Writes (batch, t) r) lt
