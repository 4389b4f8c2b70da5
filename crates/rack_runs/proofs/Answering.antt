-- What a lane's fault answers has its cause.
use Rattle.std.proofs.Common.{◌≡◌, ◌⊎◌, inl, inr, ℕ, ◌+◌, ◌<◌, ◌≤◌, List, length, reverse, Option, Some, None, sym, ap, ◌∙◌, subst}
use Rattle.std.specs.Prelude.{Result, Ok, Err, IfOk, IfErr}
use Rattle.outside.specs.Counts.{Rose}
use Rattle.outside.specs.declared.disk.Disk.{Ghosts}
use Rattle.cbdc_types.specs.declared.answer.Answer.{Answer}
use Rattle.cbdc_types.specs.declared.answer.Answer.TheVariants as answers
use Rattle.cbdc_model.specs.Records.{Shape, Header, Batch, Compact, Record, Row, journal, Prepare}
use Rattle.cbdc_model.specs.Coins.{FullTx}
use Rattle.cbdc_model.specs.Lanes.{IsEnd}
use Rattle.lane_driver.specs.declared.fault.LaneFault.{LaneFault}
use Rattle.recovery.specs.declared.resumed.ResumedBatch.{ResumedBatch}
use Rattle.lane_driver.specs.declared.fault.LaneFaultKind.{LaneFaultKind}
use Rattle.lane_driver.specs.declared.fault.LaneFaultKind.TheVariants.{DiskFault as DiskStopped, Full as NoRoom, ClockEnd as NoStamp}
use Rattle.lane_driver.specs.declared.fault.LaneFaultKind.TheVariants.{Memory as NoMemory}
use Rattle.node_journal.specs.Nodes.{NodeOf}
use Rattle.rack_ledgers.specs.Racked.{Disks, OfTold, SameRoom}
use Rattle.rack_ledgers.specs.Ledgers.{ByPlace, AreOpened}
use Rattle.rack_ledgers.specs.Caused.{listed_journals as lent_journals, AreCaused}
use Rattle.rack_ledgers.proofs.CausedTold.{told_history}
use Rattle.ledger_runs.specs.Turning.{IsLaneOf}
use Rattle.ledger_runs.specs.Faults.{IsCauseOf, IsSomeCauseOf, IsRunCause, HaveFailed, MayHoldBytes, Nothing}
use Rattle.ledger_runs.specs.Least.{IsLeastOpen}
use Rattle.file_runs.specs.Ledgers.{IsLedger, node_journals, flights_of, faults_of, opened_of, capacity_of, HaveCheckedJournals, AreStored, AreQuiet}
use Rattle.rack_laws.specs.Shown.{OfShown, HoldsEach}
use Rattle.rack_ledgers.specs.RefusalLaws.{AllHaveRoom}
use Rattle.cbdc_model.specs.Ranges.{node_count}
use Rattle.rack_runs.proofs.Behind.{are_quiet, is_ledger, none_fly, keeps_flights, holds_each, rooms_each, told_stored, may_hold, have_risen}
use Rattle.rack_runs.specs.Kinds.{answer_at, answer_to, IsLaneAnswer, MayComeNext}
use Rattle.rack_runs.specs.Endings.{IsLeastAnswer}
use Rattle.rack_runs.specs.Resting.{RestsBehind, AllRestBehind}
use Rattle.rack_runs.specs.Runs.{IsCutShort, KeepsFlights, IsLaneFault, DiskMayHold, RoseAt, TookLedger}
use Rattle.rack_runs.specs.Works.{Deed, FitsBatch, BeginsWork, EndsWork, LeavesAll, AllWell, CameThrough, AllBadly, AreSeen, work_turns}
use Rattle.rack_runs.proofs.Checking.{same_journals}
use Rattle.rack_runs.proofs.Resting.{idle_rest, tell_rest}
use Rattle.rack_runs.proofs.Wanted.{wanted_inside, wants_there, stays_caused}

-- the cause of a fault is that of its answer
answered : (K : Shape) (next : ℕ → List Compact → Type 0) (E X : ℕ → List Record) (failed : ℕ → Type 0) (holds : ℕ → ℕ → Type 0)
    → (e : LaneFault) → IsRunCause K next E X failed holds e → IsLaneAnswer K next E X failed holds (answer_to e)
answered K next E X failed holds e h = go e.fault h
  where
    go : (kind : LaneFaultKind) → IsSomeCauseOf K next E X failed holds e.node kind → IsLaneAnswer K next E X failed holds (answer_at e.node kind)
    go DiskStopped h = h
    go (NoRoom used need capacity) h = h
    go (NoStamp stamp) h = h
    go NoMemory h = tt

-- a work that a lane's fault ended, or for which memory ran out: its answer has its cause, and is the least lane's
pub came_badly : {T Done : Type 0} (d : Deed Done) (K : Shape) (E X : ℕ → List Record) (failed : ℕ → Type 0) (holds : ℕ → ℕ → Type 0)
    (told : Result T Answer) (resumed : List ResumedBatch) (came : Result Done LaneFault)
    → IfErr told (λ a. ((a ≡ answers.Memory) × ((x : Done) × (came ≡ Ok x))) ⊎ ((e : LaneFault) × (came ≡ Err e) × (a ≡ answer_to e)))
    → IfOk came (AllWell d K E X resumed) → IfErr came (AllBadly d K E X failed holds)
    → IfErr told (λ a. IsLaneAnswer K (d.next K E X) E X failed holds a × IsLeastAnswer (CameThrough d K E X) (EndsWork d K E X failed holds) a
    × AllRestBehind K E X failed (a ≡ answers.Memory))
came_badly d K E X failed holds (Ok t) resumed came is well badly = tt
came_badly d K E X failed holds (Err a) resumed came (inl (memory, (x, is))) well badly =
    let all : AllWell d K E X resumed x = subst (λ o. IfOk o (AllWell d K E X resumed)) is well in (
      subst (λ y. IsLaneAnswer K (d.next K E X) E X failed holds y) (sym memory) tt,
      inl (memory, record { resumed = resumed; done = x; well = all }),
      idle_rest K E X failed (a ≡ answers.Memory) all.well.idle,
    )
came_badly d K E X failed holds (Err a) resumed came (inr (e, err, is)) well badly =
    let b : AllBadly d K E X failed holds e = subst (λ o. IfErr o (AllBadly d K E X failed holds)) err badly in (
      subst (λ x. IsLaneAnswer K (d.next K E X) E X failed holds x) (sym is) (answered K (d.next K E X) E X failed holds e b.cause),
      inr (e, is, b.ends),
      tell_rest K E X failed (e.fault ≡ NoMemory) (a ≡ answers.Memory) (λ memory. is ∙ ap (answer_at e.node) memory) b.rests,
    )

-- ---- by what is known of the nodes of the ledger otherwise

module _ (K : Shape) (failed fails : ℕ → Type 0) (holds held : ℕ → ℕ → Type 0)
    (failed_on : (n : ℕ) → n < node_count K → failed n → fails n) (held_on : (n c : ℕ) → n < node_count K → holds n c → held n c) where
  -- the cause of a lane's fault
  pub cause_by : (lane : ℕ) (next : List Compact → Type 0) (E X : ℕ → List Record) → IsLaneOf K lane → (node : ℕ) (kind : LaneFaultKind)
      → IsCauseOf K lane next E X failed holds node kind → IsCauseOf K lane next E X fails held node kind
  cause_by lane next E X lt node DiskStopped h = record { inside = h.inside; asked = h.asked; did = failed_on node h.inside h.did }
  cause_by lane next E X lt node (NoRoom used need capacity) h = record {
    front = h.front;
    since = h.since;
    within = h.within;
    still = h.still;
    wanted = h.wanted;
    is_wanted = h.is_wanted;
    early = h.early;
    capacity_is = held_on node capacity (wanted_inside K lane next X node h.front h.wanted lt h.is_wanted) h.capacity_is;
    used_is = h.used_is;
    need_is = h.need_is;
    above = h.above;
  }
  cause_by lane next E X lt node (NoStamp stamp) h = record {
    front = h.front;
    since = h.since;
    within = h.within;
    still = h.still;
    wanted = h.wanted;
    is_wanted = h.is_wanted;
    stamp_is = h.stamp_is;
    above = h.above;
  }
  cause_by lane next E X lt node NoMemory h = h

  open_by : (I J : ℕ → List Record) (e : LaneFault) → IsLeastOpen K I J failed holds e → IsLeastOpen K I J fails held e
  open_by I J e (inl unbegun) = inl unbegun
  open_by I J e (inr (lane, lt, inl waits, lesser)) = inr (lane, lt, inl waits, lesser)
  open_by I J e (inr (lane, lt, inr cause, lesser)) = inr (lane, lt, inr (cause_by lane Nothing I J lt e.node e.fault cause), lesser)

  rest_by : (E X : ℕ → List Record) (memory : Type 0) → AllRestBehind K E X failed memory → AllRestBehind K E X fails memory
  rest_by E X memory (inl still) = inl still
  rest_by E X memory (inr all) = inr (λ lane inside. go lane (all lane inside))
    where
      go : (lane : ℕ) → RestsBehind K lane E X failed memory → RestsBehind K lane E X fails memory
      go lane (inl (inl before)) = inl (inl before)
      go lane (inl (inr (node, failure))) = inl (inr
          (node, record { inside = failure.inside; asked = failure.asked; did = failed_on node failure.inside failure.did }))
      go lane (inr waits) = inr waits

  ends_by : {Done : Type 0} (d : Deed Done) (E X : ℕ → List Record) (e : LaneFault) → EndsWork d K E X failed holds e → EndsWork d K E X fails held e
  ends_by d E X e (inl (unprepared, left)) = inl (unprepared, open_by E X e left)
  ends_by d E X e (inr (middle, grows, unprepared, idle, by)) = inr (
    middle,
    grows,
    unprepared,
    idle,
    record {
      opened_at = by.opened_at;
      faults_at = by.faults_at;
      capacity_at = by.capacity_at;
      fails = λ n inside did. failed_on n inside (by.fails n inside did);
      holds = λ n c inside may. held_on n c inside (by.holds n c inside may);
      ends = by.ends;
    },
  )

  least_by : {Done : Type 0} (d : Deed Done) (E X : ℕ → List Record) (a : Answer)
      → IsLeastAnswer (CameThrough d K E X) (EndsWork d K E X failed holds) a
      → IsLeastAnswer (CameThrough d K E X) (EndsWork d K E X fails held) a
  least_by d E X a (inl all) = inl all
  least_by d E X a (inr (e, is, ends)) = inr (e, is, ends_by d E X e ends)

  answer_by : (next : ℕ → List Compact → Type 0) (E X : ℕ → List Record) (a : Answer) → IsLaneAnswer K next E X failed holds a
      → IsLaneAnswer K next E X fails held a
  answer_by next E X (answers.DiskFault node) (lane, lt, h) = (lane, lt, cause_by lane (next lane) E X lt node DiskStopped h)
  answer_by next E X (answers.Full node used need capacity) (lane, lt, h) =
      (lane, lt, cause_by lane (next lane) E X lt node (NoRoom used need capacity) h)
  answer_by next E X (answers.ClockEnd node stamp) (lane, lt, h) = (lane, lt, cause_by lane (next lane) E X lt node (NoStamp stamp) h)
  answer_by next E X answers.Memory h = tt
  answer_by next E X answers.Ok h = absurd h
  answer_by next E X answers.BadWords h = absurd h
  answer_by next E X (answers.BadInput file at kind) h = absurd h
  answer_by next E X (answers.TooMuch total) h = absurd h
  answer_by next E X (answers.NotReady n) h = absurd h
  answer_by next E X (answers.Foreign n kept asked) h = absurd h
  answer_by next E X (answers.NotEmpty n) h = absurd h
  answer_by next E X (answers.Unsound place kind) h = absurd h
  answer_by next E X (answers.Damaged n at) h = absurd h
  answer_by next E X (answers.ReadFault file) h = absurd h
  answer_by next E X answers.WriteFault h = absurd h

-- what was in flight before was nothing
none_before : {A X Y : Type 0} (o : Option A) (x : A) → o ≡ None → ((o ≡ Some x) × X) ⊎ Y → Y
none_before o x none (inl was) = absurd (let z : None ≡ Some x = sym none ∙ was.0 in cc)
none_before o x none (inr now) = now

-- ---- on a rack

module _ {D : Type 0} (device : Ghosts D) (held back : ℕ → Option D) (h g : Header)
    (logs now : List (NodeOf D)) (shards after : List (NodeOf D)) (are : AreOpened device held h logs shards)
    (caused : AreCaused h.shape (lent_journals logs shards))
    (is : IsLedger g now after) (shape : g.shape ≡ h.shape)
    (logs_back : ByPlace (λ n l. OfTold (back n) (λ d. d ≡ l.disk)) now)
    (shards_back : ByPlace (λ s x. OfTold (back (length now + s)) (λ d. d ≡ x.disk)) after)
    (stored : AreStored device logs shards → AreStored device now after) (seen : AreSeen device now after) (before behind : ℕ → ℕ)
    (logs_since : ByPlace (λ n l. before n ≤ device.count l.disk) logs)
    (shards_since : ByPlace (λ s x. before (h.shape.coordinators + s) ≤ device.count x.disk) shards)
    (logs_counted : ByPlace (λ n l. device.count l.disk ≤ behind n) now)
    (shards_counted : ByPlace (λ s x. device.count x.disk ≤ behind (length now + s)) after) where
  abbrev History : List Row
  History = reverse caused.rows

  entry : node_journals h.shape logs shards ≡ (λ n. journal n History)
  entry = λ i n. same_journals device held h logs shards are caused n i

  -- what is known at exit of the disks' counts since entry, and of what they may hold
  abbrev Rises : ℕ → Type 0
  Rises n = Rose (before n) (behind n)

  abbrev Holds : ℕ → ℕ → Type 0
  Holds n c = OfTold (held n) (λ d. c ≡ device.limit d)

  risen : (n : ℕ) → n < node_count h.shape → HaveFailed (opened_of h.shape logs shards) (faults_of h.shape now after) n → Rises n
  risen = have_risen device held h logs now shards after are g shape is seen before behind logs_since shards_since logs_counted shards_counted

  may : (n c : ℕ) → n < node_count h.shape → MayHoldBytes (capacity_of h.shape logs shards) n c → Holds n c
  may n c inside is_so = may_hold device held h logs shards are n c inside is_so

  -- what the disks that are back have room for
  rooms_back : AllHaveRoom device back h.shape (node_journals h.shape now after)
  rooms_back = subst (λ k. AllHaveRoom device back k (node_journals k now after)) shape
      (rooms_each device back g now after is logs_back shards_back seen)

  -- what was taken, and how it was left
  pub took : AllHaveRoom device held h.shape (node_journals h.shape logs shards)
      → ((n : ℕ) → n < node_count h.shape → SameRoom device (held n) (back n)) → ((n : ℕ) → node_count h.shape ≤ n → back n ≡ held n)
      → ((n : ℕ) → IsEnd (node_journals h.shape logs shards n) (node_journals h.shape now after n)) → HaveCheckedJournals h.shape now after
      → AreQuiet now after → TookLedger device held back
  took room same_room spared grows checked quiet = record {
    ledger = record {
      shape = h.shape;
      genesis = h.genesis;
      rows = caused.rows;
      history = told_history device held h logs shards are caused.rows caused.merged;
      caused = caused.caused;
    };
    room = subst (λ L. AllHaveRoom device held h.shape L) entry room;
    exit = node_journals h.shape now after;
    grows = subst (λ L. (n : ℕ) → IsEnd (L n) (node_journals h.shape now after n)) entry grows;
    caused = stays_caused device h g logs now shards after (is_ledger device held h logs shards are) is shape checked grows;
    disks = λ tells.
        subst (λ k. HoldsEach device back k (node_journals k now after)) shape
        (holds_each device back g now after is logs_back shards_back (stored (told_stored device held h logs shards are tells)) quiet);
    rooms = rooms_back;
    same_room = same_room;
    spared = spared;
  }

  -- what was in flight flies where the disk has failed since
  abbrev Flown : Type 0
  Flown = (n : ℕ) (r : Record) → flights_of h.shape now after n ≡ Some r → HaveFailed (opened_of h.shape logs shards) (faults_of h.shape now after) n

  pub lane_fault : {Done : Type 0} (d : Deed Done)
      → ((lane : ℕ) (txs : List Compact) → d.next h.shape (node_journals h.shape logs shards) (node_journals h.shape now after) lane txs
      → FitsBatch h.shape txs)
      → LeavesAll d h.shape (node_journals h.shape logs shards) (node_journals h.shape now after) (flights_of h.shape logs shards)
      (flights_of h.shape now after)
      (HaveFailed (opened_of h.shape logs shards) (faults_of h.shape now after)) → Flown → (a : Answer)
      → IsLaneAnswer h.shape (d.next h.shape (node_journals h.shape logs shards) (node_journals h.shape now after))
      (node_journals h.shape logs shards) (node_journals h.shape now after)
      (HaveFailed (opened_of h.shape logs shards) (faults_of h.shape now after)) (MayHoldBytes (capacity_of h.shape logs shards)) a
      → IsLeastAnswer (CameThrough d h.shape (node_journals h.shape logs shards) (node_journals h.shape now after))
      (EndsWork d h.shape (node_journals h.shape logs shards) (node_journals h.shape now after)
      (HaveFailed (opened_of h.shape logs shards) (faults_of h.shape now after)) (MayHoldBytes (capacity_of h.shape logs shards))) a
      → AllRestBehind h.shape (node_journals h.shape logs shards) (node_journals h.shape now after)
      (HaveFailed (opened_of h.shape logs shards) (faults_of h.shape now after)) (a ≡ answers.Memory)
      → AllHaveRoom device held h.shape (node_journals h.shape logs shards) → ((n : ℕ) → n < node_count h.shape → SameRoom device (held n) (back n))
      → HaveCheckedJournals h.shape now after
      → OfShown device held (IsCutShort device back d.handed (node_journals h.shape now after)) → ((n : ℕ) → node_count h.shape ≤ n → back n ≡ held n)
      → IsLaneFault device (record { held = held; faults = before }) (record { held = back; faults = behind }) (work_turns d) a
  lane_fault d fits leaves flown a cause least rests room same_room checked kept spared =
      let K : Shape = h.shape in
      let E : ℕ → List Record = node_journals h.shape logs shards in
      let X : ℕ → List Record = node_journals h.shape now after in
      let failed : ℕ → Type 0 = HaveFailed (opened_of h.shape logs shards) (faults_of h.shape now after) in
      let holds : ℕ → ℕ → Type 0 = MayHoldBytes (capacity_of h.shape logs shards) in
      record {
        ledger = record {
          shape = h.shape;
          genesis = h.genesis;
          rows = caused.rows;
          history = told_history device held h logs shards are caused.rows caused.merged;
          caused = caused.caused;
        };
        exit = X;
        grows = subst (λ L. (n : ℕ) → IsEnd (L n) (X n)) entry leaves.grows;
        caused = stays_caused device h g logs now shards after (is_ledger device held h logs shards are) is shape checked leaves.grows;
        prepared = subst (λ L. BeginsWork d K L X) entry (leaves.begun are.limits);
        flights = flights_of h.shape now after;
        in_flight = λ n r inside there. risen n inside (flown n r there);
        prepares = subst (λ L. (n t : ℕ) (b : Batch) (txs : List Compact) → n < node_count K
            → flights_of h.shape now after n ≡ Some (Prepare t b txs) → IsLaneOf K b.lane × d.next K L X b.lane txs) entry
            (λ n t b txs inside there. none_before (flights_of h.shape logs shards n) (Prepare t b txs)
            (none_fly h.shape logs shards (are_quiet device held h logs shards are) n) (leaves.launches n t b txs there));
        disks = λ tells.
            subst (λ k. KeepsFlights device back k (node_journals k now after) (flights_of k now after)) shape
            (keeps_flights device back g now after is logs_back shards_back (stored (told_stored device held h logs shards are tells)));
        cause = subst (λ L. IsLaneAnswer K (d.next K L X) L X Rises Holds a) entry
            (answer_by K failed Rises holds Holds risen may (d.next K E X) E X a cause);
        may_come = subst (λ L. MayComeNext K h.genesis (d.next K L X) L X) entry
            (wants_there device h g logs now shards after (is_ledger device held h logs shards are) is shape checked (d.next K E X) fits);
        least = subst (λ L. IsLeastAnswer (CameThrough d K L X) (EndsWork d K L X Rises Holds) a) entry
            (least_by K failed Rises holds Holds risen may d E X a least);
        rests = subst (λ L. AllRestBehind K L X Rises (a ≡ answers.Memory)) entry
            (rest_by K failed Rises holds Holds risen may E X (a ≡ answers.Memory) rests);
        room = subst (λ L. AllHaveRoom device held K L) entry room;
        same_room = same_room;
        rooms = rooms_back;
        kept = kept;
        spared = spared;
      }

-- the same fault, said in other words of whose it is, of what has been begun and of what came through
pub fault_as : {D : Type 0} (device : Ghosts D) (before after : Disks D)
    (next : Shape → (ℕ → List Record) → (ℕ → List Record) → ℕ → List Compact → Type 0)
    (ends others : Shape → (ℕ → List Record) → (ℕ → List Record) → (ℕ → Type 0) → (ℕ → ℕ → Type 0) → LaneFault → Type 0)
    (begun starts through comes : Shape → (ℕ → List Record) → (ℕ → List Record) → Type 0) (handed : List (List FullTx))
    → ((K : Shape) (E X : ℕ → List Record) (failed : ℕ → Type 0) (holds : ℕ → ℕ → Type 0) (e : LaneFault) → ends K E X failed holds e
    → others K E X failed holds e)
    → ((K : Shape) (E X : ℕ → List Record) → begun K E X → starts K E X)
    → ((K : Shape) (E X : ℕ → List Record) → through K E X → comes K E X)
    → (a : Answer) → IsLaneFault device before after (record { handed = handed; next = next; ends = ends; begun = begun; through = through }) a
    → IsLaneFault device before after (record { handed = handed; next = next; ends = others; begun = starts; through = comes }) a
fault_as device before after next ends others begun starts through comes handed ends_as begun_as through_as a f =
    let E : ℕ → List Record = λ n. journal n (reverse f.ledger.rows) in
    record {
      ledger = f.ledger;
      exit = f.exit;
      grows = f.grows;
      caused = f.caused;
      prepared = begun_as f.ledger.shape E f.exit f.prepared;
      flights = f.flights;
      in_flight = f.in_flight;
      prepares = f.prepares;
      disks = f.disks;
      cause = f.cause;
      may_come = f.may_come;
      least = go f.least;
      rests = f.rests;
      room = f.room;
      same_room = f.same_room;
      rooms = f.rooms;
      kept = f.kept;
      spared = f.spared;
    }
  where
    Whose : (Shape → (ℕ → List Record) → (ℕ → List Record) → Type 0)
        → (Shape → (ℕ → List Record) → (ℕ → List Record) → (ℕ → Type 0) → (ℕ → ℕ → Type 0) → LaneFault → Type 0) → Type 0
    Whose all which = IsLeastAnswer (all f.ledger.shape (λ n. journal n (reverse f.ledger.rows)) f.exit)
        (which f.ledger.shape (λ n. journal n (reverse f.ledger.rows)) f.exit (RoseAt before after) (DiskMayHold device before)) a

    go : Whose through ends → Whose comes others
    go (inl (memory, all)) = inl (memory, through_as f.ledger.shape (λ n. journal n (reverse f.ledger.rows)) f.exit all)
    go (inr (e, is, so)) = inr (
      e,
      is,
      ends_as f.ledger.shape (λ n. journal n (reverse f.ledger.rows)) f.exit (RoseAt before after) (DiskMayHold device before) e so,
    )
