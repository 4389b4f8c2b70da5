-- A work over the ledger on a rack: from the opened nodes to all disks back.
use Rattle.std.proofs.Common.{◌≡◌, ◌⊎◌, inr, ℕ, [], ◌+◌, ◌<◌, ◌≤◌, List, length, Option, Result, Ok, Err, Some, sym, ap, ◌∙◌, subst, arith}
use Rattle.std.specs.Prelude.{map, IfOk, IfErr}
use Rattle.std.specs.Global.{Vec}
use Rattle.outside.specs.declared.disk.Disk.{Ghosts}
use Rattle.outside.specs.declared.rack.Rack.{Ghosts as RackGhosts}
use Rattle.cbdc_types.specs.declared.answer.Answer.{Answer}
use Rattle.cbdc_types.specs.declared.answer.Answer.TheVariants as answers
use Rattle.cbdc_model.specs.Records.{Header, Record}
use Rattle.cbdc_model.specs.Sights.{HasRisen}
use Rattle.node_journal.specs.Nodes.{NodeOf}
use Rattle.lane_driver.specs.declared.fault.LaneFault.{LaneFault}
use Rattle.recovery.specs.declared.resumed.ResumedBatch.{ResumedBatch}
use Rattle.rack_ledgers.specs.Places.{EachFrom, MayReturn}
use Rattle.rack_ledgers.specs.Racked.{OfTold, SameRoom}
use Rattle.rack_ledgers.specs.Ledgers.{ByPlace, AreOpened}
use Rattle.rack_ledgers.specs.Opened.{MayClose, IsLedgerOpenedFrom}
use Rattle.rack_ledgers.specs.Caused.{listed_journals as lent_journals, AreCaused}
use Rattle.ledger_runs.specs.Faults.{HaveFailed, MayHoldBytes}
use Rattle.file_runs.specs.Ledgers.{LedgerOf, IsLedger, node_journals, flights_of, faults_of, opened_of, capacity_of, HaveCheckedJournals, AreStored}
use Rattle.file_runs.specs.Ledgers.{AreQuiet}
use Rattle.file_runs.proofs.Whole.{when_whole, of_whole}
use Rattle.rack_ledgers.specs.RefusalLaws.{AllHaveRoom}
use Rattle.cbdc_model.specs.Ranges.{node_count}
use Rattle.rack_runs.specs.Kinds.{answer_to}
use Rattle.rack_runs.specs.Telling.{CountAll}
use Rattle.rack_runs.specs.Works.{Deed, AllNextFit, LeavesAll, AllWell, AllBadly, HasRunWork, AreSeen, AtEntry, entry_ledger, IsLedgerOpened}
use Rattle.rack_runs.specs.Works.{HasOpenedAndRun, HasDoneWork}
use Rattle.rack_runs.specs.declared.told.Told.{Told}
use Rattle.rack_runs.proofs.Lent.{ledger_of}
use Rattle.rack_runs.specs.Resuming.{HasResumed}
use Rattle.rack_runs.proofs.Working.{stopped_run}
use Rattle.rack_runs.proofs.Behind.{are_quiet, logs_return, shards_return, rooms_same}
use Rattle.rack_runs.proofs.Flown.{all_flown}
use Rattle.rack_runs.proofs.Answering.{came_badly, took, lane_fault}
use Rattle.rack_runs.proofs.Ledgers.{opened_room, ended, cut_short}

module _ {D Done : Type 0} (device : Ghosts D) (held : ℕ → Option D) (h g : Header) (logs now : List (NodeOf D)) (shards after : List (NodeOf D))
    (deed : Deed Done) (resumed : List ResumedBatch) (came : Result Done LaneFault) (are : AreOpened device held h logs shards)
    (is : IsLedger g now after) (seen : AreSeen device now after)
    (ran : HasRunWork device deed (ledger_of h logs shards) (ledger_of g now after) resumed came) where
  shape : g.shape ≡ h.shape
  shape = ran.keeps_ledger.shape_same

  abbrev E : ℕ → List Record
  E = node_journals h.shape logs shards

  abbrev X : ℕ → List Record
  X = node_journals h.shape now after

  abbrev F : ℕ → Option Record
  F = flights_of h.shape logs shards

  abbrev failed : ℕ → Type 0
  failed = HaveFailed (opened_of h.shape logs shards) (faults_of h.shape now after)

  abbrev holds : ℕ → ℕ → Type 0
  holds = MayHoldBytes (capacity_of h.shape logs shards)

  -- by what was known of the nodes before
  opened_at : (n : ℕ) → opened_of h.shape now after n ≡ opened_of h.shape logs shards n
  opened_at = subst (λ k. (n : ℕ) → opened_of k now after n ≡ opened_of h.shape logs shards n) shape ran.keeps_ledger.opened_same

  opened_is : opened_of h.shape now after ≡ opened_of h.shape logs shards
  opened_is = λ i n. opened_at n i

  capacity_at : (n : ℕ) → capacity_of h.shape now after n ≡ capacity_of h.shape logs shards n
  capacity_at = subst (λ k. (n : ℕ) → capacity_of k now after n ≡ capacity_of h.shape logs shards n) shape ran.keeps_ledger.capacity_same

  capacity_is : capacity_of h.shape now after ≡ capacity_of h.shape logs shards
  capacity_is = λ i n. capacity_at n i

  leaves : LeavesAll deed h.shape E X F (flights_of h.shape now after) failed
  leaves = subst (λ o. LeavesAll deed h.shape E X F (flights_of h.shape now after) (HaveFailed o (faults_of h.shape now after))) opened_is
      (subst (λ k. LeavesAll deed h.shape E (node_journals k now after) F (flights_of k now after)
      (HaveFailed (opened_of k now after) (faults_of k now after))) shape ran.leaves)

  well : IfOk came (AllWell deed h.shape E X resumed)
  well = subst (λ k. IfOk came (AllWell deed h.shape E (node_journals k now after) resumed)) shape ran.well

  badly : IfErr came (AllBadly deed h.shape E X failed holds)
  badly = subst (λ c. IfErr came (AllBadly deed h.shape E X failed (MayHoldBytes c))) capacity_is
      (subst (λ o. IfErr came (AllBadly deed h.shape E X (HaveFailed o (faults_of h.shape now after))
      (MayHoldBytes (capacity_of h.shape now after)))) opened_is
      (subst (λ k. IfErr came (AllBadly deed h.shape E (node_journals k now after) (HaveFailed (opened_of k now after) (faults_of k now after))
      (MayHoldBytes (capacity_of k now after)))) shape ran.badly))

  checked : HaveCheckedJournals h.shape now after
  checked = subst (λ k. HaveCheckedJournals k now after) shape ran.checked

  later : (n : ℕ) → faults_of h.shape logs shards n ≤ faults_of h.shape now after n
  later = subst (λ k. (n : ℕ) → faults_of h.shape logs shards n ≤ faults_of k now after n) shape ran.keeps_ledger.later

  stored : AreStored device logs shards → AreStored device now after
  stored = ran.keeps_ledger.held

  flown : (n : ℕ) (r : Record) → flights_of h.shape now after n ≡ Some r → failed n
  flown n r there = subst (λ o. HasRisen o (faults_of h.shape now after n)) (opened_at n) (all_flown device h.shape now after seen n r there)

  -- as many nodes as before
  pub logs_are : length now ≡ length logs
  logs_are = is.coordinators ∙ (ap (λ k. k.coordinators) shape ∙ sym are.coordinators)

  pub shards_are : length after ≡ length shards
  shards_are = is.shards_are ∙ (ap (λ k. k.shards) shape ∙ sym are.shards_are)

  -- whose disks may be put back
  pub logs_may : (can : ℕ → ℕ → Type 0) → EachFrom (MayReturn (λ x. device.count x.disk) can) 0 logs
      → EachFrom (MayReturn (λ x. device.count x.disk) can) 0 now
  logs_may can = logs_return device held h logs now shards after are g shape is later seen can

  pub shards_may : (can : ℕ → ℕ → Type 0) → EachFrom (MayReturn (λ x. device.count x.disk) can) (length logs) shards
      → EachFrom (MayReturn (λ x. device.count x.disk) can) (length now) after
  shards_may can = shards_return device held h logs now shards after are g shape is later seen can

  module _ (caused : AreCaused h.shape (lent_journals logs shards)) (middle back : ℕ → Option D)
      (logs_back : ByPlace (λ n l. OfTold (back n) (λ d. d ≡ l.disk)) now)
      (shards_back : ByPlace (λ s x. OfTold (back (length now + s)) (λ d. d ≡ x.disk)) after) (before behind : ℕ → ℕ)
      (logs_since : ByPlace (λ n l. before n ≤ device.count l.disk) logs)
      (shards_since : ByPlace (λ s x. before (h.shape.coordinators + s) ≤ device.count x.disk) shards)
      (logs_counted : ByPlace (λ n l. device.count l.disk ≤ behind n) now)
      (shards_counted : ByPlace (λ s x. device.count x.disk ≤ behind (length now + s)) after)
      (others_taken : (n : ℕ) → length logs + length shards ≤ n → middle n ≡ held n)
      (others_put : (n : ℕ) → length now + length after ≤ n → back n ≡ middle n) where
    spared : (n : ℕ) → node_count h.shape ≤ n → back n ≡ held n
    spared n le = others_put n (omega (arith, le, logs_are, shards_are, are.coordinators, are.shards_are))
        ∙ others_taken n (omega (arith, le, are.coordinators, are.shards_are))

    room : AllHaveRoom device held h.shape E
    room = opened_room device held back h g logs now shards after deed are is shape logs_back shards_back stored

    same_room : (n : ℕ) → n < node_count h.shape → SameRoom device (held n) (back n)
    same_room = rooms_same device held back h logs now shards after are g shape is seen logs_back shards_back capacity_at

    -- the result, and what that leaves of the disks
    pub done : (told : Result (Told Done) Answer)
        → IfErr told (λ a. ((a ≡ answers.Memory) × ((d : Done) × (came ≡ Ok d))) ⊎ ((e : LaneFault) × (came ≡ Err e) × (a ≡ answer_to e)))
        → IfOk told (λ t. (t.resumed.items ≡ resumed) × (came ≡ Ok t.done))
        → IfOk told (λ t. CountAll (map (λ s. s.journal) after) t.unspent) → AllNextFit deed
        → HasDoneWork device (record { held = held; faults = before }) (record { held = back; faults = behind }) deed told
    done (Ok t) fault same unspent fits =
        let quiet : AreQuiet logs shards → AreQuiet now after = when_whole came t.done same.1 ran.quiet in
        record {
          caused = took device held back h g logs now shards after are caused is shape logs_back shards_back stored seen before behind logs_since
              shards_since logs_counted shards_counted
              room same_room spared leaves.grows checked (quiet (are_quiet device held h logs shards are));
          ended = ended device held back h g logs now shards after deed are is shape logs_back shards_back stored t leaves.keeps
              (leaves.begun are.limits).1 seen quiet
              (subst (λ r. AllWell deed h.shape E X r t.done) (sym same.0) (of_whole (AllWell deed h.shape E X resumed) came t.done same.1 well))
              unspent;
          stopped = tt;
        }
    done (Err a) fault same unspent fits =
        let told : Result (Told Done) Answer = Err a in
        let bad = came_badly deed h.shape E X failed holds told resumed came fault well badly in
        record {
          caused = tt;
          ended = tt;
          stopped = inr (lane_fault device held back h g logs now shards after are caused is shape logs_back shards_back stored seen before behind
              logs_since shards_since logs_counted shards_counted
              deed (fits h.shape E X) leaves flown a bad.0 bad.1 bad.2 room same_room checked
              (cut_short device held back h g logs now shards after deed are is shape logs_back shards_back stored leaves.keeps leaves.flies seen)
              spared);
        }

-- the same from what a rack told at entry
module _ {D Done : Type 0} (device : Ghosts D) (deed : Deed Done) (e : AtEntry D) (middle : ℕ → Option D) (can_put : ℕ → ℕ → Type 0)
    (can_take : ℕ → Type 0)
    (g : Header) (now : List (NodeOf D)) (after : List (NodeOf D)) (is : IsLedger g now after) (seen : AreSeen device now after)
    (behind : LedgerOf D) (same : behind ≡ ledger_of g now after)
    (resumed : List ResumedBatch) (came : Result Done LaneFault) (has : HasOpenedAndRun device deed e middle can_put can_take behind resumed came)
  where
    there : HasRunWork device deed (ledger_of e.header e.logs e.shards) (ledger_of g now after) resumed came
    there = subst (λ l. HasRunWork device deed (ledger_of e.header e.logs e.shards) l resumed came) same has.ran

    as_many : (length now ≡ length e.logs) × (length after ≡ length e.shards)
    as_many = (
      logs_are device e.disks.held e.header g e.logs now e.shards after deed resumed came has.begun.nodes is seen there,
      shards_are device e.disks.held e.header g e.logs now e.shards after deed resumed came has.begun.nodes is seen there,
    )

    -- whose disks may be put back
    pub may_close : MayClose device can_put can_take now after
    may_close =
        let was = has.begun.may_close in
        record {
          few = omega (arith, was.few, as_many.0, as_many.1);
          logs = logs_may device e.disks.held e.header g e.logs now e.shards after deed resumed came has.begun.nodes is seen there can_put was.logs;
          shards = shards_may device e.disks.held e.header g e.logs now e.shards after deed resumed came has.begun.nodes is seen there can_put
              was.shards;
          others = λ n le. was.others n (omega (arith, le, as_many.0, as_many.1));
        }

    pub closed : (back : ℕ → Option D) → ByPlace (λ n l. OfTold (back n) (λ d. d ≡ l.disk)) now
        → ByPlace (λ s x. OfTold (back (length now + s)) (λ d. d ≡ x.disk)) after → (counts : ℕ → ℕ)
        → ByPlace (λ n l. device.count l.disk ≤ counts n) now → ByPlace (λ s x. device.count x.disk ≤ counts (length now + s)) after
        → ((n : ℕ) → length now + length after ≤ n → back n ≡ middle n)
        → (told : Result (Told Done) Answer) → IfErr told
        (λ a. ((a ≡ answers.Memory) × ((d : Done) × (came ≡ Ok d))) ⊎ ((f : LaneFault) × (came ≡ Err f) × (a ≡ answer_to f)))
        → IfOk told (λ t. (t.resumed.items ≡ resumed) × (came ≡ Ok t.done))
        → IfOk told (λ t. CountAll (map (λ s. s.journal) after) t.unspent) → AllNextFit deed
        → HasDoneWork device e.disks (record { held = back; faults = counts }) deed told
    closed back logs_back shards_back counts logs_counted shards_counted others_put told fault same unspent fits =
        done device e.disks.held e.header g e.logs now e.shards after deed resumed came has.begun.nodes is seen there has.begun.caused middle back
        logs_back shards_back e.disks.faults counts
        has.begun.logs_since has.begun.shards_since logs_counted shards_counted has.begun.others others_put told fault same unspent fits

-- ---- as it is opened

abbrev pub at_entry : {D : Type 0} → (ℕ → Option D) → (ℕ → ℕ) → Header → List (NodeOf D) → List (NodeOf D) → AtEntry D
at_entry held before h logs shards = record { disks = record { held = held; faults = before }; header = h; logs = logs; shards = shards }

module _ {R D : Type 0} (device : Ghosts D) (rack : RackGhosts R D) (old new : R) (h : Header) (logs : List (NodeOf D)) (shards : List (NodeOf D))
  where
    pub is_open : IsLedgerOpenedFrom device rack old new h logs shards → AreCaused h.shape (lent_journals logs shards)
        → IsLedgerOpened device (at_entry (rack.held old) (rack.count old) h logs shards) (rack.held new) (rack.can_put new) (rack.can_take new)
    is_open opened caused = record {
      nodes = opened.nodes;
      caused = caused;
      logs_since = opened.logs_since;
      shards_since = opened.shards_since;
      others = opened.others_held;
      may_close = opened.may_close;
    }

module _ {D : Type 0} (device : Ghosts D) (e : AtEntry D) (middle : ℕ → Option D) (can_put : ℕ → ℕ → Type 0) (can_take : ℕ → Type 0) where
  -- a lane met a fault as open batches were brought to their end
  pub stopped_come : {Done : Type 0} (deed : Deed Done) → IsLedgerOpened device e middle can_put can_take → (first ledger : LedgerOf D)
      → first ≡ entry_ledger e → (came : Result (Vec ResumedBatch) LaneFault) (f : LaneFault)
      → came ≡ Err f → HasResumed device first ledger came → HasOpenedAndRun device deed e middle can_put can_take ledger [] (Err f)
  stopped_come deed begun first ledger same came f is resumed = record {
    begun = begun;
    ran = stopped_run device deed (entry_ledger e) ledger [] came f is (subst (λ l. HasResumed device l ledger came) same resumed);
  }
