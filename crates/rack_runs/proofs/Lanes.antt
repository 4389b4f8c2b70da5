-- A lane of a kept ledger that a rack shows stops for no reason but that memory ran out, where there is room and no disk fails.
use Rattle.std.proofs.Common.{◌≡◌, ℕ, ◌<◌, true, false, Bool, List, [], ◌∷◌, ◌++◌, reverse, Some, refl, sym, ap, ◌∙◌, subst, arith}
use Rattle.outside.specs.declared.disk.Disk.{Ghosts}
use Rattle.cbdc_types.specs.Limits.{IsWithinLimits}
use Rattle.cbdc_types.specs.declared.answer.Answer.{Answer}
use Rattle.cbdc_types.specs.declared.answer.Answer.TheVariants as answers
use Rattle.cbdc_model.specs.Records.{Shape, Compact, Record, journal, record_of, Prepare}
use Rattle.cbdc_model.specs.Slots.{slot}
use Rattle.cbdc_model.specs.Ranges.{home_of, shard_node, part, is_no_part, Concerned, node_count}
use Rattle.cbdc_model.specs.Coins.{Output, FullTx}
use Rattle.cbdc_model.specs.History.{minted}
use Rattle.cbdc_model.specs.Lanes.{IsEnd}
use Rattle.lane_laws.specs.Calls.{is_concerned}
use Rattle.run_laws.proofs.Checked.{kept_is_checked_law}
use Rattle.run_laws.specs.Ample.{Ample, AreCut}
use Rattle.run_laws.specs.Enough.{HasBatchesLeft, HasRoom, IsUnderway}
use Rattle.run_laws.proofs.Room.{prepare_room_law, lock_room_law}
use Rattle.submissions.specs.Checks.{VerdictsOf}
use Rattle.submissions.specs.SoundTest.{sound_by}
use Rattle.submissions.proofs.Telling.{is_sound_law}
use Rattle.ledger_runs.specs.Turning.{IsLaneOf}
use Rattle.ledger_runs.specs.Faults.{IsWanted, wants_prepare, wants_lock, HasNoRoomFor, HasNoStampFor}
use Rattle.file_runs.specs.Runs.{joined, AreFilesPieces}
use Rattle.rack_ledgers.specs.Racked.{Disks}
use Rattle.rack_runs.specs.Kinds.{IsLaneAnswer}
use Rattle.rack_runs.proofs.Wanted.{wanted_inside}
use Rattle.rack_runs.specs.Runs.{IsGrown, IsLaneFault, DiskMayHold, RoseAt, Turns, file_turns, open_turns}
use Rattle.rack_laws.specs.Ready.{NoneRises, ShowsKept, limit_at}
use Rattle.rack_laws.proofs.Caused.{told_shape, told_journals}

-- the pieces of files are what they are cut into
are_cut : (K : Shape) (sound : FullTx → Bool) (files : List (List FullTx)) (lane : ℕ) (pieces : List (List Compact))
    → AreFilesPieces K sound lane files pieces → AreCut K sound files lane pieces
are_cut K sound [] lane pieces none = none
are_cut K sound (file ∷ files) lane pieces (own, more, cut, rest, is) = (own, more, cut, are_cut K sound files lane more rest, is)

is_concerned_there : (K : Shape) (txs : List Compact) (s : ℕ) → is_concerned K txs s ≡ true → Concerned K txs s
is_concerned_there K txs s h =
    let inside : s < K.shards = grind (arith, h) in
    let some : is_no_part (part K s 0 txs) ≡ false = grind (arith, h) in
    (inside, some)

module _ (K : Shape) (mint : List Output) (sound : FullTx → Bool) (capacity : ℕ → ℕ) (files : List (List FullTx)) (E X : ℕ → List Record)
    (limits : IsWithinLimits K)
    (ample : Ample K sound capacity files E) (way : IsUnderway K (minted mint) sound files E X) (next : ℕ → List Compact → Type 0)
    (left_of : (lane : ℕ) (txs : List Compact) → IsLaneOf K lane → next lane txs
    → (left : List (List Compact)) × HasBatchesLeft K sound files E X lane (txs ∷ left))
    (failed : ℕ → Type 0) (may_hold : ℕ → ℕ → Type 0) (none : (n : ℕ) → n < node_count K → failed n → ⊥)
    (holds : (n c : ℕ) → n < node_count K → may_hold n c → c ≡ capacity n) where
  -- there is room for what a lane wants
  has_room : (lane node : ℕ) (front : List Record) (r : Record) → IsLaneOf K lane → IsWanted K lane (next lane) X node front r → IsEnd (E node) front
      → IsEnd front (X node) → HasRoom K capacity node front r
  has_room lane node front r lt (wants_prepare txs is at idle e) since within =
      let (left, has) = left_of lane txs lt is in
      let room = prepare_room_law K (minted mint) sound capacity files E X lane txs left front limits ample way lt has
      (subst (λ n. IsEnd (E n) front) at since) (subst (λ n. IsEnd front (X n)) at within) in
      subst (λ n. HasRoom K capacity n front r) (sym at) (subst (HasRoom K capacity (home_of K lane) front) (sym e) room)
  has_room lane node front r lt (wants_lock b t txs s is at concerned phase stands have behind e) since within =
      let room = lock_room_law K (minted mint) sound capacity files E X b t txs s front limits ample way (omega (arith, is, lt))
      (subst (λ l. record_of 6 (X (home_of K l)) b ≡ Some (Prepare t b txs)) (sym is) stands) (is_concerned_there K txs s concerned)
      (subst (λ l. (slot (X (shard_node K s)) l).number < b.number) (sym is) (subst (λ n. (slot (X n) lane).number < b.number) at behind))
      (subst (λ n. IsEnd (E n) front) at since) (subst (λ n. IsEnd front (X n)) at within) in
      subst (λ n. HasRoom K capacity n front r) (sym at) (subst (HasRoom K capacity (shard_node K s) front) (sym e) room)

  -- at a node of the ledger
  inside : (lane node : ℕ) (front : List Record) (r : Record) → IsLaneOf K lane → IsWanted K lane (next lane) X node front r → node < node_count K
  inside lane node front r lt wanted = wanted_inside K lane (next lane) X node front r lt wanted

  full_none : (lane node used need limit : ℕ) → IsLaneOf K lane → HasNoRoomFor K lane (next lane) E X may_hold node used need limit → ⊥
  full_none lane node used need limit lt h =
      let room = has_room lane node h.front h.wanted lt h.is_wanted h.since h.within in
      let is = holds node limit (inside lane node h.front h.wanted lt h.is_wanted) h.capacity_is in
      omega (arith, room.0, is, h.used_is, h.need_is, h.above)

  stamp_none : (lane node stamp : ℕ) → IsLaneOf K lane → HasNoStampFor K lane (next lane) E X node stamp → ⊥
  stamp_none lane node stamp lt h =
      let room = has_room lane node h.front h.wanted lt h.is_wanted h.since h.within in
      omega (arith, room.1, h.stamp_is, h.above)

  pub answer_none : (a : Answer) → IsLaneAnswer K next E X failed may_hold a → a ≡ answers.Memory
  answer_none (answers.DiskFault n) (lane, lt, h) = absurd (none n h.inside h.did)
  answer_none (answers.Full n used need limit) (lane, lt, h) = absurd (full_none lane n used need limit lt h)
  answer_none (answers.ClockEnd n stamp) (lane, lt, h) = absurd (stamp_none lane n stamp lt h)
  answer_none answers.Memory h = refl
  answer_none answers.Ok h = absurd h
  answer_none answers.BadWords h = absurd h
  answer_none (answers.BadInput file at kind) h = absurd h
  answer_none (answers.TooMuch total) h = absurd h
  answer_none (answers.NotReady n) h = absurd h
  answer_none (answers.Foreign n kept asked) h = absurd h
  answer_none (answers.NotEmpty n) h = absurd h
  answer_none (answers.Unsound place kind) h = absurd h
  answer_none (answers.Damaged n at) h = absurd h
  answer_none (answers.ReadFault file) h = absurd h
  answer_none answers.WriteFault h = absurd h

-- ---- on a rack

module _ {D : Type 0} (device : Ghosts D) (before after : Disks D)
    (K : Shape) (mint : List Output) (submissions : List FullTx) (E : ℕ → List Record) (ready : ShowsKept device before.held K mint submissions E)
    (steady : NoneRises K before.faults after.faults)
    (sound : FullTx → Bool) where
  may_hold : (n c : ℕ) → n < node_count K → DiskMayHold device before n c → c ≡ limit_at device (before.held n)
  may_hold n c inside told = let s = ready.shown n inside in told s.0 s.1 ∙ ap (limit_at device) (sym s.1)

  module _ (turns : Turns) (ample : Ample K sound (λ n. limit_at device (before.held n)) turns.handed E)
      (lefts : (X : ℕ → List Record) → ((lane : ℕ) (txs : List Compact) → IsLaneOf K lane → turns.next K E X lane txs
      → (left : List (List Compact)) × HasBatchesLeft K sound turns.handed E X lane (txs ∷ left))
      × (turns.begun K E X → (lane : ℕ) → IsLaneOf K lane → (left : List (List Compact)) × HasBatchesLeft K sound turns.handed E X lane left)) where
    -- from the journals themselves
    from_these : (X : ℕ → List Record) → IsGrown K mint (submissions ++ joined turns.handed) E X → turns.begun K E X → (a : Answer)
        → IsLaneAnswer K (turns.next K E X) E X (RoseAt before after) (DiskMayHold device before) a → a ≡ answers.Memory
    from_these X grown prepared a cause =
        let way : IsUnderway K (minted mint) sound turns.handed E X = record {
          old = kept_is_checked_law K mint submissions E ready.kept;
          new = kept_is_checked_law K mint (submissions ++ joined turns.handed) X grown.kept;
          grows = grown.grows;
          lanes = (lefts X).1 prepared;
        } in
        answer_none K mint sound (λ n. limit_at device (before.held n)) turns.handed E X ready.limits ample way (turns.next K E X) (lefts X).0
        (RoseAt before after) (DiskMayHold device before) steady may_hold a cause

    pub fault_none : (a : Answer) → IsLaneFault device before after turns a → a ≡ answers.Memory
    fault_none a fault =
        let shape : fault.ledger.shape ≡ K = told_shape device before.held K mint submissions E ready fault.ledger.shape fault.ledger.genesis
        fault.ledger.rows fault.ledger.history in
        let journals : (λ n. journal n (reverse fault.ledger.rows)) ≡ E =
        λ i n. told_journals device before.held K mint submissions E ready fault.ledger.shape fault.ledger.genesis fault.ledger.rows
        fault.ledger.history n i in
        let grown : IsGrown K mint (submissions ++ joined turns.handed) E fault.exit =
        (fault.kept K mint submissions E ready.limits ready.shown ready.kept).grown in
        subst (λ k. (L : ℕ → List Record) → L ≡ E → turns.begun k L fault.exit
        → IsLaneAnswer k (turns.next k L fault.exit) L fault.exit (RoseAt before after) (DiskMayHold device before) a
        → a ≡ answers.Memory) (sym shape)
        (λ L same. subst (λ J. turns.begun K J fault.exit
        → IsLaneAnswer K (turns.next K J fault.exit) J fault.exit (RoseAt before after) (DiskMayHold device before) a → a ≡ answers.Memory) (sym same)
        (λ prepared cause. from_these fault.exit grown prepared a cause))
        (λ n. journal n (reverse fault.ledger.rows)) journals fault.prepared fault.cause

-- of a recovery
pub recovery_none : {D : Type 0} (device : Ghosts D) (before after : Disks D)
    (K : Shape) (mint : List Output) (submissions : List FullTx) (E : ℕ → List Record) → ShowsKept device before.held K mint submissions E
    → NoneRises K before.faults after.faults
    → (sound : FullTx → Bool) → Ample K sound (λ n. limit_at device (before.held n)) [] E → (a : Answer)
    → IsLaneFault device before after open_turns a → a ≡ answers.Memory
recovery_none device before after K mint submissions E ready steady sound ample a fault =
    fault_none device before after K mint submissions E ready steady sound open_turns ample
    (λ X. ((λ lane txs lt nothing. absurd nothing), (λ none lane lt. ([], record { done = []; cut = refl; prepares = none.0 lane lt })))) a fault

-- of a run
pub run_none : {D : Type 0} (device : Ghosts D) (before after : Disks D)
    (K : Shape) (mint : List Output) (submissions : List FullTx) (E : ℕ → List Record) → ShowsKept device before.held K mint submissions E
    → NoneRises K before.faults after.faults
    → (verdicts : VerdictsOf) (files : List (List FullTx)) → Ample K (sound_by verdicts) (λ n. limit_at device (before.held n)) files E → (a : Answer)
    → IsLaneFault device before after (file_turns verdicts files) a → a ≡ answers.Memory
run_none device before after K mint submissions E ready steady verdicts files ample a fault =
    fault_none device before after K mint submissions E ready steady (sound_by verdicts) (file_turns verdicts files) ample
    (λ X. (
      (λ lane txs lt piece.
          (let (pieces, are, next) = piece (sound_by verdicts) (is_sound_law verdicts) in (
            next.1,
            record {
              done = next.0;
              cut = are_cut K (sound_by verdicts) files lane (next.0 ++ txs ∷ next.1)
                  (subst (AreFilesPieces K (sound_by verdicts) lane files) next.2 are);
              prepares = next.3;
            },
          ))),
      (λ begun lane lt.
          (let (done, more, are, has) = begun.0 lane lt (sound_by verdicts) (is_sound_law verdicts) in
          (more, record { done = done; cut = are_cut K (sound_by verdicts) files lane (done ++ more) are; prepares = has }))),
    )) a fault
