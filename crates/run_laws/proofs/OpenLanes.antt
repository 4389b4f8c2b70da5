-- In kept journals a lane that is not idle at its coordinator is open there as recovery wants it.
use Rattle.std.proofs.Common.{◌≡◌, ◌⊎◌, inl, inr, ℕ, suc, ◌^◌, ◌<◌, ◌≤◌, Bool, true, false, ◌&&◌, not, nat_lt, List, [], ◌∷◌, ◌++◌, length, Option}
use Rattle.std.proofs.Common.{Some, None, is_some, refl, sym, ap, ◌∙◌, subst, arith}
use Rattle.cbdc_model.specs.Records.{Shape, Batch, Compact, Entry, Answered, Record, Row, journal, record_of, tells_lane, lock_of, txs_of}
use Rattle.cbdc_model.specs.Records.{outcomes_of, stamp_in, stamp_of, Forget, Prepare, Commit, Discard, Done, Carry, CarryStart}
use Rattle.cbdc_model.specs.Slots.{Phase, slot, slot_stamp, Idle, InLock, InFinish, InPrepare, InCommit, InDiscard}
use Rattle.cbdc_model.specs.Grammar.{IsInGrammar}
use Rattle.cbdc_model.specs.Replies.{entries}
use Rattle.cbdc_model.specs.Ranges.{home_of, shard_node, part, is_no_part, Concerned}
use Rattle.cbdc_model.specs.Outcomes.{outcomes, decisions}
use Rattle.cbdc_model.specs.Due.{open_batch}
use Rattle.cbdc_model.specs.Clean.{IsProperCompact}
use Rattle.cbdc_model.specs.History.{Minted, minted, header_of, first_rows}
use Rattle.cbdc_model.specs.Sights.{Sight}
use Rattle.lane_laws.specs.Calls.{is_concerned}
use Rattle.lane_laws.specs.Granting.{MayLock, MayFinish, MayForget}
use Rattle.ledger_laws.proofs.Answered.{LockAnswered, FinishAnswered, ForgetAnswered, lock_stale, lock_stored, lock_appends, finish_stale}
use Rattle.ledger_laws.proofs.Answered.{finish_stored, finish_appends, forget_stale, forget_stored, forget_appends}
use Rattle.ledger_laws.proofs.Repeats.{lock_answered, finish_answered, forget_answered}
use Rattle.ledger_laws.proofs.Settling.{shard_number}
use Rattle.ledger_laws.proofs.Next.{has_lock, Steady}
use Rattle.ledger_laws.proofs.Lookups.{true_false}
use Rattle.ledger_laws.proofs.Moves.{not_empty, all_structure, all_more}
use Rattle.ledger_laws.proofs.Recovered.{all_dones, all_phases}
use Rattle.ledger_laws.proofs.Standing.{standing}
use Rattle.ledger_laws.proofs.Last.{last_of, slot_by, slot_is, last_found, last_in_lane}
use Rattle.ledger_laws.proofs.Phases.{in_order}
use Rattle.ledger_laws.proofs.Found.{found_grammar, finished_here, locked_here, both_same}
use Rattle.ledger_laws.proofs.Ledger.{steady}
use Rattle.run_laws.specs.Open.{IsFit, HasAll, IsOpenBy, ResumeLaw, CheckedResumeLaw}
use Rattle.run_laws.specs.Runs.{seen_by}
use Rattle.run_laws.proofs.Checked.{Any, rows_of}
use Rattle.run_laws.proofs.Rests.{none_beyond}
use Rattle.run_laws.proofs.Seen.{seen_log, seen_shard}
use Rattle.run_laws.proofs.LastRecords.{LastStands, last_stands, last_stamped, IsShardPhase, of_shard, stamp_fits, prepare_stands, commit_stands}
use Rattle.run_laws.proofs.LastRecords.{discard_stands}
use Rattle.ledger_laws.proofs.Begun.{not_begun}

outcomes_length : (locks : ℕ → List Answered) (shards k : ℕ) (txs : List Compact) → length (outcomes locks shards k txs) ≡ length txs
outcomes_length locks shards k [] = refl
outcomes_length locks shards k (t ∷ ts) = ap (λ n. suc n) (outcomes_length locks shards (suc k) ts)

none_or_some : (o : Option Record) → (o ≡ None) ⊎ (is_some o ≡ true)
none_or_some None = inl refl
none_or_some (Some r) = inr refl

no_part : (p : List Entry) (es : List Answered) → entries es ≡ p → is_no_part p ≡ true → 0 < length es → ⊥
no_part p es e h lt = true_false (is_no_part p) h (not_empty es p e lt)

concerned : (s shards : ℕ) (a : Bool) → (nat_lt s shards && not a) ≡ true → (s < shards) × (a ≡ false)
concerned s shards a h = (grind (arith, h), grind (arith, h))

unconcerned : (s shards : ℕ) (a : Bool) → (nat_lt s shards && not a) ≡ false → (shards ≤ s) ⊎ (a ≡ true)
unconcerned s shards true h = inr refl
unconcerned s shards false h = inl (let le : shards ≤ s = grind (arith, h) in le)

-- the same by lists: a coordinator's journal and those of the shards
module _ (K : Shape) (b : Batch) where
  pub record Base (H : List Record) (S : ℕ → List Record) : Type 0 where
    pub fit : IsFit K b H
    pub others : (s kind : ℕ) → (kind ≡ 2) ⊎ (kind ≡ 3) ⊎ (kind ≡ 4) → is_concerned K (txs_of H b) s ≡ false → record_of kind (S s) b ≡ None

  abbrev LocksAre : List Record → (ℕ → List Record) → Type 0
  LocksAre H S = (s : ℕ) → is_concerned K (txs_of H b) s ≡ true → entries (lock_of (S s) b) ≡ part K s 0 (txs_of H b)

  abbrev Forgot : List Record → (ℕ → List Record) → Type 0
  Forgot H S = (s : ℕ) → is_concerned K (txs_of H b) s ≡ true → (slot (S s) b.lane).number ≡ b.number → (slot (S s) b.lane).phase ≡ Idle
      → (is_some (record_of 4 (S s) b) ≡ true) × (stamp_in (record_of 4 (S s) b) ≡ slot_stamp (S s) b.lane)

  -- how far the concerned shards may have come
  abbrev Locking : ℕ → List Record → (ℕ → List Record) → Type 0
  Locking t H S = (s : ℕ) → is_concerned K (txs_of H b) s ≡ true → MayLock (S s) b (part K s 0 (txs_of H b)) t

  abbrev Finishing : ℕ → List Record → (ℕ → List Record) → Type 0
  Finishing t H S = (s : ℕ) → is_concerned K (txs_of H b) s ≡ true → MayFinish (S s) b (decisions (outcomes_of H b) (part K s 0 (txs_of H b))) t

  abbrev Forgetting : ℕ → List Record → (ℕ → List Record) → Type 0
  Forgetting t H S = (s : ℕ) → is_concerned K (txs_of H b) s ≡ true → MayForget (S s) b t

  abbrev pub OpenIn : Phase → List Record → (ℕ → List Record) → Type 0
  OpenIn Idle H S = Unit {0}
  OpenIn InLock H S = ⊥
  OpenIn InFinish H S = ⊥
  OpenIn InPrepare H S = Base H S × (record_of 6 H b ≡ Some (Prepare (slot_stamp H b.lane) b (txs_of H b))) × Locking (slot_stamp H b.lane) H S
  OpenIn InCommit H S =
      Base H S × HasAll b H × ((stamp : ℕ) × (record_of 6 H b ≡ Some (Prepare stamp b (txs_of H b))))
      × (record_of 7 H b ≡ Some (Commit (slot_stamp H b.lane) b (outcomes_of H b))) × LocksAre H S × Finishing (slot_stamp H b.lane) H S
  OpenIn InDiscard H S =
      Base H S × HasAll b H × ((stamp : ℕ) × (record_of 6 H b ≡ Some (Prepare stamp b (txs_of H b))))
      × (record_of 8 H b ≡ Some (Discard (slot_stamp H b.lane) b)) × Forgot H S × Forgetting (slot_stamp H b.lane) H S

  -- as the driver's words say it
  said : (log : Sight) (shards : ℕ → Sight) → home_of K b.lane < K.coordinators → log.header.shape ≡ K → (slot log.seen b.lane).number ≡ b.number
      → (p : Phase) → (slot log.seen b.lane).phase ≡ p → OpenIn p log.seen (λ s. (shards s).seen) → IsOpenBy p K b log shards
  said log shards home shape number Idle e o = tt
  said log shards home shape number InLock e o = o
  said log shards home shape number InFinish e o = o
  said log shards home shape number InPrepare e o = (
    o.0.fit,
    record { is_open = record { home = home; shape = shape; prepare = o.1; number = number; phase = e; others = o.0.others }; locking = o.2 },
  )
  said log shards home shape number InCommit e o = (
    o.0.fit,
    o.1,
    (
      o.2.0,
      record {
        is_open = record { home = home; shape = shape; prepare = o.2.1; number = number; phase = e; others = o.0.others };
        commit = o.3;
        locks = o.4;
        finishing = o.5;
      },
    ),
  )
  said log shards home shape number InDiscard e o = (
    o.0.fit,
    o.1,
    (
      o.2.0,
      record {
        is_open = record { home = home; shape = shape; prepare = o.2.1; number = number; phase = e; others = o.0.others };
        discard = o.3;
        forgetting = o.5;
        forgot = o.4;
      },
    ),
  )

module _ (K : Shape) (minting : Minted) (P : Compact → Type 0) (some : 0 < K.shards) (later : List Row) (kept : Steady K minting P later) (b : Batch)
    (home : home_of K b.lane < K.coordinators) where
  abbrev J : ℕ → List Record
  J n = journal n (later ++ first_rows K minting)

  abbrev H : List Record
  H = J (home_of K b.lane)

  abbrev S : ℕ → List Record
  S s = J (shard_node K s)

  -- no shard has come past the lane's last batch
  module _ (number : (slot H b.lane).number ≡ b.number) (s : ℕ) where
    not_past : b.number < (slot (S s) b.lane).number → ⊥
    not_past lt = omega (arith, lt, number, shard_number K minting P some later kept b.lane s)

    pub may_forget : is_concerned K (txs_of H b) s ≡ true → (t : ℕ) → record_of 8 H b ≡ Some (Discard t b) → MayForget (S s) b t
    may_forget c t stands = from (forget_answered K minting P some later kept b t stands s
        (concerned s K.shards (is_no_part (part K s 0 (txs_of H b))) c))
      where
        from : ForgetAnswered (S s) b t → MayForget (S s) b t
        from (forget_stale lt) = absurd (not_past lt)
        from (forget_stored n i) = (n, inr i)
        from (forget_appends n p older) = (n, inl (p, older))

  module _ (number : (slot H b.lane).number ≡ b.number) (busy : (slot H b.lane).phase ≡ Idle → ⊥) where
    last : LastStands H b
    last = last_stands H b number busy

    last_grammar : IsInGrammar (header_of K minting.id (home_of K b.lane)) last.last
    last_grammar = found_grammar K minting P some later kept (home_of K b.lane) _ b last.last last.stands

    no_shard_phase : IsShardPhase (slot H b.lane).phase → ⊥
    no_shard_phase p = let le : K.coordinators ≤ home_of K b.lane =
        of_shard (header_of K minting.id (home_of K b.lane)) b.lane last.last last_grammar (subst IsShardPhase (sym last.phase) p) in
        omega (arith, le, home)

    module _ (prepared : is_some (record_of 6 H b) ≡ true) where
      prepare : (stamp : ℕ) × (record_of 6 H b ≡ Some (Prepare stamp b (txs_of H b)))
      prepare = prepare_stands H b prepared

      prepare_grammar : IsInGrammar (header_of K minting.id (home_of K b.lane)) (Prepare prepare.0 b (txs_of H b))
      prepare_grammar = found_grammar K minting P some later kept (home_of K b.lane) 6 b (Prepare prepare.0 b (txs_of H b)) prepare.1

      fit : IsFit K b H
      fit = record {
        size = prepare_grammar.3;
        limits = prepare_grammar.4;
        stamp = subst (λ t. t < 2 ^ 63) (sym last.stamp) (stamp_fits (header_of K minting.id (home_of K b.lane)) last.last last_grammar);
      }

      lock_there : (s kind : ℕ) → (kind ≡ 2) ⊎ (kind ≡ 3) ⊎ (kind ≡ 4) → is_some (record_of kind (S s) b) ≡ true → has_lock (S s) b ≡ true
      lock_there s kind (inl e) h = subst (λ k. is_some (record_of k (S s) b) ≡ true) e h
      lock_there s kind (inr (inl e)) h = locked_here K minting P some later kept s b (subst (λ k. is_some (record_of k (S s) b) ≡ true) e h)
      lock_there s kind (inr (inr e)) h = locked_here K minting P some later kept s b
          (finished_here K minting P some later kept s b (subst (λ k. is_some (record_of k (S s) b) ≡ true) e h))

      others : (s kind : ℕ) → (kind ≡ 2) ⊎ (kind ≡ 3) ⊎ (kind ≡ 4) → is_concerned K (txs_of H b) s ≡ false → record_of kind (S s) b ≡ None
      others s kind which c = elim (unconcerned s K.shards (is_no_part (part K s 0 (txs_of H b))) c) [
        | inl le ↦ ap (λ L. record_of kind L b) (none_beyond K minting P later kept (shard_node K s) (omega (arith, le)))
        | inr empty ↦ elim (none_or_some (record_of kind (S s) b)) [
          | inl none ↦ none
          | inr h ↦
              let l : has_lock (S s) b ≡ true = lock_there s kind which h in
              absurd (no_part (part K s 0 (txs_of H b)) (lock_of (S s) b) ((all_structure K minting P some later kept).lock_part s b l) empty
              ((all_more K minting P some later kept (shard_node K s)).lock_some b l))
        ]
      ]

      base : Base K b H S
      base = record { fit = fit; others = others }

      module _ (committed : is_some (record_of 7 H b) ≡ true) where
        commit : (stamp : ℕ) × (record_of 7 H b ≡ Some (Commit stamp b (outcomes_of H b)))
        commit = commit_stands H b committed

        has_all : HasAll b H
        has_all = ap length (standing K minting P some later kept (home_of K b.lane) 7 b (Commit commit.0 b (outcomes_of H b)) commit.1).2
            ∙ outcomes_length _ K.shards 0 (txs_of H b)

        pub locks : (s : ℕ) → is_concerned K (txs_of H b) s ≡ true → entries (lock_of (S s) b) ≡ part K s 0 (txs_of H b)
        locks s c = (all_structure K minting P some later kept).lock_part s b
            (((in_order K minting P some later kept b).commit committed).1 s (concerned s K.shards (is_no_part (part K s 0 (txs_of H b))) c)).0

      pub forgot : (s : ℕ) → is_concerned K (txs_of H b) s ≡ true → (slot (S s) b.lane).number ≡ b.number → (slot (S s) b.lane).phase ≡ Idle
          → (is_some (record_of 4 (S s) b) ≡ true) × (stamp_in (record_of 4 (S s) b) ≡ slot_stamp (S s) b.lane)
      forgot s c n i = elim (last_of (S s) b.lane) as
          (λ o. last_of (S s) b.lane ≡ o → (is_some (record_of 4 (S s) b) ≡ true) × (stamp_in (record_of 4 (S s) b) ≡ slot_stamp (S s) b.lane)) [
            | None ↦ λ e. absurd (let z : (slot (S s) b.lane).number ≡ 0 = ap (λ q. q.number) (slot_is (S s) b.lane ∙ ap (slot_by b.lane) e) in
                omega (arith, z, n, prepare_grammar.1.1))
            | Some r ↦ λ e. of_record r e (last_in_lane (S s) b.lane r e)
                (sym (ap (λ q. q.number) (slot_is (S s) b.lane ∙ ap (slot_by b.lane) e)) ∙ n)
                (sym (ap (λ q. q.phase) (slot_is (S s) b.lane ∙ ap (slot_by b.lane) e)) ∙ i)
          ] refl
        where
          of_record : (r : Record) → last_of (S s) b.lane ≡ Some r → tells_lane b.lane r ≡ true → (slot_by b.lane (Some r)).number ≡ b.number
              → (slot_by b.lane (Some r)).phase ≡ Idle
              → (is_some (record_of 4 (S s) b) ≡ true) × (stamp_in (record_of 4 (S s) b) ≡ slot_stamp (S s) b.lane)
          of_record (Forget stamp d) e l m i =
              let f : record_of 4 (S s) b ≡ Some (Forget stamp d) = last_found (S s) 4 b (Forget stamp d) e (both_same d b l m) in
              (ap is_some f, ap stamp_in f ∙ sym (ap stamp_in e))
          of_record (Done stamp d) e l m i =
              absurd (true_false _ ((all_phases K minting P some later kept (shard_node K s)).done_prepared b
              (ap is_some (last_found (S s) 9 b (Done stamp d) e (both_same d b l m)))).0
              ((all_dones K minting P some later kept (shard_node K s)).pure b (omega arith)))
          of_record (Carry stamp header source hs numbers) e l m i =
              absurd (not_begun K minting P later kept (shard_node K s) b.lane (Carry stamp header source hs numbers) e tt)
          of_record (CarryStart stamp header source numbers) e l m i =
              absurd (not_begun K minting P later kept (shard_node K s) b.lane (CarryStart stamp header source numbers) e tt)
          of_record other e l m i = cc

    -- ---- how far a concerned shard has come

    module _ (prepared : is_some (record_of 6 H b) ≡ true) (s : ℕ) (c : is_concerned K (txs_of H b) s ≡ true) where
      of_txs : Concerned K (txs_of H b) s
      of_txs = concerned s K.shards (is_no_part (part K s 0 (txs_of H b))) c

      -- where it is idle behind the batch, the batch is discarded
      not_forgot : is_some (record_of 8 H b) ≡ false → (slot (S s) b.lane).number ≡ b.number → (slot (S s) b.lane).phase ≡ Idle → ⊥
      not_forgot undone n i = true_false _ ((in_order K minting P some later kept b).forget s (forgot prepared s c n i).0).0 undone

      -- a shard has no record of a coordinator
      no_prepare : is_some (record_of 6 (S s) b) ≡ true → ⊥
      no_prepare h = true_false _ h ((all_dones K minting P some later kept (shard_node K s)).pure b (omega arith))

      not_finished : is_some (record_of 7 H b) ≡ false → (slot (S s) b.lane).number ≡ b.number → (slot (S s) b.lane).phase ≡ InFinish → ⊥
      not_finished undecided n p =
          true_false _ ((in_order K minting P some later kept b).finish s
          ((all_dones K minting P some later kept (shard_node K s)).finish_here b p n)).1 undecided

      pub may_lock : (t : ℕ) → record_of 6 H b ≡ Some (Prepare t b (txs_of H b)) → is_some (record_of 7 H b) ≡ false
          → is_some (record_of 8 H b) ≡ false → MayLock (S s) b (part K s 0 (txs_of H b)) t
      may_lock t stands undecided undone = from (lock_answered K minting P some later kept b t (txs_of H b) stands s of_txs.0)
        where
          stored : (slot (S s) b.lane).number ≡ b.number → entries (lock_of (S s) b) ≡ part K s 0 (txs_of H b) → (p : Phase)
              → (slot (S s) b.lane).phase ≡ p → MayLock (S s) b (part K s 0 (txs_of H b)) t
          stored n e Idle p = absurd (not_forgot undone n p)
          stored n e InLock p = inr (n, p, e)
          stored n e InFinish p = absurd (not_finished undecided n p)
          stored n e InPrepare p = absurd (no_prepare (((all_structure K minting P some later kept).journals (shard_node K s)).prepared b p n).0)
          stored n e InCommit p = absurd (no_prepare ((all_phases K minting P some later kept (shard_node K s)).commit_here b p n).0)
          stored n e InDiscard p = absurd (no_prepare ((all_phases K minting P some later kept (shard_node K s)).discard_here b p n).0)

          from : LockAnswered (S s) b (part K s 0 (txs_of H b)) t → MayLock (S s) b (part K s 0 (txs_of H b)) t
          from (lock_stale (inl lt)) = absurd (not_past number s lt)
          from (lock_stale (inr (n, i))) = absurd (not_forgot undone n i)
          from (lock_stored n e) = stored n e (slot (S s) b.lane).phase refl
          from (lock_appends lt i older) = inl (lt, i, older)

      pub may_finish : (t : ℕ) → record_of 7 H b ≡ Some (Commit t b (outcomes_of H b)) → is_some (record_of 8 H b) ≡ false
          → MayFinish (S s) b (decisions (outcomes_of H b) (part K s 0 (txs_of H b))) t
      may_finish t stands undone = subst (λ es. MayFinish (S s) b (decisions (outcomes_of H b) es) t) (locks prepared (ap is_some stands) s c)
          (from (finish_answered K minting P some later kept b t (outcomes_of H b) stands s of_txs))
        where
          from : FinishAnswered (S s) b (decisions (outcomes_of H b) (entries (lock_of (S s) b))) t
              → MayFinish (S s) b (decisions (outcomes_of H b) (entries (lock_of (S s) b))) t
          from (finish_stale (inl lt)) = absurd (not_past number s lt)
          from (finish_stale (inr (n, i))) = absurd (not_forgot undone n i)
          from (finish_stored n p e) = (n, inr (p, e))
          from (finish_appends n p f older) = (n, inl (p, f, older))

    -- the stamp of the last record is the slot's
    restamped : (kind : ℕ) (r : ℕ → Record) (t : ℕ) → ((t : ℕ) → stamp_of (r t) ≡ t) → record_of kind H b ≡ Some (r t)
        → slot_stamp H b.lane ≡ stamp_in (record_of kind H b)
        → record_of kind H b ≡ Some (r (slot_stamp H b.lane))
    restamped kind r t is e w = e ∙ ap (λ t. Some (r t)) (sym (w ∙ ap stamp_in e ∙ is t))

  pub open_in : (slot H b.lane).number ≡ b.number → (p : Phase) → (slot H b.lane).phase ≡ p → OpenIn K b p H S
  open_in n Idle e = tt
  open_in n InLock e =
      let busy : (slot H b.lane).phase ≡ Idle → ⊥ = λ i. absurd (let z : InLock ≡ Idle = sym e ∙ i in cc) in
      no_shard_phase n busy (subst IsShardPhase (sym e) tt)
  open_in n InFinish e =
      let busy : (slot H b.lane).phase ≡ Idle → ⊥ = λ i. absurd (let z : InFinish ≡ Idle = sym e ∙ i in cc) in
      no_shard_phase n busy (subst IsShardPhase (sym e) tt)
  open_in n InPrepare e =
      let busy : (slot H b.lane).phase ≡ Idle → ⊥ = λ i. absurd (let z : InPrepare ≡ Idle = sym e ∙ i in cc) in
      let has : is_some (record_of 6 H b) ≡ true = (((all_structure K minting P some later kept).journals (home_of K b.lane)).prepared b e n).0 in
      let p = prepare n busy has in
      let stands = restamped n busy 6 (λ t. Prepare t b (txs_of H b)) p.0 (λ t. refl) p.1 (last_stamped H b InPrepare e (last n busy)).1 in (
        base n busy has,
        stands,
        λ s c. may_lock n busy has s c (slot_stamp H b.lane) stands
            (((all_structure K minting P some later kept).journals (home_of K b.lane)).prepared b e n).1
            ((all_more K minting P some later kept (home_of K b.lane)).in_prepare b e n).0,
      )
  open_in n InCommit e =
      let busy : (slot H b.lane).phase ≡ Idle → ⊥ = λ i. absurd (let z : InCommit ≡ Idle = sym e ∙ i in cc) in
      let has = (all_phases K minting P some later kept (home_of K b.lane)).commit_here b e n in
      let c = commit n busy has.0 has.1 in
      let stands = restamped n busy 7 (λ t. Commit t b (outcomes_of H b)) c.0 (λ t. refl) c.1 (last_stamped H b InCommit e (last n busy)).1 in (
        base n busy has.0,
        has_all n busy has.0 has.1,
        prepare n busy has.0,
        stands,
        locks n busy has.0 has.1,
        λ s c. may_finish n busy has.0 s c (slot_stamp H b.lane) stands ((all_more K minting P some later kept (home_of K b.lane)).in_commit b e n).0,
      )
  open_in n InDiscard e =
      let busy : (slot H b.lane).phase ≡ Idle → ⊥ = λ i. absurd (let z : InDiscard ≡ Idle = sym e ∙ i in cc) in
      let has = (all_phases K minting P some later kept (home_of K b.lane)).discard_here b e n in
      let l = last_stamped H b InDiscard e (last n busy) in
      let d = discard_stands H b (ap is_some l.0) in
      let stands = restamped n busy 8 (λ t. Discard t b) d.0 (λ t. refl) d.1 l.1 in (
        base n busy has.0,
        has_all n busy has.0 has.1,
        prepare n busy has.0,
        stands,
        forgot n busy has.0,
        λ s c. may_forget n s c (slot_stamp H b.lane) stands,
      )

module _ (K : Shape) (minting : Minted) (P : Compact → Type 0) (some : 0 < K.shards) (later : List Row) (kept : Steady K minting P later) (lane : ℕ)
    (logs shards : ℕ → Sight)
    (home : home_of K lane < K.coordinators) (shape : (logs (home_of K lane)).header.shape ≡ K)
    (are : (n : ℕ) → journal n (later ++ first_rows K minting) ≡ seen_by K logs shards n) where
  resumes : IsOpenBy (slot (logs (home_of K lane)).seen lane).phase K (open_batch (logs (home_of K lane)).seen lane) (logs (home_of K lane)) shards
  resumes =
      said K b (logs (home_of K lane)) shards home shape refl (slot (logs (home_of K lane)).seen lane).phase refl
      (subst (λ T. OpenIn K b (slot (logs (home_of K lane)).seen lane).phase (logs (home_of K lane)).seen T) at_shards
      (subst (λ L. (slot L lane).number ≡ b.number → (p : Phase) → (slot L lane).phase ≡ p
      → OpenIn K b p L (λ s. journal (shard_node K s) (later ++ first_rows K minting))) at_home
      (open_in K minting P some later kept b home)
      refl (slot (logs (home_of K lane)).seen lane).phase refl))
    where
      b : Batch
      b = open_batch (logs (home_of K lane)).seen lane

      at_home : journal (home_of K lane) (later ++ first_rows K minting) ≡ (logs (home_of K lane)).seen
      at_home = are (home_of K lane) ∙ seen_log K logs shards (home_of K lane) home

      shards_of : ℕ → List Record
      shards_of s = journal (shard_node K s) (later ++ first_rows K minting)

      shards_are : ℕ → List Record
      shards_are s = (shards s).seen

      at_shards : shards_of ≡ shards_are
      at_shards = λ i s. (are (shard_node K s) ∙ seen_shard K logs shards s) i

pub resume_law : ResumeLaw
resume_law K mint submissions lane logs shards some home shape kept =
    resumes K (minted mint) (IsProperCompact submissions) some kept.later (steady K (minted mint) (IsProperCompact submissions) kept.later kept.kept)
    lane logs shards home shape kept.history.journals_are

pub checked_resume_law : CheckedResumeLaw
checked_resume_law K m lane logs shards some home shape checked =
    resumes K m Any some checked.later (rows_of K m (seen_by K logs shards) checked) lane logs shards home shape checked.history.journals_are
