-- Where a lane is idle at its coordinator, it is idle at each shard, with no greater number: a kept world gives the driver its condition.
use Rattle.std.proofs.Common.{◌≡◌, ℕ, ◌/◌, ◌<◌, ◌≤◌, true, false, ◌&&◌, ◌==◌, List, ◌++◌, Some, None, is_some, refl, sym, ap, ◌∙◌, subst, arith}
use Rattle.cbdc_model.specs.History.{first_rows, Minted, minted}
use Rattle.cbdc_model.specs.Ranges.{shard_node}
use Rattle.cbdc_model.specs.Records.{Shape, Batch, same_batch, Compact, Record, Row, journal, record_of, stamp_of, stamp_in, last_stamp, tells_lane}
use Rattle.cbdc_model.specs.Records.{Genesis, Lock, Finish, Forget, Start, Prepare, Commit, Discard, Done, lock_of, Upgrade, Carry, CarryStart, Seal}
use Rattle.cbdc_model.specs.Slots.{slot, slot_stamp, Idle, InLock, InFinish, InPrepare, InCommit, InDiscard}
use Rattle.ledger_laws.proofs.Next.{has_lock, has_finish, has_forget, has_prepare, Steady}
use Rattle.ledger_laws.proofs.Rows.{Structure}
use Rattle.ledger_laws.proofs.Lookups.{true_false}
use Rattle.ledger_laws.proofs.Slots.{same_batch_self}
use Rattle.ledger_laws.proofs.Moves.{all_structure, all_more, not_empty}
use Rattle.ledger_laws.proofs.Recovered.{all_dones, all_phases, done_forgot}
use Rattle.ledger_laws.proofs.Standing.{standing}
use Rattle.ledger_laws.proofs.Phases.{older_forgets}
use Rattle.ledger_laws.proofs.Repeats.{all_order}
use Rattle.ledger_laws.proofs.Ledger.{steady}
use Rattle.ledger_laws.specs.Laws.{SettledLaw}
use Rattle.cbdc_model.specs.Clean.{IsProperCompact}
use Rattle.ledger_laws.proofs.Last.{last_of, slot_by, slot_is, last_found, last_in_lane}
use Rattle.ledger_laws.proofs.Begun.{not_begun}

module _ (K : Shape) (minting : Minted) (P : Compact → Type 0) (shards : 0 < K.shards) (later : List Row) (kept : Steady K minting P later)
    (lane : ℕ) where
  abbrev J : ℕ → List Record
  J n = journal n (later ++ first_rows K minting)

  abbrev AtRest : Type 0
  AtRest = (slot (J (lane / K.lanes)) lane).phase ≡ Idle

  abbrev B : ℕ → Batch
  B m = record { lane = lane; number = m }

  st : Structure K P (later ++ first_rows K minting)
  st = all_structure K minting P shards later kept

  -- a batch that is locked at a shard is forgotten there
  forgot : AtRest → (s m : ℕ) → s < K.shards → has_lock (J (shard_node K s)) (B m) ≡ true → has_forget (J (shard_node K s)) (B m) ≡ true
  forgot idle s m lt h =
      let p : has_prepare (J (lane / K.lanes)) (B m) ≡ true = st.lock_prepared (shard_node K s) (B m) h in
      let d = (all_dones K minting P shards later kept (lane / K.lanes)).idle_done (B m) p idle in
      done_forgot K minting P shards later kept (B m) d s (
        lt,
        not_empty (lock_of (J (shard_node K s)) (B m)) _ (st.lock_part s (B m) h)
            ((all_more K minting P shards later kept (shard_node K s)).lock_some (B m) h),
      )

  no_prepare : (s m : ℕ) → has_prepare (J (shard_node K s)) (B m) ≡ false
  no_prepare s m = (all_dones K minting P shards later kept (shard_node K s)).pure (B m) (omega arith)

  pub shard_idle : AtRest → (s : ℕ) → s < K.shards → (slot (J (shard_node K s)) lane).phase ≡ Idle
  shard_idle idle s lt = elim ((slot (J (shard_node K s)) lane).phase) as (λ p. (slot (J (shard_node K s)) lane).phase ≡ p → p ≡ Idle) [
    | Idle ↦ λ e. refl
    | InLock ↦ λ e. absurd (true_false _ (forgot idle s _ lt ((st.journals (shard_node K s)).locked (B _) e refl).0)
        ((all_more K minting P shards later kept (shard_node K s)).in_lock (B _) e refl))
    | InFinish ↦ λ e. (let f = (all_more K minting P shards later kept (shard_node K s)).in_finish (B (slot (J (shard_node K s)) lane).number) e refl
        in absurd (true_false _ (forgot idle s _ lt f.0) f.1))
    | InPrepare ↦ λ e. absurd (true_false _ ((st.journals (shard_node K s)).prepared (B _) e refl).0 (no_prepare s _))
    | InCommit ↦ λ e. absurd (true_false _ ((all_phases K minting P shards later kept (shard_node K s)).commit_here (B _) e refl).0 (no_prepare s _))
    | InDiscard ↦ λ e. absurd (true_false _ ((all_phases K minting P shards later kept (shard_node K s)).discard_here (B _) e refl).0
        (no_prepare s _))
  ] refl

  at_home : ℕ
  at_home = (slot (J (lane / K.lanes)) lane).number

  pub shard_number : (s : ℕ) → (slot (J (shard_node K s)) lane).number ≤ (slot (J (lane / K.lanes)) lane).number
  shard_number s = elim (last_of (J (shard_node K s)) lane) as
      (λ o. last_of (J (shard_node K s)) lane ≡ o → (slot (J (shard_node K s)) lane).number ≤ (slot (J (lane / K.lanes)) lane).number) [
        | None ↦ λ e. (let z : (slot (J (shard_node K s)) lane).number ≡ 0 =
            ap (λ q. q.number) (slot_is (J (shard_node K s)) lane ∙ ap (slot_by lane) e)
            in omega arith)
        | Some r ↦ λ e. of_record r (ap (λ q. q.number) (slot_is (J (shard_node K s)) lane ∙ ap (slot_by lane) e)) e
            (last_in_lane (J (shard_node K s)) lane r e)
      ] refl
    where
      test : (kind n : ℕ) (c : Batch) → (c.lane == lane) ≡ true → c.number ≡ n
          → ((kind == kind) && same_batch c (record { lane = lane; number = n })) ≡ true
      test kind n c l e = grind (arith, l, e)

      itself : (c : Batch) → ((8 == 8) && same_batch c c) ≡ true
      itself c = same_batch_self c

      of_record : (r : Record) → (slot (J (shard_node K s)) lane).number ≡ (slot_by lane (Some r)).number
          → last_of (J (shard_node K s)) lane ≡ Some r → tells_lane lane r ≡ true
          → (slot (J (shard_node K s)) lane).number ≤ (slot (J (lane / K.lanes)) lane).number
      of_record (Genesis header hs) n e l = absurd (let z : false ≡ true = l in cc)
      of_record (Start header) n e l = absurd (let z : false ≡ true = l in cc)
      of_record (Upgrade stamp batch) n e l = absurd (let z : false ≡ true = l in cc)
      of_record (Seal stamp to shards) n e l = absurd (let z : false ≡ true = l in cc)
      of_record (Carry stamp header source hs numbers) n e l =
          absurd (not_begun K minting P later kept (shard_node K s) lane (Carry stamp header source hs numbers) e tt)
      of_record (CarryStart stamp header source numbers) n e l =
          absurd (not_begun K minting P later kept (shard_node K s) lane (CarryStart stamp header source numbers) e tt)
      of_record (Lock stamp c es) n e l =
          let f : record_of 2 (J (shard_node K s)) (B c.number) ≡ Some (Lock stamp c es) =
          last_found (J (shard_node K s)) 2 (B c.number) (Lock stamp c es) e (test 2 c.number c l refl) in
          let g : has_prepare (J (lane / K.lanes)) (B c.number) ≡ true = st.lock_prepared (shard_node K s) (B c.number) (ap is_some f) in
          let h : c.number ≤ (slot (J (lane / K.lanes)) lane).number = (st.journals (lane / K.lanes)).prepare_below (B c.number) g in
          omega arith
      of_record (Finish stamp c ds) n e l =
          let f : record_of 3 (J (shard_node K s)) (B c.number) ≡ Some (Finish stamp c ds) =
          last_found (J (shard_node K s)) 3 (B c.number) (Finish stamp c ds) e (test 3 c.number c l refl) in
          let h : c.number ≤ (slot (J (lane / K.lanes)) lane).number =
          (all_more K minting P shards later kept (lane / K.lanes)).commit_below (B c.number)
          (st.finish_committed (shard_node K s) (B c.number) (ap is_some f)) in
          omega arith
      of_record (Forget stamp c) n e l =
          let f : record_of 4 (J (shard_node K s)) (B c.number) ≡ Some (Forget stamp c) =
          last_found (J (shard_node K s)) 4 (B c.number) (Forget stamp c) e (test 4 c.number c l refl) in
          let g : has_finish (J (shard_node K s)) (B c.number) ≡ true =
          (all_dones K minting P shards later kept (shard_node K s)).forgot (B c.number) (ap is_some f) in
          let h : c.number ≤ (slot (J (lane / K.lanes)) lane).number =
          (all_more K minting P shards later kept (lane / K.lanes)).commit_below (B c.number)
          (st.finish_committed (shard_node K s) (B c.number) g) in
          omega arith
      of_record (Prepare stamp c txs) n e l =
          absurd (true_false _ (ap is_some (last_found (J (shard_node K s)) 6 (B c.number) (Prepare stamp c txs) e (test 6 c.number c l refl)))
          (no_prepare s c.number))
      of_record (Commit stamp c os) n e l =
          absurd (true_false _ ((st.journals (shard_node K s)).commit_prepared (B c.number)
          (ap is_some (last_found (J (shard_node K s)) 7 (B c.number) (Commit stamp c os) e (test 7 c.number c l refl)))) (no_prepare s c.number))
      of_record (Done stamp c) n e l =
          absurd (true_false _ ((all_phases K minting P shards later kept (shard_node K s)).done_prepared (B c.number)
          (ap is_some (last_found (J (shard_node K s)) 9 (B c.number) (Done stamp c) e (test 9 c.number c l refl)))).0 (no_prepare s c.number))
      of_record (Discard stamp c) n e l =
          let same : c.lane ≡ lane = grind (arith, l) in
          let f : record_of 8 (J (shard_node K s)) c ≡ Some (Discard stamp c)
          = last_found (J (shard_node K s)) 8 c (Discard stamp c) (subst (λ m. last_of (J (shard_node K s)) m ≡ Some (Discard stamp c)) (sym same) e)
          (itself c) in
          let g : is_some (record_of 6 (J (c.lane / K.lanes)) c) ≡ true =
          (standing K minting P shards later kept (shard_node K s) 8 c (Discard stamp c) f).0 in
          let h : c.number ≤ (slot (J (c.lane / K.lanes)) c.lane).number = (st.journals (c.lane / K.lanes)).prepare_below c g in
          let h' : c.number ≤ (slot (J (lane / K.lanes)) lane).number = subst (λ m. c.number ≤ (slot (J (m / K.lanes)) m).number) same h in
          omega arith

  -- and nothing of a later batch stands
  pub fresh_lock : (s : ℕ) (b : Batch) → b.lane ≡ lane → (slot (J (lane / K.lanes)) lane).number < b.number → has_lock (J (shard_node K s)) b ≡ true
      → ⊥
  fresh_lock s b e lt h =
      let a : b.number ≤ (slot (J (shard_node K s)) b.lane).number = (st.journals (shard_node K s)).lock_below b h in
      let c : b.number ≤ (slot (J (shard_node K s)) lane).number = subst (λ m. b.number ≤ (slot (J (shard_node K s)) m).number) e a in
      omega (arith, shard_number s)

  -- and its last record there is older than the newest of the coordinator
  pub shard_stamp : AtRest → (s : ℕ) → s < K.shards → slot_stamp (J (shard_node K s)) lane ≤ last_stamp (J (lane / K.lanes))
  shard_stamp idle s lt = elim (last_of (J (shard_node K s)) lane) as
      (λ o. last_of (J (shard_node K s)) lane ≡ o → stamp_in o ≤ last_stamp (J (lane / K.lanes))) [
        | None ↦ λ e. omega arith
        | Some r ↦ λ e. of_record r (sym (ap (λ q. q.phase) (slot_is (J (shard_node K s)) lane ∙ ap (slot_by lane) e)) ∙ shard_idle idle s lt) e
            (last_in_lane (J (shard_node K s)) lane r e)
      ] refl
    where
      test : (kind n : ℕ) (c : Batch) → (c.lane == lane) ≡ true → c.number ≡ n
          → ((kind == kind) && same_batch c (record { lane = lane; number = n })) ≡ true
      test kind n c l e = grind (arith, l, e)

      of_record : (r : Record) → (slot_by lane (Some r)).phase ≡ Idle → last_of (J (shard_node K s)) lane ≡ Some r → tells_lane lane r ≡ true
          → stamp_of r ≤ last_stamp (J (lane / K.lanes))
      of_record (Genesis header hs) i e l = absurd (let z : false ≡ true = l in cc)
      of_record (Start header) i e l = absurd (let z : false ≡ true = l in cc)
      of_record (Upgrade stamp batch) i e l = absurd (let z : false ≡ true = l in cc)
      of_record (Seal stamp to shards) i e l = absurd (let z : false ≡ true = l in cc)
      of_record (Carry stamp header source hs numbers) i e l =
          absurd (not_begun K minting P later kept (shard_node K s) lane (Carry stamp header source hs numbers) e tt)
      of_record (CarryStart stamp header source numbers) i e l =
          absurd (not_begun K minting P later kept (shard_node K s) lane (CarryStart stamp header source numbers) e tt)
      of_record (Lock stamp c es) i e l = absurd (let z : InLock ≡ Idle = i in cc)
      of_record (Finish stamp c ds) i e l = absurd (let z : InFinish ≡ Idle = i in cc)
      of_record (Prepare stamp c txs) i e l = absurd (let z : InPrepare ≡ Idle = i in cc)
      of_record (Commit stamp c os) i e l = absurd (let z : InCommit ≡ Idle = i in cc)
      of_record (Discard stamp c) i e l = absurd (let z : InDiscard ≡ Idle = i in cc)
      of_record (Done stamp c) i e l =
          absurd (true_false _ ((all_phases K minting P shards later kept (shard_node K s)).done_prepared (B c.number)
          (ap is_some (last_found (J (shard_node K s)) 9 (B c.number) (Done stamp c) e (test 9 c.number c l refl)))).0 (no_prepare s c.number))
      of_record (Forget stamp c) i e l =
          let f : record_of 4 (J (shard_node K s)) (B c.number) ≡ Some (Forget stamp c) =
          last_found (J (shard_node K s)) 4 (B c.number) (Forget stamp c) e (test 4 c.number c l refl) in
          let g : has_finish (J (shard_node K s)) (B c.number) ≡ true =
          (all_dones K minting P shards later kept (shard_node K s)).forgot (B c.number) (ap is_some f) in
          let p : has_prepare (J (lane / K.lanes)) (B c.number) ≡ true =
          (st.journals (lane / K.lanes)).commit_prepared (B c.number) (st.finish_committed (shard_node K s) (B c.number) g) in
          let d : is_some (record_of 9 (J (lane / K.lanes)) (B c.number)) ≡ true =
          (all_dones K minting P shards later kept (lane / K.lanes)).idle_done (B c.number) p idle in
          let o : stamp_in (record_of 4 (J (shard_node K s)) (B c.number)) < stamp_in (record_of 9 (J (lane / K.lanes)) (B c.number)) =
          older_forgets K minting P shards later kept (B c.number) d s lt in
          let m : stamp_in (record_of 4 (J (shard_node K s)) (B c.number)) ≡ stamp = ap stamp_in f in
          omega (arith, (all_order K minting P shards later kept (lane / K.lanes)).stamps_le 9 (B c.number))

pub settled_law : SettledLaw
settled_law K mint txs later lane shards kept idle s lt =
    let k = steady K (minted mint) (IsProperCompact txs) later kept in (
      shard_idle K (minted mint) (IsProperCompact txs) shards later k lane idle s lt,
      shard_number K (minted mint) (IsProperCompact txs) shards later k lane s,
      shard_stamp K (minted mint) (IsProperCompact txs) shards later k lane idle s lt,
    )
