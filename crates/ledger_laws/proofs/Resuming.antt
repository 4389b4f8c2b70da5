-- What is still to come of a lane's open batch may be written: the Locks of a prepared batch, its Commit, the Finishes, the Discard, the Forgets, the
-- Done.
use Rattle.std.proofs.Common.{◌≡◌, inl, inr, ℕ, zero, suc, ◌+◌, ◌^◌, ◌<◌, ◌≤◌, ◌/◌, max, true, false, ◌&&◌, ◌==◌, List, [], ◌∷◌, ◌++◌, length, Some}
use Rattle.std.proofs.Common.{is_some, refl, sym, ap, ◌∙◌, subst, arith}
use Rattle.std.specs.List.{AllByRecursion}
use Rattle.std.proofs.lemmas.List.Elements.{All-from_recursion, recursion_from_All}
use Rattle.cbdc_model.specs.Records.{Digest, Shape, Batch, Compact, Entry, Outcome, Answered, Record, Row, journal, record_of, kind_of, is_of}
use Rattle.cbdc_model.specs.Records.{entries_in, txs_in, outcomes_in, lock_of, txs_of, stamp_of, stamp_in, last_stamp, Lock, Finish, Forget, Prepare}
use Rattle.cbdc_model.specs.Records.{Commit, Discard, Done}
use Rattle.cbdc_model.specs.Slots.{slot, InPrepare, InCommit, InDiscard}
use Rattle.cbdc_model.specs.Replies.{answered, entries}
use Rattle.cbdc_model.specs.Ranges.{shard_node, part, is_no_part, Concerned}
use Rattle.cbdc_model.specs.Outcomes.{decisions, outcomes}
use Rattle.cbdc_model.specs.Grammar.{IsShard, IsEntry, IsOutcome, IsCompact, IsInGrammar}
use Rattle.cbdc_model.specs.Causes.{greatest, at_shards, AllHave, IsCaused, last_of}
use Rattle.cbdc_model.specs.History.{Minted, header_of, first_rows}
use Rattle.ledger_laws.proofs.Next.{Next, has_lock, has_finish, has_forget, Steady, AllProper}
use Rattle.ledger_laws.proofs.Lookups.{true_false, no_lock}
use Rattle.ledger_laws.proofs.Slots.{same_batch_self}
use Rattle.ledger_laws.proofs.Recovered.{all_dones}
use Rattle.ledger_laws.proofs.Repeats.{all_order, lock_answered, finish_answered, forget_answered}
use Rattle.ledger_laws.proofs.Answered.{LockAnswered, FinishAnswered, ForgetAnswered, lock_stale, lock_stored, lock_appends, finish_stale}
use Rattle.ledger_laws.proofs.Answered.{finish_stored, finish_appends, forget_stale, forget_stored, forget_appends}
use Rattle.ledger_laws.proofs.Settling.{shard_number}
use Rattle.ledger_laws.proofs.Planned.{entries_answered, newer}
use Rattle.ledger_laws.proofs.Found.{found_grammar, lock_fits, forgot_here, finished_here, locked_here, commit_locked, holders}
use Rattle.ledger_laws.proofs.Fitting.{Fits, part_fits, outcomes_fit, outcomes_length}
use Rattle.ledger_laws.specs.Resumed.{IsNoPrepare}

-- a record that may be written at a node, of a kind of a batch, with a stamp at most one above all last ones
pub record Writes (K : Shape) (id : Digest) (P : Compact → Type 0) (J : ℕ → List Record) (n : ℕ) (b : Batch) (kind top : ℕ) : Type 0 where
  pub r : Record
  pub next : Next K n (J n) r
  pub caused : IsCaused K J n r
  pub passes : AllProper P r
  pub grammar : IsInGrammar (header_of K id n) r
  pub of_kind : ((kind_of r == kind) && is_of b r) ≡ true
  pub stamp : stamp_of r ≤ suc top
  pub begun : IsNoPrepare r

-- a record that is next at a node and caused, and in the grammar
pub record IsDue (K : Shape) (id : Digest) (J : ℕ → List Record) (n : ℕ) (r : Record) : Type 0 where
  pub next : Next K n (J n) r
  pub caused : IsCaused K J n r
  pub grammar : IsInGrammar (header_of K id n) r

some_entries : (p : List Entry) (es : List Answered) → entries es ≡ p → is_no_part p ≡ false → 0 < length es
some_entries p [] e h = absurd (let z : true ≡ false = ap is_no_part e ∙ h in cc)
some_entries p (a ∷ es) e h = omega arith

decisions_length : (os : List Outcome) (es : List Answered) → length (decisions os (entries es)) ≡ length es
decisions_length os [] = refl
decisions_length os (a ∷ es) = ap (λ n. suc n) (decisions_length os es)

pub greatest_le : (f : ℕ → ℕ) (top n : ℕ) → ((s : ℕ) → f s ≤ top) → greatest f n ≤ top
greatest_le f top zero h = omega arith
greatest_le f top (suc n) h = omega (arith, greatest_le f top n h, h n)

stamped : (own cause top : ℕ) → own ≤ top → cause ≤ top → suc (max own cause) ≤ suc top
stamped own cause top h g = omega arith

late : (own cause top : ℕ) → own ≤ top → cause ≤ top → suc top ≤ 2 ^ 62 + 2 ^ 20 → (1 ≤ suc (max own cause)) × (suc (max own cause) ≤ 2 ^ 62 + 2 ^ 20)
late own cause top h g room = (omega arith, omega arith)

module _ (K : Shape) (minting : Minted) (P : Compact → Type 0) (shards : 0 < K.shards) (later : List Row) (kept : Steady K minting P later) where
  abbrev J : ℕ → List Record
  J n = journal n (later ++ first_rows K minting)

  at_shard : (s : ℕ) → s < K.shards → IsShard K (shard_node K s)
  at_shard s lt = (omega arith, omega arith)

  -- a Lock that is still to come, of a batch whose Prepare stands, and whose number is the lane's
  module _ (b : Batch) (cause : ℕ) (txs : List Compact) (stands : record_of 6 (J (b.lane / K.lanes)) b ≡ Some (Prepare cause b txs))
      (number : (slot (J (b.lane / K.lanes)) b.lane).number ≡ b.number) where
    its_grammar : IsInGrammar (header_of K minting.id (b.lane / K.lanes)) (Prepare cause b txs)
    its_grammar = found_grammar K minting P shards later kept (b.lane / K.lanes) 6 b (Prepare cause b txs) stands

    not_past : (s : ℕ) → b.number < (slot (J (shard_node K s)) b.lane).number → ⊥
    not_past s lt = let le = shard_number K minting P shards later kept b.lane s in omega arith

    abbrev pub due_lock : ℕ → Record
    due_lock s = Lock (suc (max (last_stamp (J (shard_node K s))) cause)) b (answered (J (shard_node K s)) b [] (part K s 0 txs))

    pub lock_next : (s : ℕ) → Concerned K txs s → has_lock (J (shard_node K s)) b ≡ false → suc (max (last_stamp (J (shard_node K s))) cause) ≤ 2 ^ 62
        → IsDue K minting.id J (shard_node K s) (due_lock s)
    lock_next s c missing in_time = by_answer (lock_answered K minting P shards later kept b cause txs stands s c.0)
      where
        same : entries (answered (J (shard_node K s)) b [] (part K s 0 txs)) ≡ part K s 0 txs
        same = entries_answered (J (shard_node K s)) b (part K s 0 txs) []

        fits : Fits K s (J (shard_node K s)) b its_grammar.1 (holders K minting P shards later kept (shard_node K s)) 0 K.batch (length txs)
            (answered (J (shard_node K s)) b [] (part K s 0 txs))
        fits = part_fits K s (J (shard_node K s)) b its_grammar.1 (holders K minting P shards later kept (shard_node K s)) [] 0 K.batch txs
            (recursion_from_All IsCompact txs its_grammar.4) (omega (arith, its_grammar.3))

        some : 0 < length (answered (J (shard_node K s)) b [] (part K s 0 txs))
        some = some_entries (part K s 0 txs) (answered (J (shard_node K s)) b [] (part K s 0 txs)) same c.1

        locked : entries (lock_of (J (shard_node K s)) b) ≡ part K s 0 txs → ⊥
        locked e = let n = some_entries (part K s 0 txs) (lock_of (J (shard_node K s)) b) e c.1 in let z =
            ap (λ fs. length fs) (no_lock (J (shard_node K s)) b missing) in omega arith

        by_answer : LockAnswered (J (shard_node K s)) b (part K s 0 txs) cause → IsDue K minting.id J (shard_node K s) (due_lock s)
        by_answer (lock_stale (inl lt)) = absurd (not_past s lt)
        by_answer (lock_stale (inr (e, i))) = absurd
            (true_false _ (locked_here K minting P shards later kept s b
            (finished_here K minting P shards later kept s b (forgot_here K minting P shards later kept s b its_grammar.1.1 e i))) missing)
        by_answer (lock_stored n e) = absurd (locked e)
        by_answer (lock_appends lt i after) = record {
          next = (
            newer (last_stamp (J (shard_node K s))) cause,
            at_shard s c.0,
            i,
            lt,
            ap (λ p. answered (J (shard_node K s)) b [] p) (sym same),
            some,
          );
          caused = (
            ap is_some stands,
            (λ k e. same ∙ (let m : s ≡ k = omega arith in subst (λ m. part K s 0 txs ≡ part K m 0 txs) m refl)
                ∙ ap (λ r. part K k 0 (txs_in r)) (sym stands)),
            ap (λ r. suc (max (last_stamp (J (shard_node K s))) (stamp_in r))) (sym stands),
          );
          grammar = (
            (omega arith, in_time),
            its_grammar.1,
            at_shard s c.0,
            (some, omega (arith, fits.size, its_grammar.3)),
            fits.rises,
            All-from_recursion (IsEntry K (shard_node K s)) (answered (J (shard_node K s)) b [] (part K s 0 txs)) fits.all,
          );
        }

  -- all last stamps are at most this, and there is one more
  module _ (top : ℕ) (low : (n : ℕ) → last_stamp (J n) ≤ top) (room : suc top ≤ 2 ^ 62 + 2 ^ 20) where
    low_at : (kind n : ℕ) (b : Batch) → stamp_in (record_of kind (J n) b) ≤ top
    low_at kind n b = omega (arith, (all_order K minting P shards later kept n).stamps_le kind b, low n)

    -- of a batch whose Prepare stands, and whose number is the lane's
    module _ (b : Batch) (cause : ℕ) (txs : List Compact) (stands : record_of 6 (J (b.lane / K.lanes)) b ≡ Some (Prepare cause b txs))
        (number : (slot (J (b.lane / K.lanes)) b.lane).number ≡ b.number) where
      prepared : IsInGrammar (header_of K minting.id (b.lane / K.lanes)) (Prepare cause b txs)
      prepared = found_grammar K minting P shards later kept (b.lane / K.lanes) 6 b (Prepare cause b txs) stands

      same_txs : txs_of (J (b.lane / K.lanes)) b ≡ txs
      same_txs = ap txs_in stands

      pub lock_writes : suc top ≤ 2 ^ 62 → (s : ℕ) → Concerned K txs s → has_lock (J (shard_node K s)) b ≡ false
          → Writes K minting.id P J (shard_node K s) b 2 top
      lock_writes in_time s c missing =
          let due = lock_next b cause txs stands number s c missing
          (omega (arith, stamped (last_stamp (J (shard_node K s))) cause top (low (shard_node K s)) low_cause, in_time)) in
          record {
            r = due_lock b cause txs stands number s;
            next = due.next;
            caused = due.caused;
            passes = tt;
            grammar = due.grammar;
            of_kind = same_batch_self b;
            stamp = stamped (last_stamp (J (shard_node K s))) cause top (low (shard_node K s)) low_cause;
            begun = tt;
          }
        where
          low_cause : cause ≤ top
          low_cause = let l : stamp_in (record_of 6 (J (b.lane / K.lanes)) b) ≤ top = low_at 6 (b.lane / K.lanes) b in
              subst (λ r. stamp_in r ≤ top) stands l

      pub commit_writes : (slot (J (b.lane / K.lanes)) b.lane).phase ≡ InPrepare → AllHave K J 2 b
          → Writes K minting.id P J (b.lane / K.lanes) b 7 top
      commit_writes phase have = record {
        r = Commit (suc (max (last_stamp (J (b.lane / K.lanes))) (last_of K J 2 b))) b
            (outcomes (λ s. entries_in (at_shards K J 2 b s)) K.shards 0 (txs_of (J (b.lane / K.lanes)) b));
        next = (newer (last_stamp (J (b.lane / K.lanes))) (last_of K J 2 b), prepared.2, refl, phase, number, same_length);
        caused = (have, refl, refl);
        passes = tt;
        grammar = (
          late (last_stamp (J (b.lane / K.lanes))) (last_of K J 2 b) top (low (b.lane / K.lanes)) low_locks room,
          prepared.1,
          prepared.2,
          sized,
          All-from_recursion (IsOutcome K) (outcomes (λ s. entries_in (at_shards K J 2 b s)) K.shards 0 (txs_of (J (b.lane / K.lanes)) b))
              (outcomes_fit K (λ s. entries_in (at_shards K J 2 b s)) locks_fit 0 (txs_of (J (b.lane / K.lanes)) b)),
        );
        of_kind = same_batch_self b;
        stamp = stamped (last_stamp (J (b.lane / K.lanes))) (last_of K J 2 b) top (low (b.lane / K.lanes)) low_locks;
        begun = tt;
      }
        where
          low_locks : last_of K J 2 b ≤ top
          low_locks = greatest_le (λ s. stamp_in (at_shards K J 2 b s)) top K.shards (λ s. low_at 2 (shard_node K s) b)

          locks_fit : (s : ℕ) → s < K.shards → AllByRecursion (IsEntry K (shard_node K s)) (entries_in (at_shards K J 2 b s))
          locks_fit s lt = elim (has_lock (J (shard_node K s)) b) as
              (λ c. has_lock (J (shard_node K s)) b ≡ c → AllByRecursion (IsEntry K (shard_node K s)) (lock_of (J (shard_node K s)) b)) [
                | true ↦ λ e. (lock_fits K minting P shards later kept (shard_node K s) b e).all
                | false ↦ λ e. subst (λ fs. AllByRecursion (IsEntry K (shard_node K s)) fs) (sym (no_lock (J (shard_node K s)) b e)) tt
              ] refl

          same_length : length (outcomes (λ s. entries_in (at_shards K J 2 b s)) K.shards 0 (txs_of (J (b.lane / K.lanes)) b))
              ≡ length (txs_of (J (b.lane / K.lanes)) b)
          same_length = outcomes_length K (λ s. entries_in (at_shards K J 2 b s)) locks_fit 0 (txs_of (J (b.lane / K.lanes)) b)

          sized : (1 ≤ length (outcomes (λ s. entries_in (at_shards K J 2 b s)) K.shards 0 (txs_of (J (b.lane / K.lanes)) b)))
              × (length (outcomes (λ s. entries_in (at_shards K J 2 b s)) K.shards 0 (txs_of (J (b.lane / K.lanes)) b)) ≤ K.batch)
          sized = let l = ap (λ ts. length ts) same_txs in (omega (arith, same_length, prepared.3), omega (arith, same_length, prepared.3))

      pub discard_writes : (slot (J (b.lane / K.lanes)) b.lane).phase ≡ InCommit → AllHave K J 3 b
          → Writes K minting.id P J (b.lane / K.lanes) b 8 top
      discard_writes phase have = record {
        r = Discard (suc (max (last_stamp (J (b.lane / K.lanes))) (last_of K J 3 b))) b;
        next = (newer (last_stamp (J (b.lane / K.lanes))) (last_of K J 3 b), prepared.2, refl, phase, number);
        caused = (have, refl);
        passes = tt;
        grammar = (late (last_stamp (J (b.lane / K.lanes))) (last_of K J 3 b) top (low (b.lane / K.lanes)) low_finishes room, prepared.1, prepared.2);
        of_kind = same_batch_self b;
        stamp = stamped (last_stamp (J (b.lane / K.lanes))) (last_of K J 3 b) top (low (b.lane / K.lanes)) low_finishes;
        begun = tt;
      }
        where
          low_finishes : last_of K J 3 b ≤ top
          low_finishes = greatest_le (λ s. stamp_in (at_shards K J 3 b s)) top K.shards (λ s. low_at 3 (shard_node K s) b)

      pub done_writes : (slot (J (b.lane / K.lanes)) b.lane).phase ≡ InDiscard → AllHave K J 4 b → Writes K minting.id P J (b.lane / K.lanes) b 9 top
      done_writes phase have = record {
        r = Done (suc (max (last_stamp (J (b.lane / K.lanes))) (last_of K J 4 b))) b;
        next = (newer (last_stamp (J (b.lane / K.lanes))) (last_of K J 4 b), prepared.2, refl, phase, number);
        caused = (have, refl);
        passes = tt;
        grammar = (late (last_stamp (J (b.lane / K.lanes))) (last_of K J 4 b) top (low (b.lane / K.lanes)) low_forgets room, prepared.1, prepared.2);
        of_kind = same_batch_self b;
        stamp = stamped (last_stamp (J (b.lane / K.lanes))) (last_of K J 4 b) top (low (b.lane / K.lanes)) low_forgets;
        begun = tt;
      }
        where
          low_forgets : last_of K J 4 b ≤ top
          low_forgets = greatest_le (λ s. stamp_in (at_shards K J 4 b s)) top K.shards (λ s. low_at 4 (shard_node K s) b)

      pub finish_writes : (stamp : ℕ) (os : List Outcome) → record_of 7 (J (b.lane / K.lanes)) b ≡ Some (Commit stamp b os) → (s : ℕ)
          → Concerned K txs s
          → has_finish (J (shard_node K s)) b ≡ false → Writes K minting.id P J (shard_node K s) b 3 top
      finish_writes stamp os committed s c missing =
          by_answer (finish_answered K minting P shards later kept b stamp os committed s (subst (λ ts. Concerned K ts s) (sym same_txs) c))
        where
          low_commit : stamp ≤ top
          low_commit = let l : stamp_in (record_of 7 (J (b.lane / K.lanes)) b) ≤ top = low_at 7 (b.lane / K.lanes) b in
              subst (λ r. stamp_in r ≤ top) committed l

          locked : has_lock (J (shard_node K s)) b ≡ true
          locked = commit_locked K minting P shards later kept b stamp os committed s (subst (λ ts. Concerned K ts s) (sym same_txs) c)

          sized : (1 ≤ length (decisions os (entries (lock_of (J (shard_node K s)) b))))
              × (length (decisions os (entries (lock_of (J (shard_node K s)) b))) ≤ K.batch)
          sized = let f = (lock_fits K minting P shards later kept (shard_node K s) b locked).size in let l =
              decisions_length os (lock_of (J (shard_node K s)) b) in (omega arith, omega arith)

          by_answer : FinishAnswered (J (shard_node K s)) b (decisions os (entries (lock_of (J (shard_node K s)) b))) stamp
              → Writes K minting.id P J (shard_node K s) b 3 top
          by_answer (finish_stale (inl lt)) = absurd (not_past b cause txs stands number s lt)
          by_answer (finish_stale (inr (e, i))) =
              absurd (true_false _ (finished_here K minting P shards later kept s b (forgot_here K minting P shards later kept s b prepared.1.1 e i))
              missing)
          by_answer (finish_stored n p e) = absurd
              (true_false _ ((all_dones K minting P shards later kept (shard_node K s)).finish_here b p n) missing)
          by_answer (finish_appends n p fit after) = record {
            r = Finish (suc (max (last_stamp (J (shard_node K s))) stamp)) b (decisions os (entries (lock_of (J (shard_node K s)) b)));
            next = (newer (last_stamp (J (shard_node K s))) stamp, at_shard s c.0, p, n, fit);
            caused = (
              ap is_some committed,
              ap (λ r. decisions (outcomes_in r) (entries (lock_of (J (shard_node K s)) b))) (sym committed),
              ap (λ r. suc (max (last_stamp (J (shard_node K s))) (stamp_in r))) (sym committed),
            );
            passes = tt;
            grammar = (late (last_stamp (J (shard_node K s))) stamp top (low (shard_node K s)) low_commit room, prepared.1, at_shard s c.0, sized);
            of_kind = same_batch_self b;
            stamp = stamped (last_stamp (J (shard_node K s))) stamp top (low (shard_node K s)) low_commit;
            begun = tt;
          }

      pub forget_writes : (stamp : ℕ) → record_of 8 (J (b.lane / K.lanes)) b ≡ Some (Discard stamp b) → (s : ℕ) → Concerned K txs s
          → has_forget (J (shard_node K s)) b ≡ false → Writes K minting.id P J (shard_node K s) b 4 top
      forget_writes stamp discarded s c missing =
          by_answer (forget_answered K minting P shards later kept b stamp discarded s (subst (λ ts. Concerned K ts s) (sym same_txs) c))
        where
          low_discard : stamp ≤ top
          low_discard = let l : stamp_in (record_of 8 (J (b.lane / K.lanes)) b) ≤ top = low_at 8 (b.lane / K.lanes) b in
              subst (λ r. stamp_in r ≤ top) discarded l

          by_answer : ForgetAnswered (J (shard_node K s)) b stamp → Writes K minting.id P J (shard_node K s) b 4 top
          by_answer (forget_stale lt) = absurd (not_past b cause txs stands number s lt)
          by_answer (forget_stored n p) = absurd (true_false _ (forgot_here K minting P shards later kept s b prepared.1.1 n p) missing)
          by_answer (forget_appends n p after) = record {
            r = Forget (suc (max (last_stamp (J (shard_node K s))) stamp)) b;
            next = (newer (last_stamp (J (shard_node K s))) stamp, at_shard s c.0, p, n);
            caused = (ap is_some discarded, ap (λ r. suc (max (last_stamp (J (shard_node K s))) (stamp_in r))) (sym discarded));
            passes = tt;
            grammar = (late (last_stamp (J (shard_node K s))) stamp top (low (shard_node K s)) low_discard room, prepared.1, at_shard s c.0);
            of_kind = same_batch_self b;
            stamp = stamped (last_stamp (J (shard_node K s))) stamp top (low (shard_node K s)) low_discard;
            begun = tt;
          }
