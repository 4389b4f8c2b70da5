-- What kept journals add to kept journals is of batches that are prepared in the new ones and were not done in the old ones.
use Rattle.std.proofs.Common.{◌≡◌, ℕ, suc, ◌+◌, ◌-◌, ◌/◌, ◌*◌, ◌<◌, ◌≤◌, true, false, ◌&&◌, ◌==◌, List, [], ◌∷◌, ◌++◌, length, is_some, refl, sym, ap}
use Rattle.std.proofs.Common.{◌∙◌, subst, arith}
use Rattle.std.proofs.Math.Nat.{div-lt_iff_lt-mul}
use Rattle.cbdc_model.specs.Records.{Shape, Batch, Compact, Record, Row, journal, record_of, kind_of, is_of, txs_in, txs_of, lock_of, Genesis, Lock}
use Rattle.cbdc_model.specs.Records.{Finish, Forget, Start, Prepare, Commit, Discard, Done, Upgrade, Carry, CarryStart, Seal}
use Rattle.cbdc_model.specs.Slots.{slot}
use Rattle.cbdc_model.specs.Grammar.{IsShard, IsInGrammar}
use Rattle.cbdc_model.specs.Ranges.{home_of, shard_node, Concerned}
use Rattle.cbdc_model.specs.Coins.{Output, FullTx}
use Rattle.cbdc_model.specs.Clean.{IsProperCompact}
use Rattle.cbdc_model.specs.History.{Minted, minted, first_rows, header_of}
use Rattle.cbdc_model.specs.World.{KeptJournals, AreIdle}
use Rattle.cbdc_model.specs.Lanes.{IsEnd}
use Rattle.cbdc_model.specs.Waves.{Adds, prepared, has_prepare, has_done}
use Rattle.ledger_laws.proofs.ByKind.{test_itself}
use Rattle.ledger_laws.proofs.Next.{Next, Steady, has_lock, has_forget, has_prepare as is_prepared}
use Rattle.ledger_laws.proofs.Slots.{JournalOk, next_ok, same_batch_self}
use Rattle.ledger_laws.proofs.More.{MoreOk, next_more, has_done as is_done}
use Rattle.ledger_laws.proofs.Dones.{PhaseOk, next_phase}
use Rattle.ledger_laws.proofs.Lookups.{true_false, not_true}
use Rattle.ledger_laws.proofs.Cuts.{end_trans}
use Rattle.ledger_laws.proofs.Moves.{not_empty, test_step, split_test, all_structure, all_more}
use Rattle.ledger_laws.proofs.Recovered.{all_phases, done_forgot, done_if_prepared}
use Rattle.ledger_laws.proofs.Together.{lists_of}
use Rattle.ledger_laws.proofs.Ledger.{steady}
use Rattle.run_laws.proofs.NewRecords.{still_found, shifted}

module _ (K : Shape) (minting : Minted) (P Q : Compact → Type 0) (some : 0 < K.shards) (before after : List Row) (kept : Steady K minting P before)
    (kept' : Steady K minting Q after) where
  abbrev I : ℕ → List Record
  I n = journal n (before ++ first_rows K minting)

  abbrev J : ℕ → List Record
  J n = journal n (after ++ first_rows K minting)

  -- what a journal keeps
  record Oks (L : List Record) : Type 0 where
    ok : JournalOk L
    more : MoreOk L
    phases : PhaseOk L

  new_next : (n : ℕ) (newer rest : List Record) (r : Record) → J n ≡ newer ++ r ∷ rest → IsEnd (I n) rest → Next K n rest r
  new_next n newer rest r e h =
      ((lists_of K minting Q some after kept').each n newer rest r e (end_trans _ (I n) rest ((lists_of K minting P some before kept).begins n) h)).0

  new_grammar : (n : ℕ) (newer rest : List Record) (r : Record) → J n ≡ newer ++ r ∷ rest → IsEnd (I n) rest
      → IsInGrammar (header_of K minting.id n) r
  new_grammar n newer rest r e h =
      ((lists_of K minting Q some after kept').each n newer rest r e (end_trans _ (I n) rest ((lists_of K minting P some before kept).begins n) h)).3

  oks_from : (n : ℕ) (more newer : List Record) → J n ≡ newer ++ (more ++ I n) → Oks (more ++ I n)
  oks_from n [] newer e = record {
    ok = (all_structure K minting P some before kept).journals n;
    more = all_more K minting P some before kept n;
    phases = all_phases K minting P some before kept n;
  }
  oks_from n (r ∷ more) newer e =
      let below = oks_from n more (newer ++ r ∷ []) (e ∙ shifted newer more r (I n)) in
      let next : Next K n (more ++ I n) r = new_next n newer (more ++ I n) r e (more, refl) in
      record {
        ok = next_ok K n (more ++ I n) below.ok r next;
        more = next_more K n (more ++ I n) below.ok below.more r next;
        phases = next_phase K n (more ++ I n) below.ok below.phases r next;
      }

  oks_at : (n : ℕ) (newer rest : List Record) (r : Record) → J n ≡ newer ++ r ∷ rest → IsEnd (I n) rest → Oks rest
  oks_at n newer rest r e h = subst (λ L. Oks L) (sym h.1)
      (oks_from n h.0 (newer ++ r ∷ []) (e ∙ ap (λ L. newer ++ r ∷ L) h.1 ∙ shifted newer h.0 r (I n)))

  -- a Prepare that stood is the one that stands
  prepare_from : (n : ℕ) (c : Batch) → is_prepared (I n) c ≡ true → (more newer : List Record) → J n ≡ newer ++ (more ++ I n)
      → record_of 6 (more ++ I n) c ≡ record_of 6 (I n) c
  prepare_from n c stood [] newer e = refl
  prepare_from n c stood (r ∷ more) newer e =
      elim ((kind_of r == 6) && is_of c r) as (λ t. ((kind_of r == 6) && is_of c r) ≡ t → record_of 6 (r ∷ (more ++ I n)) c ≡ record_of 6 (I n) c) [
        | true ↦ λ t. absurd (not_again r (new_next n newer (more ++ I n) r e (more, refl)) t)
        | false ↦ λ t. test_step 6 r (more ++ I n) c t ∙ prepare_from n c stood more (newer ++ r ∷ []) (e ∙ shifted newer more r (I n))
      ] refl
    where
      below : c.number ≤ (slot (more ++ I n) c.lane).number
      below = (oks_from n more (newer ++ r ∷ []) (e ∙ shifted newer more r (I n))).ok.prepare_below c (still_found more (I n) 6 c stood)

      not_again : (q : Record) → Next K n (more ++ I n) q → ((kind_of q == 6) && is_of c q) ≡ true → ⊥
      not_again (Prepare stamp b txs) next t =
          let same : b ≡ c = (split_test 6 6 b c t).1 in
          let above : c.number ≡ (slot (more ++ I n) c.lane).number + 1 = subst (λ d. d.number ≡ (slot (more ++ I n) d.lane).number + 1) same next.4
          in
          omega (arith, below, above)
      not_again (Genesis header hs) next t = absurd next
      not_again (Carry stamp header source hs numbers) next t = absurd next
      not_again (Start header) next t = absurd next
      not_again (CarryStart stamp header source numbers) next t = absurd next
      not_again other next t = absurd (let z : false ≡ true = t in cc)

  module _ (grows : (n : ℕ) → IsEnd (I n) (J n)) where
    same_prepare : (n : ℕ) (c : Batch) → is_prepared (I n) c ≡ true → record_of 6 (J n) c ≡ record_of 6 (I n) c
    same_prepare n c stood = ap (λ L. record_of 6 L c) (grows n).1 ∙ prepare_from n c stood (grows n).0 [] (grows n).1

    -- a batch that was done is forgotten at each shard that has its Lock
    done_at : (c : Batch) (s : ℕ) → s < K.shards → has_lock (J (shard_node K s)) c ≡ true → has_done K I c ≡ true
        → has_forget (I (shard_node K s)) c ≡ true
    done_at c s lt locked done =
        let st = all_structure K minting Q some after kept' in
        let stood : is_prepared (I (home_of K c.lane)) c ≡ true =
        ((all_phases K minting P some before kept (home_of K c.lane)).done_prepared c done).0 in
        let part : Concerned K (txs_of (J (home_of K c.lane)) c) s = (
          lt,
          not_empty (lock_of (J (shard_node K s)) c) _ (st.lock_part s c locked)
              ((all_more K minting Q some after kept' (shard_node K s)).lock_some c locked),
        ) in
        done_forgot K minting P some before kept c done s (subst (λ o. Concerned K (txs_in o) s) (same_prepare (home_of K c.lane) c stood) part)

    -- what a new record's batch is
    abbrev IsNewOf : Batch → Type 0
    IsNewOf c = (has_prepare K J c ≡ true) × (has_done K I c ≡ false)

    -- at its coordinator, where it is not done below
    at_log : (c : Batch) (n : ℕ) (newer rest : List Record) (r : Record) → n ≡ home_of K c.lane → is_prepared (r ∷ rest) c ≡ true
        → (is_done rest c ≡ true → ⊥) → J n ≡ newer ++ r ∷ rest → IsEnd (I n) rest → IsNewOf c
    at_log c n newer rest r at stands undone e h = (
      subst (λ m. is_prepared (J m) c ≡ true) at (subst (λ L. is_prepared L c ≡ true) (sym e) (still_found newer (r ∷ rest) 6 c stands)),
      not_true _ (λ done. undone (subst (λ L. is_done L c ≡ true) (sym h.1)
          (still_found h.0 (I n) 9 c (subst (λ m. is_done (I m) c ≡ true) (sym at) done)))),
    )

    -- at a shard, where it has its Lock and is not forgotten below
    at_node : (c : Batch) (n : ℕ) (newer rest : List Record) (r : Record) → IsShard K n → has_lock (r ∷ rest) c ≡ true
        → (has_forget rest c ≡ true → ⊥) → J n ≡ newer ++ r ∷ rest → IsEnd (I n) rest → IsNewOf c
    at_node c n newer rest r shard lock fresh e h = (
      (all_structure K minting Q some after kept').lock_prepared n c locked,
      not_true _ (λ done. fresh (subst (λ L. has_forget L c ≡ true) (sym h.1) (still_found h.0 (I n) 4 c
          (subst (λ k. has_forget (I k) c ≡ true) (sym n_is)
          (done_at c (n - K.coordinators) (omega (arith, shard.0, shard.1)) (subst (λ k. has_lock (J k) c ≡ true) n_is locked) done))))),
    )
      where
        n_is : n ≡ shard_node K (n - K.coordinators)
        n_is = omega (arith, shard.0)

        locked : has_lock (J n) c ≡ true
        locked = subst (λ L. has_lock L c ≡ true) (sym e) (still_found newer (r ∷ rest) 2 c lock)

    prepared_here : (stamp : ℕ) (c : Batch) (txs : List Compact) (rest : List Record) → is_prepared (Prepare stamp c txs ∷ rest) c ≡ true
    prepared_here stamp c txs rest = rw (test_itself 6 c)

    locked_here : (stamp : ℕ) (c : Batch) (es : _) (rest : List Record) → has_lock (Lock stamp c es ∷ rest) c ≡ true
    locked_here stamp c es rest = rw (test_itself 2 c)

    new_of : (n : ℕ) (newer rest : List Record) (r : Record) → J n ≡ newer ++ r ∷ rest → IsEnd (I n) rest
        → (b : Batch) × (is_of b r ≡ true) × IsNewOf b
    new_of n newer rest r e h = by_kind r e (new_next n newer rest r e h) (oks_at n newer rest r e h)
      where
        by_kind : (r : Record) → J n ≡ newer ++ r ∷ rest → Next K n rest r → Oks rest → (b : Batch) × (is_of b r ≡ true) × IsNewOf b
        by_kind (Prepare stamp c txs) e next oks = (
          c,
          same_batch_self c,
          at_log c n newer rest (Prepare stamp c txs) next.2 (prepared_here stamp c txs rest) (λ d. omega (arith, oks.more.done_below c d, next.4)) e
              h,
        )
        by_kind (Commit stamp c os) e next oks = (
          c,
          same_batch_self c,
          at_log c n newer rest (Commit stamp c os) next.2 (oks.ok.prepared c next.3 next.4).0
              (λ d. true_false _ d (oks.more.in_prepare c next.3 next.4).1) e h,
        )
        by_kind (Discard stamp c) e next oks = (
          c,
          same_batch_self c,
          at_log c n newer rest (Discard stamp c) next.2 (oks.phases.commit_here c next.3 next.4).0
              (λ d. true_false _ d (oks.more.in_commit c next.3 next.4).1) e h,
        )
        by_kind (Done stamp c) e next oks = (
          c,
          same_batch_self c,
          at_log c n newer rest (Done stamp c) next.2 (oks.phases.discard_here c next.3 next.4).0
              (λ d. true_false _ d (oks.more.in_discard c next.3 next.4)) e h,
        )
        by_kind (Lock stamp c es) e next oks = (
          c,
          same_batch_self c,
          at_node c n newer rest (Lock stamp c es) next.1 (locked_here stamp c es rest) (λ f. omega (arith, oks.more.forget_below c f, next.3)) e h,
        )
        by_kind (Finish stamp c ds) e next oks = (
          c,
          same_batch_self c,
          at_node c n newer rest (Finish stamp c ds) next.1 (oks.ok.locked c next.2 next.3).0
              (λ f. true_false _ f (oks.more.in_lock c next.2 next.3)) e h,
        )
        by_kind (Forget stamp c) e next oks = (
          c,
          same_batch_self c,
          at_node c n newer rest (Forget stamp c) next.1 (oks.more.in_finish c next.2 next.3).0
              (λ f. true_false _ f (oks.more.in_finish c next.2 next.3).1) e h,
        )
        by_kind (Upgrade stamp batch) e next oks = absurd (new_grammar n newer rest (Upgrade stamp batch) e h)
        by_kind (Seal stamp to shards) e next oks = absurd (new_grammar n newer rest (Seal stamp to shards) e h)
        by_kind other e next oks = absurd next

    rows_add : Adds IsNewOf I J
    rows_add = record { grows = grows; each = new_of }

-- ---- where nothing is prepared

longer : (lane : ℕ) (r : Record) (L : List Record) → length (prepared lane L) ≤ length (prepared lane (r ∷ L))
longer lane (Prepare stamp b txs) L = elim (b.lane == lane) as
    (λ t. (b.lane == lane) ≡ t → length (prepared lane L) ≤ length (prepared lane (Prepare stamp b txs ∷ L))) [
      | true ↦ λ t. rw t (omega arith)
      | false ↦ λ t. rw t (omega arith)
    ] refl
longer lane other L = omega arith

longest : (lane : ℕ) (more L : List Record) → length (prepared lane L) ≤ length (prepared lane (more ++ L))
longest lane [] L = omega arith
longest lane (r ∷ more) L = omega (arith, longer lane r (more ++ L), longest lane more L)

one_more : (b c : Batch) (stamp : ℕ) (txs : List Compact) (L : List Record) → (c.lane == b.lane) ≡ true
    → length (prepared b.lane (Prepare stamp c txs ∷ L)) ≡ suc (length (prepared b.lane L))
one_more b c stamp txs L z = rw z

-- a record by which no more is prepared is no Prepare of the batch
no_prepare : (b : Batch) (r : Record) (L : List Record) → length (prepared b.lane (r ∷ L)) ≤ length (prepared b.lane L)
    → ((kind_of r == 6) && is_of b r) ≡ false
no_prepare b (Prepare stamp c txs) L le = not_true _ (λ t.
    let e : c ≡ b = (split_test 6 6 c b t).1 in
    let z : (c.lane == b.lane) ≡ true = grind (arith, ap (λ d. d.lane) e) in
    omega (arith, le, one_more b c stamp txs L z))
no_prepare b other L le = refl

unprepared : (b : Batch) (more L : List Record) → length (prepared b.lane (more ++ L)) ≤ length (prepared b.lane L)
    → record_of 6 (more ++ L) b ≡ record_of 6 L b
unprepared b [] L le = refl
unprepared b (r ∷ more) L le =
    test_step 6 r (more ++ L) b (no_prepare b r (more ++ L) (omega (arith, le, longest b.lane more L)))
    ∙ unprepared b more L (omega (arith, le, longer b.lane r (more ++ L)))

module _ (K : Shape) (mint : List Output) (submissions others : List FullTx) (I J : ℕ → List Record) (some : 0 < K.shards)
    (kept : KeptJournals K mint submissions I) (kept' : KeptJournals K mint others J) (grows : (n : ℕ) → IsEnd (I n) (J n)) where
  pub news : Adds (λ b. (has_prepare K J b ≡ true) × (has_done K I b ≡ false)) I J
  news =
      subst (λ X. ((n : ℕ) → IsEnd (X n) (J n)) → Adds (λ b. (has_prepare K J b ≡ true) × (has_done K X b ≡ false)) X J)
      (λ i n. kept.history.journals_are n i)
      (subst (λ Y. ((n : ℕ) → IsEnd (old n) (Y n)) → Adds (λ b. (has_prepare K Y b ≡ true) × (has_done K old b ≡ false)) old Y)
      (λ i n. kept'.history.journals_are n i)
      (rows_add K (minted mint) (IsProperCompact submissions) (IsProperCompact others) some kept.later kept'.later
      (steady K (minted mint) (IsProperCompact submissions) kept.later kept.kept)
      (steady K (minted mint) (IsProperCompact others) kept'.later kept'.kept))) grows
    where
      old : ℕ → List Record
      old n = journal n (kept.later ++ first_rows K (minted mint))

  -- where every lane was idle they are of batches that were not prepared
  pub new_batches : 0 < K.lanes → AreIdle K I → Adds (λ b. has_prepare K I b ≡ false) I J
  new_batches lanes idle = record {
    grows = grows;
    each = λ n newer rest r e h. let (b, is, new) = news.each n newer rest r e h in
        (b, is, not_true _ (λ stood. true_false _ (was_done b stood) new.1));
  }
    where
      inside : (lane : ℕ) → lane / K.lanes < K.coordinators → lane < K.coordinators * K.lanes
      inside lane low = (div-lt_iff_lt-mul {k = K.lanes} {x = lane} {y = K.coordinators} lanes).0 low

      was_done : (b : Batch) → has_prepare K I b ≡ true → has_done K I b ≡ true
      was_done b stood =
          subst (λ X. has_prepare K X b ≡ true → has_done K X b ≡ true) (λ i n. kept.history.journals_are n i)
          (done_if_prepared K (minted mint) (IsProperCompact submissions) some kept.later
          (steady K (minted mint) (IsProperCompact submissions) kept.later kept.kept)
          (λ lane low. ap (λ L. (slot L lane).phase) (kept.history.journals_are (home_of K lane)) ∙ idle lane (inside lane low)) b) stood

  -- where nothing was prepared they are of batches that were open
  pub open_batches : ((lane : ℕ) → prepared lane (J (home_of K lane)) ≡ prepared lane (I (home_of K lane)))
      → Adds (λ b. (has_prepare K I b ≡ true) × (has_done K I b ≡ false)) I J
  open_batches same = record {
    grows = grows;
    each = λ n newer rest r e h. let (b, is, new) = news.each n newer rest r e h in (b, is, (stood b new.0, new.1));
  }
    where
      stood : (b : Batch) → has_prepare K J b ≡ true → has_prepare K I b ≡ true
      stood b stands =
          let home = grows (home_of K b.lane) in
          let le : length (prepared b.lane (home.0 ++ I (home_of K b.lane))) ≤ length (prepared b.lane (I (home_of K b.lane))) =
          subst (λ L. length (prepared b.lane L) ≤ length (prepared b.lane (I (home_of K b.lane)))) home.1
          (omega (arith, ap length (same b.lane))) in
          ap is_some (sym (unprepared b home.0 (I (home_of K b.lane)) le)) ∙ subst (λ L. is_some (record_of 6 L b) ≡ true) home.1 stands
