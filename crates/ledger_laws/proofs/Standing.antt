-- What a record that stands says of the records that caused it, in every later world.
use Rattle.std.proofs.Common.{◌≡◌, ◌⊎◌, inl, inr, ℕ, ◌<◌, ◌/◌, true, false, ◌&&◌, ◌==◌, List, [], ◌∷◌, ◌++◌, Some, is_some, refl, sym, ap, ◌∙◌, subst}
use Rattle.std.proofs.Common.{arith}
use Rattle.cbdc_model.specs.Causes.{at_shards, AllHave, IsCaused}
use Rattle.cbdc_model.specs.History.{first_rows, Minted}
use Rattle.cbdc_model.specs.Outcomes.{outcomes, decisions}
use Rattle.cbdc_model.specs.Ranges.{shard_node, part, Concerned}
use Rattle.cbdc_model.specs.Records.{Shape, Batch, Compact, Record, Row, journal, record_of, kind_of, is_of, stamp_in, entries_in, txs_in}
use Rattle.cbdc_model.specs.Records.{outcomes_in, Genesis, Lock, Finish, Forget, Start, Prepare, Commit, Discard, Done, Upgrade, Carry, CarryStart}
use Rattle.cbdc_model.specs.Records.{Seal}
use Rattle.cbdc_model.specs.Replies.{entries}
use Rattle.ledger_laws.proofs.Next.{Next, Steady}
use Rattle.ledger_laws.proofs.ByKind.{some_is, found_new}
use Rattle.ledger_laws.proofs.Slots.{JournalOk}
use Rattle.ledger_laws.proofs.More.{MoreOk}
use Rattle.ledger_laws.proofs.Dones.{PhaseOk}
use Rattle.ledger_laws.proofs.Rows.{Structure, at, away, at_node, head_at, head_away}
use Rattle.ledger_laws.proofs.Lookups.{true_false}
use Rattle.ledger_laws.proofs.First.{journal_first, all_first}
use Rattle.ledger_laws.proofs.Moves.{kept_lookup, same_shards, greatest_bound, test_step, all_structure, all_more, none_of}
use Rattle.ledger_laws.proofs.Recovered.{all_phases}

-- each shard's record of the kind is older
abbrev pub AllOlder : Shape → (ℕ → List Record) → ℕ → Batch → ℕ → Type 0
AllOlder K J kind b stamp = (s : ℕ) → s < K.shards → stamp_in (at_shards K J kind b s) < stamp

abbrev pub Facts : Shape → (ℕ → List Record) → ℕ → Record → Type 0
Facts K J node (Genesis header hs) = Unit {0}
Facts K J node (Start header) = Unit {0}
Facts K J node (Carry stamp header source hs numbers) = Unit {0}
Facts K J node (CarryStart stamp header source numbers) = Unit {0}
Facts K J node (Upgrade stamp batch) = Unit {0}
Facts K J node (Seal stamp to shards) = Unit {0}
Facts K J node (Prepare stamp b txs) = 0 < stamp
Facts K J node (Lock stamp b es) =
    let cause = record_of 6 (J (b.lane / K.lanes)) b in
    (is_some cause ≡ true) × ((s : ℕ) → node ≡ shard_node K s → entries es ≡ part K s 0 (txs_in cause)) × (stamp_in cause < stamp)
Facts K J node (Finish stamp b ds) =
    let cause = record_of 7 (J (b.lane / K.lanes)) b in
    let lock = record_of 2 (J node) b in
    (is_some cause ≡ true) × (is_some lock ≡ true) × (ds ≡ decisions (outcomes_in cause) (entries (entries_in lock))) × (stamp_in cause < stamp)
Facts K J node (Forget stamp b) = let cause = record_of 8 (J (b.lane / K.lanes)) b in (is_some cause ≡ true) × (stamp_in cause < stamp)
Facts K J node (Commit stamp b os) =
    (is_some (record_of 6 (J (b.lane / K.lanes)) b) ≡ true) × AllHave K J 2 b
    × (os ≡ outcomes (λ s. entries_in (at_shards K J 2 b s)) K.shards 0 (txs_in (record_of 6 (J (b.lane / K.lanes)) b))) × AllOlder K J 2 b stamp
Facts K J node (Discard stamp b) = (is_some (record_of 6 (J (b.lane / K.lanes)) b) ≡ true) × AllHave K J 3 b × AllOlder K J 3 b stamp
Facts K J node (Done stamp b) = (is_some (record_of 6 (J (b.lane / K.lanes)) b) ≡ true) × AllHave K J 4 b × AllOlder K J 4 b stamp

-- they hold where the record is caused
pub facts_now : (K : Shape) (J : ℕ → List Record) (node : ℕ) (r : Record) → JournalOk (J node) → PhaseOk (J node) → Next K node (J node) r
    → IsCaused K J node r → Facts K J node r
facts_now K J node (Genesis header hs) ok phases next c = tt
facts_now K J node (Start header) ok phases next c = tt
facts_now K J node (Carry stamp header source hs numbers) ok phases next c = tt
facts_now K J node (CarryStart stamp header source numbers) ok phases next c = tt
facts_now K J node (Upgrade stamp batch) ok phases next c = tt
facts_now K J node (Seal stamp to shards) ok phases next c = tt
facts_now K J node (Prepare stamp b txs) ok phases next c = omega (arith, next.0)
facts_now K J node (Lock stamp b es) ok phases next c = (c.0, c.1, omega (arith, c.2))
facts_now K J node (Finish stamp b ds) ok phases next c = (c.0, (ok.locked b next.2 next.3).0, c.1, omega (arith, c.2))
facts_now K J node (Forget stamp b) ok phases next c = (c.0, omega (arith, c.1))
facts_now K J node (Commit stamp b os) ok phases next c = (
  subst (λ n. is_some (record_of 6 (J n) b) ≡ true) next.2 (ok.prepared b next.3 next.4).0,
  c.0,
  c.1,
  λ s lt. omega (arith, c.2, greatest_bound (λ s. stamp_in (at_shards K J 2 b s)) K.shards s lt),
)
facts_now K J node (Discard stamp b) ok phases next c = (
  subst (λ n. is_some (record_of 6 (J n) b) ≡ true) next.2 (phases.commit_here b next.3 next.4).0,
  c.0,
  λ s lt. omega (arith, c.1, greatest_bound (λ s. stamp_in (at_shards K J 3 b s)) K.shards s lt),
)
facts_now K J node (Done stamp b) ok phases next c = (
  subst (λ n. is_some (record_of 6 (J n) b) ≡ true) next.2 (phases.discard_here b next.3 next.4).0,
  c.0,
  λ s lt. omega (arith, c.1, greatest_bound (λ s. stamp_in (at_shards K J 4 b s)) K.shards s lt),
)

all_have_same : (K : Shape) (I J : ℕ → List Record) (kind : ℕ) (b : Batch)
    → record_of 6 (I (b.lane / K.lanes)) b ≡ record_of 6 (J (b.lane / K.lanes)) b
    → ((s : ℕ) → at_shards K I kind b s ≡ at_shards K J kind b s) → AllHave K I kind b → AllHave K J kind b
all_have_same K I J kind b lane shards h s c = subst (λ r. is_some r ≡ true) (shards s) (h s (subst (λ r. Concerned K (txs_in r) s) (sym lane) c))

all_older_same : (K : Shape) (I J : ℕ → List Record) (kind : ℕ) (b : Batch) (stamp : ℕ) → ((s : ℕ) → at_shards K I kind b s ≡ at_shards K J kind b s)
    → AllOlder K I kind b stamp → AllOlder K J kind b stamp
all_older_same K I J kind b stamp shards h s lt = subst (λ r. stamp_in r < stamp) (shards s) (h s lt)

module _ (K : Shape) (P : Compact → Type 0) (past : List Row) (st : Structure K P past) (more : (n : ℕ) → MoreOk (journal n past)) (row : Row)
    (next : Next K row.node (journal row.node past) row.what) (caused : IsCaused K (λ n. journal n past) row.node row.what) where
  keep : (kind node : ℕ) (c : Batch) → is_some (record_of kind (journal node past) c) ≡ true
      → record_of kind (journal node past) c ≡ record_of kind (journal node (row ∷ past)) c
  keep kind node c f = kept_lookup K P past st more row next caused kind node c f

  shards_same : (kind : ℕ) → (kind ≡ 2) ⊎ (kind ≡ 3) ⊎ (kind ≡ 4) → (c : Batch) → AllHave K (λ n. journal n past) kind c
      → (s : ℕ) → at_shards K (λ n. journal n past) kind c s ≡ at_shards K (λ n. journal n (row ∷ past)) kind c s
  shards_same kind which c have s = same_shards K P past st more row next caused kind which c have s

  -- and they stay
  pub facts_stay : (node : ℕ) (r : Record) → Facts K (λ n. journal n past) node r → Facts K (λ n. journal n (row ∷ past)) node r
  facts_stay node (Genesis header hs) f = tt
  facts_stay node (Start header) f = tt
  facts_stay node (Carry stamp header source hs numbers) f = tt
  facts_stay node (CarryStart stamp header source numbers) f = tt
  facts_stay node (Upgrade stamp batch) f = tt
  facts_stay node (Seal stamp to shards) f = tt
  facts_stay node (Prepare stamp b txs) f = f
  facts_stay node (Lock stamp b es) f =
      let e = keep 6 (b.lane / K.lanes) b f.0 in
      (subst (λ r. is_some r ≡ true) e f.0, (λ s at. f.1 s at ∙ ap (λ r. part K s 0 (txs_in r)) e), subst (λ r. stamp_in r < stamp) e f.2)
  facts_stay node (Finish stamp b ds) f =
      let e = keep 7 (b.lane / K.lanes) b f.0 in
      let l = keep 2 node b f.1 in (
        subst (λ r. is_some r ≡ true) e f.0,
        subst (λ r. is_some r ≡ true) l f.1,
        f.2 ∙ (λ i. decisions (outcomes_in (e i)) (entries (entries_in (l i)))),
        subst (λ r. stamp_in r < stamp) e f.3,
      )
  facts_stay node (Forget stamp b) f =
      let e = keep 8 (b.lane / K.lanes) b f.0 in
      (subst (λ r. is_some r ≡ true) e f.0, subst (λ r. stamp_in r < stamp) e f.1)
  facts_stay node (Commit stamp b os) f =
      let e = keep 6 (b.lane / K.lanes) b f.0 in
      let s = shards_same 2 (inl refl) b f.1 in (
        subst (λ r. is_some r ≡ true) e f.0,
        all_have_same K (λ n. journal n past) (λ n. journal n (row ∷ past)) 2 b e s f.1,
        f.2 ∙ (λ i. outcomes (λ k. entries_in (s k i)) K.shards 0 (txs_in (e i))),
        all_older_same K (λ n. journal n past) (λ n. journal n (row ∷ past)) 2 b stamp s f.3,
      )
  facts_stay node (Discard stamp b) f =
      let e = keep 6 (b.lane / K.lanes) b f.0 in
      let s = shards_same 3 (inr (inl refl)) b f.1 in (
        subst (λ r. is_some r ≡ true) e f.0,
        all_have_same K (λ n. journal n past) (λ n. journal n (row ∷ past)) 3 b e s f.1,
        all_older_same K (λ n. journal n past) (λ n. journal n (row ∷ past)) 3 b stamp s f.2,
      )
  facts_stay node (Done stamp b) f =
      let e = keep 6 (b.lane / K.lanes) b f.0 in
      let s = shards_same 4 (inr (inr refl)) b f.1 in (
        subst (λ r. is_some r ≡ true) e f.0,
        all_have_same K (λ n. journal n past) (λ n. journal n (row ∷ past)) 4 b e s f.1,
        all_older_same K (λ n. journal n past) (λ n. journal n (row ∷ past)) 4 b stamp s f.2,
      )

-- of every record that stands in a kept history
module _ (K : Shape) (minting : Minted) (P : Compact → Type 0) (shards : 0 < K.shards) where
  abbrev whole : List Row → List Row
  whole later = later ++ first_rows K minting

  pub standing : (later : List Row) → Steady K minting P later → (n kind : ℕ) (b : Batch) (r : Record)
      → record_of kind (journal n (whole later)) b ≡ Some r
      → Facts K (λ n. journal n (whole later)) n r
  standing [] kept n kind b r e =
      absurd (true_false _ (ap is_some e) (none_of kind (journal n (first_rows K minting))
      (journal_first n (first_rows K minting) (all_first K minting P shards)) b))
  standing (row ∷ later) kept n kind b r e =
      let past : List Row = whole later in
      let st : Structure K P (whole later) = all_structure K minting P shards later kept.3 in
      let more : (n : ℕ) → MoreOk (journal n (whole later)) = all_more K minting P shards later kept.3 in
      let stay : (r : Record) → Facts K (λ n. journal n (whole later)) n r → Facts K (λ n. journal n (row ∷ whole later)) n r
      = λ r f. facts_stay K P (whole later) st more row kept.0 kept.1 n r f in
      elim (at_node row.node n) [
        | away a ↦ stay r (standing later kept.3 n kind b r (ap (λ J. record_of kind J b) (sym (head_away row (whole later) n a)) ∙ e))
        | at a ↦
            let e' : record_of kind (row.what ∷ journal n (whole later)) b ≡ Some r =
            ap (λ J. record_of kind J b) (sym (head_at row (whole later) n a)) ∙ e in
            elim ((kind_of row.what == kind) && is_of b row.what) as
            (λ t. ((kind_of row.what == kind) && is_of b row.what) ≡ t → Facts K (λ n. journal n (row ∷ whole later)) n r) [
              | true ↦ λ t.
                  let is : row.what ≡ r = some_is row.what r (sym (found_new kind row.what (journal n (whole later)) b t) ∙ e') in
                  stay r (subst (λ q. Facts K (λ n. journal n (whole later)) n q) is
                  (subst (λ m. Facts K (λ n. journal n (whole later)) m row.what) a
                  (facts_now K (λ n. journal n (whole later)) row.node row.what (st.journals row.node)
                  (all_phases K minting P shards later kept.3 row.node) kept.0 kept.1)))
              | false ↦ λ t. stay r (standing later kept.3 n kind b r (sym (test_step kind row.what (journal n (whole later)) b t) ∙ e'))
            ] refl
      ]
