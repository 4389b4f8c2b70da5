-- Kept journals with every lane idle are found sound by an audit, where no hashes clash.
use Rattle.std.proofs.Common.{◌≡◌, inl, inr, ◌*◌, ◌<◌, ℕ, zero, suc, true, false, ◌&&◌, ◌==◌, if◌then◌else◌, List, [], ◌∷◌, ◌++◌, length, reverse}
use Rattle.std.proofs.Common.{Some, refl, sym, ap, ◌∙◌, subst, arith}
use Rattle.std.specs.Prelude.{slice_get, is_some, find}
use Rattle.std.specs.FinMap.{len}
use Rattle.std.proofs.lemmas.Bool.{cases_lt}
use Rattle.std.proofs.lemmas.List.{reverse-append, append_assoc}
use Rattle.cbdc_types.specs.Limits.{IsWithinLimits}
use Rattle.cbdc_types.specs.declared.answer.UnsoundKind.{UnsoundKind}
use Rattle.cbdc_model.specs.Records.{Shape, Batch, Compact, Record, Row, journal, record_of, kind_of, is_of, Prepare}
use Rattle.cbdc_model.specs.Coins.{Output, FullTx, genesis_id}
use Rattle.cbdc_model.specs.After.{IsJournal}
use Rattle.cbdc_model.specs.Book.{value, money}
use Rattle.cbdc_model.specs.Money.{issued, redeemed}
use Rattle.cbdc_model.specs.Clean.{IsProperCompact, value_out}
use Rattle.cbdc_model.specs.Headline.{Headline}
use Rattle.cbdc_model.specs.History.{minted, header_of, history_of, committed, IsOrdered, AreHandedIn}
use Rattle.cbdc_model.specs.Ranges.{home_of, node_count}
use Rattle.cbdc_model.specs.Slots.{slot}
use Rattle.cbdc_model.specs.World.{KeptJournals, AreIdle}
use Rattle.audit.proofs.Rows.{journal-append}
use Rattle.ledger_laws.proofs.HistoryLaws.{one_history_law}
use Rattle.ledger_laws.proofs.Ledger.{steady}
use Rattle.ledger_laws.proofs.Recovered.{all_dones}
use Rattle.run_laws.proofs.Nodes.{after_in}
use Rattle.rack_laws.proofs.Opened.{all_by}
use Rattle.cbdc_types.specs.declared.answer.Totals.{Totals}
use Rattle.audit.specs.declared.verdict.Verdict.TheVariants.{Sound, Unsound}
use Rattle.audit.specs.Walks.{AllCaused, AllDone, HasDoneRecord, IsFirstUncaused}
use Rattle.audit.specs.Verdicts.{IsSoundHistory, IsVerdict, journals_of}
use Rattle.audit.proofs.Ordered.{ordered_rows}
use Rattle.audit.proofs.Single.{one_verdict}
use Rattle.rack_laws.proofs.Caused.{steady_caused, steady_after, kept_beyond}

caused_behind : (K : Shape) (newer past : List Row) → AllCaused K (newer ++ past) → AllCaused K past
caused_behind K [] past all = all
caused_behind K (row ∷ newer) past all = caused_behind K newer past all.1

-- a row among others, from the other end
turned : (rows before after : List Row) (row : Row) → rows ≡ before ++ row ∷ after → reverse rows ≡ reverse after ++ row ∷ reverse before
turned rows before after row e =
    ap reverse e ∙ reverse-append before (row ∷ after) ∙ ap (λ l. l ++ reverse before) (reverse-append (row ∷ []) after)
    ∙ append_assoc (reverse after) (row ∷ []) (reverse before)

split : {A : Type 0} (xs : List A) (k : ℕ) (x : A) → slice_get xs k ≡ Some x → (before : List A) × (after : List A) × (xs ≡ before ++ x ∷ after)
split [] k x at = absurd (cc)
split (y ∷ xs) zero x at = let same : y ≡ x = cc in ([], xs, ap (λ z. z ∷ xs) same)
split (y ∷ xs) (suc k) x at = let (before, after, e) = split xs k x at in (y ∷ before, after, ap (λ l. y ∷ l) e)

-- a batch that has a Prepare among records has one
found : (newer older : List Record) (stamp : ℕ) (b : Batch) (txs : List Compact)
    → is_some (record_of 6 (newer ++ Prepare stamp b txs ∷ older) b) ≡ true
found [] older stamp b txs = ap (λ t. is_some (if t then Some (Prepare stamp b txs) else find (λ r. (kind_of r == 6) && is_of b r) older))
    (is_here stamp b txs)
  where
    is_here : (stamp : ℕ) (b : Batch) (txs : List Compact) → ((kind_of (Prepare stamp b txs) == 6) && is_of b (Prepare stamp b txs)) ≡ true
    is_here stamp b txs = grind arith
found (r ∷ newer) older stamp b txs = elim ((kind_of r == 6) && is_of b r) as
    (λ t. is_some (if t then Some r else record_of 6 (newer ++ Prepare stamp b txs ∷ older) b) ≡ true) [
      | true ↦ refl
      | false ↦ found newer older stamp b txs
    ]

module _ (K : Shape) (mint : List Output) (submissions : List FullTx) (X : ℕ → List Record) (within : IsWithinLimits K)
    (nodes : (n : ℕ) → n < node_count K → IsJournal (header_of K (genesis_id mint) n) (X n)) (kept : KeptJournals K mint submissions X)
    (rows : List Row) (journals_are : (n : ℕ) → journal n (reverse rows) ≡ X n) (ordered : IsOrdered (reverse rows)) where
  is_history : reverse rows ≡ history_of K mint kept.later
  is_history = ordered_rows K mint X kept.later (reverse rows) (steady_after K (minted mint) (IsProperCompact submissions) kept.later kept.kept)
      kept.history ordered journals_are

  -- each row is caused
  pub all_caused : AllCaused K (reverse rows)
  all_caused = subst (AllCaused K) (sym is_history) (steady_caused K (minted mint) (IsProperCompact submissions) kept.later kept.kept)

  pub none_uncaused : (place : ℕ) → IsFirstUncaused K rows place → ⊥
  none_uncaused place first =
      let whole = subst (AllCaused K) (turned rows first.before first.after first.row first.rows_are) all_caused in
      first.uncaused (caused_behind K (reverse first.after) (first.row ∷ reverse first.before) whole).0

  module _ (idle : AreIdle K X) where
    prepared_done : (stamp : ℕ) (b : Batch) (txs : List Compact) (n : ℕ) (newer older : List Record) → n < node_count K
        → X n ≡ newer ++ Prepare stamp b txs ∷ older → is_some (record_of 9 (X (home_of K b.lane)) b) ≡ true
    prepared_done stamp b txs n newer older inside e =
        let after = after_in (header_of K (genesis_id mint) n) newer older (Prepare stamp b txs)
        (subst (IsJournal (header_of K (genesis_id mint) n)) e (nodes n inside)) in
        let home : n ≡ home_of K b.lane = after.1.1 in
        let lane : b.lane < K.coordinators * K.lanes = after.0.1.0 in
        let there : is_some (record_of 6 (X (home_of K b.lane)) b) ≡ true =
        subst (λ J. is_some (record_of 6 J b) ≡ true) (sym e ∙ ap X home) (found newer older stamp b txs) in
        let at = kept.history.journals_are (home_of K b.lane) in
        let ok = all_dones K (minted mint) (IsProperCompact submissions) (omega (arith, within.some_shard)) kept.later
        (steady K (minted mint) (IsProperCompact submissions) kept.later kept.kept) (home_of K b.lane) in
        subst (λ J. is_some (record_of 9 J b) ≡ true) at
        (ok.idle_done b (subst (λ J. is_some (record_of 6 J b) ≡ true) (sym at) there) (ap (λ J. (slot J b.lane).phase) at ∙ idle b.lane lane))

    row_done : (k : ℕ) (row : Row) → slice_get rows k ≡ Some row → HasDoneRecord K (journals_of rows) row.what
    row_done k row at =
        let (before, after, parts) = split rows k row at in
        let e : journal row.node (reverse rows) ≡ journal row.node (reverse after) ++ row.what ∷ journal row.node (reverse before) =
        ap (journal row.node) (turned rows before after row parts) ∙ journal-append row.node (reverse after) (row ∷ reverse before)
        ∙ ap (λ t. journal row.node (reverse after)
        ++ (if t then row.what ∷ journal row.node (reverse before) else journal row.node (reverse before))) (same row.node) in
        by_kind row.node row.what (journal row.node (reverse after)) (journal row.node (reverse before)) (sym (journals_are row.node) ∙ e)
      where
        same : (n : ℕ) → (n == n) ≡ true
        same n = grind arith

        cons_not : (newer older : List Record) (r : Record) → newer ++ r ∷ older ≡ [] → ⊥
        cons_not [] older r e = cc
        cons_not (q ∷ newer) older r e = cc

        by_kind : (n : ℕ) (r : Record) (newer older : List Record) → X n ≡ newer ++ r ∷ older → HasDoneRecord K (journals_of rows) r
        by_kind n (Prepare stamp b txs) newer older e =
            let inside : n < node_count K = elim (cases_lt n (node_count K)) [
              | inl low ↦ low
              | inr past ↦ absurd (cons_not newer older (Prepare stamp b txs) (sym e ∙ kept_beyond K mint submissions X kept n past))
            ] in
            subst (λ J. is_some (record_of 9 J b) ≡ true) (sym (journals_are (home_of K b.lane))) (prepared_done stamp b txs n newer older inside e)
        by_kind n other newer older e = tt

    -- every batch that was prepared is done
    pub all_done : AllDone K (journals_of rows) rows
    all_done = all_by (λ row. HasDoneRecord K (journals_of rows) row.what) rows row_done

    module _ (headline : Headline K mint submissions X) where
      same_history : history_of K mint headline.later ≡ reverse rows
      same_history = ap (history_of K mint) (one_history_law K (minted mint) X headline.later kept.later headline.history kept.history)
          ∙ sym is_history

      abbrev pub totals : Totals
      totals = record {
        coins = len headline.book;
        value = value headline.book;
        minted = value_out mint;
        committed = length (committed (reverse rows));
        money = money headline.book;
        issued = issued headline.txs;
        redeemed = redeemed headline.txs;
      }

      -- the audit's verdict
      pub is_sound : IsSoundHistory K mint submissions rows totals
      is_sound = record {
        book = headline.book;
        pass = record {
          caused = all_caused;
          spent = record {
            txs = headline.txs;
            handed_in = subst (λ h. AreHandedIn submissions (committed h) headline.txs) same_history headline.committed;
            folds = headline.folds;
          };
        };
        done = all_done;
        coins = refl;
        value = refl;
        minted = refl;
        committed = refl;
        money = refl;
        issued = refl;
        redeemed = refl;
      }

      pub never_unsound : (place : ℕ) (kind : UnsoundKind) → IsVerdict K mint submissions rows (Unsound place kind) → ⊥
      never_unsound place kind is = apart place kind (one_verdict K mint submissions rows (Unsound place kind) (Sound totals) is is_sound)
        where
          apart : (place : ℕ) (kind : UnsoundKind) → Unsound place kind ≡ Sound totals → ⊥
          apart place kind e = cc
