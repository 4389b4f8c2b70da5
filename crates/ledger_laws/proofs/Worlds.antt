-- Every step of the world keeps it.
use Rattle.std.proofs.Common.{◌≡◌, inl, inr, ℕ, ◌<◌, ◌≤◌, true, false, ◌==◌, if◌then◌else◌, List, [], ◌∷◌, ◌++◌, length, Option, Some, None, set}
use Rattle.std.proofs.Common.{get_or-set_same, get_or-set_other, refl, sym, ap, ◌∙◌, subst, arith}
use Rattle.cbdc_model.specs.Causes.{IsCaused}
use Rattle.cbdc_model.specs.History.{header_of, first_rows, goes_above, IsAbove, IsOrdered, Minted}
use Rattle.cbdc_model.specs.Records.{Shape, Compact, Record, Row, journal, stamp_of, last_stamp}
use Rattle.cbdc_model.specs.Grammar.{IsInGrammar}
use Rattle.cbdc_model.specs.After.{After}
use Rattle.cbdc_model.specs.World.{EventPasses, EventsPass, Node, World, no_node, node_at, journals, record_for, Event, Begin, End, Crash, Reopen}
use Rattle.cbdc_model.specs.World.{Repeat, flushed, Allowed, effect, Step, Run}
use Rattle.ledger_laws.proofs.Lookups.{other_way}
use Rattle.ledger_laws.proofs.Ledger.{SteadyWorld, next_at, proper_of}
use Rattle.ledger_laws.proofs.Planned.{Planned, planned}
use Rattle.ledger_laws.proofs.Next.{Next, Steady, AllProper}
use Rattle.ledger_laws.proofs.ByKind.{after_stamp}
use Rattle.ledger_laws.proofs.Rows.{at, away, at_node, head_at, head_away}
use Rattle.ledger_laws.proofs.Moves.{stays, was_caused, all_structure, all_more}

not_above : (row head : Row) → goes_above row head ≡ false → stamp_of row.what ≤ stamp_of head.what
not_above row head h = grind arith

journal_swap : (row head : Row) (X Y : List Row) (n : ℕ) → (head.node == row.node) ≡ false → journal n X ≡ journal n (row ∷ Y)
    → journal n (head ∷ X) ≡ journal n (row ∷ head ∷ Y)
journal_swap row head X Y n apart e = grind arith

goes_below : (row head : Row) → goes_above row head ≡ false → (head.node == row.node) ≡ false → goes_above head row ≡ true
goes_below row head h apart = grind arith

abbrev pub insert_row : Row → List Row → List Row
insert_row row [] = row ∷ []
insert_row row (head ∷ later) = if goes_above row head then row ∷ head ∷ later else head ∷ insert_row row later

pub above_inserted : (head row : Row) (later : List Row) → goes_above head row ≡ true → IsAbove head later → IsAbove head (insert_row row later)
above_inserted head row [] h k = h
above_inserted head row (next ∷ later) h k = elim (goes_above row next) as
    (λ c. IsAbove head (if c then row ∷ next ∷ later else next ∷ insert_row row later)) [
      | true ↦ h
      | false ↦ k
    ]

module _ (K : Shape) (minting : Minted) (P : Compact → Type 0) (shards : 0 < K.shards) where
  abbrev whole : List Row → List Row
  whole later = later ++ first_rows K minting

  record Extended (row : Row) (later : List Row) : Type 0 where
    kept : Steady K minting P (insert_row row later)
    ordered : IsOrdered later → IsOrdered (insert_row row later)
    journals_are : (n : ℕ) → journal n (whole (insert_row row later)) ≡ journal n (row ∷ whole later)

  -- a record that is next at its node and caused has its place in the history, and the records after it stay caused
  extend : (row : Row) (later : List Row) → Steady K minting P later → Next K row.node (journal row.node (whole later)) row.what
      → IsCaused K (λ n. journal n (whole later)) row.node row.what → AllProper P row.what → IsInGrammar (header_of K minting.id row.node) row.what
      → Extended row later
  extend row [] kept next caused proper grammar =
      record { kept = (next, caused, proper, tt, grammar); ordered = λ o. (tt, tt); journals_are = λ n. refl }
  extend row (head ∷ later) kept next caused proper grammar =
      elim (goes_above row head) as (λ c. goes_above row head ≡ c → Extended row (head ∷ later)) [
        | true ↦ λ e. record {
          kept = on_top e;
          ordered = λ o. subst (λ rows. IsOrdered rows) (sym (placed e)) (e, o);
          journals_are = λ n. ap (λ rows. journal n (whole rows)) (placed e);
        }
        | false ↦ λ e.
            let apart : (head.node == row.node) ≡ false = apart_nodes e in
            let own : journal row.node (whole (head ∷ later)) ≡ journal row.node (whole later) = head_away head (whole later) row.node apart in
            let next' : Next K row.node (journal row.node (whole later)) row.what = subst (λ J. Next K row.node J row.what) own next in
            let caused' : IsCaused K (λ n. journal n (whole later)) row.node row.what
            = was_caused K (whole later) head kept.0 row.node apart row.what (not_above row head e) next' caused in
            let rest : Extended row later = extend row later kept.3 next' caused' proper grammar in
            let apart' : (row.node == head.node) ≡ false = other_way head.node row.node apart in
            let head_own : journal head.node (whole later) ≡ journal head.node (whole (insert_row row later))
            = sym (head_away row (whole later) head.node apart') ∙ sym (rest.journals_are head.node) in
            let still : IsCaused K (λ n. journal n (row ∷ whole later)) head.node head.what
            = stays K P (whole later) (all_structure K minting P shards later kept.3) (all_more K minting P shards later kept.3) row next' caused'
            head.node apart' head.what kept.0 kept.1 in
            record {
              kept = subst (λ rows. Steady K minting P rows) (sym (below e)) (
                subst (λ J. Next K head.node J head.what) head_own kept.0,
                subst (λ J. IsCaused K J head.node head.what) (λ i n. sym (rest.journals_are n) i) still,
                kept.2,
                rest.kept,
                kept.4,
              );
              ordered = λ o. subst (λ rows. IsOrdered rows) (sym (below e))
                  (above_inserted head row later (goes_below row head e apart) o.0, rest.ordered o.1);
              journals_are = λ n. ap (λ rows. journal n (whole rows)) (below e)
                  ∙ journal_swap row head (whole (insert_row row later)) (whole later) n apart (rest.journals_are n);
            }
      ] refl
    where
      placed : goes_above row head ≡ true → insert_row row (head ∷ later) ≡ row ∷ head ∷ later
      placed e = rw e

      below : goes_above row head ≡ false → insert_row row (head ∷ later) ≡ head ∷ insert_row row later
      below e = rw e

      on_top : goes_above row head ≡ true → Steady K minting P (insert_row row (head ∷ later))
      on_top e = subst (λ rows. Steady K minting P rows) (sym (placed e)) (next, caused, proper, kept, grammar)

      apart_nodes : goes_above row head ≡ false → (head.node == row.node) ≡ false
      apart_nodes e = elim (at_node head.node row.node) [
        | away a ↦ a
        | at same ↦ absurd (
            let top : journal row.node (whole (head ∷ later)) ≡ head.what ∷ journal row.node (whole later) = head_at head (whole later) row.node same
            in
            let lt : last_stamp (journal row.node (whole (head ∷ later))) < stamp_of row.what =
            after_stamp K row.node (journal row.node (whole (head ∷ later))) row.what next in
            let s : last_stamp (journal row.node (whole (head ∷ later))) ≡ stamp_of head.what = ap last_stamp top in
            omega (arith, not_above row head e))
      ]

  pub set_same : (w : World) (n : ℕ) (node : Node) → n < length w → node_at (set w n node) n ≡ node
  set_same w n node lt = get_or-set_same w n node no_node lt

  pub set_other : (w : World) (n m : ℕ) (node : Node) → (n == m) ≡ false → node_at (set w n node) m ≡ node_at w m
  set_other w n m node apart = get_or-set_other w n m node no_node (λ e. not_equal n m apart (sym e))
    where
      not_equal : (n m : ℕ) → (n == m) ≡ false → n ≡ m → ⊥
      not_equal n m h e = grind arith

  -- a node whose journal stays, with a record in flight or none
  same_journal : (w : World) (n : ℕ) (node : Node) → SteadyWorld K minting P w → n < length w → node.journal ≡ journals w n
      → ((r : Record) → node.flight ≡ Some r → Next K n (journals w n) r × IsCaused K (journals w) n r × AllProper P r
      × IsInGrammar (header_of K minting.id n) r)
      → SteadyWorld K minting P (set w n node)
  same_journal w n node kept lt same flight = record {
    later = kept.later;
    kept = kept.kept;
    ordered = kept.ordered;
    history = λ m. kept.history m ∙ sym (same_at m);
    flights = λ m r f. elim (at_node n m) [
      | at e ↦
          let f' : node.flight ≡ Some r = sym (ap (λ v. v.flight) (set_same w n node lt))
          ∙ subst (λ k. (node_at (set w n node) k).flight ≡ Some r) (sym e) f in
          subst (λ k. Next K k (journals (set w n node) k) r × IsCaused K (journals (set w n node)) k r × AllProper P r
          × IsInGrammar (header_of K minting.id k) r) e
          (subst (λ J. Next K n (J n) r × IsCaused K J n r × AllProper P r × IsInGrammar (header_of K minting.id n) r) (λ i k. sym (same_at k) i)
          (flight r f'))
      | away e ↦
          let f' : (node_at w m).flight ≡ Some r = sym (ap (λ v. v.flight) (set_other w n m node e)) ∙ f in
          subst (λ J. Next K m (J m) r × IsCaused K J m r × AllProper P r × IsInGrammar (header_of K minting.id m) r) (λ i k. sym (same_at k) i)
          (kept.flights m r f')
    ];
  }
    where
      same_at : (m : ℕ) → journals (set w n node) m ≡ journals w m
      same_at m = elim (at_node n m) [
        | at e ↦ subst (λ k. journals (set w n node) k ≡ journals w k) e (ap (λ v. v.journal) (set_same w n node lt) ∙ same)
        | away e ↦ ap (λ v. v.journal) (set_other w n m node e)
      ]

  -- a node whose journal has grown by the record that was in flight
  grown : (w : World) (n : ℕ) (r : Record) (node : Node) → SteadyWorld K minting P w → n < length w → (node_at w n).flight ≡ Some r
      → node.journal ≡ r ∷ journals w n → node.flight ≡ None → SteadyWorld K minting P (set w n node)
  grown w n r node kept lt flying journal_is none =
      let row : Row = record { node = n; what = r } in
      let f : Next K n (journals w n) r × IsCaused K (journals w) n r × AllProper P r
      × IsInGrammar (header_of K minting.id n) r = kept.flights n r flying in
      let back : (J : ℕ → List Record) → Type 0 = λ J. Next K n (J n) r × IsCaused K J n r × AllProper P r
      × IsInGrammar (header_of K minting.id n) r in
      let f' : Next K n (journal n (whole kept.later)) r × IsCaused K (λ m. journal m (whole kept.later)) n r × AllProper P r
      × IsInGrammar (header_of K minting.id n) r
      = subst (λ J. Next K n (J n) r × IsCaused K J n r × AllProper P r × IsInGrammar (header_of K minting.id n) r) (λ i m. sym (kept.history m) i) f
      in
      let ex : Extended (record { node = n; what = r }) kept.later = extend (record { node = n; what = r }) kept.later kept.kept f'.0 f'.1 f'.2 f'.3
      in
      record {
        later = insert_row (record { node = n; what = r }) kept.later;
        kept = ex.kept;
        ordered = ex.ordered kept.ordered;
        history = λ m. ex.journals_are m ∙ row_at m;
        flights = λ m q g. elim (at_node n m) [
          | at e ↦ absurd (let no_flight : None ≡ Some q =
              sym none ∙ sym (ap (λ v. v.flight) (set_same w n node lt)) ∙ subst (λ k. (node_at (set w n node) k).flight ≡ Some q) (sym e) g in cc)
          | away e ↦
              let g' : (node_at w m).flight ≡ Some q = sym (ap (λ v. v.flight) (set_other w n m node e)) ∙ g in
              let h : Next K m (journal m (whole kept.later)) q × IsCaused K (λ k. journal k (whole kept.later)) m q × AllProper P q
              × IsInGrammar (header_of K minting.id m) q
              = subst (λ J. Next K m (J m) q × IsCaused K J m q × AllProper P q × IsInGrammar (header_of K minting.id m) q)
              (λ i k. sym (kept.history k) i) (kept.flights m q g') in
              let c : IsCaused K (λ k. journal k (record { node = n; what = r } ∷ whole kept.later)) m q
              = stays K P (whole kept.later) (all_structure K minting P shards kept.later kept.kept)
              (all_more K minting P shards kept.later kept.kept)
              (record { node = n; what = r }) f'.0 f'.1 m e q h.0 h.1 in (
                subst (λ J. Next K m J q) (kept.history m ∙ sym (ap (λ v. v.journal) (set_other w n m node e))) h.0,
                subst (λ J. IsCaused K J m q) (λ i k. row_at k i) c,
                h.2,
                h.3,
              )
        ];
      }
    where
      row_at : (m : ℕ) → journal m (record { node = n; what = r } ∷ whole kept.later) ≡ journals (set w n node) m
      row_at m = elim (at_node n m) [
        | at e ↦ subst (λ k. journal k (record { node = n; what = r } ∷ whole kept.later) ≡ journals (set w n node) k) e
            (head_at (record { node = n; what = r }) (whole kept.later) n refl ∙ ap (λ J. r ∷ J) (kept.history n) ∙ sym journal_is
            ∙ sym (ap (λ v. v.journal) (set_same w n node lt)))
        | away e ↦ head_away (record { node = n; what = r }) (whole kept.later) m e ∙ kept.history m
            ∙ sym (ap (λ v. v.journal) (set_other w n m node e))
      ]

  pub some_same : (r q : Record) → Some r ≡ Some q → r ≡ q
  some_same r q e = cc

  lands : (w : World) (n : ℕ) (f : Option Record) (node : Node) → SteadyWorld K minting P w → n < length w → (node_at w n).flight ≡ f
      → node.journal ≡ flushed f (journals w n) → node.flight ≡ None → SteadyWorld K minting P (set w n node)
  lands w n None node kept lt flying j none = same_journal w n node kept lt j (λ q g. absurd (let no_flight : None ≡ Some q = sym none ∙ g in cc))
  lands w n (Some r) node kept lt flying j none = grown w n r node kept lt flying j none

  -- of journals that are those of a kept history
  next_here : (w : World) (n : ℕ) (r : Record) → SteadyWorld K minting P w → After (header_of K minting.id n) (journals w n) r
      → Next K n (journals w n) r
  next_here w n r kept after =
      subst (λ J. Next K n J r) (kept.history n) (next_at K minting P kept.later n r
      (subst (λ J. After (header_of K minting.id n) J r) (sym (kept.history n)) after))

  allowed_keeps : (w : World) (e : Event) → SteadyWorld K minting P w → Allowed K minting w e → EventPasses P e → SteadyWorld K minting P (effect w e)
  allowed_keeps w (Begin n r) kept a proper =
      same_journal w n (record { journal = journals w n; up = true; flight = Some r }) kept a.0.0 refl
      (λ q f. subst (λ q. Next K n (journals w n) q × IsCaused K (journals w) n q × AllProper P q × IsInGrammar (header_of K minting.id n) q)
      (some_same r q f)
      (next_here w n r kept a.1, a.2, proper_of P r proper, a.1.0))
  allowed_keeps w (End n) kept a proper =
      lands w n (node_at w n).flight (record { journal = flushed (node_at w n).flight (journals w n); up = true; flight = None }) kept a.0 refl refl
      refl
  allowed_keeps w (Crash n true) kept a proper =
      lands w n (node_at w n).flight (record { journal = flushed (node_at w n).flight (journals w n); up = false; flight = None }) kept a.0 refl refl
      refl
  allowed_keeps w (Crash n false) kept a proper =
      same_journal w n (record { journal = journals w n; up = false; flight = None }) kept a.0 refl
      (λ q g. absurd (let no_flight : None ≡ Some q = g in cc))
  allowed_keeps w (Reopen n) kept a proper =
      same_journal w n (record { journal = journals w n; up = true; flight = None }) kept a.0 refl
      (λ q g. absurd (let no_flight : None ≡ Some q = g in cc))
  allowed_keeps w (Repeat n call) kept a proper =
      same_journal w n (record { journal = journals w n; up = true; flight = record_for (journals w n) call }) kept a.0.0 refl
      (λ q f.
      let is : a.3.0 ≡ q = some_same a.3.0 q (sym a.3.1 ∙ f) in
      let p : Planned K P minting.id n (journals w) a.3.0 = planned K P minting.id n (journals w) call a.3.0 a.3.1 a.2 a.3.2 in
      subst (λ q. Next K n (journals w n) q × IsCaused K (journals w) n q × AllProper P q × IsInGrammar (header_of K minting.id n) q) is
      (p.next, p.caused, p.passes, a.3.2))

  pub step_keeps : (old new : World) (e : Event) → SteadyWorld K minting P old → EventPasses P e → Step K minting old e new
      → SteadyWorld K minting P new
  step_keeps old new e kept proper (inl s) = subst (λ w. SteadyWorld K minting P w) (sym s.1) (allowed_keeps old e kept s.0 proper)
  step_keeps old new e kept proper (inr same) = subst (λ w. SteadyWorld K minting P w) (sym same.1) kept

  pub run_keeps : (old new : World) (es : List Event) → SteadyWorld K minting P old → EventsPass P es → Run K minting old es new
      → SteadyWorld K minting P new
  run_keeps old new [] kept proper same = subst (λ w. SteadyWorld K minting P w) (sym same) kept
  run_keeps old new (e ∷ es) kept proper run =
      run_keeps run.0 new es (step_keeps old run.0 e kept proper.0 run.1) proper.1 run.2
