-- What all lanes of a wave made keeps the world.
use Rattle.std.proofs.Common.{◌≡◌, ◌⊎◌, inl, inr, ℕ, suc, ◌+◌, ◌<◌, ◌≤◌, true, false, nat_lt, List, [], ◌∷◌, ◌++◌, Some, length, length-append, refl}
use Rattle.std.proofs.Common.{sym, ap, ◌∙◌, subst, arith, append_assoc}
use Rattle.cbdc_model.specs.Causes.{IsCaused}
use Rattle.cbdc_model.specs.History.{header_of, first_rows, Minted}
use Rattle.cbdc_model.specs.Lanes.{IsEnd, Seen, Holds, may_come, first_of, AllPass, Wave}
use Rattle.cbdc_model.specs.Records.{Shape, Compact, Record, Row, journal, stamp_of, last_stamp, tells_lane, Prepare}
use Rattle.cbdc_model.specs.World.{replaced, World, node_at, journals}
use Rattle.cbdc_model.specs.Grammar.{IsInGrammar}
use Rattle.cbdc_model.specs.After.{After}
use Rattle.ledger_laws.proofs.Ledger.{next_behind, each_is, SteadyJournals, SteadyLists, EachSteady, SteadyWorld}
use Rattle.ledger_laws.proofs.Next.{Next, Steady, AllProper}
use Rattle.ledger_laws.proofs.ByKind.{after_stamp, at_a_node}
use Rattle.ledger_laws.proofs.Rows.{at, away, at_node, head_at, head_away, journal-append}
use Rattle.ledger_laws.proofs.Locals.{local_kept}
use Rattle.ledger_laws.proofs.Cuts.{cut, end_self, end_trans, seen_grows, cons_same}
use Rattle.ledger_laws.proofs.Finds.{replaced_at, replaced_away, now_caused}
use Rattle.ledger_laws.proofs.Merge.{AllBelow, Rising, below_more, merged, Merged, merge}

pub no_room : (J newer rest : List Record) (r : Record) (more : List Record) → rest ≡ more ++ J → J ≡ newer ++ r ∷ rest → ⊥
no_room J newer rest r more h e =
    let l : length J ≡ length newer + suc (length rest) = ap length e ∙ simp length-append in
    let m : length rest ≡ length more + length J = ap length h ∙ simp length-append in
    omega arith

-- with its own journal put back, a list of journals is as before
itself : (J : ℕ → List Record) (n : ℕ) (own : List Record) → own ≡ J n → (m : ℕ) → replaced J n own m ≡ J m
itself J n own e m = elim (at_node n m) [
  | at a ↦ replaced_at J n own m a ∙ e ∙ ap J a
  | away a ↦ replaced_away J n own m a
]

module _ (K : Shape) (minting : Minted) (P : Compact → Type 0) (shards : 0 < K.shards) where
  abbrev whole : List Row → ℕ → List Record
  whole later n = journal n (later ++ first_rows K minting)

  abbrev Below : List Row → ℕ → Type 0
  Below later n = (newer rest : List Record) (r : Record) → whole later n ≡ newer ++ r ∷ rest → IsEnd (first_of K minting n) rest
      → Next K n rest r × Seen K (whole later) n rest r × AllProper P r × IsInGrammar (header_of K minting.id n) r

  -- each record of a kept history was caused by the records before it
  each_kept : (later : List Row) → Steady K minting P later → (n : ℕ) (newer rest : List Record) (r : Record) → whole later n ≡ newer ++ r ∷ rest
      → IsEnd (first_of K minting n) rest
      → Next K n rest r × Seen K (whole later) n rest r × AllProper P r × IsInGrammar (header_of K minting.id n) r
  each_kept [] kept n newer rest r e h = absurd (no_room (first_of K minting n) newer rest r h.0 h.1 e)
  each_kept (row ∷ later) kept n newer rest r e h = elim (at_node row.node n) [
    | away a ↦ older (λ newer rest r e h. each_kept later kept.3 n newer rest r e h) newer rest r
        (sym (head_away row (later ++ first_rows K minting) n a) ∙ e) h
    | at a ↦ here (λ newer rest r e h. each_kept later kept.3 n newer rest r e h) newer (sym (head_at row (later ++ first_rows K minting) n a) ∙ e) a
  ]
    where
      grown : (m : ℕ) → IsEnd (whole later m) (whole (row ∷ later) m)
      grown m = elim (at_node row.node m) [
        | at a ↦ (row.what ∷ [], head_at row (later ++ first_rows K minting) m a)
        | away a ↦ ([], head_away row (later ++ first_rows K minting) m a)
      ]

      older : Below later n → (newer rest : List Record) (r : Record) → whole later n ≡ newer ++ r ∷ rest → IsEnd (first_of K minting n) rest
          → Next K n rest r × Seen K (whole (row ∷ later)) n rest r × AllProper P r × IsInGrammar (header_of K minting.id n) r
      older below newer rest r e h = let f = below newer rest r e h in
          (f.0, seen_grows K (whole later) (whole (row ∷ later)) n rest r grown f.1, f.2, f.3)

      here : Below later n → (newer : List Record) → row.what ∷ whole later n ≡ newer ++ r ∷ rest → row.node ≡ n
          → Next K n rest r × Seen K (whole (row ∷ later)) n rest r × AllProper P r × IsInGrammar (header_of K minting.id n) r
      here below (q ∷ newer) e a = older below newer rest r (cons_same row.what q (whole later n) (newer ++ r ∷ rest) e).1 h
      here below [] e a =
          let s : (row.what ≡ r) × (whole later n ≡ rest) = cons_same row.what r (whole later n) rest e in
          let next : Next K n (whole later n) row.what = subst (λ m. Next K m (whole later m) row.what) a kept.0 in
          let caused : IsCaused K (whole later) n row.what = subst (λ m. IsCaused K (whole later) m row.what) a kept.1 in (
            subst (λ q. Next K n rest q) s.0 (subst (λ L. Next K n L row.what) s.1 next),
            record {
              lists = whole later;
              ends = grown;
              caused = subst (λ q. IsCaused K (replaced (whole later) n rest) n q) s.0
                  (subst (λ J. IsCaused K J n row.what) (λ i m. sym (itself (whole later) n rest (sym s.1) m) i) caused);
            },
            subst (λ q. AllProper P q) s.0 kept.2,
            subst (λ q. IsInGrammar (header_of K minting.id n) q) s.0 (subst (λ m. IsInGrammar (header_of K minting.id m) row.what) a kept.4),
          )

  pub lists_of : (later : List Row) → Steady K minting P later → SteadyLists K minting P (whole later)
  lists_of later kept = record {
    begins = λ n. (journal n later, journal-append n later (first_rows K minting));
    each = λ n newer rest r e h. each_kept later kept n newer rest r e h;
  }

  pub world_lists : (w : World) → SteadyWorld K minting P w → SteadyLists K minting P (journals w)
  world_lists w kept = subst (λ J. SteadyLists K minting P J) (λ i n. kept.history n i) (lists_of kept.later kept.kept)

  module _ (X : ℕ → List Record) (kept : SteadyLists K minting P X) where
    abbrev later_of : ℕ → List Record
    later_of n = (kept.begins n).0

    rising_of : (n : ℕ) (newer more : List Record) → later_of n ≡ newer ++ more → Rising more
    rising_of n newer [] e = tt
    rising_of n newer (r ∷ more) e =
        let rest : Rising more = rising_of n (newer ++ r ∷ []) more (e ∙ sym (append_assoc newer (r ∷ []) more)) in
        let place : X n ≡ newer ++ r ∷ (more ++ first_of K minting n) =
        (kept.begins n).1 ∙ ap (λ L. L ++ first_of K minting n) e ∙ append_assoc newer (r ∷ more) (first_of K minting n) in
        let lt : last_stamp (more ++ first_of K minting n) < stamp_of r =
        after_stamp K n (more ++ first_of K minting n) r (kept.each n newer (more ++ first_of K minting n) r place (more, refl)).0 in
        (all_below more (first_of K minting n) (stamp_of r) lt rest, rest)
      where
        all_below : (more F : List Record) (s : ℕ) → last_stamp (more ++ F) < s → Rising more → AllBelow more s
        all_below [] F s lt h = tt
        all_below (q ∷ more) F s lt h = (lt, below_more more (stamp_of q) s (omega (arith, lt)) h.0)

    beyond : (n : ℕ) → K.coordinators + K.shards ≤ n → later_of n ≡ []
    beyond n le = go (later_of n) refl
      where
        go : (L : List Record) → later_of n ≡ L → later_of n ≡ []
        go [] e = e
        go (r ∷ more) e = absurd (
            let place : X n ≡ [] ++ r ∷ (more ++ first_of K minting n) = (kept.begins n).1 ∙ ap (λ L. L ++ first_of K minting n) e in
            let lt : n < K.coordinators + K.shards =
            at_a_node K n (more ++ first_of K minting n) r (kept.each n [] (more ++ first_of K minting n) r place (more, refl)).0 in
            omega arith)

    rows : List Row
    rows = merged (K.coordinators + K.shards) later_of

    all_merged : Merged (K.coordinators + K.shards) later_of
    all_merged = merge (K.coordinators + K.shards) later_of (λ n. rising_of n [] (later_of n) refl)

    rows_at : (n : ℕ) → journal n rows ≡ later_of n
    unfolding rows
    rows_at n = elim (under n (K.coordinators + K.shards)) [
      | inl lt ↦ all_merged.inside n lt
      | inr le ↦ all_merged.beyond n le ∙ sym (beyond n le)
    ]
      where
        is_less : (n m : ℕ) → nat_lt n m ≡ true → n < m
        is_less n m t = grind arith

        is_not : (n m : ℕ) → nat_lt n m ≡ false → m ≤ n
        is_not n m t = grind arith

        under : (n m : ℕ) → (n < m) ⊎ (m ≤ n)
        under n m = elim (nat_lt n m) as (λ t. nat_lt n m ≡ t → (n < m) ⊎ (m ≤ n)) [
          | true ↦ λ t. inl (is_less n m t)
          | false ↦ λ t. inr (is_not n m t)
        ] refl

    rows_whole : (n : ℕ) → whole rows n ≡ X n
    rows_whole n = journal-append n rows (first_rows K minting) ∙ ap (λ L. L ++ first_of K minting n) (rows_at n) ∙ sym (kept.begins n).1

    rows_each : EachSteady K minting P rows
    rows_each n newer rest r e =
        let place : X n ≡ newer ++ r ∷ (rest ++ first_of K minting n) =
        sym (rows_whole n) ∙ journal-append n rows (first_rows K minting) ∙ ap (λ L. L ++ first_of K minting n) e
        ∙ append_assoc newer (r ∷ rest) (first_of K minting n) in
        let f = kept.each n newer (rest ++ first_of K minting n) r place (rest, refl) in
        let c : IsCaused K (replaced X n (rest ++ first_of K minting n)) n r
        = now_caused K minting P shards X kept n (rest ++ first_of K minting n) r
        (newer ++ r ∷ [], place ∙ sym (append_assoc newer (r ∷ []) (rest ++ first_of K minting n))) (rest, refl) f.1.lists f.1.ends f.0
        f.1.caused in
        (f.0, subst (λ J. IsCaused K (replaced J n (rest ++ first_of K minting n)) n r) (λ i m. sym (rows_whole m) i) c, f.2, f.3)

    -- what a record in flight owes
    abbrev Flies : World → Type 0
    Flies w = (n : ℕ) (r : Record) → (node_at w n).flight ≡ Some r
        → Next K n (X n) r × Seen K X n (X n) r × AllProper P r × IsInGrammar (header_of K minting.id n) r

    steady_rows : Steady K minting P rows
    unfolding rows
    steady_rows = local_kept K minting P rows all_merged.ordered rows_each

    pub steady_journals : SteadyJournals K minting P X
    unfolding rows
    steady_journals = record { later = rows; kept = steady_rows; ordered = all_merged.ordered; history = rows_whole }

    pub kept_world : (w : World) → ((n : ℕ) → journals w n ≡ X n) → Flies w → SteadyWorld K minting P w
    unfolding rows
    kept_world w is flies = record {
      later = rows;
      kept = local_kept K minting P rows all_merged.ordered rows_each;
      ordered = all_merged.ordered;
      history = λ n. rows_whole n ∙ sym (is n);
      flights = λ n r f.
          let s = flies n r f in
          let c : IsCaused K (replaced X n (X n)) n r =
          now_caused K minting P shards X kept n (X n) r (end_self (X n)) (kept.begins n) s.1.lists s.1.ends s.0 s.1.caused in
          let d : IsCaused K X n r = subst (λ J. IsCaused K J n r) (λ i m. itself X n (X n) refl m i) c in
          (subst (λ L. Next K n L r) (sym (is n)) s.0, subst (λ J. IsCaused K J n r) (λ i m. sym (is m) i) d, s.2, s.3);
    }

  proper_of : (pieces : List (List Compact)) → AllPass P pieces → (r : Record) → Holds pieces r → AllProper P r
  proper_of pieces pass (Prepare stamp b txs) h = each_is P txs (pass txs h)
  proper_of pieces pass other h = tt

  -- THE lemma of a wave: kept journals, and what each lane made as it saw it, give kept journals
  pub wave_keeps : (pieces : ℕ → List (List Compact)) → ((lane : ℕ) → AllPass P (pieces lane)) → (E X : ℕ → List Record) → SteadyLists K minting P E
      → Wave K minting pieces E X → SteadyLists K minting P X
  wave_keeps pieces pass E X kept wave = record {
    begins = λ n. end_trans (first_of K minting n) (E n) (X n) (kept.begins n) (wave.grows n);
    each = λ n newer rest r e h. elim (cut (wave.grows n).0 (E n) newer rest r (sym (wave.grows n).1 ∙ e)) [
      | inl f ↦ let g = kept.each n f.0 rest r f.1 h in (g.0, seen_grows K E X n rest r wave.grows g.1, g.2, g.3)
      | inr f ↦ fresh n newer rest r e (f.back, f.rest_is)
    ];
  }
    where
      next_here : (n : ℕ) (rest : List Record) (r : Record) → IsEnd (E n) rest → After (header_of K minting.id n) rest r → Next K n rest r
      next_here n rest r h after = next_behind K minting n rest r (end_trans (first_of K minting n) (E n) rest (kept.begins n) h) after

      left_end : (lane m : ℕ) → IsEnd (wave.exits lane m) (X m)
      left_end lane m = ((wave.left lane).more m, (wave.left lane).is m)

      may_not : (lane : ℕ) (r : Record) → tells_lane lane r ≡ true → may_come false lane r ≡ true → ⊥
      may_not lane r h k = grind (arith, h)

      of_lane : (lane n : ℕ) (newer rest : List Record) (r : Record) → X n ≡ newer ++ r ∷ rest → IsEnd (E n) rest → tells_lane lane r ≡ true
          → After (header_of K minting.id n) rest r
          → Next K n rest r × Seen K X n rest r × AllProper P r × IsInGrammar (header_of K minting.id n) r
      of_lane lane n newer rest r e h in_lane after =
          elim (cut ((wave.left lane).more n) (wave.exits lane n) newer rest r (sym ((wave.left lane).is n) ∙ e)) [
            | inr f ↦ absurd (let z : true ≡ false = sym in_lane ∙ (wave.left lane).others n newer f.back r f.more_is in cc)
            | inl f ↦ elim ((wave.made lane).each n f.0 rest r f.1 h) [
              | inl o ↦ absurd (may_not lane r in_lane o)
              | inr s ↦ (
                next_here n rest r h after,
                seen_grows K (wave.exits lane) X n rest r (left_end lane) s.1,
                proper_of (pieces lane) (pass lane) r s.2,
                after.0,
              )
            ]
          ]

      fresh : (n : ℕ) (newer rest : List Record) (r : Record) → X n ≡ newer ++ r ∷ rest → IsEnd (E n) rest
          → Next K n rest r × Seen K X n rest r × AllProper P r × IsInGrammar (header_of K minting.id n) r
      fresh n newer rest r e h =
          let own = wave.in_lanes n newer rest r e h in
          of_lane own.0 n newer rest r e h own.1 (wave.next n newer rest r e h)
