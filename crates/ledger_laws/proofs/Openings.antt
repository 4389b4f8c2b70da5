-- Nodes are brought up, each keeping what was in flight or not.
use Rattle.std.proofs.Common.{◌≡◌, ◌⊎◌, inl, inr, ℕ, zero, suc, ◌+◌, ◌<◌, ◌≤◌, Bool, true, false, ◌&&◌, ◌==◌, nat_lt, if◌then◌else◌, [], ◌∷◌, length}
use Rattle.std.proofs.Common.{length-set, None, refl, sym, ap, ◌∙◌, subst, arith}
use Rattle.std.proofs.lemmas.List.{get_or_past}
use Rattle.cbdc_model.specs.Records.{Shape, Compact}
use Rattle.cbdc_model.specs.History.{Minted}
use Rattle.cbdc_model.specs.World.{World, Node, no_node, Crash, Reopen, node_at, journals, flushed, effect, Step, Run}
use Rattle.ledger_laws.specs.Resumed.{openings, opened}
use Rattle.ledger_laws.proofs.Rows.{at, away, at_node}
use Rattle.ledger_laws.proofs.Ledger.{SteadyWorld}
use Rattle.ledger_laws.proofs.Worlds.{set_same, set_other, run_keeps}
use Rattle.ledger_laws.proofs.Reaching.{run-append}

up_or_down : (a : Bool) → a ≡ true → a ≡ false → ⊥
up_or_down a h g = let z : true ≡ false = sym h ∙ g in cc

module _ (K : Shape) (minting : Minted) (P : Compact → Type 0) (shards : 0 < K.shards) where
  -- a kept world whose nodes are all up with nothing in flight
  pub record IsQuiet (w : World) : Type 0 where
    pub kept : SteadyWorld K minting P w
    pub size : length w ≡ K.coordinators + K.shards
    pub up : (n : ℕ) → n < length w → (node_at w n).up ≡ true
    pub quiet : (n : ℕ) → n < length w → (node_at w n).flight ≡ None

  module _ (kept_at : ℕ → Bool) (first : World) where
    -- the nodes below n were opened
    record Partly (n : ℕ) (w : World) : Type 0 where
      kept : SteadyWorld K minting P w
      size : length w ≡ K.coordinators + K.shards
      ready : (m : ℕ) → m < n → ((node_at w m).up ≡ true) × ((node_at w m).flight ≡ None) × (journals w m ≡ opened kept_at first m)
      rest : (m : ℕ) → n ≤ m → node_at w m ≡ node_at first m

    -- a world after the node was stopped
    module _ (n : ℕ) (w : World) (lt : n < length w) where
      record Stopped (v : World) : Type 0 where
        step : Step K minting w (Crash n (kept_at n)) v
        size : length v ≡ length w
        down : (node_at v n).up ≡ false
        journal_is : journals v n ≡ opened kept_at w n
        others : (m : ℕ) → (n == m) ≡ false → node_at v m ≡ node_at w m

      stopped : (v : World) × Stopped v
      stopped = elim ((node_at w n).up) as (λ u. (node_at w n).up ≡ u → (v : World) × Stopped v) [
        | true ↦ λ u. (
          effect w (Crash n (kept_at n)),
          record {
            step = inl ((lt, u), refl);
            size = length-set {A = Node} w n _;
            down = ap (λ v. v.up) here;
            journal_is = ap (λ v. v.journal) here
                ∙ sym (ap (λ c. if c && kept_at n then flushed (node_at w n).flight (journals w n) else journals w n) u);
            others = λ m e. set_other K minting P shards w n m _ e;
          },
        )
        | false ↦ λ u. (
          w,
          record {
            step = inr ((λ a. up_or_down (node_at w n).up a.1 u), refl);
            size = refl;
            down = u;
            journal_is = sym (ap (λ c. if c && kept_at n then flushed (node_at w n).flight (journals w n) else journals w n) u);
            others = λ m e. refl;
          },
        )
      ] refl
        where
          here : node_at (effect w (Crash n (kept_at n))) n
              ≡ record { journal = if kept_at n then flushed (node_at w n).flight (journals w n) else journals w n; up = false; flight = None }
          here = set_same K minting P shards w n _ lt

    bring_up : (n : ℕ) (w : World) → n < length w → Partly n w
        → (v : World) × Run K minting w (Crash n (kept_at n) ∷ Reopen n ∷ []) v × Partly (suc n) v
    bring_up n w lt p = by_stop (stopped n w lt)
      where
        by_stop : (v : World) × Stopped n w lt v → (v : World) × Run K minting w (Crash n (kept_at n) ∷ Reopen n ∷ []) v × Partly (suc n) v
        by_stop (v, s) = (
          effect v (Reopen n),
          run_of,
          record {
            kept = run_keeps K minting P shards w (effect v (Reopen n)) (Crash n (kept_at n) ∷ Reopen n ∷ []) p.kept (tt, (tt, tt)) run_of;
            size = length-set {A = Node} v n _ ∙ s.size ∙ p.size;
            ready = λ m l. elim (at_node n m) [
              | at e ↦ subst (λ k. ((node_at (effect v (Reopen n)) k).up ≡ true) × ((node_at (effect v (Reopen n)) k).flight ≡ None)
                  × (journals (effect v (Reopen n)) k ≡ opened kept_at first k)) e
                  (ap (λ u. u.up) here, ap (λ u. u.flight) here, ap (λ u. u.journal) here ∙ s.journal_is ∙ as_first)
              | away e ↦ subst (λ u. (u.up ≡ true) × (u.flight ≡ None) × (u.journal ≡ opened kept_at first m)) (sym (others m e))
                  (p.ready m (below m l e))
            ];
            rest = λ m le. others m (above m le) ∙ p.rest m (omega arith);
          },
        )
          where
            in_v : n < length v
            in_v = let z : length v ≡ length w = s.size in omega arith

            run_of : Run K minting w (Crash n (kept_at n) ∷ Reopen n ∷ []) (effect v (Reopen n))
            run_of = (v, s.step, (effect v (Reopen n), inl ((in_v, s.down), refl), refl))

            here : node_at (effect v (Reopen n)) n ≡ record { journal = journals v n; up = true; flight = None }
            here = set_same K minting P shards v n _ in_v

            others : (m : ℕ) → (n == m) ≡ false → node_at (effect v (Reopen n)) m ≡ node_at w m
            others m e = set_other K minting P shards v n m _ e ∙ s.others m e

            as_first : opened kept_at w n ≡ opened kept_at first n
            as_first = ap (λ u. if u.up && kept_at n then flushed u.flight u.journal else u.journal) (p.rest n (omega arith))

            below : (m : ℕ) → m < suc n → (n == m) ≡ false → m < n
            below m l e = grind arith

            above : (m : ℕ) → suc n ≤ m → (n == m) ≡ false
            above m le = grind arith

    bring_all : (n : ℕ) (w : World) → n ≤ length w → Partly 0 w → (v : World) × Run K minting w (openings kept_at n) v × Partly n v
    bring_all zero w le p = (w, refl, p)
    bring_all (suc n) w le p = next (bring_all n w (omega arith) p)
      where
        next : (v : World) × Run K minting w (openings kept_at n) v × Partly n v
            → (v : World) × Run K minting w (openings kept_at (suc n)) v × Partly (suc n) v
        next (v, run, q) =
            let b = bring_up n v (let z = q.size in let y = p.size in omega arith) q in
            (b.0, run-append K minting w v b.0 (openings kept_at n) (Crash n (kept_at n) ∷ Reopen n ∷ []) run b.1, b.2)

  -- all nodes are opened again
  pub record Opened (kept_at : ℕ → Bool) (w v : World) : Type 0 where
    pub run : Run K minting w (openings kept_at (length w)) v
    pub is_quiet : IsQuiet v
    pub journals_are : (n : ℕ) → journals v n ≡ opened kept_at w n

  pub open_all : (kept_at : ℕ → Bool) (w : World) → SteadyWorld K minting P w → length w ≡ K.coordinators + K.shards
      → (v : World) × Opened kept_at w v
  open_all kept_at w kept size = by_all (bring_all kept_at w (length w) w (omega arith)
      (record { kept = kept; size = size; ready = λ m lt. absurd (omega arith); rest = λ m le. refl }))
    where
      is_less : (n m : ℕ) → nat_lt n m ≡ true → n < m
      is_less n m t = grind arith

      is_not : (n m : ℕ) → nat_lt n m ≡ false → m ≤ n
      is_not n m t = grind arith

      under : (n m : ℕ) → (n < m) ⊎ (m ≤ n)
      under n m = elim (nat_lt n m) as (λ t. nat_lt n m ≡ t → (n < m) ⊎ (m ≤ n))
          [ true ↦ λ t. inl (is_less n m t) | false ↦ λ t. inr (is_not n m t) ] refl

      -- no node, no journal
      beyond : (n : ℕ) → length w ≤ n → journals w n ≡ opened kept_at w n
      beyond n le =
          let e : node_at w n ≡ no_node = get_or_past w n no_node le in
          ap (λ u. u.journal) e ∙ sym (ap (λ u. if u.up && kept_at n then flushed u.flight u.journal else u.journal) e)

      by_all : (v : World) × Run K minting w (openings kept_at (length w)) v × Partly kept_at w (length w) v → (v : World) × Opened kept_at w v
      by_all (v, run, p) =
          let in_w : (n : ℕ) → n < length v → n < length w = λ n lt. (let a = p.size in let b = size in omega arith) in (
            v,
            record {
              run = run;
              is_quiet = record { kept = p.kept; size = p.size; up = λ n lt. (p.ready n (in_w n lt)).0; quiet = λ n lt. (p.ready n (in_w n lt)).1 };
              journals_are = λ n. elim (under n (length w)) [ inl lt ↦ (p.ready n lt).2 | inr le ↦ ap (λ u. u.journal) (p.rest n le) ∙ beyond n le ];
            },
          )
