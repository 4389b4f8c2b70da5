-- What a stopped turn left in flight is caused, and journals stay kept with it or without.
use Rattle.std.proofs.Common.{◌≡◌, ◌≢◌, ◌⊎◌, inl, inr, ℕ, ◌+◌, ◌-◌, ◌<◌, ◌≤◌, true, false, ◌||◌, not, ◌==◌, nat_lt, if◌then◌else◌, List, [], ◌∷◌}
use Rattle.std.proofs.Common.{◌++◌, Option, Some, refl, sym, ap, ◌∙◌, subst, arith, append-nil}
use Rattle.cbdc_model.specs.Records.{Shape, Compact, Record, Prepare}
use Rattle.cbdc_model.specs.Ranges.{home_of, shard_node}
use Rattle.cbdc_model.specs.Clean.{IsProperCompact}
use Rattle.cbdc_model.specs.After.{After}
use Rattle.cbdc_model.specs.History.{minted, header_of, TxsPass}
use Rattle.cbdc_model.specs.Lanes.{IsEnd, AllPass, Holds, Seen, KeptLists, first_of}
use Rattle.cbdc_model.specs.Sights.{Sight}
use Rattle.ledger_laws.proofs.ByKind.{some_is}
use Rattle.lane_laws.specs.Batches.{view, IsFlown, Flown}
use Rattle.ledger_laws.proofs.Cuts.{seen_grows, end_trans}
use Rattle.ledger_laws.proofs.LaneLaws.{local_law}
use Rattle.run_laws.specs.Runs.{seen_by}
use Rattle.run_laws.specs.Turns.{Elsewhere}
use Rattle.run_laws.specs.Flights.{flying, FlownLaw, MayCome, FlushLaw}
use Rattle.run_laws.proofs.TurnStep.{sees, seen_view}

pub passes : (P : Compact → Type 0) (pieces : List (List Compact)) (r : Record) → AllPass P pieces → Holds pieces r → TxsPass P r
passes P pieces (Prepare stamp b txs) all h = all txs h
passes P pieces other all h = tt

module _ (K : Shape) (lane : ℕ) (logs shards : ℕ → Sight) (home : home_of K lane < K.coordinators) where
  unseen : (n : ℕ) → sees K lane n ≡ false → view K lane (logs (home_of K lane)) shards n ≡ []
  unseen n s =
      let other : (home_of K lane == n) ≡ false = grind (arith, s) in
      let low : nat_lt n K.coordinators ≡ true = grind (arith, s) in
      ap (λ t. if t then (logs (home_of K lane)).seen else (if nat_lt n K.coordinators then [] else (shards (n - K.coordinators)).seen)) other
      ∙ ap (λ t. if t then [] else (shards (n - K.coordinators)).seen) low

  empty : (L more : List Record) → [] ≡ more ++ L → [] ≡ L
  empty L [] e = e
  empty L (r ∷ more) e = absurd (let z : [] ≡ r ∷ (more ++ L) = e in cc)

  -- beginnings of what the lane sees are beginnings of the journals
  ends : (n : ℕ) (L : List Record) → IsEnd L (view K lane (logs (home_of K lane)) shards n) → IsEnd L (seen_by K logs shards n)
  ends n L h = elim (sees K lane n) as (λ t. sees K lane n ≡ t → IsEnd L (seen_by K logs shards n)) [
    | true ↦ λ s. (h.0, seen_view K lane logs shards n home s ∙ h.1)
    | false ↦ λ s. (
      seen_by K logs shards n,
      sym (append-nil (seen_by K logs shards n)) ∙ ap (λ M. seen_by K logs shards n ++ M) (empty L h.0 (sym (unseen n s) ∙ h.1)),
    )
  ] refl

  seen_lift : (n : ℕ) (r : Record) → sees K lane n ≡ true
      → Seen K (view K lane (logs (home_of K lane)) shards) n (view K lane (logs (home_of K lane)) shards n) r
      → Seen K (seen_by K logs shards) n (seen_by K logs shards n) r
  seen_lift n r s h = subst (λ rest. Seen K (seen_by K logs shards) n rest r) (sym (seen_view K lane logs shards n home s))
      (record { lists = h.lists; ends = λ m. ends m (h.lists m) (h.ends m); caused = h.caused })

module _ (K : Shape) (P : Compact → Type 0) (pieces : List (List Compact)) (lane : ℕ) (logs shards logs' shards' : ℕ → Sight)
    (home : home_of K lane < K.coordinators) (pass : AllPass P pieces)
    (elsewhere : Elsewhere K lane logs logs') (flown : Flown K pieces lane (logs (home_of K lane)) shards (logs' (home_of K lane)) shards') (n : ℕ)
    (r : Record) (e : flying K logs' shards' n ≡ Some r) where
  abbrev Comes : Type 0
  Comes = (flying K logs shards n ≡ Some r) ⊎ (Seen K (seen_by K logs' shards') n (seen_by K logs' shards' n) r × TxsPass P r)

  same_node : (a c : ℕ) → (a == c) ≡ true → a ≡ c
  same_node a c u = grind (arith, u)

  other_node : (a c : ℕ) → (a == c) ≡ false → c ≢ a
  other_node a c u f = grind (arith, u, f)

  high_node : (m c : ℕ) → nat_lt m c ≡ false → m ≡ c + (m - c)
  high_node m c t = let le : c ≤ m = grind (arith, t) in omega (arith, le)

  low : (logs shards : ℕ → Sight) → nat_lt n K.coordinators ≡ true → flying K logs shards n ≡ (logs n).flight
  low logs shards t = ap (λ c. if c then (logs n).flight else (shards (n - K.coordinators)).flight) t

  high : (logs shards : ℕ → Sight) → nat_lt n K.coordinators ≡ false → flying K logs shards n ≡ (shards (n - K.coordinators)).flight
  high logs shards t = ap (λ c. if c then (logs n).flight else (shards (n - K.coordinators)).flight) t

  -- at a node that the lane sees
  comes : (m : ℕ) (before after : Option Record) → m ≡ n → sees K lane m ≡ true → flying K logs shards n ≡ before → flying K logs' shards' n ≡ after
      → IsFlown K pieces lane before (view K lane (logs' (home_of K lane)) shards') m after → Comes
  comes m before after at s was is f = elim f [
    | inl same ↦ inl (was ∙ sym same ∙ sym is ∙ e)
    | inr new ↦
        let it : new.0 ≡ r = some_is new.0 r (sym new.1 ∙ sym is ∙ e) in
        inr (
          subst (λ k. Seen K (seen_by K logs' shards') k (seen_by K logs' shards' k) r) at
              (subst (λ q. Seen K (seen_by K logs' shards') m (seen_by K logs' shards' m) q) it
              (seen_lift K lane logs' shards' home m new.0 s new.3)),
          subst (TxsPass P) it (passes P pieces new.0 pass new.4),
        )
  ]

  sees_home : (a c : ℕ) → ((a == a) || not (nat_lt a c)) ≡ true
  sees_home a c = grind arith

  sees_shard : (a c s : ℕ) → ((a == c + s) || not (nat_lt (c + s) c)) ≡ true
  sees_shard a c s = grind arith

  at_log : nat_lt n K.coordinators ≡ true → home_of K lane ≡ n → Comes
  at_log t at = comes (home_of K lane) (logs (home_of K lane)).flight (logs' (home_of K lane)).flight at (sees_home (home_of K lane) K.coordinators)
      (low logs shards t ∙ ap (λ m. (logs m).flight) (sym at)) (low logs' shards' t ∙ ap (λ m. (logs' m).flight) (sym at)) flown.log_flown

  at_shard : nat_lt n K.coordinators ≡ false → n ≡ shard_node K (n - K.coordinators) → Comes
  at_shard t at = comes (shard_node K (n - K.coordinators)) (shards (n - K.coordinators)).flight (shards' (n - K.coordinators)).flight (sym at)
      (sees_shard (home_of K lane) K.coordinators (n - K.coordinators))
      (high logs shards t) (high logs' shards' t) (flown.shard_flown (n - K.coordinators))

  pub flown_so : Comes
  flown_so = elim (nat_lt n K.coordinators) as (λ t. nat_lt n K.coordinators ≡ t → Comes) [
    | true ↦ λ t. elim (home_of K lane == n) as (λ u. (home_of K lane == n) ≡ u → Comes) [
      | true ↦ λ u. at_log t (same_node (home_of K lane) n u)
      | false ↦ λ u. inl (low logs shards t ∙ ap (λ g. g.flight) (sym (elsewhere n (other_node (home_of K lane) n u))) ∙ sym (low logs' shards' t)
          ∙ e)
    ] refl
    | false ↦ λ t. at_shard t (high_node n K.coordinators t)
  ] refl

pub flown_law : FlownLaw
flown_law K submissions pieces lane logs shards logs' shards' home pass elsewhere flown n r e =
    flown_so K (IsProperCompact submissions) pieces lane logs shards logs' shards' home pass elsewhere flown n r e

heads : (x y : Record) (xs ys : List Record) → x ∷ xs ≡ y ∷ ys → (x ≡ y) × (xs ≡ ys)
heads x y xs ys e = (cc, cc)

pub flush_law : FlushLaw
flush_law K mint submissions J X some kept comes =
    (local_law K mint submissions X some).1 (record {
      begins = λ n. end_trans (first_of K (minted mint) n) (J n) (X n) (lists.begins n) (grows n);
      each = λ n newer rest r e h. by_node n newer rest r e h (comes n);
    })
  where
    lists : KeptLists K (minted mint) (IsProperCompact submissions) J
    lists = (local_law K mint submissions J some).0 kept

    grows : (n : ℕ) → IsEnd (J n) (X n)
    grows n = elim (comes n) [
      | inl same ↦ ([], same)
      | inr c ↦ (c.0 ∷ [], c.1)
    ]

    old : (n : ℕ) (newer rest : List Record) (r : Record) → J n ≡ newer ++ r ∷ rest → IsEnd (first_of K (minted mint) n) rest
        → After (header_of K (minted mint).id n) rest r × Seen K X n rest r × TxsPass (IsProperCompact submissions) r
    old n newer rest r e h = let f = lists.each n newer rest r e h in (f.0, seen_grows K J X n rest r grows f.1, f.2)

    by_node : (n : ℕ) (newer rest : List Record) (r : Record) → X n ≡ newer ++ r ∷ rest → IsEnd (first_of K (minted mint) n) rest
        → (X n ≡ J n) ⊎ ((r : Record) × (X n ≡ r ∷ J n) × MayCome K mint submissions J n r)
        → After (header_of K (minted mint).id n) rest r × Seen K X n rest r × TxsPass (IsProperCompact submissions) r
    by_node n newer rest r e h (inl same) = old n newer rest r (sym same ∙ e) h
    by_node n [] rest r e h (inr c) =
        let s = heads c.0 r (J n) rest (sym c.1 ∙ e) in (
          subst (λ q. After (header_of K (minted mint).id n) rest q) s.0 (subst (λ L. After (header_of K (minted mint).id n) L c.0) s.1 c.2.after),
          subst (λ q. Seen K X n rest q) s.0 (subst (λ L. Seen K X n L c.0) s.1 (seen_grows K J X n (J n) c.0 grows c.2.seen)),
          subst (TxsPass (IsProperCompact submissions)) s.0 c.2.passes,
        )
    by_node n (q ∷ newer) rest r e h (inr c) = old n newer rest r (heads c.0 q (J n) (newer ++ r ∷ rest) (sym c.1 ∙ e)).1 h
