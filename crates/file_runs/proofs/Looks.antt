-- What an auditor saw beside a wave are looks at the ledger's journals behind it.
use Rattle.std.proofs.Common.{◌≡◌, ◌⊎◌, inl, inr, ℕ, ◌+◌, ◌-◌, ◌<◌, ◌≤◌, true, false, nat_lt, if◌then◌else◌, List, [], ◌∷◌, ◌++◌, length}
use Rattle.std.proofs.Common.{length-append, reverse, refl, sym, ap, ◌∙◌, subst, arith}
use Rattle.std.specs.Global.{Vec}
use Rattle.std.proofs.lemmas.List.{length-reverse}
use Rattle.cbdc_model.specs.Records.{Header, Shape, Record}
use Rattle.cbdc_model.specs.After.{IsJournal}
use Rattle.cbdc_model.specs.Lanes.{IsEnd}
use Rattle.cbdc_model.specs.Ranges.{node_count, shard_node}
use Rattle.cbdc_model.specs.Sights.{Sight}
use Rattle.node_journal.specs.Nodes.{NodeOf, sight}
use Rattle.node_ports.specs.Nodes.{sight_at}
use Rattle.run_laws.specs.Runs.{seen_by}
use Rattle.lane_waves.specs.declared.watching.Watch.{Watch}
use Rattle.lane_waves.specs.Watchers.{IfSaw, IsBetween, HasSeen, list_at}
use Rattle.lane_waves.proofs.Looking.{saw_by}
use Rattle.file_runs.specs.Ledgers.{IsLedger, node_journals}
use Rattle.file_runs.specs.Looking.{AreLooks}
use Rattle.file_runs.proofs.Steps.{journal_at}

some_in : (h : Header) (J : List Record) → IsJournal h J → 0 < length J
some_in h [] is = absurd is
some_in h (r ∷ J) is = omega arith

not_less : (I J : List Record) → IsEnd I J → length I ≤ length J
not_less I J e =
    let whole = ap (λ (L : List Record). length L) e.1 in
    let parts = length-append e.0 I in
    omega (arith, whole, parts)

-- what lies between a journal that is not empty and a later one is a front of that, and not empty
some_between : (first last list : List Record) → 0 < length first → IsBetween first last list → 0 < length list
some_between first last list some b =
    let grown = not_less first (reverse list) b.since in
    let same = length-reverse list in
    omega (arith, some, grown, same)

where_at : (n c s : ℕ) → n < c + s → (n < c) ⊎ ((c ≤ n) × (n - c < s) × (c + (n - c) ≡ n))
where_at n c s lt = grind arith

low : (a b : ℕ) → a < b → nat_lt a b ≡ true
low a b lt = grind (arith, lt)

high : (a b : ℕ) → b ≤ a → nat_lt a b ≡ false
high a b le = grind (arith, le)

module _ {D : Type 0} (h : Header) (logs shards : List (NodeOf D)) (logs' : List (NodeOf D)) (shards' : List (NodeOf D))
    (ledger : IsLedger h logs shards) where
  abbrev Between : ℕ → List Record → Type 0
  Between n list = IsEnd (reverse list) (node_journals h.shape logs' shards' n) × (0 < length list)

  node_at : (lists : List (Vec Record)) → HasSeen h.shape (sight_at sight logs) (sight_at sight shards) (sight_at sight logs')
      (sight_at sight shards') lists
      → (n : ℕ) → (n < h.shape.coordinators) ⊎ ((h.shape.coordinators ≤ n) × (n - h.shape.coordinators < h.shape.shards)
      × (h.shape.coordinators + (n - h.shape.coordinators) ≡ n))
      → Between n (list_at lists n)
  node_at lists seen n (inl lt) =
      let b = seen.of_logs n lt in
      let is = ap (λ c. if c then (sight_at sight logs' n).seen else (sight_at sight shards' (n - h.shape.coordinators)).seen)
      (low n h.shape.coordinators lt) in (
        subst (λ J. IsEnd (reverse (list_at lists n)) J) (sym is) b.front,
        some_between _ _ (list_at lists n) (some_in _ _ (journal_at logs ledger.log_journals n (omega (arith, lt, ledger.coordinators)))) b,
      )
  node_at lists seen n (inr (le, lt, back)) =
      let s = n - h.shape.coordinators in
      let b = subst (λ m. IsBetween (sight_at sight shards s).seen (sight_at sight shards' s).seen (list_at lists m)) back (seen.of_shards s lt) in
      let is = ap (λ c. if c then (sight_at sight logs' n).seen else (sight_at sight shards' (n - h.shape.coordinators)).seen)
      (high n h.shape.coordinators le) in (
        subst (λ J. IsEnd (reverse (list_at lists n)) J) (sym is) b.front,
        some_between _ _ (list_at lists n) (some_in _ _ (journal_at shards ledger.shard_journals s (omega (arith, lt, ledger.shards_are)))) b,
      )

  looks : (lists : List (Vec Record)) → HasSeen h.shape (sight_at sight logs) (sight_at sight shards) (sight_at sight logs') (sight_at sight shards')
      lists
      → AreLooks h.shape (node_journals h.shape logs' shards') lists
  looks lists seen = record {
    many = seen.many;
    fronts = λ n lt. (node_at lists seen n (where_at n h.shape.coordinators h.shape.shards lt)).0;
    some = λ n lt. (node_at lists seen n (where_at n h.shape.coordinators h.shape.shards lt)).1;
  }

  pub if_looks : (w : Watch) → IfSaw w (HasSeen h.shape (sight_at sight logs) (sight_at sight shards) (sight_at sight logs') (sight_at sight shards'))
      → IfSaw w (AreLooks h.shape (node_journals h.shape logs' shards'))
  if_looks w seen = saw_by w (HasSeen h.shape (sight_at sight logs) (sight_at sight shards) (sight_at sight logs') (sight_at sight shards'))
      (AreLooks h.shape (node_journals h.shape logs' shards')) looks seen
