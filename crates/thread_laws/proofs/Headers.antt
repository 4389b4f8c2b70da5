-- The headers of checked journals are those of the ledger.
use Rattle.std.proofs.Common.{◌≡◌, ◌⊎◌, inl, inr, ℕ, ◌+◌, ◌-◌, ◌<◌, ◌≤◌, true, false, ◌==◌, nat_lt, if◌then◌else◌, List, [], ◌∷◌, ◌++◌, refl, sym, ap}
use Rattle.std.proofs.Common.{◌∙◌, subst, arith}
use Rattle.cbdc_model.specs.Records.{Shape, Header, Record, Row, journal, Genesis, Start}
use Rattle.cbdc_model.specs.Ranges.{shard_node, on_shard}
use Rattle.cbdc_model.specs.After.{After, IsJournal}
use Rattle.cbdc_model.specs.History.{Minted, header_of, first_rows}
use Rattle.cbdc_model.specs.World.{first_record}
use Rattle.cbdc_model.specs.Sights.{Sight}
use Rattle.lane_driver.specs.Told.{KeepNodes}
use Rattle.ledger_laws.proofs.FirstJournals.{first_is}
use Rattle.run_laws.specs.Checked.{CheckedJournals}
use Rattle.run_laws.specs.Runs.{seen_by, AreJournals}
use Rattle.run_laws.proofs.Nodes.{after_in}
use Rattle.run_laws.proofs.Seen.{seen_log, seen_shard}
use Rattle.thread_laws.specs.Nodes.{AreNodes}

journal_append : (n : ℕ) (xs ys : List Row) → journal n (xs ++ ys) ≡ journal n xs ++ journal n ys
journal_append n [] ys = refl
journal_append n (row ∷ xs) ys =
    elim (row.node == n) as (λ c. (if c then row.what ∷ journal n (xs ++ ys) else journal n (xs ++ ys))
    ≡ (if c then row.what ∷ journal n xs else journal n xs) ++ journal n ys) [
      | true ↦ ap (λ J. row.what ∷ J) (journal_append n xs ys)
      | false ↦ journal_append n xs ys
    ]

-- the first record tells the header
named_first : (K : Shape) (m : Minted) (n : ℕ) (h : Header) → After h [] (first_record K m n) → h ≡ header_of K m.id n
named_first K m n h =
    elim (nat_lt n K.coordinators) as (λ c. After h []
    (if c then Start (header_of K m.id n) else Genesis (header_of K m.id n) (on_shard K (n - K.coordinators) m.hashes)) → h ≡ header_of K m.id n) [
      | true ↦ λ a. sym a.0.0
      | false ↦ λ a. sym a.0.0
    ]

pub header_is : (K : Shape) (m : Minted) (J : ℕ → List Record) (n : ℕ) (h : Header)
    → CheckedJournals K m J → n < K.coordinators + K.shards → IsJournal h (J n) → h ≡ header_of K m.id n
header_is K m J n h checked lt j =
    named_first K m n h (after_in h (journal n checked.later) [] (first_record K m n)
    (subst (IsJournal h) (sym (checked.history.journals_are n) ∙ journal_append n checked.later (first_rows K m)
    ∙ ap (λ L. journal n checked.later ++ L) (first_is K m n lt)) j))

pub which_node : (K : Shape) (n : ℕ) → (n < K.coordinators) ⊎ ((K.coordinators ≤ n) × (n - K.coordinators < K.shards))
    ⊎ ((K.coordinators ≤ n) × (K.shards ≤ n - K.coordinators))
which_node K n = grind arith

module _ (K : Shape) (logs shards logs' shards' : ℕ → Sight) (nodes : AreNodes K logs shards) (nodes' : AreNodes K logs' shards')
    (log_nodes : KeepNodes logs logs') (shard_nodes : KeepNodes shards shards') where
  module _ (m : Minted) (checked : CheckedJournals K m (seen_by K logs shards)) where
    abbrev Here : ℕ → Type 0
    Here n = (seen_by K logs' shards' n ≡ []) ⊎ IsJournal (header_of K m.id n) (seen_by K logs' shards' n)

    log_here : (n : ℕ) → n < K.coordinators → Here n
    log_here n lt =
        let h : (logs n).header ≡ header_of K m.id n =
        header_is K m (seen_by K logs shards) n (logs n).header checked (omega (arith, lt))
        (subst (IsJournal (logs n).header) (sym (seen_log K logs shards n lt)) (nodes.logs_are n lt)) in
        inr (subst (IsJournal (header_of K m.id n)) (sym (seen_log K logs' shards' n lt))
        (subst (λ k. IsJournal k (logs' n).seen) ((log_nodes n).header ∙ h) (nodes'.logs_are n lt)))

    shard_here : (s : ℕ) → s < K.shards → Here (shard_node K s)
    shard_here s lt =
        let h : (shards s).header ≡ header_of K m.id (shard_node K s) =
        header_is K m (seen_by K logs shards) (shard_node K s) (shards s).header checked (omega (arith, lt))
        (subst (IsJournal (shards s).header) (sym (seen_shard K logs shards s)) (nodes.shards_are s lt)) in
        inr (subst (IsJournal (header_of K m.id (shard_node K s))) (sym (seen_shard K logs' shards' s))
        (subst (λ k. IsJournal k (shards' s).seen) ((shard_nodes s).header ∙ h) (nodes'.shards_are s lt)))

    pub are_journals : AreJournals K m (seen_by K logs' shards')
    are_journals n = elim (which_node K n) [
      | inl lt ↦ log_here n lt
      | inr (inl (le, lt)) ↦ let back : shard_node K (n - K.coordinators) ≡ n = omega (arith, le) in
          subst Here back (shard_here (n - K.coordinators) lt)
      | inr (inr (le, none)) ↦ let back : shard_node K (n - K.coordinators) ≡ n = omega (arith, le) in
          subst Here back (inl (seen_shard K logs' shards' (n - K.coordinators) ∙ nodes'.beyond (n - K.coordinators) none))
    ]
