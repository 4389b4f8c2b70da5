-- The disks of all nodes, put back.
use Rattle.std.proofs.Common.{◌≡◌, ◌<◌, ◌≤◌, ◌+◌, ◌∙◌, ℕ, List, length, Option, arith, inl, inr}
use Rattle.std.proofs.lemmas.Bool.{cases_lt}
use Rattle.outside.specs.declared.disk.Disk.{Ghosts}
use Rattle.cbdc_model.specs.Records.{Header}
use Rattle.node_journal.specs.Nodes.{NodeOf}
use Rattle.rack_ledgers.specs.Racked.{OfTold, IsUnchanged, AreUnchanged}
use Rattle.rack_ledgers.specs.Refused.{IsAny}
use Rattle.rack_ledgers.specs.Fresh.{StandsNode}
use Rattle.rack_ledgers.proofs.Told.{same_same, same_opened}
use Rattle.rack_ledgers.specs.Ledgers.{ByPlace, AreOpened}
use Rattle.rack_ledgers.proofs.EachNode.{each_node}

module _ {D : Type 0} (device : Ghosts D) where
  pub nodes_same : (held now : ℕ → Option D) (h : Header) (logs : List (NodeOf D)) (shards : List (NodeOf D)) → AreOpened device held h logs shards
      → ByPlace (λ n l. OfTold (now n) (λ d. d ≡ l.disk)) logs → ByPlace (λ s x. OfTold (now (length logs + s)) (λ d. d ≡ x.disk)) shards
      → (n : ℕ) → n < length logs + length shards → IsUnchanged device (held n) (now n)
  nodes_same held now h logs shards opened closed_logs closed_shards n lt =
      each_node device held h logs shards opened (λ (k : ℕ) (x : NodeOf D). OfTold (now k) (λ d. d ≡ x.disk))
      (λ (k : ℕ). IsUnchanged device (held k) (now k))
      (λ k x is put. same_opened device (λ y. y.disk) (StandsNode device IsAny) (held k) (now k) x is.opened put)
      closed_logs closed_shards n (omega (arith, lt, opened.coordinators, opened.shards_are))

  -- so are all disks, where no other was touched
  pub all_same : (held mid now : ℕ → Option D) (h : Header) (logs : List (NodeOf D)) (shards : List (NodeOf D)) → AreOpened device held h logs shards
      → ((n : ℕ) → length logs + length shards ≤ n → mid n ≡ held n)
      → ByPlace (λ n l. OfTold (now n) (λ d. d ≡ l.disk)) logs → ByPlace (λ s x. OfTold (now (length logs + s)) (λ d. d ≡ x.disk)) shards
      → ((n : ℕ) → length logs + length shards ≤ n → now n ≡ mid n) → AreUnchanged device held now
  all_same held mid now h logs shards opened kept closed_logs closed_shards others n = elim (cases_lt n (length logs + length shards)) [
    | inl inside ↦ nodes_same held now h logs shards opened closed_logs closed_shards n inside
    | inr past ↦ same_same device (held n) (now n) (others n past ∙ kept n past)
  ]
