-- Opened nodes whose history is caused are checked.
use Rattle.std.proofs.Common.{◌≡◌, inl, inr, ℕ, zero, suc, ◌+◌, ◌-◌, ◌<◌, ◌≤◌, false, nat_lt, if◌then◌else◌, List, [], ◌∷◌, length, reverse, refl}
use Rattle.std.proofs.Common.{sym, ap, ◌∙◌, subst, arith, Option}
use Rattle.std.proofs.lemmas.Bool.{cases_lt}
use Rattle.outside.specs.declared.disk.Disk.{Ghosts}
use Rattle.cbdc_model.specs.Records.{Digest, Shape, Header, Row, journal}
use Rattle.cbdc_model.specs.After.{IsJournal}
use Rattle.cbdc_model.specs.History.{Minted, header_of}
use Rattle.cbdc_model.specs.Sights.{Sight}
use Rattle.audit.specs.Walks.{AllCaused}
use Rattle.node_journal.specs.Nodes.{NodeOf, sight}
use Rattle.node_ports.specs.Nodes.{sight_at}
use Rattle.rack_ledgers.specs.Ledgers.{AreOpened}
use Rattle.rack_laws.proofs.Opened.{at_place}
use Rattle.rack_runs.proofs.Behind.{log_journal as log_seen, shard_journal as shard_seen}
use Rattle.rack_ledgers.specs.Caused.{listed_journals as lent_journals, AreCaused}
use Rattle.rack_ledgers.proofs.CausedTold.{log_journal as log_told, shard_journal as shard_told, no_journal as none_told}
use Rattle.file_runs.specs.Ledgers.{node_journals, HaveCheckedJournals}
use Rattle.audit.specs.Journals.{AreLedgerJournals}
use Rattle.audit.proofs.Begun.{begun, caused_lists}
use Rattle.ledger_laws.proofs.Ledger.{steady_lists}
use Rattle.run_laws.specs.Checked.{CheckedJournals}
use Rattle.run_laws.proofs.Checked.{Any, to_checked}

-- ---- checked journals

-- of caused rows of a ledger's journals
checked_rows : (K : Shape) (genesis : Digest) → 0 < K.shards → (past : List Row) → AllCaused K past
    → AreLedgerJournals K genesis (λ n. journal n past) → (m : Minted) × CheckedJournals K m (λ n. journal n past)
checked_rows K genesis some past caused are =
    let b = begun K genesis (λ n. journal n past) some are in (
      b.0,
      to_checked K b.0 (λ n. journal n past) some
          (steady_lists K b.0 Any (λ n. journal n past)
          (caused_lists K b.0 past (subst (λ g. AreLedgerJournals K g (λ n. journal n past)) (sym b.1) are) b.2 caused)),
    )

-- ---- opened nodes

beyond_all : {N : Type 0} (see : N → Sight) (xs : List N) (n : ℕ) → length xs ≤ n → (sight_at see xs n).seen ≡ []
beyond_all see [] n h = refl
beyond_all see (x ∷ xs) zero h = absurd (omega (arith, h))
beyond_all see (x ∷ xs) (suc n) h = beyond_all see xs n (omega (arith, h))

module _ {D : Type 0} (device : Ghosts D) (held : ℕ → Option D) (h : Header) (logs shards : List (NodeOf D))
    (are : AreOpened device held h logs shards) (caused : AreCaused h.shape (lent_journals logs shards)) where
  abbrev History : List Row
  History = reverse caused.rows

  -- the journals are those of the history
  at_log : (n : ℕ) → n < h.shape.coordinators → node_journals h.shape logs shards n ≡ journal n History
  at_log n low =
      let l = at_place logs n (omega (arith, low, are.coordinators)) in
      log_seen h.shape logs shards n l.0 low l.1 ∙ log_told logs shards caused.rows caused.merged n l.0 l.1

  at_shard : (s : ℕ) → s < h.shape.shards → node_journals h.shape logs shards (h.shape.coordinators + s) ≡ journal (h.shape.coordinators + s) History
  at_shard s low =
      let x = at_place shards s (omega (arith, low, are.shards_are)) in
      shard_seen h.shape logs shards s x.0 x.1 ∙ shard_told logs shards caused.rows caused.merged s x.0 x.1
      ∙ ap (λ k. journal (k + s) History) are.coordinators

  no_node : (n : ℕ) → h.shape.coordinators + h.shape.shards ≤ n → journal n History ≡ []
  no_node n past = none_told logs shards caused.rows caused.merged n (omega (arith, past, are.coordinators, are.shards_are))

  past_all : (n : ℕ) → h.shape.coordinators + h.shape.shards ≤ n → node_journals h.shape logs shards n ≡ journal n History
  past_all n past =
      ap (λ b. if b then (sight_at sight logs n).seen else (sight_at sight shards (n - h.shape.coordinators)).seen) (high past)
      ∙ beyond_all sight shards (n - h.shape.coordinators) (omega (arith, past, are.shards_are)) ∙ sym (no_node n past)
    where
      high : h.shape.coordinators + h.shape.shards ≤ n → nat_lt n h.shape.coordinators ≡ false
      high p = grind (arith, p)

  pub same_journals : (n : ℕ) → node_journals h.shape logs shards n ≡ journal n History
  same_journals n = elim (cases_lt n h.shape.coordinators) [
    | inl low ↦ at_log n low
    | inr high ↦ elim (cases_lt n (h.shape.coordinators + h.shape.shards)) [
      | inl inside ↦
          let place : h.shape.coordinators + (n - h.shape.coordinators) ≡ n = omega (arith, high) in
          subst (λ k. node_journals h.shape logs shards k ≡ journal k History) place
          (at_shard (n - h.shape.coordinators) (omega (arith, high, inside)))
      | inr past ↦ past_all n past
    ]
  ]

  -- each is one of its node's header
  log_is : (n : ℕ) → n < h.shape.coordinators → IsJournal (header_of h.shape h.genesis n) (journal n History)
  log_is n low =
      let l = at_place logs n (omega (arith, low, are.coordinators)) in
      let own = are.logs_at n l.0 l.1 in
      subst (λ J. IsJournal (header_of h.shape h.genesis n) J) (log_told logs shards caused.rows caused.merged n l.0 l.1)
      (subst (λ k. IsJournal k l.0.journal) own.header own.journal)

  shard_is : (s : ℕ) → s < h.shape.shards → IsJournal (header_of h.shape h.genesis (h.shape.coordinators + s))
      (journal (h.shape.coordinators + s) History)
  shard_is s low =
      let x = at_place shards s (omega (arith, low, are.shards_are)) in
      let own = are.shards_at s x.0 x.1 in
      subst (λ J. IsJournal (header_of h.shape h.genesis (h.shape.coordinators + s)) J)
      (shard_told logs shards caused.rows caused.merged s x.0 x.1 ∙ ap (λ k. journal (k + s) History) are.coordinators)
      (subst (λ k. IsJournal k x.0.journal) own.header own.journal)

  each_is : (n : ℕ) → n < h.shape.coordinators + h.shape.shards → IsJournal (header_of h.shape h.genesis n) (journal n History)
  each_is n inside = elim (cases_lt n h.shape.coordinators) [
    | inl low ↦ log_is n low
    | inr high ↦
        let place : h.shape.coordinators + (n - h.shape.coordinators) ≡ n = omega (arith, high) in
        subst (λ k. IsJournal (header_of h.shape h.genesis k) (journal k History)) place
        (shard_is (n - h.shape.coordinators) (omega (arith, high, inside)))
  ]

  pub opened_checked : HaveCheckedJournals h.shape logs shards
  opened_checked =
      let c = checked_rows h.shape h.genesis are.limits.some_shard History caused.caused (record { nodes = each_is; others = no_node }) in
      let all : (λ n. journal n History) ≡ node_journals h.shape logs shards = λ i n. sym (same_journals n) i in
      (c.0, subst (λ J. CheckedJournals h.shape c.0 J) all c.1)
