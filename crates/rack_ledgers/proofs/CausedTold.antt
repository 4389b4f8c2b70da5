-- The history of a ledger's nodes, and what their disks told.
use Rattle.std.proofs.Common.{◌≡◌, ◌≤◌, ◌+◌, ◌-◌, [], ℕ, List, length, map, reverse, Option, Some, refl, sym, ◌∙◌, ap, arith}
use Rattle.std.specs.Prelude.{slice_get}
use Rattle.std.proofs.lemmas.List.{reverse-reverse}
use Rattle.outside.specs.declared.disk.Disk.{Ghosts}
use Rattle.cbdc_model.specs.Records.{Header, Record, Row, journal}
use Rattle.node_journal.specs.Nodes.{NodeOf}
use Rattle.rack_ledgers.specs.Ledgers.{AreOpened}
use Rattle.rack_ledgers.specs.Caused.{listed_journals, AreMerged, AreCaused, IsToldHistory, IsCausedLedger}
use Rattle.rack_ledgers.proofs.OwnJournals.{each_own, each_opens}
use Rattle.rack_ledgers.proofs.Lists.{front_item, back_item, map_item, map_past}

module _ {D : Type 0} (logs : List (NodeOf D)) (shards : List (NodeOf D)) (rows : List Row) (merged : AreMerged (listed_journals logs shards) rows)
  where
    abbrev shard_journals : List (List Record)
    shard_journals = map (λ (s : NodeOf D). reverse s.journal) shards

    pub log_journal : (n : ℕ) (l : NodeOf D) → slice_get logs n ≡ Some l → l.journal ≡ journal n (reverse rows)
    log_journal n l at =
        sym (merged.history.journals_are n ∙ ap reverse (front_item (λ (x : NodeOf D). reverse x.journal) shard_journals [] logs n l at)
        ∙ reverse-reverse l.journal)

    pub shard_journal : (n : ℕ) (s : NodeOf D) → slice_get shards n ≡ Some s → s.journal ≡ journal (length logs + n) (reverse rows)
    shard_journal n s at =
        sym (
        merged.history.journals_are (length logs + n)
        ∙ ap reverse (back_item (λ (x : NodeOf D). reverse x.journal) shard_journals [] logs (length logs + n) n refl
        ∙ map_item (λ (x : NodeOf D). reverse x.journal) [] shards n s at)
        ∙ reverse-reverse s.journal
        )

    pub no_journal : (n : ℕ) → length logs + length shards ≤ n → journal n (reverse rows) ≡ []
    no_journal n past =
        let k : ℕ = n - length logs in
        let place : n ≡ length logs + k = omega (arith, past) in
        merged.history.journals_are n
        ∙ ap reverse (back_item (λ (x : NodeOf D). reverse x.journal) shard_journals [] logs n k place
        ∙ map_past (λ (x : NodeOf D). reverse x.journal) [] shards k (omega (arith, past, place)))

module _ {D : Type 0} (device : Ghosts D) (held : ℕ → Option D) (h : Header) (logs : List (NodeOf D)) (shards : List (NodeOf D))
    (are : AreOpened device held h logs shards) (rows : List Row) (merged : AreMerged (listed_journals logs shards) rows) where
  -- the rows are the history of the ledger that the disks told
  pub told_history : IsToldHistory device held h.shape h.genesis rows
  told_history = record {
    limits = are.limits;
    journals = each_own device held h logs shards are (λ n. journal n (reverse rows)) (log_journal logs shards rows merged)
        (shard_journal logs shards rows merged);
    opened = each_opens device held h logs shards are (λ n. journal n (reverse rows)) (log_journal logs shards rows merged)
        (shard_journal logs shards rows merged);
    others = λ n past. no_journal logs shards rows merged n (omega (arith, past, are.coordinators, are.shards_are));
    ordered = merged.history.ordered;
  }

module _ {D : Type 0} (device : Ghosts D) (held : ℕ → Option D) (h : Header) (logs : List (NodeOf D)) (shards : List (NodeOf D)) where
  -- opened nodes whose history is caused are a ledger that the disks told
  pub caused_ledger : AreOpened device held h logs shards → AreCaused h.shape (listed_journals logs shards) → IsCausedLedger device held
  caused_ledger are is = record {
    shape = h.shape;
    genesis = h.genesis;
    rows = is.rows;
    history = told_history device held h logs shards are is.rows is.merged;
    caused = is.caused;
  }
