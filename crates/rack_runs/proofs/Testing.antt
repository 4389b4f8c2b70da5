-- A command's own test of the ledger at entry: where it refuses the ledger the disks are back unchanged; what it let pass is the ledger that a rack
-- showed.
use Rattle.std.proofs.Common.{◌≡◌, ◌⊎◌, inl, inr, ℕ, ◌+◌, ◌≤◌, List, length, Option, sym, ◌∙◌, subst}
use Rattle.outside.specs.declared.disk.Disk.{Ghosts}
use Rattle.cbdc_types.specs.declared.answer.Answer.{Answer}
use Rattle.cbdc_types.specs.declared.answer.Answer.TheVariants as answers
use Rattle.cbdc_model.specs.Records.{Shape, Record}
use Rattle.cbdc_model.specs.Coins.{genesis_id}
use Rattle.rack_ledgers.specs.Racked.{OfTold, AreUnchanged, AreDisksBack}
use Rattle.rack_ledgers.proofs.Told.{same_back}
use Rattle.rack_ledgers.specs.Ledgers.{ByPlace}
use Rattle.rack_ledgers.specs.Opened.{MayClose}
use Rattle.rack_ledgers.proofs.CausedTold.{told_history}
use Rattle.rack_ledgers.proofs.Closed.{all_same}
use Rattle.file_runs.specs.Ledgers.{LedgerOf, node_journals, ledger_journals}
use Rattle.rack_laws.specs.Shown.{OfShown}
use Rattle.rack_laws.proofs.Opened.{same_shape, same_journals as shown_journals}
use Rattle.rack_runs.specs.Works.{Deed, AtEntry, entry_ledger, IsLedgerOpened}
use Rattle.rack_runs.specs.Tests.{Test, IsTestRefused, WhyNotBegun}
use Rattle.rack_runs.proofs.Checking.{same_journals}
use Rattle.rack_runs.proofs.Ledgers.{beyond}

-- the disks of these nodes stand in their places again, and the others as they were
pub record ArePut {D : Type 0} (middle back : ℕ → Option D) (l : LedgerOf D) : Type 0 where
  pub logs : ByPlace (λ n x. OfTold (back n) (λ d. d ≡ x.disk)) l.logs
  pub shards : ByPlace (λ s x. OfTold (back (length l.logs + s)) (λ d. d ≡ x.disk)) l.shards
  pub others : (n : ℕ) → length l.logs + length l.shards ≤ n → back n ≡ middle n

module _ {D : Type 0} (device : Ghosts D) (e : AtEntry D) (middle : ℕ → Option D) (can_put : ℕ → ℕ → Type 0) (can_take : ℕ → Type 0)
    (begun : IsLedgerOpened device e middle can_put can_take) where
  -- the nodes as they were opened, taken apart
  module _ (first l : LedgerOf D) (made : first ≡ entry_ledger e) (apart : first ≡ l) where
    same : l ≡ entry_ledger e
    same = sym apart ∙ made

    -- they may be put back
    pub may_close : MayClose device can_put can_take l.logs l.shards
    may_close = subst (λ (x : LedgerOf D). MayClose device can_put can_take x.logs x.shards) (sym same) begun.may_close

    module _ (back : ℕ → Option D) (put : ArePut middle back l) where
      unchanged : AreUnchanged device e.disks.held back
      unchanged =
          let p : ArePut middle back (entry_ledger e) = subst (ArePut middle back) same put in
          all_same device e.disks.held middle back e.header e.logs e.shards begun.nodes begun.others p.logs p.shards p.others

      are_back : (now : ℕ → ℕ) → AreDisksBack device e.disks (record { held = back; faults = now })
      are_back now n = same_back device (e.disks.faults n) (now n) (e.disks.held n) (back n) (unchanged n)

      refused : (test : Test) (answer : Answer) → test.refuses first.header.shape (ledger_journals first) answer
          → IsTestRefused device e.disks.held back test answer
      refused test answer told =
          let own : test.refuses e.header.shape (ledger_journals (entry_ledger e)) answer =
          subst (λ (x : LedgerOf D). test.refuses x.header.shape (ledger_journals x) answer) made told in
          record {
            ledger = record {
              shape = e.header.shape;
              genesis = e.header.genesis;
              rows = begun.caused.rows;
              history = told_history device e.disks.held e.header e.logs e.shards begun.nodes begun.caused.rows begun.caused.merged;
              caused = begun.caused.caused;
            };
            refused = subst (λ J. test.refuses e.header.shape J answer)
                (λ i n. same_journals device e.disks.held e.header e.logs e.shards begun.nodes begun.caused n i) own;
            unchanged = unchanged;
          }

      -- the test refused the ledger, or there was no memory for it
      pub not_begun : {Done : Type 0} (d : Deed Done) (test : Test) (now : ℕ → ℕ) (answer : Answer)
          → (answer ≡ answers.Memory) ⊎ test.refuses first.header.shape (ledger_journals first) answer
          → WhyNotBegun device e.disks (record { held = back; faults = now }) d test answer
      not_begun d test now answer (inl memory) = inl (inl (inr (inr memory), are_back now))
      not_begun d test now answer (inr told) = inr (refused test answer told)

  -- what holds of the opened ledger holds of whatever kept ledger the rack showed
  pub passed_shown : (P : Shape → (ℕ → List Record) → Type 0) → P e.header.shape (ledger_journals (entry_ledger e))
      → OfShown device e.disks.held (λ K mint submissions E. P K E)
  passed_shown P told K mint submissions E within shows kept =
      let there : P K (node_journals K e.logs e.shards) =
      subst (λ S. P S (node_journals S e.logs e.shards))
      (same_shape device e.disks.held e.header e.logs e.shards begun.nodes K (genesis_id mint) E within shows) told in
      subst (P K) (λ i n. shown_journals device e.disks.held e.header e.logs e.shards begun.nodes K (genesis_id mint) E within shows
      (beyond K mint submissions E kept) n i) there
