-- The verdict on the history of a ledger's nodes.
use Rattle.std.proofs.Common.{◌≡◌, ◌+◌, ◌∙◌, ℕ, List, length, reverse, Option, Result, Ok, Err, sym, ap, subst, arith}
use Rattle.std.specs.Prelude.{IfOk}
use Rattle.std.proofs.lemmas.List.{reverse-reverse}
use Rattle.outside.specs.declared.disk.Disk.{Ghosts}
use Rattle.cbdc_model.specs.Records.{Digest, Shape, Header, Record, Row, journal}
use Rattle.cbdc_model.specs.Coins.{Output, FullTx, genesis_id}
use Rattle.node_journal.specs.Nodes.{NodeOf}
use Rattle.audit.specs.declared.place.Place.{Place}
use Rattle.audit.specs.Rows.{rows_at}
use Rattle.audit.specs.declared.verdict.Verdict.{Verdict}
use Rattle.audit.specs.declared.verdict.Verdict.TheVariants.{Sound, Unsound}
use Rattle.audit.specs.Verdicts.{IsVerdict}
use Rattle.audit.proofs.Single.{one_verdict}
use Rattle.audit.proofs.Accounts.{account}
use Rattle.rack_ledgers.specs.Racked.{OfTold}
use Rattle.rack_ledgers.specs.Ledgers.{ByPlace, AreOpened}
use Rattle.rack_ledgers.specs.Caused.{listed_journals, AreMerged, IsToldHistory}
use Rattle.rack_ledgers.proofs.OwnJournals.{each_room, each_holds}
use Rattle.rack_ledgers.proofs.CausedTold.{log_journal, shard_journal, told_history}
use Rattle.rack_ledgers.proofs.CausedOnce.{same_shape, same_rows}
use Rattle.rack_ledgers.specs.Audited.{HasAuditVerdict, IsAudited, HistoryHasRoom, HistoryIsHeld}
use Rattle.rack_ledgers.specs.AccountLaws.{HasOneVerdict, VerdictsAccount}

module _ {D : Type 0} (device : Ghosts D) (held : ℕ → Option D) (h : Header) (logs : List (NodeOf D)) (shards : List (NodeOf D))
    (are : AreOpened device held h logs shards) (mint : List Output) (minted : h.genesis ≡ genesis_id mint) (handed : List FullTx) where
  pub is_audited : (v : Verdict) → HasAuditVerdict h.shape (listed_journals logs shards) mint handed v → IsAudited device held mint handed v
  is_audited v has = record {
    shape = h.shape;
    rows = has.rows;
    history = subst (λ (g : Digest). IsToldHistory device held h.shape g has.rows) minted
        (told_history device held h logs shards are has.rows has.merged);
    is = has.is;
  }

  pub audited_room : (now : ℕ → Option D) → ByPlace (λ n l. OfTold (now n) (λ d. d ≡ l.disk)) logs
      → ByPlace (λ s x. OfTold (now (length logs + s)) (λ d. d ≡ x.disk)) shards
      → (v : Verdict) → HasAuditVerdict h.shape (listed_journals logs shards) mint handed v
      → (was : IsAudited device held mint handed v) × HistoryHasRoom device held was.shape was.rows
      × HistoryIsHeld device held now was.shape (genesis_id mint) was.rows
  unfolding is_audited
  audited_room now closed_logs closed_shards v has =
      let logs_own = log_journal logs shards has.rows has.merged in
      let shards_own = shard_journal logs shards has.rows has.merged in
      let J : ℕ → List Record = λ n. journal n (reverse has.rows) in (
        is_audited v has,
        each_room device held h logs shards are J logs_own shards_own,
        subst (λ (g : Digest). HistoryIsHeld device held now h.shape g has.rows) minted
            (each_holds device held h logs shards are J logs_own shards_own now closed_logs closed_shards),
      )

-- what the walk over the history says
pub has_verdict : {E : Type 0} (K : Shape) (all js : List (List Record)) (h : List Place) (mint : List Output) (handed : List FullTx)
    → AreMerged js (rows_at all h) → (r : Result Verdict E)
    → IfOk r (IsVerdict K mint handed (rows_at all h)) → IfOk r (HasAuditVerdict K js mint handed)
has_verdict K all js h mint handed merged (Ok v) is = record { rows = rows_at all h; merged = merged; is = is }
has_verdict K all js h mint handed merged (Err e) is = tt

module _ {D : Type 0} (device : Ghosts D) (held : ℕ → Option D) where
  -- disks that tell have one history, and so one verdict
  pub has_one_verdict : HasOneVerdict device held
  has_one_verdict mint handed v w one other tell =
      let shape : one.shape ≡ other.shape = same_shape device held one.shape other.shape _ _ one.rows other.rows one.history other.history tell in
      let rows : one.rows ≡ other.rows = sym (reverse-reverse one.rows)
      ∙ ap reverse (same_rows device held one.shape other.shape _ _ one.rows other.rows one.history other.history tell)
      ∙ reverse-reverse other.rows in
      one_verdict other.shape mint handed other.rows v w
      (subst (λ K. IsVerdict K mint handed other.rows v) shape (subst (λ (r : List Row). IsVerdict one.shape mint handed r v) rows one.is))
      other.is

  pub verdicts_account : VerdictsAccount device held
  verdicts_account mint handed (Unsound place kind) is = tt
  verdicts_account mint handed (Sound totals) is =
      let history = is.history in
      record {
        shape = is.shape;
        rows = is.rows;
        history = is.history;
        accounted = λ begin clean each.
            account is.shape mint handed is.rows totals (omega (arith, history.limits.some_shard))
            (record { nodes = history.journals; others = history.others }) history.ordered begin clean each is.is;
      }
