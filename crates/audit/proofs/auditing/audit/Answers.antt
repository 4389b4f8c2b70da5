use Rattle.std.proofs.Common.{◌∙◌, subst}
use Rattle.std.specs.Prelude.{MatchOption}
use Rattle.cbdc_model.specs.Money.{money_of}
use Rattle.audit.specs.Rows.{read, rows_at}
use Rattle.audit.specs.Walks.{AllDone, IsFirstOpen}
use Rattle.audit.specs.Verdicts.{journals_of}
use Rattle.audit.specs.Keeping.{IsWalked}
use Rattle.audit.proofs.Steps.{verdict_of}
use Rattle.audit.proofs.auditing.audit.Goals as goal

pub returns-in-Stopped : goal.returns-in-Stopped
returns-in-Stopped g c =
    verdict_of c.args.shape.now c.args.mint.now c.args.handed.now (rows_at (read c.args.journals.now) c.args.history.now) c.in-Stopped.place
    c.in-Stopped.kind
    (subst (IsWalked c.args.shape.now c.args.mint.now c.args.handed.now (read c.args.journals.now) c.args.history.now c.walk.new.fold) c.in-Stopped.is
    (c.in_ok-place.ensures c.args.mint.now c.in_ok-ids.ensures c.in_ok-fold.ensures))

pub returns-in-Some : goal.returns-in-Some
returns-in-Some g c =
    let w = subst (IsWalked c.args.shape.now c.args.mint.now c.args.handed.now (read c.args.journals.now) c.args.history.now c.walk.new.fold)
    c.in-Whole.is
    (c.in_ok-place.ensures c.args.mint.now c.in_ok-ids.ensures c.in_ok-fold.ensures) in
    record {
      book = w.2.left;
      pass = record { caused = w.1; spent = w.2.are_spent };
      first = subst (λ o. MatchOption o (AllDone c.args.shape.now (journals_of (rows_at (read c.args.journals.now) c.args.history.now))
          (rows_at (read c.args.journals.now) c.args.history.now))
          (IsFirstOpen c.args.shape.now (journals_of (rows_at (read c.args.journals.now) c.args.history.now))
          (rows_at (read c.args.journals.now) c.args.history.now)))
          c.in-Some.is (c.first_open.ensures (journals_of (rows_at (read c.args.journals.now) c.args.history.now)) w.0);
    }

pub returns : goal.returns
returns g c =
    let w = subst (IsWalked c.args.shape.now c.args.mint.now c.args.handed.now (read c.args.journals.now) c.args.history.now c.walk.new.fold)
    c.in-Whole.is
    (c.in_ok-place.ensures c.args.mint.now c.in_ok-ids.ensures c.in_ok-fold.ensures) in
    record {
      book = w.2.left;
      pass = record { caused = w.1; spent = w.2.are_spent };
      done = subst (λ o. MatchOption o (AllDone c.args.shape.now (journals_of (rows_at (read c.args.journals.now) c.args.history.now))
          (rows_at (read c.args.journals.now) c.args.history.now))
          (IsFirstOpen c.args.shape.now (journals_of (rows_at (read c.args.journals.now) c.args.history.now))
          (rows_at (read c.args.journals.now) c.args.history.now)))
          c.in-None.is (c.first_open.ensures (journals_of (rows_at (read c.args.journals.now) c.args.history.now)) w.0);
      coins = c.len.ensures ∙ w.2.keeps.size;
      value = c.value.ensures ∙ w.2.keeps.totals (λ o. o.value);
      minted = c.minted.ensures;
      committed = w.2.count;
      money = c.money.ensures ∙ w.2.keeps.totals money_of;
      issued = w.2.issued;
      redeemed = w.2.redeemed;
    }
