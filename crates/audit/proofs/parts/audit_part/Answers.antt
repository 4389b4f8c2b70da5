use Rattle.std.proofs.Common.{◌∙◌, subst}
use Rattle.audit.specs.Rows.{read, rows_at}
use Rattle.audit.specs.Keeping.{IsWalked}
use Rattle.audit.proofs.Steps.{part_verdict_of}
use Rattle.audit.proofs.parts.audit_part.Goals as goal

pub returns-in-Stopped : goal.returns-in-Stopped
returns-in-Stopped g c =
    part_verdict_of c.args.shape.now c.args.mint.now c.args.handed.now (rows_at (read c.args.journals.now) c.args.history.now) c.in-Stopped.place
    c.in-Stopped.kind
    (subst (IsWalked c.args.shape.now c.args.mint.now c.args.handed.now (read c.args.journals.now) c.args.history.now c.walk.new.fold) c.in-Stopped.is
    (c.in_ok-place.ensures c.args.mint.now c.in_ok-ids.ensures c.in_ok-fold.ensures))

pub returns : goal.returns
returns g c =
    let w = subst (IsWalked c.args.shape.now c.args.mint.now c.args.handed.now (read c.args.journals.now) c.args.history.now c.walk.new.fold)
    c.in-Whole.is
    (c.in_ok-place.ensures c.args.mint.now c.in_ok-ids.ensures c.in_ok-fold.ensures) in
    record {
      book = w.2.left;
      pass = record { caused = w.1; spent = w.2.are_spent };
      sizes = c.in_ok-unspent-in-Whole.ensures;
      value_is = c.value.ensures ∙ w.2.keeps.totals (λ o. o.value);
      minted_is = c.minted.ensures;
    }
