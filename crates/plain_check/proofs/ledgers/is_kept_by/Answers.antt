use Rattle.std.proofs.Common.{sym, subst}
use Rattle.std.specs.Prelude.{IsTrue}
use Rattle.cbdc_model.specs.History.{minted}
use Rattle.cbdc_model.specs.World.{IsHistory}
use Rattle.plain_check.specs.Journals.{journals_in}
use Rattle.plain_check.proofs.Propers.{no_lie}
use Rattle.plain_check.proofs.Keeping.{kept_history}
use Rattle.plain_check.proofs.ledgers.is_kept_by.Goals as goal

pub returns-then-not-branch : goal.returns-then-not-branch
returns-then-not-branch c = (
  λ lie. absurd (no_lie lie),
  λ kept. absurd (no_lie (subst IsTrue c.if-not-branch.true (c.in_ok-is_history_of.ensures.1
      (subst (λ l. IsHistory c.args.shape.now (minted c.args.mint.now) (journals_in c.args.journals.now) l) (sym c.requires)
      (kept_history c.args.shape.now c.args.mint.now c.args.submissions.now (journals_in c.args.journals.now) kept))))),
)
