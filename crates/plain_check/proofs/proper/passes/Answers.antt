use Rattle.std.proofs.Common.{◌↔◌, sym, subst}
use Rattle.std.specs.Prelude.{All, IsTrue, IfOk}
use Rattle.cbdc_model.specs.Clean.{IsProperCompact}
use Rattle.cbdc_model.specs.History.{TxsPass}
use Rattle.plain_check.proofs.proper.passes.Goals as goal

pub returns-in-Prepare : goal.returns-in-Prepare
returns-in-Prepare c =
    subst (λ r. IfOk c.are_proper_compact.result (λ told. IsTrue told ↔ TxsPass (IsProperCompact c.args.submissions.now) r)) (sym c.in-Prepare.is)
    (subst (λ ks. IfOk c.are_proper_compact.result (λ told. IsTrue told ↔ All (IsProperCompact c.args.submissions.now) ks)) c.as_slice.ensures
    c.are_proper_compact.ensures)
