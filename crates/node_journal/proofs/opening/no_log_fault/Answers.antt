use Rattle.std.proofs.Common.{List, sym, subst}
use Rattle.cbdc_model.specs.Records.{Record}
use Rattle.cbdc_model.specs.Grammar.{IsInGrammar}
use Rattle.record_log.specs.Held.{CutsOff}
use Rattle.node_journal.proofs.opening.no_log_fault.Goals as goal

pub returns-in-Cut-clause-refusal : goal.returns-in-Cut-clause-refusal
returns-in-Cut-clause-refusal g c = λ limit bytes is.
    let cut = rw c.in-Cut.is at is in
    c.cut_fault.ensures.refusal limit bytes (subst (λ (l : List Record). CutsOff (IsInGrammar c.in-Cut.header) l c.in-Cut.at bytes)
    (sym c.deref.ensures.value) cut.1)
