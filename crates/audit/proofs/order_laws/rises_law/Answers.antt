use Rattle.audit.proofs.Journals.{journal_rises}
use Rattle.audit.proofs.order_laws.rises_law.Goals as goal

pub returns : goal.returns
returns c = journal_rises
