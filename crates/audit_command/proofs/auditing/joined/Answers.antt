use Rattle.std.proofs.Common.{◌++◌, ◌∙◌, ap}
use Rattle.file_runs.specs.Runs.{joined}
use Rattle.audit_command.proofs.Audits.{joined_more}
use Rattle.audit_command.proofs.auditing.joined.Goals as goal

pub files-preserved : goal.files-preserved
files-preserved c =
    c.in_ok-append.ensures.items ∙ ap (λ l. l ++ c.into_vec-txs.result.items) c.files.invariant
    ∙ ap (λ l. joined c.files.yielded ++ l) c.into_vec-txs.ensures ∙ joined_more c.files.yielded c.in-Some.file
