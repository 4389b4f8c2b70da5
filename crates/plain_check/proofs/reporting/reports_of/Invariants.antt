use Rattle.std.proofs.Common.{◌≡◌, length}
use Rattle.plain_check.specs.Journals.{journals_in}
use Rattle.plain_check.proofs.Submitted.{EachFileTold}
use Rattle.plain_check.proofs.reporting.reports_of.Given as goal

abbrev pub invariant-files : goal.invariant-files
invariant-files g l = record {
  count : length l.all.items ≡ l.k;
  told : EachFileTold l.shape (g.V.Verifier.verdict_of l.verifier) (journals_in l.entry) (journals_in l.exit) l.files l.all.items;
}
