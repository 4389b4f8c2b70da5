use Rattle.std.proofs.Common.{◌≡◌, ◌∙◌, ap, length, reverse, sym, subst, arith}
use Rattle.std.proofs.lemmas.Grind.{common_steps}
use Rattle.std.proofs.lemmas.List.{length-map}
use Rattle.cbdc_model.specs.Records.{journal}
use Rattle.cbdc_model.specs.History.{IsOrdered}
use Rattle.audit.specs.Rows.{read, rows_at, newest_first, journal_in}
use Rattle.audit.specs.Merges.{journals_below}
use Rattle.audit.proofs.Rows.{ordered_from}
use Rattle.audit.proofs.MergeSteps.{all_nodes}
use Rattle.audit.proofs.Journals.{journal-reverse}
use Rattle.audit.proofs.merging.merge.Goals as goal

pub returns-clause-newest_first : goal.returns-clause-newest_first
returns-clause-newest_first c = λ n.
    let whole : journals_below (read c.args.journals.now) 0 (length c.args.journals.now) n ≡ journal_in (read c.args.journals.now) n
    = subst (λ k. journals_below (read c.args.journals.now) 0 k n ≡ journal_in (read c.args.journals.now) n)
    (length-map c.args.journals.now (λ j. j.now)) (all_nodes (read c.args.journals.now) n) in
    ap (λ h. journal n (newest_first (read c.args.journals.now) h)) c.from_vec.ensures
    ∙ journal-reverse n (rows_at (read c.args.journals.now) c.in_ok-places.places.items)
    ∙ ap reverse (c.in_ok-places.ensures.journals n ∙ whole)

pub returns-clause-ordered : goal.returns-clause-ordered
returns-clause-ordered c = λ rises.
    subst (λ h. IsOrdered (newest_first (read c.args.journals.now) h)) (sym c.from_vec.ensures)
    (ordered_from (rows_at (read c.args.journals.now) c.in_ok-places.places.items) (c.in_ok-places.ensures.rises rises))

pub returns-clause-journals : goal.returns-clause-journals
returns-clause-journals c = grind (arith, common_steps)
