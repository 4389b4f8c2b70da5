use Rattle.std.proofs.Common.{◌≡◌, ◌∙◌, sym, ap, subst, arith}
use Rattle.std.proofs.lemmas.Grind.{common_steps}
use Rattle.std.proofs.lemmas.List.{take_all}
use Rattle.audit.specs.Rows.{read, rows_at, journal_in}
use Rattle.audit.specs.Merges.{rows_of_node, RiseAll}
use Rattle.cbdc_model.specs.Records.{journal}
use Rattle.audit.proofs.Rows.{own_journals, own_rises}
use Rattle.audit.proofs.Places.{journal_read}
use Rattle.audit.proofs.merging.places_at.Goals as goal

whole : (c : goal.After-records) → rows_at (read c.args.journals.now) c.records.places.items
    ≡ rows_of_node c.args.node (journal_in (read c.args.journals.now) c.args.node)
whole c =
    let e : journal_in (read c.args.journals.now) c.args.node ≡ c.index-journals-node.result.now =
    journal_read c.args.journals.now c.args.node c.index-journals-node.result c.requires c.index-journals-node.is in
    c.records.invariant.0 ∙ ap (rows_of_node c.args.node)
    (take_all c.records.index (journal_in (read c.args.journals.now) c.args.node) (rw e c.records-test.false))

pub returns-clause-journals : goal.returns-clause-journals
returns-clause-journals c = λ n. ap (journal n) (whole c) ∙ own_journals (read c.args.journals.now) c.args.node n

pub returns-clause-rises : goal.returns-clause-rises
returns-clause-rises c = λ h. subst RiseAll (sym (whole c)) (own_rises c.args.node (journal_in (read c.args.journals.now) c.args.node) h)

pub records-preserved : goal.records-preserved
records-preserved c = grind (arith, common_steps)
