use Rattle.std.proofs.Common.{◌<◌, length, reverse, subst, sym, ap, ◌∙◌, arith}
use Rattle.cbdc_model.specs.Records.{last_stamp}
use Rattle.audit.specs.Rows.{read}
use Rattle.audit.proofs.Places.{journal_read}
use Rattle.cut_audit.proofs.Least.{least_next}
use Rattle.cut_audit.proofs.cutting.least_last.Goals as goal

pub last_of-requires : goal.last_of-requires
last_of-requires c =
    subst (λ l. 0 < length l) (journal_read c.args.lists.now c.lists.n c.index-lists-n.result c.lists-test.true c.index-lists-n.is)
    (c.requires.full c.lists.n c.lists-test.true)

pub lists-preserved : goal.lists-preserved
lists-preserved c =
    let m = c.min-least.ensures in
    let t = c.last_of.ensures ∙ ap (λ l. last_stamp (reverse l))
    (sym (journal_read c.args.lists.now c.lists.n c.index-lists-n.result c.lists-test.true c.index-lists-n.is)) in
    least_next (read c.args.lists.now) c.lists.n c.lists.least c.last_of.result c.min-least.result c.lists.invariant t (omega (arith, m))
    (omega (arith, m)) (λ le. omega (arith, m, le)) (λ lt. omega (arith, m, lt))
