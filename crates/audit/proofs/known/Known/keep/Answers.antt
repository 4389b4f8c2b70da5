use Rattle.std.proofs.Common.{◌∙◌, ap, cond, Some}
use Rattle.audit.specs.Knowing.{index_of, same_record_key}
use Rattle.audit.proofs.Finding.{key_test}
use Rattle.audit.proofs.known.Known.keep.Goals as goal

pub returns-in_ok-insert-in-Some-clause-kept : goal.returns-in_ok-insert-in-Some-clause-kept
returns-in_ok-insert-in-Some-clause-kept c = λ n kind b.
    c.in_ok-insert-in-Some.ensures.updates.0 (n, kind, b.lane, b.number)
    ∙ ap (λ p. cond (same_record_key (c.args.node, c.in-Some.kind, p.lane, p.number) (n, kind, b.lane, b.number)) (Some c.args.index)
    (index_of c.args.self.now n kind b)) c.batch.view_is
    ∙ ap (λ t. cond t (Some c.args.index) (index_of c.args.self.now n kind b))
    (key_test c.args.node n c.in-Some.kind kind c.args.r.now c.in-Some.batch b c.in-Some.ensures.0 (c.in-Some.ensures.1 b))
