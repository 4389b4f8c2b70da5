use Rattle.std.proofs.Common.{◌∙◌, ◌+◌, ◌-◌, ◌/◌, ◌++◌, ℕ, sym, ap, subst, arith}
use Rattle.std.proofs.lemmas.Result.{IfOk-weaker}
use Rattle.cbdc_model.specs.Records.{journal}
use Rattle.audit.specs.Rows.{read, rows_at}
use Rattle.audit.specs.Merges.{AreApart, RiseAll, journals_below}
use Rattle.audit.proofs.MergeSteps.{ranges_apart, ranges_joined}
use Rattle.audit.proofs.merging.+merge_between.Goals as goal

apart : (t : ℕ) (c : goal.After-drop-a-2 t) → AreApart (rows_at (read c.args.journals.now) c.deref.result.now)
    (rows_at (read c.args.journals.now) c.deref-2.result.now)
apart t c = rw (c.deref.ensures.value, c.deref-2.ensures.value)
    (ranges_apart (read c.args.journals.now) c.args.low (c.args.low + (c.args.high - c.args.low) / 2) c.args.high _ _ c.in_ok-a.ensures.journals
    c.in_ok-b.ensures.journals)

pub returns-clause-journals : goal.returns-clause-journals
returns-clause-journals t c = IfOk-weaker c.merge_two.result _ _ (λ v h n.
    h n ∙ ap (λ l. journal n (rows_at (read c.args.journals.now) l) ++ journal n (rows_at (read c.args.journals.now) c.deref-2.result.now))
    c.deref.ensures.value
    ∙ ap (λ l. journal n (rows_at (read c.args.journals.now) c.in_ok-a.a.items) ++ journal n (rows_at (read c.args.journals.now) l))
    c.deref-2.ensures.value
    ∙ ap (λ J. J ++ journal n (rows_at (read c.args.journals.now) c.in_ok-b.b.items)) (c.in_ok-a.ensures.journals n)
    ∙ ap (λ J. journals_below (read c.args.journals.now) c.args.low (c.args.low + (c.args.high - c.args.low) / 2) n ++ J)
    (c.in_ok-b.ensures.journals n)
    ∙ ranges_joined (read c.args.journals.now) c.args.low (c.args.low + (c.args.high - c.args.low) / 2) c.args.high n (omega arith) (omega arith))
    (c.merge_two.ensures.journals (apart t c))

pub returns-clause-rises : goal.returns-clause-rises
returns-clause-rises t c = λ rises.
    c.merge_two.ensures.rises (apart t c) (subst (λ l. RiseAll (rows_at (read c.args.journals.now) l)) (sym c.deref.ensures.value)
    (c.in_ok-a.ensures.rises rises))
    (subst (λ l. RiseAll (rows_at (read c.args.journals.now) l)) (sym c.deref-2.ensures.value) (c.in_ok-b.ensures.rises rises))
