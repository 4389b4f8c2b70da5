use Rattle.std.proofs.Common.{sym, ap, ◌∙◌, subst}
use Rattle.cbdc_model.specs.Records.{journal}
use Rattle.cbdc_model.specs.History.{IsOrdered}
use Rattle.audit.specs.Rows.{read, rows_at, newest_first}
use Rattle.cut_audit.specs.Cuts.{up_to, rows_up_to}
use Rattle.cut_audit.proofs.UpTo.{journal_up_to, ordered_up_to}
use Rattle.cut_audit.proofs.Least.{cut_rows}
use Rattle.cut_audit.proofs.Moments.{moment}
use Rattle.cut_audit.proofs.cutting.cut.Goals as goal

pub returns-clause-lists : goal.returns-clause-lists
returns-clause-lists c = λ n.
    let all = read c.args.lists.now in
    let s = c.least_last-stamp.result in
    let whole = c.in_ok-history.history in
    let rows = cut_rows all s whole _ (ap (rows_at all) c.from_vec.ensures ∙ c.in_ok-places.ensures.rows
    ∙ ap (λ h. rows_up_to s (rows_at all h)) c.as_slice.ensures) in
    ap (journal n) rows ∙ journal_up_to s n (newest_first all whole) ∙ ap (up_to s) (c.in_ok-history.ensures.newest_first n)

pub returns-clause-ordered : goal.returns-clause-ordered
returns-clause-ordered c = λ rises.
    let all = read c.args.lists.now in
    let s = c.least_last-stamp.result in
    let whole = c.in_ok-history.history in
    let rows = cut_rows all s whole _ (ap (rows_at all) c.from_vec.ensures ∙ c.in_ok-places.ensures.rows
    ∙ ap (λ h. rows_up_to s (rows_at all h)) c.as_slice.ensures) in
    subst IsOrdered (sym rows) (ordered_up_to s (newest_first all whole) (c.in_ok-history.ensures.ordered rises))

pub returns-clause-moment : goal.returns-clause-moment
returns-clause-moment c =
    moment (read c.args.lists.now) c.least_last-stamp.result _ c.least_last-stamp.ensures (returns-clause-lists c) (returns-clause-ordered c)
