use Rattle.std.proofs.Common.{◌≡◌, ◌<◌, ◌^◌, ◌∙◌, List, length, sym, ap, subst, arith}
use Rattle.std.specs.Prelude.{All, IfOk}
use Rattle.audit.specs.declared.place.Place.{Place}
use Rattle.audit.specs.Rows.{read, rows_at, journal_in, IsRecordPlace}
use Rattle.audit.specs.Parts.{IsPartVerdict}
use Rattle.gen_command.specs.Watched.{IsCutVerdict}
use Rattle.gen_command.proofs.Lending.{as_many, verdict_so}
use Rattle.gen_command.proofs.watched.verdict_on.Goals as goal

pub cut-requires-clause-some : goal.cut-requires-clause-some
cut-requires-clause-some g c =
    let same = ap read c.deref.ensures.value ∙ c.in_ok-all.ensures in
    let many = as_many c.deref.result.now c.args.lists.now same in
    let some = c.requires.some in
    omega (arith, many, some)

pub cut-requires-clause-few : goal.cut-requires-clause-few
cut-requires-clause-few g c =
    let same = ap read c.deref.ensures.value ∙ c.in_ok-all.ensures in
    subst (λ m. m < 2 ^ 32) (sym (as_many c.deref.result.now c.args.lists.now same)) c.requires.few

pub cut-requires-clause-full : goal.cut-requires-clause-full
cut-requires-clause-full g c n inside =
    let same = ap read c.deref.ensures.value ∙ c.in_ok-all.ensures in
    subst (λ ls. 0 < length (journal_in ls n)) (sym same)
    (c.requires.full n (subst (λ m. n < m) (as_many c.deref.result.now c.args.lists.now same) inside))

pub audit_part-requires-clause-places : goal.audit_part-requires-clause-places
audit_part-requires-clause-places g c κs k =
    let slices : c.deref.result.now ≡ c.deref-2.result.now = c.deref.ensures.value ∙ sym c.deref-2.ensures.value in
    subst (λ (l : List Place). All (IsRecordPlace (read c.deref-2.result.now)) l) (sym c.as_slice.ensures)
    (subst (λ s. All (IsRecordPlace (read s)) c.in_ok-history.field-0.history) slices c.in_ok-history.ensures.places)

pub returns : goal.returns
returns g c =
    let K = c.args.shape.now in
    let mint = c.args.mint.now in
    let handed = c.args.handed.now in
    let slices : c.deref.result.now ≡ c.deref-2.result.now = c.deref.ensures.value ∙ sym c.deref-2.ensures.value in
    let same = ap read c.deref.ensures.value ∙ c.in_ok-all.ensures in
    let listed : IfOk c.audit_part.result (IsPartVerdict K mint handed (rows_at (read c.deref.result.now) c.in_ok-history.field-0.history)) =
    subst (λ (l : List Place). IfOk c.audit_part.result (IsPartVerdict K mint handed (rows_at (read c.deref.result.now) l))) c.as_slice.ensures
    (subst (λ s. IfOk c.audit_part.result (IsPartVerdict K mint handed (rows_at (read s) c.as_slice.result.now))) (sym slices) c.audit_part.ensures)
    in
    subst (λ ls. IfOk c.audit_part.result (IsCutVerdict K mint handed ls)) same
    (verdict_so K mint handed (read c.deref.result.now) c.in_ok-history.field-0.stamp c.in_ok-history.field-0.history c.audit_part.result
    c.in_ok-history.ensures.stamp c.in_ok-history.ensures.lists c.in_ok-history.ensures.moment listed)
