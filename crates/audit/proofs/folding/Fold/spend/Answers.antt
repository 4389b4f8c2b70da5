use Rattle.std.proofs.Common.{◌≡◌, Some, None, true, refl, sym, subst}
use Rattle.std.specs.Prelude.{MatchOption}
use Rattle.cbdc_model.specs.Book.{spend}
use Rattle.cbdc_model.specs.History.{first_with}
use Rattle.audit.specs.Keeping.{HasRest}
use Rattle.audit.proofs.Indexing.{first_has_id}
use Rattle.audit.proofs.Spendings.{spent_more, not_left}
use Rattle.audit.proofs.folding.Fold.spend.Goals as goal

pub returns-in_default : goal.returns-in_default
returns-in_default c = λ mint forms index h.
    let none : first_with c.args.handed.now c.args.form.now ≡ None
    = subst (λ o. MatchOption o (first_with c.args.handed.now c.args.form.now ≡ None)
    (λ t. first_with c.args.handed.now c.args.form.now ≡ Some t.now)) c.in_default.is (c.first_with.ensures index) in
    (h.left, h.are_spent, (refl, none))

pub returns-then-not-branch : goal.returns-then-not-branch
returns-then-not-branch c = λ mint forms index h.
    let first : first_with c.args.handed.now c.args.form.now ≡ Some c.in-Some.tx.now
    = subst (λ o. MatchOption o (first_with c.args.handed.now c.args.form.now ≡ None)
    (λ t. first_with c.args.handed.now c.args.form.now ≡ Some t.now)) c.in-Some.is (c.first_with.ensures index) in (
      h.left,
      h.are_spent,
      (
        refl,
        (
          c.in-Some.tx.now,
          first,
          not_left c.spend.new.self (spend h.left c.in-Some.tx.now)
              (subst (λ t. HasRest t c.spend.new.self (spend h.left c.in-Some.tx.now)) c.if-not-branch.true (c.in_ok-spend.ensures h.left h.keeps)),
        ),
      ),
    )

pub returns : goal.returns
returns c = λ mint forms index h.
    let first : first_with c.args.handed.now c.args.form.now ≡ Some c.in-Some.tx.now
    = subst (λ o. MatchOption o (first_with c.args.handed.now c.args.form.now ≡ None)
    (λ t. first_with c.args.handed.now c.args.form.now ≡ Some t.now)) c.in-Some.is (c.first_with.ensures index) in
    spent_more mint c.args.handed.now forms c.args.form.now c.in-Some.tx.now c.args.self.now c.count.new.self h first
    (λ b k. subst (λ m. HasRest true m (spend b c.in-Some.tx.now)) (sym c.in_ok-count.ensures.book)
    (subst (λ t. HasRest t c.spend.new.self (spend b c.in-Some.tx.now)) c.if-not-branch.false (c.in_ok-spend.ensures b k)))
    c.in_ok-count.ensures.committed c.in_ok-count.ensures.issued c.in_ok-count.ensures.redeemed

pub spend-requires : goal.spend-requires
spend-requires c =
    let first : first_with c.args.handed.now c.args.form.now ≡ Some c.in-Some.tx.now
    = subst (λ o. MatchOption o (first_with c.args.handed.now c.args.form.now ≡ None)
    (λ t. first_with c.args.handed.now c.args.form.now ≡ Some t.now)) c.in-Some.is (c.first_with.ensures c.requires.index) in
    first_has_id c.args.handed.now c.args.form.now c.in-Some.tx.now first
