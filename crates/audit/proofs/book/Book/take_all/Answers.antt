use Rattle.std.proofs.Common.{Some, true, subst}
use Rattle.std.proofs.lemmas.List.{take_all as whole}
use Rattle.cbdc_model.specs.Book.{take_out, take_all}
use Rattle.audit.specs.Keeping.{HasRest}
use Rattle.audit.proofs.Books.{left_more, left_not}
use Rattle.audit.proofs.book.Book.take_all.Goals as goal

pub coins-preserved : goal.coins-preserved
coins-preserved c = λ b h.
    left_more c.args.coins.now c.coins.at c.index-coins-at.result c.coins.self c.take_out.new.self b c.coins-test.true c.index-coins-at.is
    (c.coins.invariant b h)
    (λ d k. subst (λ t. HasRest t c.take_out.new.self (take_out d c.index-coins-at.result)) c.if-not-take_out.false (c.take_out.ensures d k))

pub returns-then-not-take_out : goal.returns-then-not-take_out
returns-then-not-take_out c = λ b h.
    left_not c.args.coins.now c.coins.at c.index-coins-at.result c.coins.self c.take_out.new.self b c.coins-test.true c.index-coins-at.is
    (c.coins.invariant b h)
    (λ d k. subst (λ t. HasRest t c.take_out.new.self (take_out d c.index-coins-at.result)) c.if-not-take_out.true (c.take_out.ensures d k))

pub returns : goal.returns
returns c = λ b h. subst (λ cs. HasRest true c.coins.self (take_all (Some b) cs)) (whole c.coins.at c.args.coins.now c.coins-test.false)
    (c.coins.invariant b h)
