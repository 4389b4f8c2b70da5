use Rattle.std.proofs.Common.{◌≡◌, ◌∙◌, ◌+◌, ◌++◌, [], ◌∷◌, ap, sym, subst, take, length, arith}
use Rattle.std.proofs.lemmas.List.{take_more, take_all, length-take-le}
use Rattle.std.specs.FinMap as book
use Rattle.cbdc_model.specs.Book.{put_all, key}
use Rattle.cbdc_model.specs.Coins.{made_coins}
use Rattle.audit.specs.Keeping.{HasBook}
use Rattle.audit.proofs.Books.{outpoint, put_more}
use Rattle.audit.proofs.book.Book.put_all.Goals as goal

pub outputs-preserved : goal.outputs-preserved
outputs-preserved c = λ b h.
    let place : length (take c.outputs.index c.args.outputs.now) ≡ c.outputs.index = length-take-le c.outputs.index c.args.outputs.now (omega arith)
    in
    let at : c.outputs.index ≡ 0 + length (take c.outputs.index c.args.outputs.now) = omega arith in
    subst (HasBook c.put.new.self)
    (ap (λ i. book.insert (put_all b (made_coins c.args.id.now 0 (take c.outputs.index c.args.outputs.now))) (key (outpoint c.args.id.now i))
    c.index-outputs-index.result) at
    ∙ sym (put_more b c.args.id.now 0 (take c.outputs.index c.args.outputs.now) c.index-outputs-index.result)
    ∙ ap (λ os. put_all b (made_coins c.args.id.now 0 os))
    (sym (take_more c.args.outputs.now c.outputs.index c.index-outputs-index.result c.outputs-test.true
    ∙ ap (λ o. take c.outputs.index c.args.outputs.now ++ o ∷ []) (sym c.index-outputs-index.is))))
    (c.in_ok-put.ensures (put_all b (made_coins c.args.id.now 0 (take c.outputs.index c.args.outputs.now))) (c.outputs.invariant b h))

pub returns : goal.returns
returns c = λ b h.
    subst (λ os. HasBook c.outputs.self (put_all b (made_coins c.args.id.now 0 os)))
    (take_all c.outputs.index c.args.outputs.now c.outputs-test.false) (c.outputs.invariant b h)
