use Rattle.std.proofs.Common.{◌≡◌, ◌∷◌, [], ◌++◌, ◌+◌, take, ap, ◌∙◌, sym, add-one}
use Rattle.std.proofs.Math.Seq.{take-suc}
use Rattle.std.proofs.lemmas.Slice.Zip.{all_zipped_more}
use Rattle.submissions.specs.Checks.{IsRuled}
use Rattle.submissions.proofs.rule_each.Goals as goal

pub transactions-preserved : goal.transactions-preserved
transactions-preserved g c =
    let R = IsRuled (g.V.Verifier.verdict_of c.args.verifier.now) in
    let txs = c.args.txs.now in
    let i = c.transactions.tx-index in
    let t = c.tx-item.result in
    let front : take (i + 1) txs ≡ take i txs ++ t ∷ [] =
    ap (λ n. take n txs) (add-one i) ∙ take-suc txs i t c.transactions-test.true ∙ ap (λ x. take i txs ++ x ∷ []) (sym c.tx-item.is) in
    rw (front, c.in_ok-push.ensures.items) (all_zipped_more R (take i txs) _ t c.in_ok-rule.field-0 c.transactions.invariant
    c.in_ok-rule.ensures.ruled)
