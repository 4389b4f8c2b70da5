use Rattle.std.proofs.Common.{◌≡◌, ◌↔◌, true, sym, subst}
use Rattle.cbdc_model.specs.Records.{Digest}
use Rattle.cbdc_model.specs.Status.{has}
use Rattle.cbdc_model.specs.World.{IsUnspent}
use Rattle.plain_check.specs.Journals.{journals_in}
use Rattle.plain_check.proofs.Different.{different_counted}
use Rattle.plain_check.proofs.line_unspent.unspent_count.Goals as goal

pub returns : goal.returns
returns c =
    let K = c.args.shape.now in
    let J = journals_in c.args.journals.now in
    different_counted K J c.as_slice.result.now c.count_different.result
    (subst (λ l. (x : Digest) → (has l x ≡ true) ↔ IsUnspent K J x) (sym c.as_slice.ensures) c.in_ok-hashes.ensures.all)
    c.count_different.ensures.count
