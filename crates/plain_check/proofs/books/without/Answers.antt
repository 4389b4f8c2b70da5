use Rattle.std.proofs.Common.{◌≡◌, ◌∙◌, ap, not, filter, nat_cmp, arith}
use Rattle.std.proofs.lemmas.Grind.{common_steps}
use Rattle.std.specs.Ordering.{eq_by_cmp}
use Rattle.std.specs.Cmp.Lexicographic.{slice_cmp}
use Rattle.cbdc_model.specs.Book.{key}
use Rattle.plain_check.specs.Coins.{book_of}
use Rattle.plain_check.proofs.Keys.{book_without}
use Rattle.plain_check.proofs.books.without.Goals as goal

pub returns-clause-others : goal.returns-clause-others
returns-clause-others c =
    let e : c.from_vec.result ≡ filter (λ x. not (eq_by_cmp (slice_cmp nat_cmp) (key c.args.p.now) (key x.point))) c.args.coins.now =
    grind (arith, common_steps) in
    ap book_of e ∙ book_without (key c.args.p.now) c.args.coins.now
