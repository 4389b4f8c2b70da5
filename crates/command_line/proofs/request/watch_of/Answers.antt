use Rattle.std.proofs.Common.{◌≡◌, ◌∙◌, Some, ap, sym, codes}
use Rattle.std.proofs.lemmas.Slice.Eq.{bytes_eq-Decides}
use Rattle.clap.specs.Words.{found_of}
use Rattle.clap.proofs.WalkLemmas.{first_value-rows}
use Rattle.command_line.proofs.request.watch_of.Goals as goal

pub returns-then-eq : goal.returns-then-eq
returns-then-eq c =
    let is : c.in-Some.text.now ≡ codes "true" = (bytes_eq-Decides c.in-Some.text.now (codes "true")).0 (sym c.eq.ensures ∙ c.if-eq.true) in
    sym (first_value-rows (found_of c.args.inner.now) (codes "watch")) ∙ sym c.in-Some.ensures ∙ ap (λ t. Some t) is

pub returns-then-eq-2 : goal.returns-then-eq-2
returns-then-eq-2 c =
    let is : c.in-Some.text.now ≡ codes "false" = (bytes_eq-Decides c.in-Some.text.now (codes "false")).0 (sym c.eq-2.ensures ∙ c.if-eq-2.true) in
    sym (first_value-rows (found_of c.args.inner.now) (codes "watch")) ∙ sym c.in-Some.ensures ∙ ap (λ t. Some t) is
