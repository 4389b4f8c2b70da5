use Rattle.std.proofs.Common.{◌≡◌, sym, ◌∙◌, ap, decimal}
use Rattle.std.proofs.lemmas.Bool.Decides.{Decides-eqb}
use Rattle.std.proofs.lemmas.Slice.Eq.{slice_eq-Decides}
use Rattle.std.proofs.lemmas.Fmt.{parse-decimal}
use Rattle.command_line.proofs.values.whole_in.Goals as goal

pub returns-in_default : goal.returns-in_default
returns-in_default c = λ n is.
    let read = parse-decimal 64 n c.args.text.now c.parse.result is.bound is.bound is.spelled c.parse.ensures.value.0 in
    cc

pub returns : goal.returns
returns c = λ n is.
    let read = parse-decimal 64 n c.args.text.now c.parse.result is.bound is.bound is.spelled c.parse.ensures.value.0 in
    let same : c.in-Ok.n ≡ n = cc in
    let equal = (slice_eq-Decides Decides-eqb _ _ _ c.eq.ensures).1 (c.format.ensures.text ∙ ap decimal same ∙ sym is.spelled) in
    cc
