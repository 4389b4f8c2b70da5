use Rattle.std.proofs.Common.{arith, ◌≡◌, ◌<◌, ◌^◌, sym, ◌∙◌, ap, decimal}
use Rattle.std.proofs.lemmas.Bool.Decides.{Decides-eqb}
use Rattle.std.proofs.lemmas.Slice.Eq.{slice_eq-Decides}
use Rattle.std.proofs.lemmas.Fmt.{parse-decimal}
use Rattle.command_line.proofs.values.number_in.Goals as goal

pub returns-in_default : goal.returns-in_default
returns-in_default c = λ n is.
    let small : n < 2 ^ 32 = omega arith in
    let wide : n < 2 ^ 64 = omega arith in
    let read = parse-decimal 32 n c.args.text.now c.parse.result small wide is.spelled c.parse.ensures.value.0 in
    cc

pub returns-then-n-eq0 : goal.returns-then-n-eq0
returns-then-n-eq0 c = λ n is.
    let small : n < 2 ^ 32 = omega arith in
    let wide : n < 2 ^ 64 = omega arith in
    let read = parse-decimal 32 n c.args.text.now c.parse.result small wide is.spelled c.parse.ensures.value.0 in
    let same : c.in-Ok.n ≡ n = cc in
    omega arith

pub returns-then-n-most : goal.returns-then-n-most
returns-then-n-most c = λ n is.
    let small : n < 2 ^ 32 = omega arith in
    let wide : n < 2 ^ 64 = omega arith in
    let read = parse-decimal 32 n c.args.text.now c.parse.result small wide is.spelled c.parse.ensures.value.0 in
    let same : c.in-Ok.n ≡ n = cc in
    omega arith

pub returns : goal.returns
returns c = λ n is.
    let small : n < 2 ^ 32 = omega arith in
    let wide : n < 2 ^ 64 = omega arith in
    let read = parse-decimal 32 n c.args.text.now c.parse.result small wide is.spelled c.parse.ensures.value.0 in
    let same : c.in-Ok.n ≡ n = cc in
    let equal = (slice_eq-Decides Decides-eqb _ _ _ c.eq.ensures).1 (c.format.ensures.text ∙ ap decimal same ∙ sym is.spelled) in
    cc
