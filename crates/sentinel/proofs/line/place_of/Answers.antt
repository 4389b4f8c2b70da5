use Rattle.std.proofs.Common.{arith, ◌≡◌, ◌<◌, ◌^◌, sym, ◌∙◌, ap, subst, decimal}
use Rattle.std.specs.Str.{IsUtf8}
use Rattle.std.proofs.lemmas.Bool.Decides.{Decides-eqb}
use Rattle.std.proofs.lemmas.Slice.Eq.{slice_eq-Decides}
use Rattle.std.proofs.lemmas.Fmt.{IsAscii-decimal, parse-decimal}
use Rattle.std.proofs.lemmas.Str.{IsUtf8-from_ascii}
use Rattle.sentinel.proofs.line.place_of.Goals as goal

pub returns-in_default : goal.returns-in_default
returns-in_default c = λ n small is.
    let wide : n < 2 ^ 64 = omega arith in
    c.in_default.ensures.cases.0 (subst IsUtf8 (sym is) (IsUtf8-from_ascii (decimal n) (IsAscii-decimal n wide)))

pub returns-in_default-parse : goal.returns-in_default-parse
returns-in_default-parse c = λ n small is.
    let wide : n < 2 ^ 64 = omega arith in
    let read = parse-decimal 64 n c.in-Ok.text.now c.parse.result wide wide (c.in-Ok.ensures.cases.0 ∙ is) c.parse.ensures.value.0 in
    cc

pub returns-then-place-gt254 : goal.returns-then-place-gt254
returns-then-place-gt254 c = λ n small is.
    let wide : n < 2 ^ 64 = omega arith in
    let read = parse-decimal 64 n c.in-Ok.text.now c.parse.result wide wide (c.in-Ok.ensures.cases.0 ∙ is) c.parse.ensures.value.0 in
    let same : c.in-Ok-parse.place ≡ n = cc in
    omega arith

pub returns : goal.returns
returns c = λ n small is.
    let wide : n < 2 ^ 64 = omega arith in
    let read = parse-decimal 64 n c.in-Ok.text.now c.parse.result wide wide (c.in-Ok.ensures.cases.0 ∙ is) c.parse.ensures.value.0 in
    let same : c.in-Ok-parse.place ≡ n = cc in
    let spelled : c.as_bytes.result.now ≡ decimal c.in-Ok-parse.place = c.as_bytes.ensures.value ∙ c.format.ensures.text in
    let equal = (slice_eq-Decides Decides-eqb _ _ _ c.eq.ensures).1 (is ∙ ap decimal (sym same) ∙ sym spelled) in
    cc
