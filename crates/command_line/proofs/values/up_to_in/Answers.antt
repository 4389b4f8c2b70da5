use Rattle.std.proofs.Common.{arith, ◌≡◌, ◌<◌, ◌^◌, sym, ◌∙◌}
use Rattle.std.proofs.lemmas.Fmt.{decimal_injective}
use Rattle.command_line.proofs.values.up_to_in.Goals as goal

pub returns-in_default : goal.returns-in_default
returns-in_default c = λ n is.
    let wide : n < 2 ^ 64 = let b = is.bound in omega (arith, b) in
    c.in_default.ensures n (record { spelled = is.spelled; bound = wide })

pub returns-then-n-most : goal.returns-then-n-most
returns-then-n-most c = λ n is.
    let wide : n < 2 ^ 64 = let b = is.bound in omega (arith, b) in
    let same : c.in-Some.n ≡ n = decimal_injective c.in-Some.n n c.in-Some.ensures.bound wide (sym c.in-Some.ensures.spelled ∙ is.spelled) in
    let b = is.bound in
    omega (arith, same, b)
