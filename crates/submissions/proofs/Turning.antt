-- The place behind one in a row that goes round.
use Rattle.std.proofs.Common.{◌≡◌, ℕ, suc, ◌+◌, ◌%◌, ◌<◌, ◌≤◌, ap, sym, ◌∙◌, arith, add-one}
use Rattle.std.proofs.Math.Nat.{suc-mod, mod_self, mod-eq_of_lt}

pub turn_on : (lane count place : ℕ) → lane ≡ place % count → suc lane < count → lane + 1 ≡ (place + 1) % count
turn_on lane count place is below =
    let e : suc place % count ≡ suc lane = suc-mod place count ∙ ap (λ l. suc l % count) (sym is) ∙ mod-eq_of_lt below in
    add-one lane ∙ sym e ∙ ap (λ l. l % count) (sym (add-one place))

pub turn_back : (lane count place : ℕ) → lane ≡ place % count → lane < count → count ≤ suc lane → 0 ≡ (place + 1) % count
turn_back lane count place is below past =
    let top : suc lane ≡ count = omega arith in
    let e : suc place % count ≡ 0 = suc-mod place count ∙ ap (λ l. suc l % count) (sym is) ∙ ap (λ l. l % count) top ∙ mod_self count in
    sym e ∙ ap (λ l. l % count) (sym (add-one place))
