use Rattle.std.proofs.Common.{Result, List, ℕ, sym, ◌∙◌, subst}
use Rattle.std.specs.Prelude.{IsOk}
use Rattle.std.proofs.lemmas.Bool.{true≢false}
use Rattle.hex.specs.declared.error.FromHexError.{FromHexError}
use Rattle.hex.proofs.HexLemmas.{IsOk-decode_sized}
use Rattle.command_line.proofs.values.hash_in.Goals as goal

pub returns-in-Err : goal.returns-in-Err
returns-in-Err c = λ is.
    let ok = (IsOk-decode_sized c.args.text.now 32).1 (is.size, is.digits) in
    let bad = subst (λ (r : Result (List ℕ) FromHexError). IsOk r) (sym c.from_hex.ensures ∙ c.in-Err.is) ok in
    true≢false (sym bad)
