use Rattle.std.proofs.Common.{◌∙◌, ◌++◌, ◌∷◌, [], ℕ, List, ap, sym, true, arith}
use Rattle.std.proofs.lemmas.Fmt.{decimal_digit}
use Rattle.hex.specs.Hex.{encode_lower}
use Rattle.sentinel.specs.Lines.{word}
use Rattle.workload.proofs.Joined.{joined}
use Rattle.workload.proofs.verdicts.push_first.Goals as goal

pub returns : goal.returns
returns c =
    c.in_ok-extend_from_slice.ensures.items
    ∙ ap (λ (x : List ℕ). x ++ (((32 ∷ 48 ∷ []) ++ 32 ∷ word true) ++ 10 ∷ [])) c.in_ok-push_id.ensures
    ∙ joined c.args.text.now.items (encode_lower c.args.id.now) (32 ∷ 48 ∷ []) (32 ∷ word true) (10 ∷ [])
    ∙ ap (λ (x : List ℕ). c.args.text.now.items ++ (((encode_lower c.args.id.now ++ 32 ∷ x) ++ 32 ∷ word true) ++ 10 ∷ []))
    (sym (decimal_digit 0 (omega arith)))
