use Rattle.std.proofs.Common.{◌∷◌, ◌++◌, sym, ◌∙◌, ap, decimal, ℕ, List}
use Rattle.hex.specs.Hex.{encode_lower}
use Rattle.sentinel.specs.Lines.{word}
use Rattle.sentinel.proofs.LineLemmas.{same_front}
use Rattle.sentinel.proofs.line.read_line.Goals as goal

pub returns-in-Some-key_of : goal.returns-in-Some-key_of
returns-in-Some-key_of c = (
  c.in-Some-key_of.ensures.form c.in-Some.good,
  c.in-Some.ensures ∙ ap (λ (front : List ℕ). front ++ 32 ∷ word c.in-Some.good) c.in-Some-key_of.ensures.key,
)

pub returns-in-None : goal.returns-in-None
returns-in-None c = λ l ok is.
    c.in-None.ensures.key l ok (same_front c.in-Some.front.now (encode_lower l.tx ++ 32 ∷ decimal l.index) c.in-Some.good l.good
    (sym c.in-Some.ensures ∙ is))
