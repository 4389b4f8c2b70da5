-- Laws of bodies.
use Rattle.std.specs.Prelude.{◌≡◌, ℕ, ◌+◌, List, [], ◌++◌, length}
use Rattle.cbdc_types.specs.Limits.{IsWithinLimits}
use Rattle.cbdc_model.specs.Records.{Header, Record}
use Rattle.cbdc_model.specs.Grammar.{IsInGrammar}
use Rattle.cbdc_model.specs.Room.{size_of}
use Rattle.record_log.specs.Bodies.{body_of}

-- two records have two bodies, and none is the front of another
abbrev pub OneBodyLaw : Type 0
OneBodyLaw = (h : Header) (q r : Record) (rest : List ℕ) → IsWithinLimits h.shape → IsInGrammar h q → IsInGrammar h r → body_of q ≡ body_of r ++ rest
    → (q ≡ r) × (rest ≡ [])

-- a gate, eight bytes of length and the body are as many bytes as the record takes in its journal
abbrev pub SizeLaw : Type 0
SizeLaw = (h : Header) (r : Record) → IsWithinLimits h.shape → IsInGrammar h r → 9 + length (body_of r) ≡ size_of r
