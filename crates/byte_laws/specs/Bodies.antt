-- Laws of bodies, whatever headers they stand under.
use Rattle.std.specs.Prelude.{◌≡◌, List, ℕ, [], ◌++◌}
use Rattle.cbdc_types.specs.Limits.{IsWithinLimits}
use Rattle.cbdc_model.specs.Records.{Header, Record}
use Rattle.cbdc_model.specs.Grammar.{IsInGrammar}
use Rattle.record_log.specs.Bodies.{body_of}

-- two records have two bodies, and none is the front of another
abbrev pub EachBodyLaw : Type 0
EachBodyLaw = (h k : Header) (q r : Record) (rest : List ℕ) → IsWithinLimits h.shape → IsWithinLimits k.shape → IsInGrammar h q → IsInGrammar k r
    → body_of q ≡ body_of r ++ rest → (q ≡ r) × (rest ≡ [])
