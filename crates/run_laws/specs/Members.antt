-- The compact forms of what is submitted.
use Rattle.std.specs.Prelude.{◌≤◌, List, length, Contains}
use Rattle.cbdc_model.specs.Coins.{FullTx, compact}
use Rattle.cbdc_model.specs.Clean.{IsProperCompact}
use Rattle.cbdc_model.specs.Grammar.{IsCompact}
use Rattle.sentinel.specs.FirstRefusal.{Verdicts, IsSoundTx}

-- the compact form of a transaction with at most 255 inputs and 255 outputs is within the limits
abbrev pub CompactLaw : Type 0
CompactLaw = (t : FullTx) → length t.inputs ≤ 255 → length t.outputs ≤ 255 → IsCompact (compact t)

-- that of a sound submission is that of a proper one
abbrev pub MemberLaw : Type 0
MemberLaw = (submissions : List FullTx) (t : FullTx) (verdicts : Verdicts) → Contains submissions t → IsSoundTx t verdicts
    → IsProperCompact submissions (compact t)
