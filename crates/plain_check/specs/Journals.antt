-- The journals of a list of them, by node: none past its end.
use Rattle.std.specs.Prelude.{ℕ, zero, suc, List, [], ◌∷◌, slice_index_or}
use Rattle.cbdc_model.specs.Records.{Record, Row, journal}

-- the journals of a list of them, by node
abbrev pub journals_in : List (List Record) → ℕ → List Record
journals_in all n = slice_index_or all n []

-- the journals of n nodes of a history, of which k is the first
abbrev pub journals_from : List Row → ℕ → ℕ → List (List Record)
journals_from past k zero = []
journals_from past k (suc n) = journal k past ∷ journals_from past (suc k) n
