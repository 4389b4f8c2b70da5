-- Each record of a journal is after those below it.
use Rattle.std.proofs.Common.{◌≡◌, inl, inr, List, [], ◌∷◌, ◌++◌, sym, ◌∙◌, subst}
use Rattle.cbdc_model.specs.Records.{Header, Record}
use Rattle.cbdc_model.specs.After.{After, IsJournal}
use Rattle.cbdc_model.specs.History.{header_of}
use Rattle.run_laws.specs.Runs.{NodesLaw}

-- a journal without its newest record
below : (h : Header) (q r : Record) (newer rest : List Record) → IsJournal h (q ∷ (newer ++ r ∷ rest)) → IsJournal h (newer ++ r ∷ rest)
below h q r [] rest j = j.1
below h q r (p ∷ newer) rest j = j.1

pub after_in : (h : Header) (newer rest : List Record) (r : Record) → IsJournal h (newer ++ r ∷ rest) → After h rest r
after_in h [] [] r j = j.1
after_in h [] (q ∷ rest) r j = j.0
after_in h (q ∷ newer) rest r j = after_in h newer rest r (below h q r newer rest j)

nothing : (newer rest : List Record) (r : Record) → [] ≡ newer ++ r ∷ rest → ⊥
nothing [] rest r e = cc
nothing (q ∷ newer) rest r e = absurd (let z : [] ≡ q ∷ (newer ++ r ∷ rest) = e in cc)

pub nodes_law : NodesLaw
nodes_law K m E X are n newer rest r e h = elim (are n) [
  | inl none ↦ absurd (nothing newer rest r (sym none ∙ e))
  | inr j ↦ after_in (header_of K m.id n) newer rest r (subst (IsJournal (header_of K m.id n)) e j)
]
