-- Nodes whose disks are out of the rack, by their places.
use Rattle.std.specs.Prelude.{◌≡◌, ◌≤◌, ◌<◌, ◌⊎◌, ℕ, suc, List, [], ◌∷◌}
use Rattle.outside.specs.Counts.{Rose}
use Rattle.cbdc_types.specs.declared.answer.Answer.{Answer}
use Rattle.cbdc_types.specs.declared.answer.Answer.TheVariants as answers

-- each node and its place have the property, the places counted from a first one on
abbrev pub EachFrom : {N : Type 0} → (ℕ → N → Type 0) → ℕ → List N → Type 0
EachFrom P i [] = Unit {0}
EachFrom P i (n ∷ nodes) = P i n × EachFrom P (suc i) nodes

-- a node's disk may be put back in its place, as long as its count of faults has not fallen
abbrev pub MayReturn : {N : Type 0} → (N → ℕ) → (ℕ → ℕ → Type 0) → ℕ → N → Type 0
MayReturn faults can_put place node = (k : ℕ) → faults node ≤ k → can_put place k

-- outside a range of places
abbrev pub IsOutsideRange : ℕ → ℕ → ℕ → Type 0
IsOutsideRange first end n = (n < first) ⊎ (end ≤ n)

-- what may be answered where a node can't be opened: it names that node, and a disk's fault has its cause
abbrev pub IsOpening : ℕ → ℕ → ℕ → Answer → Type 0
IsOpening node before now (answers.NotReady n) = n ≡ node
IsOpening node before now (answers.NotEmpty n) = n ≡ node
IsOpening node before now (answers.Damaged n at) = n ≡ node
IsOpening node before now (answers.Full n used need capacity) = n ≡ node
IsOpening node before now (answers.Foreign n kept asked) = n ≡ node
IsOpening node before now (answers.DiskFault n) = (n ≡ node) × Rose before now
IsOpening node before now answers.Memory = Unit {0}
IsOpening node before now other = ⊥

-- what may be answered where a node of a range can't be opened
abbrev pub IsOpeningIn : ℕ → ℕ → (ℕ → ℕ) → (ℕ → ℕ) → Answer → Type 0
IsOpeningIn first end before now answer = (n : ℕ) × (first ≤ n) × (n < end) × IsOpening n (before n) (now n) answer
