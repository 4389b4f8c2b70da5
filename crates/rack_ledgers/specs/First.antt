-- What is left on a disk on which a first record is written.
use Rattle.std.specs.Prelude.{◌≡◌, ◌⊎◌, ◌+◌, ◌<◌, ◌≤◌, ℕ, List, [], ◌∷◌, length}
use Rattle.cbdc_types.specs.declared.answer.Answer.{Answer}
use Rattle.cbdc_types.specs.declared.answer.Answer.TheVariants as answers
use Rattle.cbdc_model.specs.Records.{Record}
use Rattle.record_log.specs.Bodies.{body_of}
use Rattle.record_log.specs.Held.{OpensTo}
use Rattle.gate_journal.specs.Rows.{Opens}
use Rattle.outside.specs.Counts.{Rose}
use Rattle.gate_journal.specs.Formatting.{IsEmptied}

-- no first record, or what a crash might have left before, or this record alone
abbrev pub IsBegun : (List ℕ → Type 0) → Record → List ℕ → Type 0
IsBegun before first bytes = IsEmptied before bytes ⊎ OpensTo (first ∷ []) bytes

-- no first record, or what a crash might have left before, or a journal of this body alone
abbrev pub IsFirstStored : (List ℕ → Type 0) → List ℕ → List ℕ → Type 0
IsFirstStored before body bytes = IsEmptied before bytes ⊎ Opens (body ∷ []) bytes

-- a body that has room is not stored: the disk failed, or memory ran out
abbrev pub IsUnstored : ℕ → ℕ → ℕ → Answer → Type 0
IsUnstored node before now (answers.DiskFault n) = (n ≡ node) × Rose before now
IsUnstored node before now answers.Memory = Unit {0}
IsUnstored node before now other = ⊥

-- a first record's bytes: a gate, eight bytes of length, the body, and a closing gate
abbrev pub first_need : Record → ℕ
first_need first = 10 + length (body_of first)

-- why a first record is not written on a disk with so much room
abbrev pub IsUnwritten : ℕ → ℕ → Record → Answer → Type 0
IsUnwritten node limit first (answers.Full n used need capacity) =
    (n ≡ node) × (used ≡ 0) × (need ≡ first_need first) × (capacity ≡ limit) × (capacity < need)
IsUnwritten node limit first (answers.DiskFault n) = (n ≡ node) × (first_need first ≤ limit)
IsUnwritten node limit first answers.Memory = Unit {0}
IsUnwritten node limit first other = ⊥
