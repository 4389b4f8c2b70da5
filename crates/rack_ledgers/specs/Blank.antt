-- Whether a disk may become a node.
use Rattle.std.specs.Prelude.{◌≡◌, ◌↔◌, ◌≤◌, ℕ, zero, suc, List, [], ◌∷◌, ◌++◌}
use Rattle.cbdc_types.specs.declared.answer.Answer.{Answer}
use Rattle.cbdc_types.specs.declared.answer.Answer.TheVariants as answers
use Rattle.cbdc_model.specs.Records.{Header, Record}
use Rattle.cbdc_model.specs.Grammar.{IsInGrammar}
use Rattle.record_log.specs.Bodies.{body_of}
use Rattle.record_log.specs.Exact.{IsFirstRecord}
use Rattle.gate_journal.specs.Rows.{row}
use Rattle.record_log.specs.Held.{HasRow, MayHold}

-- a whole first record
abbrev pub HasFirst : List ℕ → Type 0
HasFirst bytes = HasRow IsFirstRecord bytes

-- a whole first record, and behind it a second one that its header allows
pub record HasSecond (bytes : List ℕ) : Type 0 where
  pub header : Header
  pub first : Record
  pub rest : List ℕ
  pub is : MayHold header (first ∷ [])
  pub parts : bytes ≡ row (body_of first) ++ rest
  pub second : HasRow (IsInGrammar header) rest

-- node 0 is in use from its first record on, another node from its second one on
abbrev pub IsInUse : ℕ → List ℕ → Type 0
IsInUse zero bytes = HasFirst bytes
IsInUse (suc n) bytes = HasSecond bytes

-- a disk with these bytes is not in use as this node
abbrev pub IsUnused : ℕ → List ℕ → Type 0
IsUnused node bytes = IsInUse node bytes → ⊥

-- so many records are whole, as far as two
pub record AreWholeRecords (count : ℕ) (bytes : List ℕ) : Type 0 where
  pub first : HasFirst bytes ↔ (1 ≤ count)
  pub second : HasSecond bytes ↔ (2 ≤ count)

-- why a disk with these bytes may not become this node
abbrev pub IsNoBlank : ℕ → List ℕ → Answer → Type 0
IsNoBlank node bytes (answers.NotEmpty n) = (n ≡ node) × IsInUse node bytes
IsNoBlank node bytes (answers.DiskFault n) = n ≡ node
IsNoBlank node bytes answers.Memory = Unit {0}
IsNoBlank node bytes other = ⊥

-- the answers that there may be where a disk may not become a node
abbrev pub IsBlankRefusal : Answer → Type 0
IsBlankRefusal (answers.NotEmpty n) = Unit {0}
IsBlankRefusal (answers.DiskFault n) = Unit {0}
IsBlankRefusal answers.Memory = Unit {0}
IsBlankRefusal other = ⊥
