-- The rows that stand at places of journals. A journal has its oldest record first here.
use Rattle.std.specs.Prelude.{◌<◌, ℕ, List, [], ◌∷◌, All, length, reverse, map, slice_index_or}
use Rattle.std.specs.Borrow.{Bor}
use Rattle.cbdc_model.specs.Records.{Record, Done, stamp_of, Row}
use Rattle.audit.specs.declared.place.Place.{Place}

-- journals that are lent
abbrev pub read : List (Bor (List Record)) → List (List Record)
read journals = map (λ j. j.now) journals

-- a node's journal among those of all nodes: none past the last node
abbrev pub journal_in : List (List Record) → ℕ → List Record
journal_in all n = slice_index_or all n []

-- what is read where no record stands
abbrev pub absent_record : Record
absent_record = Done 0 (record { lane = 0; number = 0 })

-- a record stands at the place
abbrev pub IsRecordPlace : List (List Record) → Place → Type 0
IsRecordPlace all p = p.index < length (journal_in all p.node)

-- the record at a place
abbrev pub record_at : List (List Record) → Place → Record
record_at all p = slice_index_or (journal_in all p.node) p.index absent_record

-- the row at a place
abbrev pub row_at : List (List Record) → Place → Row
row_at all p = record { node = p.node; what = record_at all p }

-- the rows at places, in order
abbrev pub rows_at : List (List Record) → List Place → List Row
rows_at all places = map (row_at all) places

-- these rows the other way round, as histories of the definitions have them
abbrev pub newest_first : List (List Record) → List Place → List Row
newest_first all places = reverse (rows_at all places)

-- stamps rise along a journal
abbrev pub Rises : List Record → Type 0
Rises [] = Unit {0}
Rises (r ∷ later) = All (λ q. stamp_of r < stamp_of q) later × Rises later
