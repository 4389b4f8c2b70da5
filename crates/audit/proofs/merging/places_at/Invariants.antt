use Rattle.std.proofs.Common.{◌≡◌, take}
use Rattle.std.specs.Prelude.{All}
use Rattle.audit.specs.Rows.{read, rows_at, journal_in, IsRecordPlace}
use Rattle.audit.specs.Merges.{rows_of_node}
use Rattle.audit.proofs.merging.places_at.Given as goal

abbrev pub invariant-records : goal.invariant-records
invariant-records l =
    (rows_at (read l.journals) l.places.items ≡ rows_of_node l.node (take l.index (journal_in (read l.journals) l.node)))
    × All (IsRecordPlace (read l.journals)) l.places.items
