use Rattle.std.proofs.Common.{◌+◌, ◌-◌, length}
use Rattle.std.specs.Prelude.{All}
use Rattle.audit.specs.Rows.{read, rows_at, IsRecordPlace}
use Rattle.audit.specs.Merges.{MergedUpTo}
use Rattle.audit.proofs.merging.merge_two.Given as goal

abbrev pub invariant-places : goal.invariant-places
invariant-places l =
    MergedUpTo (rows_at (read l.journals) l.a) (rows_at (read l.journals) l.b) (rows_at (read l.journals) l.places.items) l.i l.j
    × All (IsRecordPlace (read l.journals)) l.places.items

abbrev pub decreases-places : goal.decreases-places
decreases-places l = length l.a - l.i + (length l.b - l.j)
