use Rattle.std.proofs.Common.{◌≡◌, take}
use Rattle.std.specs.Prelude.{All}
use Rattle.audit.specs.Rows.{read, rows_at, IsRecordPlace}
use Rattle.cut_audit.specs.Cuts.{rows_up_to}
use Rattle.cut_audit.proofs.cutting.places_up_to.Given as goal

abbrev pub invariant-places : goal.invariant-places
invariant-places l = (rows_at (read l.lists) l.places.items ≡ rows_up_to l.stamp (rows_at (read l.lists) (take l.at l.history)))
    × All (IsRecordPlace (read l.lists)) l.places.items
