-- The events that write a history.
use Rattle.std.proofs.Common.{List, [], ◌∷◌, ◌++◌}
use Rattle.cbdc_model.specs.Records.{Compact}
use Rattle.cbdc_model.specs.Clean.{IsProperCompact}
use Rattle.cbdc_model.specs.World.{Event, Begin, End, EventsPass}
use Rattle.ledger_laws.specs.Reach.{events_of}
use Rattle.run_laws.specs.Laws.{PassLaw}

pass-append : (P : Compact → Type 0) (es fs : List Event) → EventsPass P es → EventsPass P fs → EventsPass P (es ++ fs)
pass-append P [] fs h g = g
pass-append P (e ∷ es) fs h g = (h.0, pass-append P es fs h.1 g)

pub pass_law : PassLaw
pass_law K mint subs [] kept = tt
pass_law K mint subs (row ∷ later) kept =
    pass-append (IsProperCompact subs) (events_of later) (Begin row.node row.what ∷ End row.node ∷ []) (pass_law K mint subs later kept.3)
    (kept.2, (tt, tt))
