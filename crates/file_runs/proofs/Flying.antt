-- What is in flight may come next at its node, file after file.
use Rattle.std.proofs.Common.{ℕ, List, ◌++◌, Option}
use Rattle.std.proofs.lemmas.List.Elements.{Contains-append_left, All-weaker}
use Rattle.cbdc_model.specs.Records.{Shape, Compact, Record, Prepare}
use Rattle.cbdc_model.specs.Coins.{Output, FullTx}
use Rattle.cbdc_model.specs.Clean.{IsProperCompact}
use Rattle.cbdc_model.specs.History.{TxsPass}
use Rattle.run_laws.specs.Flights.{MayCome}
use Rattle.submissions.specs.Checks.{VerdictsOf}
use Rattle.ledger_runs.specs.Turning.{OfKept}
use Rattle.ledger_runs.specs.Waving.{HaveSent}
use Rattle.ledger_runs.specs.Flying.{AllMayCome, FliesSent}
use Rattle.ledger_runs.specs.Lanes.{LaneOf}
use Rattle.file_runs.specs.Runs.{AreLanesOf, FliesWith}
use Rattle.file_runs.proofs.Filing.{kept_more, each_proper, gets, have_gets, gets_all}

passes_more : (submissions more : List FullTx) (r : Record) → TxsPass (IsProperCompact submissions) r
    → TxsPass (IsProperCompact (submissions ++ more)) r
passes_more submissions more (Prepare stamp b txs) h =
    All-weaker (IsProperCompact submissions) (IsProperCompact (submissions ++ more))
    (λ k p. (p.0, Contains-append_left submissions more p.0 p.1, p.2, p.3)) txs h
passes_more submissions more other h = tt

-- with more submissions
pub may_more : (K : Shape) (mint : List Output) (submissions more : List FullTx) (J : ℕ → List Record) (F : ℕ → Option Record)
    → AllMayCome K mint submissions J F → AllMayCome K mint (submissions ++ more) J F
may_more K mint submissions more J F may n r is =
    let m : MayCome K mint submissions J n r = may n r is in
    record { after = m.after; seen = m.seen; passes = passes_more submissions more r m.passes }

-- nothing was done
pub flies_none : (K : Shape) (more : List FullTx) (I : ℕ → List Record) (F : ℕ → Option Record) → OfKept K I (FliesWith K more I I F F)
flies_none K more I F mint submissions kept may = may_more K mint submissions more I F may

-- the wave of a file
pub flies_file : (K : Shape) (verdicts : VerdictsOf) (file : List FullTx) (lanes : List LaneOf) (I J : ℕ → List Record) (F G : ℕ → Option Record)
    → AreLanesOf K verdicts file lanes → ((sent : ℕ → List Compact) → HaveSent sent lanes → OfKept K I (FliesSent K sent I J F G))
    → OfKept K I (FliesWith K file I J F G)
flies_file K verdicts file lanes I J F G are flies mint submissions kept may =
    flies (gets lanes) (have_gets lanes) mint (submissions ++ file) (kept_more K mint submissions file I kept)
    (λ lane low. gets_all (IsProperCompact (submissions ++ file)) lanes (each_proper K verdicts file submissions lanes are) lane)
    (may_more K mint submissions file I F may)
