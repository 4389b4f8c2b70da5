-- The end of a run: all that was submitted, and every lane idle.
use Rattle.std.proofs.Common.{◌≡◌, ℕ, ◌-◌, ◌*◌, ◌<◌, true, nat_lt, if◌then◌else◌, ap, ◌∙◌, arith, div-lt_iff_lt-mul}
use Rattle.cbdc_model.specs.Records.{Shape}
use Rattle.cbdc_model.specs.Ranges.{home_of}
use Rattle.cbdc_model.specs.Slots.{slot, Idle}
use Rattle.ledger_laws.proofs.HistoryLaws.{more_law}
use Rattle.ledger_laws.proofs.Recovery.{idle_law}
use Rattle.run_laws.specs.Runs.{seen_by, GrowLaw, EndLaw}

pub grow_law : GrowLaw
grow_law K mint submissions more J contains kept = record {
  later = kept.later;
  history = kept.history;
  kept = more_law K mint submissions more kept.later contains kept.kept;
}

-- the coordinator of a lane of the ledger is one of its coordinators
home_below : (K : Shape) (lane : ℕ) → 0 < K.lanes → lane < K.coordinators * K.lanes → home_of K lane < K.coordinators
home_below K lane some lt = (div-lt_iff_lt-mul {k = K.lanes} {x = lane} {y = K.coordinators} some).1 lt

pub end_law : EndLaw
end_law K mint submissions logs shards some lanes clean kept idle =
    idle_law K mint submissions (seen_by K logs shards) some lanes clean kept (λ lane lt. at_home lane lt (home_below K lane lanes lt))
  where
    low : (n : ℕ) → n < K.coordinators → nat_lt n K.coordinators ≡ true
    low n lt = grind (arith, lt)

    at_home : (lane : ℕ) → lane < K.coordinators * K.lanes → home_of K lane < K.coordinators
        → (slot (seen_by K logs shards (home_of K lane)) lane).phase ≡ Idle
    at_home lane lt below =
        ap (λ t. (slot (if t then (logs (home_of K lane)).seen else (shards (home_of K lane - K.coordinators)).seen) lane).phase)
        (low (home_of K lane) below) ∙ idle lane lt
