-- A command's own test of the ledger at entry, and what its refusal leaves of the rack.
use Rattle.std.specs.Prelude.{◌⊎◌, ℕ, List, Option}
use Rattle.outside.specs.declared.disk.Disk.{Ghosts}
use Rattle.cbdc_types.specs.declared.answer.Answer.{Answer}
use Rattle.cbdc_model.specs.Records.{Shape, Record}
use Rattle.rack_ledgers.specs.Racked.{Disks, AreUnchanged}
use Rattle.rack_ledgers.specs.Caused.{IsCausedLedger}
use Rattle.rack_runs.specs.Runs.{entry_journals}
use Rattle.rack_runs.specs.Stops.{WhyNoTurns}
use Rattle.rack_runs.specs.Works.{Deed, work_turns}

-- what a test says, by the shape of the ledger and its journals: what holds where it lets the ledger pass, and why it refuses it with this answer
pub record Test : Type 1 where
  pub passes : Shape → (ℕ → List Record) → Type 0
  pub refuses : Shape → (ℕ → List Record) → Answer → Type 0

-- that every ledger passes
abbrev pub no_test : Test
no_test = record {
  passes = λ K E. Unit {0};
  refuses = λ K E answer. ⊥;
}

-- the disks, as far as they told, held a ledger in which each record was caused, the test refuses it with this answer, and they are back unchanged
pub record IsTestRefused {D : Type 0} (device : Ghosts D) (held back : ℕ → Option D) (test : Test) (answer : Answer) : Type 0 where
  pub ledger : IsCausedLedger device held
  pub refused : test.refuses ledger.shape (entry_journals ledger) answer
  pub unchanged : AreUnchanged device held back

-- a work did not come to be done: as `WhyNoTurns` says; or its own test refused the ledger
abbrev pub WhyNotBegun : {D Done : Type 0} → Ghosts D → Disks D → Disks D → Deed Done → Test → Answer → Type 0
WhyNotBegun device before after d test answer =
    WhyNoTurns device before after (work_turns d) answer ⊎ IsTestRefused device before.held after.held test answer
