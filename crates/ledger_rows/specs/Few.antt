-- The test of a work over ledgers of few records.
use Rattle.std.specs.Prelude.{◌≡◌, ◌<◌, ◌≤◌, ℕ, length}
use Rattle.cbdc_types.specs.declared.answer.Answer.TheVariants as answers
use Rattle.rack_runs.specs.Tests.{Test}

-- node 0 has at most so many records; where it has more it is told not to be empty
abbrev pub few_records : ℕ → Test
few_records most = record {
  passes = λ K E. length (E 0) ≤ most;
  refuses = λ K E answer. (most < length (E 0)) × (answer ≡ answers.NotEmpty 0);
}
