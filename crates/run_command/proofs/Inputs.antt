-- Why the inputs of a run are not there, as a cause of its answer.
use Rattle.std.proofs.Common.{inl, inr, ℕ, List, Option}
use Rattle.cbdc_types.specs.declared.answer.Answer.{Answer}
use Rattle.cbdc_types.specs.declared.answer.Answer.TheVariants as answers
use Rattle.requests.specs.declared.FileWord.{FileWord}
use Rattle.line_text.specs.Lines.{Text}
use Rattle.input_files.specs.Inputs.{AreNoInputs}
use Rattle.input_files.specs.Contents.{IsNoVerdicts}
use Rattle.command_answers.specs.Causes.{IsReadOrNodeFault}
use Rattle.command_answers.proofs.Answers.{first_fault}
use Rattle.run_command.specs.Outcomes.{RunPlace, RunRose}

module _ (held : Text → Option (List ℕ)) (before now : Text → ℕ) (clients : List FileWord) (verdicts : FileWord) where
  abbrev named : ℕ → Type 0
  named = RunPlace verdicts clients

  abbrev rose : ℕ → Type 0
  rose = RunRose before now verdicts clients

  verdicts_fault : (a : Answer) → IsNoVerdicts verdicts.place (held verdicts.name.now) (before verdicts.name.now) (now verdicts.name.now) a
      → IsReadOrNodeFault named rose a
  verdicts_fault answers.Ok is = absurd is
  verdicts_fault answers.BadWords is = absurd is
  verdicts_fault (answers.BadInput file at kind) is = inr is.0
  verdicts_fault (answers.TooMuch total) is = absurd is
  verdicts_fault (answers.NotReady k) is = absurd is
  verdicts_fault (answers.Foreign k kept asked) is = absurd is
  verdicts_fault (answers.NotEmpty k) is = absurd is
  verdicts_fault (answers.Full k used need capacity) is = absurd is
  verdicts_fault (answers.Unsound spot kind) is = absurd is
  verdicts_fault (answers.ClockEnd k stamp) is = absurd is
  verdicts_fault (answers.Damaged k at) is = absurd is
  verdicts_fault (answers.ReadFault file) is = inr (is.0, is.1)
  verdicts_fault answers.WriteFault is = absurd is
  verdicts_fault (answers.DiskFault k) is = absurd is
  verdicts_fault answers.Memory is = tt

  pub no_inputs_fault : (a : Answer) → AreNoInputs held before now clients verdicts a
      → IsReadOrNodeFault (RunPlace verdicts clients) (RunRose before now verdicts clients) a
  no_inputs_fault a are = elim are [
    | inl first ↦ first_fault held before now clients named rose (λ place one. inl one) (λ place one. inl one) a first
    | inr all ↦ verdicts_fault a all.2
  ]
