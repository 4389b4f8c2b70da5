-- What `gen` promises.
use Rattle.std.specs.Prelude.{◌≡◌, ◌≤◌, ℕ}
use Rattle.outside.specs.declared.disk.Disk.{Ghosts}
use Rattle.cbdc_model.specs.Records.{Shape}
use Rattle.cbdc_model.specs.Clean.{Clean}
use Rattle.command_answers.specs.Promises.{Needs, Promise}
use Rattle.submission_laws.specs.Files.{all_submissions}
use Rattle.workload.specs.Generator.{mint_of}
use Rattle.requests.specs.declared.GenOptions.{GenOptions}
use Rattle.gen_command.specs.Generated.{PrintsWorkload, WhyNoWorkload}

-- `gen` of a workload of this seed and so many transactions, over a ledger of this shape, run as the options say: the rack is as it was, and no
-- hashes clash or an audit says so
abbrev pub gen_promise : {D : Type 0} → Ghosts D → Shape → ℕ → ℕ → GenOptions → Promise D
gen_promise device shape seed count options = record {
  did = λ files before after printed. ((n : ℕ) → after.held n ≡ before.held n) × PrintsWorkload printed shape seed count options;
  why = λ before after answer. ((n : ℕ) → after.disks.held n ≡ before.disks.held n) × WhyNoWorkload shape seed count options.watch answer;
  leaves = λ before after answer. Unit {0};
  ended = λ before after answer. ⊥;
  exact = λ before. Unit {0};
  unhindered = λ before after. Clean (mint_of seed count) (all_submissions seed count);
}

-- what it needs
abbrev pub gen_needs : ℕ → ℕ → Needs
gen_needs count replicas = record {
  place = λ place. ⊥;
  names = λ place name. ⊥;
  rose = λ before now place. ⊥;
  hands_in = λ files txs. ⊥;
  of_no_rack = Unit {0};
  of_no_file = Unit {0};
  sized = (count ≤ 10000) × (replicas ≤ 3);
}
