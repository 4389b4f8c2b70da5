use Rattle.std.proofs.Common.{ℕ, Ok, Err, arith}
use Rattle.std.specs.Prelude.{IsErrOf}
use Rattle.std.proofs.lemmas.Grind.{common_steps}
use Rattle.client_files.specs.declared.fault.FetchFault.{FetchFault}
use Rattle.client_files.specs.declared.fault.FetchFault.TheVariants as faults
use Rattle.client_files.proofs.input.read_into.Goals as goal

module _ {X : Type 0} where
  read_well : (n : ℕ) → IsErrOf {T = ℕ} {E = FetchFault} (Ok n) faults.ReadFault → X
  read_well n is = absurd (cc)

  no_memory : IsErrOf {T = ℕ} {E = FetchFault} (Err faults.Memory) faults.ReadFault → X
  no_memory is = absurd (cc)

pub returns-in-Ok-extend_from_slice-clause-bytes : goal.returns-in-Ok-extend_from_slice-clause-bytes
returns-in-Ok-extend_from_slice-clause-bytes g c = grind (arith, common_steps)

pub returns-in-Ok-extend_from_slice-clause-len : goal.returns-in-Ok-extend_from_slice-clause-len
returns-in-Ok-extend_from_slice-clause-len g c = grind (arith, common_steps)

pub returns-in-Ok-extend_from_slice-clause-end : goal.returns-in-Ok-extend_from_slice-clause-end
returns-in-Ok-extend_from_slice-clause-end g c = grind (arith, common_steps)

pub returns-in-Ok-extend_from_slice-clause-later : goal.returns-in-Ok-extend_from_slice-clause-later
returns-in-Ok-extend_from_slice-clause-later g c = c.read.ensures.later

pub returns-in-Err-extend_from_slice-clause-later : goal.returns-in-Err-extend_from_slice-clause-later
returns-in-Err-extend_from_slice-clause-later g c = c.read.ensures.later

pub returns-in-Err-clause-later : goal.returns-in-Err-clause-later
returns-in-Err-clause-later g c = c.read.ensures.later

pub returns-in-Ok-extend_from_slice-clause-failed : goal.returns-in-Ok-extend_from_slice-clause-failed
returns-in-Ok-extend_from_slice-clause-failed g c = read_well c.in-Ok.n

pub returns-in-Err-extend_from_slice-clause-failed : goal.returns-in-Err-extend_from_slice-clause-failed
returns-in-Err-extend_from_slice-clause-failed g c = no_memory
