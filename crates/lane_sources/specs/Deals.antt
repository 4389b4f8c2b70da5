-- What stands where no file is picked.
use Rattle.cbdc_model.specs.Records.{Shape}
use Rattle.sentinel.specs.declared.verifier.Verdict.TheVariants.{Absent}
use Rattle.submissions.specs.Checks.{VerdictsOf}

-- the shape that stands where no file is picked: one of each
pub no_shape : Shape
no_shape = record { coordinators = 1; shards = 1; batch = 1; lanes = 1 }

-- the verdicts that stand where no file is picked: nothing is known of any witness
pub no_verdicts : VerdictsOf
no_verdicts id place = Absent
