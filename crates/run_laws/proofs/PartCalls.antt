-- The parts of a batch within the limits are within them.
use Rattle.lane_laws.proofs.PartCalls.{part_fits}
use Rattle.run_laws.specs.Runs.{PartLaw}

pub part_law : PartLaw
part_law = part_fits
