use Rattle.lane_waves.proofs.laws.held_law.Goals as goal
use Rattle.lane_waves.proofs.NodePlaces as laws

pub returns : goal.returns
returns g c = laws.held g.N.Sighted.sight g.N.Sighted.goes
