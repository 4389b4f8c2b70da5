use Rattle.lane_waves.proofs.laws.nodes_ran_law.Goals as goal
use Rattle.lane_waves.proofs.NodePlaces as laws

pub returns : goal.returns
returns g c = laws.nodes_ran g.N.Sighted.sight g.N.Sighted.goes
