use Rattle.lane_waves.proofs.laws.nodes_still_law.Goals as goal
use Rattle.lane_waves.proofs.NodePlaces as laws

pub returns : goal.returns
returns g c = laws.nodes_still g.N.Sighted.sight g.N.Sighted.goes
