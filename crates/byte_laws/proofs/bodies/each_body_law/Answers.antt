use Rattle.byte_laws.proofs.EachBody.{each_body}
use Rattle.byte_laws.proofs.bodies.each_body_law.Goals as goal

pub returns : goal.returns
returns c = each_body
