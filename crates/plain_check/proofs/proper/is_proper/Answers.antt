use Rattle.plain_check.proofs.Propers.{sound_is}
use Rattle.plain_check.proofs.proper.is_proper.Goals as goal

pub returns-in-Ok : goal.returns-in-Ok
returns-in-Ok c = sound_is c.args.t.now c.in-Ok.ensures
