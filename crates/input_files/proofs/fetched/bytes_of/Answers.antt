use Rattle.std.proofs.lemmas.Bool.{ltb_from_iff}
use Rattle.input_files.proofs.fetched.bytes_of.Goals as goal

pub returns-in-Ok-clause-bytes : goal.returns-in-Ok-clause-bytes
returns-in-Ok-clause-bytes g c bytes told = (c.in-Ok.ensures.bytes bytes told, ltb_from_iff (c.in-Ok.ensures.more bytes told))
