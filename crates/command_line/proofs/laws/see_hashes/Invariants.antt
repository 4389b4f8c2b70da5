use Rattle.std.proofs.Common.{take}
use Rattle.command_line.specs.Refused.{AreWholeHashes}
use Rattle.command_line.proofs.laws.see_hashes.Given as goal

abbrev pub invariant-hashes : goal.invariant-hashes
invariant-hashes l = AreWholeHashes (take l.hash-index l.hashes)
