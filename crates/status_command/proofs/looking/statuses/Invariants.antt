use Rattle.std.proofs.Common.{◌≡◌, map, take}
use Rattle.status_command.specs.Texts.{status_among}
use Rattle.status_command.proofs.looking.statuses.Given as goal

abbrev pub invariant-hashes : goal.invariant-hashes
invariant-hashes g l = l.all.items ≡ map (status_among l.nodes.header.shape l.nodes.shards.items) (take l.hash-index l.hashes)
