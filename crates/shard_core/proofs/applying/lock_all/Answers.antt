use Rattle.std.proofs.Common.{Bool, None, if◌then◌else◌, ap, ◌∙◌}
use Rattle.shard_table.specs.Entries.{lookup}
use Rattle.shard_table.proofs.Gathers.{same_self}
use Rattle.shard_core.proofs.applying.lock_all.Goals as goal

pub take-requires-clause-free : goal.take-requires-clause-free
take-requires-clause-free c =
    c.release.ensures.held c.x-item.result ∙ ap (λ (b : Bool). if b then None else lookup c.loop-x.locks.held c.x-item.result)
    (same_self c.x-item.result)
