use Rattle.std.proofs.Common.{◌≡◌, List, map, take}
use Rattle.cbdc_model.specs.Records.{Digest}
use Rattle.cbdc_model.specs.World.{Run}
use Rattle.plain_check.specs.Events.{event_in, mint_by}
use Rattle.plain_check.proofs.world.World.run.Given as goal

abbrev pub invariant-loop-event : goal.invariant-loop-event
invariant-loop-event l =
    (l.self.shape ≡ l.fn.self.shape) × (l.self.genesis ≡ l.fn.self.genesis)
    × ((hashes : List Digest) → Run l.fn.self.shape (mint_by l.fn.self.genesis hashes) l.fn.self.nodes.items
    (map event_in (take l.event-index l.events)) l.self.nodes.items)
