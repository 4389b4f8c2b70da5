use Rattle.std.proofs.Common.{rules}
use Rattle.std.proofs.lemmas.List.Elements.{All-push, All-same, All-weaker}
use Rattle.lane_waves.specs.Deals.{IsEmptyRoom, IsNone}
use Rattle.lane_waves.proofs.dealing.port_rooms.Goals as goal

pub let_go-requires : goal.let_go-requires
let_go-requires g c = All-weaker (IsEmptyRoom c.args.shards) IsNone (λ w k. k.0) c.loop-place.rooms.items c.loop-place.invariant.rooms

pub loop-place-preserved : goal.loop-place-preserved
loop-place-preserved g c =
    let inv = c.loop-place.invariant in
    record {
      rooms = All-same (IsEmptyRoom c.args.shards) c.push_reserved.new.self.items _ c.push_reserved.ensures.items
          (All-push (IsEmptyRoom c.args.shards) c.loop-place.rooms.items _ inv.rooms (search rules, search rules));
      len = search (rules, inv);
      capacity = search (rules, inv);
    }
