use Rattle.std.proofs.Common.{◌≡◌, ◌*◌, ◌/◌, None, length, arith, ap, ◌∙◌}
use Rattle.shard_table.proofs.Prefixes.{vacant_length}
use Rattle.shard_table.proofs.Sizes.{paged}
use Rattle.shard_table.proofs.slots.moved.Goals as goal

pub fill_all-requires-clause-room : goal.fill_all-requires-clause-room
fill_all-requires-clause-room g c =
    let p = paged c.args.homes c.requires.size in
    let len : length c.in_ok-wider.wider ≡ c.args.homes / 256 * 256 = ap length c.in_ok-wider.ensures ∙ vacant_length (c.args.homes / 256 * 256) None
    in
    let room = c.requires.room in
    omega (arith, p.0, p.1, len, room)
