use Rattle.std.proofs.Common.{rules}
use Rattle.shard_ranges.proofs.Opens.{with_output}
use Rattle.shard_ranges.proofs.parts.add_output.Goals as goal

pub returns : goal.returns
returns c before ins outs b e =
    with_output c.open_entry.new.entries.items before c.len-last.result c.args.place c.args.id.now c.args.x.now ins outs c.push.new.self
    c.index_mut.result.now
    (c.in_ok-open_entry.ensures.opened before ins outs b e) (search rules) c.index_mut.ensures.value c.in_ok-push.ensures.ok
