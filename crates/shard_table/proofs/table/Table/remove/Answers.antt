use Rattle.std.proofs.Common.{◌≡◌, is_some, sym, ap, ◌∙◌}
use Rattle.cbdc_model.specs.Status.{has}
use Rattle.shard_table.proofs.Keys.{keys, has_is, cut_members, keys_length}
use Rattle.shard_table.proofs.table.Table.remove.Goals as goal

pub returns-clause-members : goal.returns-clause-members
returns-clause-members c = rw (← c.self.view_is) (cut_members c.self.inside.slots.entries c.remove.new.self.entries c.args.x.now
    c.remove.ensures.kept)

pub returns-clause-len : goal.returns-clause-len
returns-clause-len c =
    let old = c.self.inside.slots.entries in
    let found : has (keys old) c.args.x.now ≡ is_some c.remove.result = has_is old c.args.x.now ∙ ap is_some (sym c.remove.ensures.value) in
    rw (← c.self.view_is, found, keys_length c.remove.new.self.entries, keys_length old) c.remove.ensures.len

pub returns-clause-spare : goal.returns-clause-spare
returns-clause-spare c =
    let old = c.self.inside.slots.entries in
    let found : has (keys old) c.args.x.now ≡ is_some c.remove.result = has_is old c.args.x.now ∙ ap is_some (sym c.remove.ensures.value) in
    rw (← c.self.view_is, found) c.remove.ensures.spare
