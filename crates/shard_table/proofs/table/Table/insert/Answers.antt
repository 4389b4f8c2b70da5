use Rattle.std.proofs.Common.{◌≡◌, ℕ, ◌+◌, true, false, not, is_some, length, sym, ap, ◌∙◌}
use Rattle.cbdc_model.specs.Status.{has}
use Rattle.shard_table.proofs.Keys.{keys, has_is, put_members, keys_length, there_members, plus_zero}
use Rattle.shard_table.proofs.table.Table.insert.Goals as goal

pub insert-requires-clause-room : goal.insert-requires-clause-room
insert-requires-clause-room c =
    let old = c.self.inside.slots.entries in
    let some : is_some c.get.result ≡ false = c.is_none.ensures ∙ ap not c.if-is_none.true in
    let absent : has (keys old) c.args.x ≡ false = has_is old c.args.x ∙ ap is_some (sym c.get.ensures) ∙ some in
    rw (← c.self.view_is) at c.requires absent

pub returns-then-is_none-clause-members : goal.returns-then-is_none-clause-members
returns-then-is_none-clause-members c = rw (← c.self.view_is)
    (put_members c.self.inside.slots.entries c.insert.new.self.entries c.args.x tt c.insert.ensures.kept)

pub returns-then-is_none-clause-len : goal.returns-then-is_none-clause-len
returns-then-is_none-clause-len c =
    let old = c.self.inside.slots.entries in
    let some : is_some c.get.result ≡ false = c.is_none.ensures ∙ ap not c.if-is_none.true in
    let absent : has (keys old) c.args.x ≡ false = has_is old c.args.x ∙ ap is_some (sym c.get.ensures) ∙ some in
    rw (← c.self.view_is, absent) (keys_length c.insert.new.self.entries ∙ c.insert.ensures.len ∙ ap (λ (n : ℕ). n + 1) (sym (keys_length old)))

pub returns-then-is_none-clause-spare : goal.returns-then-is_none-clause-spare
returns-then-is_none-clause-spare c =
    let old = c.self.inside.slots.entries in
    let some : is_some c.get.result ≡ false = c.is_none.ensures ∙ ap not c.if-is_none.true in
    let absent : has (keys old) c.args.x ≡ false = has_is old c.args.x ∙ ap is_some (sym c.get.ensures) ∙ some in
    rw (← c.self.view_is, absent) c.insert.ensures.spare

pub returns-else-is_none-clause-members : goal.returns-else-is_none-clause-members
returns-else-is_none-clause-members c =
    let old = c.self.inside.slots.entries in
    let some : is_some c.get.result ≡ true = c.is_none.ensures ∙ ap not c.if-is_none.false in
    let there : has (keys old) c.args.x ≡ true = has_is old c.args.x ∙ ap is_some (sym c.get.ensures) ∙ some in
    rw (← c.self.view_is) (there_members (keys old) c.args.x there)

pub returns-else-is_none-clause-len : goal.returns-else-is_none-clause-len
returns-else-is_none-clause-len c =
    let old = c.self.inside.slots.entries in
    let some : is_some c.get.result ≡ true = c.is_none.ensures ∙ ap not c.if-is_none.false in
    let there : has (keys old) c.args.x ≡ true = has_is old c.args.x ∙ ap is_some (sym c.get.ensures) ∙ some in
    rw (← c.self.view_is, there) (sym (plus_zero (length (keys old))))

pub returns-else-is_none-clause-spare : goal.returns-else-is_none-clause-spare
returns-else-is_none-clause-spare c =
    let old = c.self.inside.slots.entries in
    let some : is_some c.get.result ≡ true = c.is_none.ensures ∙ ap not c.if-is_none.false in
    let there : has (keys old) c.args.x ≡ true = has_is old c.args.x ∙ ap is_some (sym c.get.ensures) ∙ some in
    rw (← c.self.view_is, there) (plus_zero c.self.inside.slots.spare)
