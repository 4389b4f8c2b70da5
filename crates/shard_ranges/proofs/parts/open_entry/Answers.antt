use Rattle.std.proofs.Common.{◌∙◌, ap, sym, length, ◌-◌, slice_get}
use Rattle.shard_ranges.proofs.Opens.{opened_here}
use Rattle.shard_ranges.proofs.parts.open_entry.Goals as goal

pub returns-then-last-place-clause-opened : goal.returns-then-last-place-clause-opened
returns-then-last-place-clause-opened c before ins outs b e =
    opened_here c.args.entries.now.items before c.args.place c.args.id.now ins outs c.in-Some.last.now b e
    (ap (λ es. slice_get es (length es - 1)) (sym c.deref.ensures.value) ∙ sym c.in-Some.ensures.value) c.if-last-place.true
