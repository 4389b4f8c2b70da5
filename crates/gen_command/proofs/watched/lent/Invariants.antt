use Rattle.std.proofs.Common.{◌≡◌, map, take}
use Rattle.audit.specs.Rows.{read}
use Rattle.gen_command.proofs.watched.lent.Given as goal

abbrev pub invariant-lists : goal.invariant-lists
invariant-lists l = read l.all.items ≡ map (λ x. x.items) (take l.list-index l.lists)
