use Rattle.std.proofs.Common.{◌≡◌, List, [], sym, subst, arith, rules}
use Rattle.std.proofs.lemmas.Grind.{common_steps}
use Rattle.cbdc_model.specs.Records.{Record}
use Rattle.cbdc_model.specs.After.{IsUnsealed}
use Rattle.plain_check.proofs.Sealing.{unsealed_none}
use Rattle.plain_check.proofs.following.+is_unsealed.Goals as goal

pub returns-in-None : goal.returns-in-None
returns-in-None t c =
    let empty : c.args.past.now ≡ [] = grind (arith, common_steps) in (
      λ _. subst IsUnsealed (sym {A = List Record} empty) unsealed_none,
      λ _. search rules,
    )
