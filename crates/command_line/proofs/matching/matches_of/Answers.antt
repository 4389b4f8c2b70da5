use Rattle.std.proofs.Common.{◌≡◌, true, refl, sym, subst, map}
use Rattle.std.proofs.lemmas.Result.{IfOk-weaker}
use Rattle.std.specs.Prelude.{IfOk}
use Rattle.clap.specs.Words.{App, FailsBy, HasMatchesOf, fault_of, is_simple_and_free}
use Rattle.command_line.proofs.matching.matches_of.Goals as goal

pub returns-clause-met : goal.returns-clause-met
returns-clause-met g c =
    let words = map g.S.AsStr.text c.args.words.now in
    let told = subst (λ (a : App). IfOk c.try_get_matches_from.result (HasMatchesOf a words)) c.in_ok-command.ensures
    c.try_get_matches_from.ensures.matches in
    IfOk-weaker c.try_get_matches_from.result _ _ (λ m has. sym (has refl).1) told

pub returns-clause-fails : goal.returns-clause-fails
returns-clause-fails g c =
    let words = map g.S.AsStr.text c.args.words.now in
    subst (λ (a : App). is_simple_and_free a ≡ true → FailsBy (fault_of a words) c.try_get_matches_from.result) c.in_ok-command.ensures
    c.try_get_matches_from.ensures.kinds refl
