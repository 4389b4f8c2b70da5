use Rattle.std.proofs.Common.{ap, subst}
use Rattle.cbdc_model.specs.Records.{Header}
use Rattle.cbdc_model.specs.Grammar.{IsInGrammar}
use Rattle.coord_core.specs.Lanes.{CoordOf, IsCoordWhole}
use Rattle.coord_core.proofs.Following.{next_in_grammar, told_after}
use Rattle.coord_core.proofs.coord.CoordCore.admit.Goals as goal

pub returns-clause-next : goal.returns-clause-next
returns-clause-next c =
    let G : Header → Type 0 = λ h. IsInGrammar h c.args.next.now in
    let grammar = subst G (ap (λ x. x.header) c.self.view_is) (c.is_in_grammar.ensures.0 c.if-not-is_in_grammar.false) in
    next_in_grammar c.args.self.now c.args.next.now c.admit_next.result grammar c.admit_next.ensures.next

pub returns-clause-after : goal.returns-clause-after
returns-clause-after c =
    let G : Header → Type 0 = λ h. IsInGrammar h c.args.next.now in
    let grammar = subst G (ap (λ x. x.header) c.self.view_is) (c.is_in_grammar.ensures.0 c.if-not-is_in_grammar.false) in
    let W : CoordOf → Type 0 = λ x. IsCoordWhole x in
    told_after c.args.self.now c.args.next.now c.admit_next.result (subst W c.self.view_is c.self.invariant) grammar c.admit_next.ensures.next
