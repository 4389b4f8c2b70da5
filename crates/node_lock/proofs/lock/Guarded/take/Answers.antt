use Rattle.std.proofs.Common.{ap, ◌∙◌, subst, rules}
use Rattle.node_lock.specs.declared.views.Hand.{Hand}
use Rattle.node_lock.specs.Tickets.{HandFinds, Since, sees}
use Rattle.node_lock.proofs.lock.Guarded.take.Goals as goal

pub returns : goal.returns
returns g c =
    let s = g.N.Sighted.sight c.enter.result in
    let same = c.draw-ticket.ensures.same in
    record {
      table = search rules;
      has = c.enter.ensures.has;
      finds = subst (λ (h : Hand). HandFinds h s) same.0 c.enter.ensures.finds;
      sees = c.enter.ensures.sees ∙ ap (sees s) same.0;
      first = c.enter.ensures.first ∙ same.1;
      since = subst (λ x. Since g.N.Sighted.sight g.N.Sighted.goes x c.enter.result) same.1 c.enter.ensures.since;
    }
