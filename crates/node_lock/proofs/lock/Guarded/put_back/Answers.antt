use Rattle.std.proofs.Common.{◌∷◌, Some, rules, ap, ◌∙◌}
use Rattle.atomic_table.specs.Table.{rest}
use Rattle.node_lock.proofs.Told.{puts}
use Rattle.node_lock.proofs.lock.Guarded.put_back.Goals as goal

pub returns : goal.returns
returns g c =
    let m = c.args.token.now.me in
    let put = c.exchange.ensures.3 ∙ ap (λ k. (m.0, (0, Some c.args.node) ∷ rest k.1)) c.requires.has.1 in
    record {
      table = search rules;
      back = puts g.N.Sighted.sight g.N.Sighted.goes m c.exchange.new.seat.me c.args.node c.requires.has c.requires.since put;
      put = put;
    }
