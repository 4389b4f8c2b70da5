-- A look for all records.
use Rattle.std.proofs.Common.{◌≡◌, ◌∙◌, Result, List, sym, ap, reverse}
use Rattle.std.specs.Prelude.{IfOk}
use Rattle.std.specs.Global.{Vec}
use Rattle.std.proofs.lemmas.Result.{IfOk-weaker}
use Rattle.cbdc_model.specs.Records.{Record}
use Rattle.cbdc_model.specs.Sights.{Sight}
use Rattle.node_lock.specs.declared.views.Hand.{Hand}
use Rattle.node_lock.specs.Tickets.{Looked}
use Rattle.port_sets.specs.Looks.{lists_all, HasListed}

pub listed_of : {E : Type 0} (first : Sight) (h g : Hand) (s : Sight) (all : Result (Vec Record) E) → Looked first h s g → lists_all s all
    → HasListed h g all
listed_of first h g s all l told =
    let seen : g.seen ≡ s.seen = ap (λ k. k.seen) l.now in
    record {
      lane = ap (λ k. k.lane) l.now;
      made = ap (λ k. k.made) l.now;
      left = ap (λ k. k.left) l.now;
      grows = (l.finds.others, seen ∙ l.finds.list);
      listed = IfOk-weaker all _ _ (λ rs e. e ∙ sym seen) told;
    }
