use Rattle.std.proofs.Common.{◌≡◌, ◌≤◌, ◌∙◌, ap, sym, subst, arith}
use Rattle.std.specs.Prelude.{IfSome}
use Rattle.node_journal.specs.Nodes.{NodeOf}
use Rattle.rack_ledgers.proofs.Told.{of_told}
use Rattle.rack_ledgers.proofs.Others.{kept_same, kept_but}
use Rattle.rack_ledgers.proofs.opening.lead_alone.Goals as goal

pub returns-in-Ok-clause-others : goal.returns-in-Ok-clause-others
returns-in-Ok-clause-others g c = kept_same

pub returns-in-Err-clause-others : goal.returns-in-Err-clause-others
returns-in-Err-clause-others g c = kept_but c.put.ensures.others c.put.ensures.others_in c.put.ensures.others_out c.put.ensures.later

pub put-requires : goal.put-requires
put-requires g c =
    let same : c.into_disk.result ≡ c.args.lead.disk =
    c.into_disk.ensures ∙ ap (λ (l : NodeOf g.row.R-Disk.Denot). l.disk) c.in-Err.ensures.value_returned in
    c.requires (g.R.Disk.Disk.count c.into_disk.result)
    (subst (λ (d : g.row.R-Disk.Denot). g.R.Disk.Disk.count c.args.lead.disk ≤ g.R.Disk.Disk.count d) (sym same) (omega arith))

pub returns-in-Err-clause-closed : goal.returns-in-Err-clause-closed
returns-in-Err-clause-closed g c =
    let same : c.into_disk.result ≡ c.args.lead.disk =
    c.into_disk.ensures ∙ ap (λ (l : NodeOf g.row.R-Disk.Denot). l.disk) c.in-Err.ensures.value_returned in
    of_told _ _ (subst (λ (d : g.row.R-Disk.Denot). IfSome (g.R.Rack.held c.put.new.self 0) (λ now. now ≡ d)) same c.put.ensures.disk)

pub returns-in-Err-clause-back : goal.returns-in-Err-clause-back
returns-in-Err-clause-back g c = c.put.ensures.back
