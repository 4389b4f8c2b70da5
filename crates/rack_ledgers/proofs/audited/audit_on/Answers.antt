use Rattle.std.proofs.Common.{◌∙◌, inr, refl}
use Rattle.rack_ledgers.proofs.Told.{same_back, back_same}
use Rattle.rack_ledgers.proofs.Closed.{all_same}
use Rattle.rack_ledgers.proofs.AuditHistories.{is_audited, audited_room, verdicts_account}
use Rattle.rack_ledgers.proofs.audited.audit_on.Goals as goal

pub returns-in_default-clause-refusal : goal.returns-in_default-clause-refusal
returns-in_default-clause-refusal g c = inr refl

pub verdict_of-verdict-requires-clause-logs : goal.verdict_of-verdict-requires-clause-logs
verdict_of-verdict-requires-clause-logs g c κs k n x is = (c.in-Ok-open_minted.ensures.opened.nodes.logs_at n x is).journal

pub verdict_of-verdict-requires-clause-shards : goal.verdict_of-verdict-requires-clause-shards
verdict_of-verdict-requires-clause-shards g c κs k n x is = (c.in-Ok-open_minted.ensures.opened.nodes.shards_at n x is).journal

pub returns-in-Ok-verdict-clause-audited : goal.returns-in-Ok-verdict-clause-audited
returns-in-Ok-verdict-clause-audited g c =
    is_audited g.R.Disk.Disk (g.R.Rack.held c.args.rack.now) c.in-Ok-open_minted.nodes.header c.in-Ok-open_minted.nodes.logs.items
    c.in-Ok-open_minted.nodes.shards.items
    c.in-Ok-open_minted.ensures.opened.nodes c.args.mint.now (c.in-Ok-open_minted.ensures.minted ∙ c.in-Ok.ensures) c.args.handed.now
    c.in-Ok-verdict.verdict c.in-Ok-verdict.ensures

pub returns-in-Ok-verdict-clause-room : goal.returns-in-Ok-verdict-clause-room
returns-in-Ok-verdict-clause-room g c =
    audited_room g.R.Disk.Disk (g.R.Rack.held c.args.rack.now) c.in-Ok-open_minted.nodes.header c.in-Ok-open_minted.nodes.logs.items
    c.in-Ok-open_minted.nodes.shards.items
    c.in-Ok-open_minted.ensures.opened.nodes c.args.mint.now (c.in-Ok-open_minted.ensures.minted ∙ c.in-Ok.ensures) c.args.handed.now
    (g.R.Rack.held c.close_nodes.new.rack) c.close_nodes.ensures.closed_logs c.close_nodes.ensures.closed_shards c.in-Ok-verdict.verdict
    c.in-Ok-verdict.ensures

pub returns-in-Ok-verdict-clause-sentence : goal.returns-in-Ok-verdict-clause-sentence
returns-in-Ok-verdict-clause-sentence g c =
    verdicts_account g.R.Disk.Disk (g.R.Rack.held c.args.rack.now) c.args.mint.now c.args.handed.now c.in-Ok-verdict.verdict
    (is_audited g.R.Disk.Disk (g.R.Rack.held c.args.rack.now) c.in-Ok-open_minted.nodes.header c.in-Ok-open_minted.nodes.logs.items
    c.in-Ok-open_minted.nodes.shards.items
    c.in-Ok-open_minted.ensures.opened.nodes c.args.mint.now (c.in-Ok-open_minted.ensures.minted ∙ c.in-Ok.ensures) c.args.handed.now
    c.in-Ok-verdict.verdict c.in-Ok-verdict.ensures)

pub returns-in-Ok-verdict-clause-unchanged : goal.returns-in-Ok-verdict-clause-unchanged
returns-in-Ok-verdict-clause-unchanged g c =
    all_same g.R.Disk.Disk (g.R.Rack.held c.args.rack.now) (g.R.Rack.held c.open_minted.new.rack) (g.R.Rack.held c.close_nodes.new.rack)
    c.in-Ok-open_minted.nodes.header
    c.in-Ok-open_minted.nodes.logs.items c.in-Ok-open_minted.nodes.shards.items c.in-Ok-open_minted.ensures.opened.nodes
    c.in-Ok-open_minted.ensures.opened.others_held c.close_nodes.ensures.closed_logs c.close_nodes.ensures.closed_shards
    c.close_nodes.ensures.others_held

pub returns-in-Ok-verdict-clause-back : goal.returns-in-Ok-verdict-clause-back
returns-in-Ok-verdict-clause-back g c = record {
  held = λ n.
      same_back g.R.Disk.Disk (g.R.Rack.count c.args.rack.now n) (g.R.Rack.count c.close_nodes.new.rack n) (g.R.Rack.held c.args.rack.now n)
      (g.R.Rack.held c.close_nodes.new.rack n)
      (all_same g.R.Disk.Disk (g.R.Rack.held c.args.rack.now) (g.R.Rack.held c.open_minted.new.rack) (g.R.Rack.held c.close_nodes.new.rack)
      c.in-Ok-open_minted.nodes.header
      c.in-Ok-open_minted.nodes.logs.items c.in-Ok-open_minted.nodes.shards.items c.in-Ok-open_minted.ensures.opened.nodes
      c.in-Ok-open_minted.ensures.opened.others_held c.close_nodes.ensures.closed_logs c.close_nodes.ensures.closed_shards
      c.close_nodes.ensures.others_held n);
  takes = c.close_nodes.ensures.back;
}

pub returns-in-Err-verdict-clause-refusal : goal.returns-in-Err-verdict-clause-refusal
returns-in-Err-verdict-clause-refusal g c = inr refl

pub returns-in-Err-verdict-clause-back : goal.returns-in-Err-verdict-clause-back
returns-in-Err-verdict-clause-back g c = record {
  held = λ n.
      same_back g.R.Disk.Disk (g.R.Rack.count c.args.rack.now n) (g.R.Rack.count c.close_nodes.new.rack n) (g.R.Rack.held c.args.rack.now n)
      (g.R.Rack.held c.close_nodes.new.rack n)
      (all_same g.R.Disk.Disk (g.R.Rack.held c.args.rack.now) (g.R.Rack.held c.open_minted.new.rack) (g.R.Rack.held c.close_nodes.new.rack)
      c.in-Ok-open_minted.nodes.header
      c.in-Ok-open_minted.nodes.logs.items c.in-Ok-open_minted.nodes.shards.items c.in-Ok-open_minted.ensures.opened.nodes
      c.in-Ok-open_minted.ensures.opened.others_held c.close_nodes.ensures.closed_logs c.close_nodes.ensures.closed_shards
      c.close_nodes.ensures.others_held n);
  takes = c.close_nodes.ensures.back;
}

pub close_nodes-requires : goal.close_nodes-requires
close_nodes-requires g c = c.in-Ok-open_minted.ensures.opened.may_close

pub returns-in_default-clause-back : goal.returns-in_default-clause-back
returns-in_default-clause-back g c = record {
  held = λ n. back_same g.R.Disk.Disk (g.R.Rack.count c.args.rack.now n) (g.R.Rack.count c.args.rack.now n) (g.R.Rack.held c.args.rack.now n)
      (g.R.Rack.held c.args.rack.now n) refl;
  takes = c.requires;
}
