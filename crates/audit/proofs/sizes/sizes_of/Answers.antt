use Rattle.audit.proofs.Sizing.{unspent_count}
use Rattle.audit.specs.Rows.{read, newest_first}
use Rattle.audit.proofs.sizes.sizes_of.Goals as goal

pub returns : goal.returns
returns c = record {
  unspent_are = unspent_count c.args.shape.now (newest_first (read c.args.journals.now) c.args.history.now) c.in_ok-standing.standing.statuses
      c.len.result c.len.ensures.set c.len.ensures.len c.in_ok-standing.ensures.statuses;
  held_are = c.in_ok-held_of.ensures;
  owed_are = c.in_ok-owed_of.ensures;
}
