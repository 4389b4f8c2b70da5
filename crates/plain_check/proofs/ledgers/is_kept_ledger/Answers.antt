use Rattle.std.proofs.Common.{◌∙◌, ap}
use Rattle.plain_check.specs.Journals.{journals_in}
use Rattle.plain_check.specs.Merging.{later_below}
use Rattle.plain_check.proofs.ledgers.is_kept_ledger.Goals as goal

pub is_kept_by-requires : goal.is_kept_by-requires
is_kept_by-requires c = c.as_slice.ensures ∙ c.in_ok-later.ensures ∙ ap (later_below (journals_in c.args.journals.now)) c.node_count.ensures.value
