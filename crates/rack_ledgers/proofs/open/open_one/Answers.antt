use Rattle.rack_ledgers.proofs.Others.{kept_but, kept_then}
use Rattle.rack_ledgers.proofs.open.open_one.Goals as goal

pub returns-in-Err-clause-others : goal.returns-in-Err-clause-others
returns-in-Err-clause-others g c = kept_but c.take.ensures.others c.take.ensures.others_in c.take.ensures.others_out c.take.ensures.later

pub returns-in-Ok-open_disk-clause-others : goal.returns-in-Ok-open_disk-clause-others
returns-in-Ok-open_disk-clause-others g c = kept_but c.take.ensures.others c.take.ensures.others_in c.take.ensures.others_out c.take.ensures.later

pub returns-in-Err-open_disk-clause-others : goal.returns-in-Err-open_disk-clause-others
returns-in-Err-open_disk-clause-others g c = kept_then
    (kept_but c.take.ensures.others c.take.ensures.others_in c.take.ensures.others_out c.take.ensures.later)
    (kept_but c.put.ensures.others c.put.ensures.others_in c.put.ensures.others_out c.put.ensures.later)
