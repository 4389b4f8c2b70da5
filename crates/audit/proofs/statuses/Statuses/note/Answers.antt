use Rattle.cbdc_model.specs.Records.{journal}
use Rattle.audit.proofs.Standing.{on_ok, statuses_next}
use Rattle.audit.proofs.statuses.Statuses.note.Goals as goal

pub returns : goal.returns
returns c = on_ok c.apply.result
    (λ h past knows before. statuses_next c.args.shape.now c.args.self.now c.apply.new.self c.args.node c.args.r.now past before
    (h (λ n. journal n past) knows)) c.apply.ensures
