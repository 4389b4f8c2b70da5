use Rattle.std.proofs.Common.{ap, ◌∙◌}
use Rattle.std.specs.Prelude.{IfOk}
use Rattle.rayon.proofs.ToStd.{slice-AllZip}
use Rattle.audit.specs.Keeping.{IsFormOf}
use Rattle.audit.proofs.Aside.{ok_zip}
use Rattle.audit.proofs.compacting.forms_of.Goals as goal

pub returns : goal.returns
returns g c =
    let slice = ap (λ it. it.slice.now) c.map.ensures.base ∙ c.par_iter.ensures in
    let h = c.in_ok-collect.ensures in
    let chain = rw c.map.ensures.f at h.1 in
    ok_zip _ IsFormOf c.args.txs.now h.0 c.in_ok-collect.field-0
    (slice-AllZip chain.0 c.args.txs.now (chain.1 ∙ slice) (λ x y. IfOk y (IsFormOf x)) h.0 chain.2) h.2
