-- No body is the front of another.
use Rattle.std.proofs.Common.{ℕ, List, [], refl, sym, ap, ◌∙◌}
use Rattle.cbdc_model.specs.Records.{Record}
use Rattle.byte_fields.proofs.Fields.{ok_is}
use Rattle.record_log.specs.Bodies.{body_of}
use Rattle.record_log.specs.Reading.{body_at}
use Rattle.record_log.proofs.Grammar.{fits_record, is_read}
use Rattle.record_log.proofs.Records.{body_read}
use Rattle.byte_laws.specs.Bodies.{EachBodyLaw}

pub each_body : EachBodyLaw
each_body h k q r rest one other in_one in_other same =
    let p = ok_is (q, []) (r, rest) (sym (is_read h (body_of q) q one (refl, in_one)) ∙ ap body_at same
    ∙ body_read.again r rest (fits_record k r other in_other)) in
    (ap (λ (x : Record × List ℕ). x.0) p, sym (ap (λ (x : Record × List ℕ). x.1) p))
