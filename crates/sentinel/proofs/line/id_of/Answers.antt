use Rattle.std.proofs.Common.{rules, ◌≡◌, sym, ◌∙◌, ap}
use Rattle.std.proofs.lemmas.Bool.Decides.{Decides-eqb}
use Rattle.std.proofs.lemmas.Slice.Eq.{slice_eq-Decides}
use Rattle.hex.specs.Hex.{encode_lower}
use Rattle.sentinel.proofs.LineLemmas.{decoded_id, id_bytes}
use Rattle.sentinel.proofs.line.id_of.Goals as goal

pub returns-then-is_err-clause-id : goal.returns-then-is_err-clause-id
returns-then-is_err-clause-id c = λ tx size bytes is.
    let found = decoded_id c.args.digits.now c.decode_to_slice.result c.decode_to_slice.new.out tx c.decode_to_slice.ensures.value size bytes is in
    let ok = found.0 in
    let value = c.is_err.ensures.value in
    let err = c.if-is_err.true in
    absurd (let both = rw ok at value in cc)

pub returns-then-eq-clause-bytes : goal.returns-then-eq-clause-bytes
returns-then-eq-clause-bytes c = id_bytes c.args.digits.now c.decode_to_slice.result c.decode_to_slice.new.out c.decode_to_slice.ensures.value
    (sym c.is_err.ensures.value ∙ c.if-is_err.false)

pub returns-clause-id : goal.returns-clause-id
returns-clause-id c = λ tx size bytes is.
    let found = decoded_id c.args.digits.now c.decode_to_slice.result c.decode_to_slice.new.out tx c.decode_to_slice.ensures.value size bytes is in
    let written : c.encode_to_slice.new.output ≡ encode_lower c.decode_to_slice.new.out = search rules in
    let same = is ∙ ap encode_lower (sym found.1) ∙ sym written in
    let equal = (slice_eq-Decides Decides-eqb _ _ _ c.eq.ensures).1 (same ∙ sym c.as_slice.ensures) in
    cc
