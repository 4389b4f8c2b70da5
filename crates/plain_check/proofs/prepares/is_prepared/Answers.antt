use Rattle.std.proofs.Common.{◌++◌, reverse, ◌∙◌, ap}
use Rattle.cbdc_model.specs.Waves.{prepared}
use Rattle.plain_check.proofs.Cutting.{prepared_by}
use Rattle.plain_check.proofs.prepares.is_prepared.Goals as goal

pub returns : goal.returns
returns c =
    let lane = c.args.lane in
    let wanted = c.as_slice-2.ensures.value ∙ c.in_ok-add_prepared.ensures
    ∙ ap (λ l. l ++ prepared lane c.args.old.now) (c.reverse.ensures.items ∙ ap reverse c.into_vec-wanted.ensures) in
    prepared_by c.args.shape.now lane c.batch.result c.args.sent.now c.args.old.now c.args.new.now c.in_ok-pieces_of.field-0 c.as_slice.result.now
    c.as_slice-2.result.now c.are_lists.result
    c.batch.ensures.value c.in_ok-pieces_of.ensures (c.as_slice.ensures ∙ c.in_ok-found.ensures) wanted c.are_lists.ensures
