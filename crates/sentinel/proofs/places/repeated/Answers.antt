use Rattle.std.proofs.Common.{rules, ◌<◌, length, arith}
use Rattle.std.proofs.lemmas.Option.{slice_get_within}
use Rattle.sentinel.specs.FirstRefusal.{Repeats}
use Rattle.sentinel.proofs.PlaceLemmas.{none_further}
use Rattle.sentinel.proofs.places.repeated.Goals as goal

pub inputs-preserved : goal.inputs-preserved
inputs-preserved c = none_further (Repeats c.args.inputs.now) c.inputs.index (search rules) c.inputs.invariant

pub returns : goal.returns
returns c = λ i (x, at, earlier). let within : i < length c.args.inputs.now = slice_get_within c.args.inputs.now i x at in
    c.inputs.invariant i (omega arith) (x, at, earlier)
