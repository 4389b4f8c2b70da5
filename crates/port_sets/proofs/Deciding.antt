-- What a call that decides gave.
use Rattle.std.proofs.Common.{ℕ, List, [], Result}
use Rattle.cbdc_types.specs.declared.calls.NodeFault.{NodeFault}
use Rattle.cbdc_model.specs.Records.{Outcome}
use Rattle.cbdc_model.specs.Sights.{Sight}
use Rattle.port_sets.specs.declared.coordinators.LogCall.{LogCall}
use Rattle.port_sets.specs.declared.coordinators.LogCall.TheVariants.{Prepare, Decide, Discard, Done}
use Rattle.port_sets.specs.declared.coordinators.LogReply.TheVariants.{Stamped}
use Rattle.port_sets.specs.Logs.{Decides, log_gives}

-- the outcomes that were filled in
abbrev pub outs_of : LogCall → List Outcome
outs_of (Decide lane replies out) = out.now.items
outs_of other = []

abbrev pub MadeDecides : Sight → LogCall → Sight → List Outcome → Result ℕ NodeFault → Type 0
MadeDecides s (Decide lane replies out) t os r = Decides lane replies.now s t os r
MadeDecides s other t os r = Unit {0}

pub decided : (s t : Sight) (made now : LogCall) (r : Result ℕ NodeFault) → log_gives s made t now (Stamped r) → MadeDecides s made t (outs_of now) r
decided s t (Decide lane replies out) (Decide l q new) r g = g.0
decided s t (Decide lane replies out) (Prepare l txs) r g = absurd g
decided s t (Decide lane replies out) (Discard l cause) r g = absurd g
decided s t (Decide lane replies out) (Done l cause) r g = absurd g
decided s t (Prepare lane txs) now r g = tt
decided s t (Discard lane cause) now r g = tt
decided s t (Done lane cause) now r g = tt
