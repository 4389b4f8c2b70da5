-- What a look at a node that lanes share is told, by what is seen of the node.
use Rattle.std.specs.Prelude.{◌≡◌, reverse, Result, IfOk}
use Rattle.std.specs.Global.{Vec}
use Rattle.cbdc_model.specs.Records.{Record}
use Rattle.cbdc_model.specs.Lanes.{IsEnd}
use Rattle.cbdc_model.specs.Sights.{Sight}
use Rattle.node_lock.specs.declared.views.Hand.{Hand}
use Rattle.cbdc_model.specs.Status.{status}
use Rattle.port_sets.specs.declared.looking.ShardAsk.{ShardAsk}
use Rattle.port_sets.specs.declared.looking.ShardAsk.TheVariants.{Status, Records}
use Rattle.port_sets.specs.declared.looking.ShardAnswer.{ShardAnswer}
use Rattle.port_sets.specs.declared.looking.ShardAnswer.TheVariants.{Known, Listed}

-- all records, the oldest first, or there was no memory
abbrev pub lists_all : {E : Type 0} → Sight → Result (Vec Record) E → Type 0
lists_all s all = IfOk all (λ rs. reverse rs.items ≡ s.seen)

-- what the journal says of a hash, or all its records
abbrev pub tells_of : Sight → ShardAsk → ShardAnswer → Type 0
tells_of s (Status x) (Known told) = told ≡ status s.seen x
tells_of s (Records alloc) (Listed all) = lists_all s all
tells_of s ask answer = ⊥

-- a look for all records: the seat has written nothing, what it had seen is a beginning of what it has seen then, and that is what it was told, or
-- there was no memory
pub record HasListed {E : Type 0} (old new : Hand) (all : Result (Vec Record) E) : Type 0 where
  pub lane : new.lane ≡ old.lane
  pub made : new.made ≡ old.made
  pub left : new.left ≡ old.left
  pub grows : IsEnd old.seen new.seen
  pub listed : IfOk all (λ rs. reverse rs.items ≡ new.seen)
