use Rattle.std.proofs.Common.{drop}
use Rattle.cbdc_types.specs.declared.answer.Answer.{Answer}
use Rattle.rack_ledgers.specs.Slots.{AreNotRefused, IsFirstNodeRefusal}
use Rattle.rack_ledgers.proofs.at_once.first_refusal.Given as goal

abbrev pub invariant-slots : goal.invariant-slots
invariant-slots g l = record {
  none : AreNotRefused (drop l.slot-index l.slots) → AreNotRefused l.slots;
  first : (e : Answer) → IsFirstNodeRefusal (drop l.slot-index l.slots) e → IsFirstNodeRefusal l.slots e;
}
