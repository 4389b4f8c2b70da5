use Rattle.std.proofs.Common.{◌≡◌, ◌*◌, ◌%◌, ◌<◌, List, length}
use Rattle.std.specs.List.{AllZip}
use Rattle.cbdc_model.specs.Coins.{FullTx}
use Rattle.submissions.specs.Checks.{VerdictsOf, IsRuled, AreSentFrom}
use Rattle.submissions.proofs.Placing.{PlacedTo}
use Rattle.submissions.proofs.deal.Given as goal

abbrev pub invariant-submissions : goal.invariant-submissions
invariant-submissions l = record {
  same : length l.lanes.items ≡ l.fn.shape.coordinators * l.fn.shape.lanes;
  count : l.count ≡ l.fn.shape.coordinators * l.fn.shape.lanes;
  lane : l.lane ≡ length l.yielded % (l.fn.shape.coordinators * l.fn.shape.lanes);
  within : l.lane < l.fn.shape.coordinators * l.fn.shape.lanes;
  sound : (verdicts : VerdictsOf) (txs : List FullTx) → AllZip (IsRuled verdicts) txs l.fn.ruled.items → AreSentFrom verdicts txs l.lanes.items;
  placed : (verdicts : VerdictsOf) (txs : List FullTx) → AllZip (IsRuled verdicts) txs l.fn.ruled.items
      → PlacedTo l.fn.shape verdicts txs (length l.yielded) l.lanes.items l.checked.items;
}
