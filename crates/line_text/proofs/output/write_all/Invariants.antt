use Rattle.std.proofs.Common.{◌≡◌, ◌-◌, ◌≤◌, ◌++◌, Some, length, take}
use Rattle.outside.specs.Images.{Tells}
use Rattle.line_text.proofs.output.write_all.Given as goal

abbrev pub invariant-loop-at : goal.invariant-loop-at
invariant-loop-at g l = record {
  inside : l.at ≤ length l.bytes;
  later : g.O.Sink.count l.initial.out ≤ g.O.Sink.count l.out;
  written : Tells (g.O.Sink.taken l.initial.out) (λ t. g.O.Sink.taken l.out ≡ Some (t ++ take l.at l.bytes));
}

abbrev pub decreases-loop-at : goal.decreases-loop-at
decreases-loop-at g l = length l.bytes - l.at
