use Rattle.std.proofs.Common.{◌≡◌, ◌*◌, ◌^◌, ◌≤◌, take}
use Rattle.cbdc_model.specs.Clean.{value_out}
use Rattle.ledger_init.proofs.dealing.total_of.Given as goal

abbrev pub invariant-outputs : goal.invariant-outputs
invariant-outputs l = record {
  sum : l.total ≡ value_out (take l.output-index l.outputs);
  bound : l.total ≤ l.output-index * 2 ^ 64;
}
