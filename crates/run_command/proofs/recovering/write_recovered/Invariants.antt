use Rattle.std.proofs.Common.{◌≤◌, ◌++◌, drop, length}
use Rattle.line_text.specs.Reports.{recovery_text}
use Rattle.run_command.specs.Texts.{batch_texts}
use Rattle.command_answers.proofs.Parts.{Goes}
use Rattle.run_command.proofs.recovering.write_recovered.Given as goal

abbrev pub invariant-batches : goal.invariant-batches
invariant-batches g l = record {
  count : g.O.Sink.count l.initial.out ≤ g.O.Sink.count l.out;
  text : Goes (g.O.Sink.taken l.initial.out) (g.O.Sink.taken l.out)
      (batch_texts l.recovered.resumed.items ++ recovery_text (length l.recovered.resumed.items) l.recovered.unspent)
      (batch_texts (drop l.resumed-index l.recovered.resumed.items) ++ recovery_text (length l.recovered.resumed.items) l.recovered.unspent);
}
