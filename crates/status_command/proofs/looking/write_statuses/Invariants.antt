use Rattle.std.proofs.Common.{◌≤◌}
use Rattle.std.specs.Iterator.Adapters.{zip_first, zip_second}
use Rattle.status_command.specs.Texts.{told_lines}
use Rattle.status_command.proofs.Lines.{Goes}
use Rattle.status_command.proofs.looking.write_statuses.Given as goal

abbrev pub invariant-hashes : goal.invariant-hashes
invariant-hashes g l = record {
  count : g.O.Sink.count l.initial.out ≤ g.O.Sink.count l.out;
  text : Goes (g.O.Sink.taken l.initial.out) (g.O.Sink.taken l.out) (told_lines l.hashes l.statuses) (zip_first l.hash-iterator).rest.now
      (zip_second l.hash-iterator).rest.now;
}
