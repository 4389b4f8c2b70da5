use Rattle.std.proofs.Common.{◌≡◌, ◌≤◌, ◌++◌, drop}
use Rattle.run_lines.specs.Told.{told_file}
use Rattle.command_answers.proofs.Parts.{Goes}
use Rattle.run_lines.proofs.report.gather_wave.Given as goal

abbrev pub invariant-lines : goal.invariant-lines
invariant-lines g l = record {
  count : g.O.Sink.count l.initial.out ≤ g.O.Sink.count l.out;
  at : l.place ≡ l.one-index;
  text : Goes (g.O.Sink.taken l.initial.out) (g.O.Sink.taken l.out)
      (l.initial.page.text.items ++ told_file l.file 0 l.wave.lanes.items l.wave.checked.items)
      (l.page.text.items ++ told_file l.file l.one-index l.wave.lanes.items (drop l.one-index l.wave.checked.items));
}
