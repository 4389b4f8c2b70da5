use Rattle.std.proofs.Common.{◌≡◌, ◌≤◌, ◌+◌, ◌++◌, drop, min}
use Rattle.run_lines.specs.Told.{told_files}
use Rattle.command_answers.proofs.Parts.{Goes}
use Rattle.run_lines.proofs.report.write_waves.Given as goal

abbrev pub invariant-waves : goal.invariant-waves
invariant-waves g l = record {
  count : g.O.Sink.count l.initial.out ≤ g.O.Sink.count l.out;
  at : l.file ≡ min (l.wave-index + 1) 18446744073709551615;
  text : Goes (g.O.Sink.taken l.initial.out) (g.O.Sink.taken l.out) (told_files 1 l.waves)
      (l.page.text.items ++ told_files (l.wave-index + 1) (drop l.wave-index l.waves));
}
