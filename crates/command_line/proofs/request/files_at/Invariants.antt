use Rattle.std.proofs.Common.{map, take}
use Rattle.std.specs.Borrow.{Bor}
use Rattle.clap.specs.Words.{Text}
use Rattle.command_line.specs.Words.{AreFiles, texts}
use Rattle.command_line.proofs.request.files_at.Given as goal

abbrev pub invariant-names : goal.invariant-names
invariant-names l = AreFiles (texts l.words) (take l.index l.places) (map (λ (n : Bor Text). n.now) (take l.index l.names)) l.files.items
