use Rattle.std.proofs.Common.{◌≡◌, map, take, Ok}
use Rattle.std.specs.Borrow.{Bor}
use Rattle.hex.specs.Hex.{decode_of}
use Rattle.clap.specs.Words.{Text}
use Rattle.command_line.proofs.request.hashes_of.Given as goal

abbrev pub invariant-given : goal.invariant-given
invariant-given l = map decode_of (map (λ (t : Bor Text). t.now) (take l.text-index l.given)) ≡ map (λ h. Ok h) l.hashes.items
