use Rattle.std.proofs.Common.{◌≤◌, ◌+◌, length}
use Rattle.sentinel.proofs.ReadLemmas.{IsRead}
use Rattle.sentinel.proofs.file.VerdictFile.read.Given as goal

abbrev pub invariant-lines : goal.invariant-lines
invariant-lines l = record {
  read : IsRead l.bytes l.rest l.line l.words.entries;
  fits : l.line + length l.rest ≤ length l.bytes + 1;
}

abbrev pub decreases-lines : goal.decreases-lines
decreases-lines l = length l.rest
