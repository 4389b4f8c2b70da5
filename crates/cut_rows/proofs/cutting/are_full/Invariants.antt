use Rattle.std.proofs.Common.{◌<◌, ℕ, length}
use Rattle.audit.specs.Rows.{read, journal_in}
use Rattle.cut_rows.proofs.cutting.are_full.Given as goal

abbrev pub invariant-lists : goal.invariant-lists
invariant-lists l = (n : ℕ) → n < l.n → 0 < length (journal_in (read l.lists) n)
