use Rattle.std.proofs.Common.{take, Some, true}
use Rattle.cbdc_model.specs.Book.{Book, take_all}
use Rattle.audit.specs.Keeping.{HasBook, HasRest}
use Rattle.audit.proofs.book.Book.take_all.Given as goal

abbrev pub invariant-coins : goal.invariant-coins
invariant-coins l = (b : Book) → HasBook l.initial.self b → HasRest true l.self (take_all (Some b) (take l.at l.coins))
