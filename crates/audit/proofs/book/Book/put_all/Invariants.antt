use Rattle.std.proofs.Common.{take}
use Rattle.cbdc_model.specs.Book.{Book, put_all}
use Rattle.cbdc_model.specs.Coins.{made_coins}
use Rattle.audit.specs.Keeping.{HasBook}
use Rattle.audit.proofs.book.Book.put_all.Given as goal

abbrev pub invariant-outputs : goal.invariant-outputs
invariant-outputs l = (b : Book) → HasBook l.initial.self b → HasBook l.self (put_all b (made_coins l.id 0 (take l.index l.outputs)))
