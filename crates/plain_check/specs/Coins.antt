-- The book that a list of coins is: where two stand at one outpoint, the first counts.
use Rattle.std.specs.Prelude.{ℕ, List, map}
use Rattle.std.specs.FinMap as book
use Rattle.cbdc_model.specs.Coins.{Coin, Output}
use Rattle.cbdc_model.specs.Book.{Book, key}

-- a coin as the book has it: the output, under its outpoint
abbrev pub coin_entry : Coin → List ℕ × Output
coin_entry c = (key c.point, c.output)

-- the book that a list of coins is
abbrev pub book_of : List Coin → Book
book_of coins = book.from_entries (map coin_entry coins)
