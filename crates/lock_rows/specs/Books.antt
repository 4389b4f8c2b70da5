-- What is seen of a book, and what it does.
use Rattle.std.specs.Prelude.{◌≡◌, ◌∷◌, length, map, reverse, Bool, true, false, None, IfOk}
use Rattle.cbdc_model.specs.Records.{Record, Forget}
use Rattle.cbdc_model.specs.Sights.{Sight}
use Rattle.lock_rows.specs.declared.book.Book.{Book}
use Rattle.lock_rows.specs.declared.book.Line.{Line}
use Rattle.lock_rows.specs.declared.book.Ask.{Ask}
use Rattle.lock_rows.specs.declared.book.Ask.TheVariants.{Count, Lines}
use Rattle.lock_rows.specs.declared.book.Answer.{Answer}
use Rattle.lock_rows.specs.declared.book.Answer.TheVariants.{Counted, Listed}

-- a line is written down as a Forget of its lane, with its number
abbrev pub line_record : Line → Record
line_record l = Forget l.number (record { lane = l.lane; number = l.number })

-- nothing is ever in flight
abbrev pub sight_of : Book → Sight
sight_of b = record { header = b.header; seen = map line_record (reverse b.lines.items); flight = None; faults = 0; opened = 0; capacity = 0 }

-- the line is written down, or there was no memory
abbrev pub BookWrites : Sight → Line → Sight → Bool → Type 0
BookWrites s l t true = t.seen ≡ line_record l ∷ s.seen
BookWrites s l t false = t.seen ≡ s.seen

-- what the journal says; its lines the oldest first
abbrev pub BookTells : Sight → Ask → Answer → Type 0
BookTells s Count (Counted n) = n ≡ length s.seen
BookTells s Lines (Listed all) = IfOk all (λ ls. map line_record (reverse ls.items) ≡ s.seen)
BookTells s ask answer = ⊥
