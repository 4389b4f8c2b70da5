use Rattle.audit.proofs.Books.{empty_kept}
use Rattle.audit.proofs.book.Book.new.Goals as goal

pub returns : goal.returns
returns c = empty_kept _ c.new.ensures.empty
