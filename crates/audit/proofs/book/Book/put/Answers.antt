use Rattle.audit.proofs.Books.{outpoint, put_kept}
use Rattle.audit.proofs.book.Book.put.Goals as goal

pub returns : goal.returns
returns c = λ b h.
    put_kept c.args.self.now _ b (outpoint c.args.id.now c.args.index) c.args.output.now c.in_ok-insert.field-0 h
    c.in_ok-insert.ensures.old c.in_ok-insert.ensures.updates c.in_ok-insert.ensures.entries c.in_ok-insert.ensures.len
