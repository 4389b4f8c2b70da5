use Rattle.std.proofs.Common.{sym, subst}
use Rattle.audit.specs.Keeping.{HasRest}
use Rattle.cbdc_model.specs.Book.{take_out}
use Rattle.audit.proofs.Books.{take_kept, take_none}
use Rattle.audit.proofs.book.Book.take_out.Goals as goal

pub returns-in-Some : goal.returns-in-Some
returns-in-Some c = λ b h.
    subst (λ t. HasRest t (record { outputs = c.remove.new.self }) (take_out b c.args.coin.now)) (sym c.is_same_output.ensures)
    (take_kept c.args.self.now _ b c.args.coin.now c.in-Some.output h c.in-Some.ensures.value c.in-Some.ensures.updates c.in-Some.ensures.entries
    c.in-Some.ensures.len)

pub returns-in-None : goal.returns-in-None
returns-in-None c = λ b h. take_none c.args.self.now (record { outputs = c.remove.new.self }) b c.args.coin.now h c.in-None.ensures.value
