use Rattle.std.proofs.Common.{◌≡◌, ◌∙◌, Some, None, sym, ap, subst}
use Rattle.std.specs.Option.{option_copied}
use Rattle.audit.specs.Rows.{read}
use Rattle.audit.specs.Knowing.{index_of}
use Rattle.audit.proofs.Finding.{found_some, found_none}
use Rattle.audit.proofs.known.Known.found.Goals as goal

pub returns-in-Some : goal.returns-in-Some
returns-in-Some c = λ J h.
    found_some (read c.args.journals.now) c.args.self.now J c.args.node c.args.kind c.args.batch.now c.in-Some.index.now c.record_if_there.result h
    (subst (λ b. index_of c.args.self.now c.args.node c.args.kind b ≡ Some c.in-Some.index.now) c.batch.view_is
    (sym c.get.ensures.value ∙ ap option_copied c.in-Some.is)) c.record_if_there.ensures

pub returns-in-None : goal.returns-in-None
returns-in-None c = λ J h.
    found_none (read c.args.journals.now) c.args.self.now J c.args.node c.args.kind c.args.batch.now h
    (subst (λ b. index_of c.args.self.now c.args.node c.args.kind b ≡ None) c.batch.view_is (sym c.get.ensures.value ∙ ap option_copied c.in-None.is))
