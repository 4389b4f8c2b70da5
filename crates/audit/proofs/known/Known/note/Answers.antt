use Rattle.std.proofs.Common.{◌∙◌, ap, cond, Some, eqb, nat_eq}
use Rattle.std.specs.HashMap.{get}
use Rattle.audit.proofs.Finding.{noted}
use Rattle.audit.proofs.known.Known.note.Goals as goal

pub returns : goal.returns
returns c = λ all past inside is h.
    noted all c.args.self.now _ c.args.node c.args.index c.args.r.now past inside is c.in_ok-keep.ensures.kept
    (λ q. c.in_ok-insert.ensures.updates.0 q ∙ ap (λ m. cond (eqb c.args.node q) (Some c.stamp_of.result) (get nat_eq m q)) c.keep.ensures.stamps
    ∙ ap (λ s. cond (eqb c.args.node q) (Some s) (get nat_eq c.args.self.now.stamps q)) c.stamp_of.ensures) h
