use Rattle.std.proofs.Common.{◌≡◌, true, false, List, sym, ap, ◌∙◌}
use Rattle.cbdc_model.specs.Records.{Digest}
use Rattle.cbdc_model.specs.Status.{has}
use Rattle.shard_core.proofs.Claims.{in_few, in_many}
use Rattle.shard_core.proofs.claiming.Claims.contains.Goals as goal

pub returns-then-is_listed : goal.returns-then-is_listed
returns-then-is_listed c =
    let listed = c.if-is_listed.true in
    let here : has c.self.inside.few.items c.args.x.now ≡ true =
    ap (λ (hs : List Digest). has hs c.args.x.now) (sym c.as_slice.ensures.value) ∙ sym c.is_listed.ensures ∙ listed in
    rw (← c.self.view_is) (listed ∙ in_few c.self.inside.few.items c.self.inside.many.hashes c.args.x.now here)

pub returns-else-is_listed : goal.returns-else-is_listed
returns-else-is_listed c =
    let not : has c.self.inside.few.items c.args.x.now ≡ false =
    ap (λ (hs : List Digest). has hs c.args.x.now) (sym c.as_slice.ensures.value) ∙ sym c.is_listed.ensures ∙ c.if-is_listed.false in
    rw (← c.self.view_is) (c.contains.ensures ∙ in_many c.self.inside.few.items c.self.inside.many.hashes c.args.x.now not)
