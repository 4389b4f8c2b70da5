use Rattle.std.proofs.Common.{◌≡◌, ◌+◌, ◌∙◌, Some, sym, ap, subst}
use Rattle.std.specs.Prelude.{IsTrue}
use Rattle.cbdc_model.specs.World.{IsHistory}
use Rattle.plain_check.specs.Journals.{journals_in}
use Rattle.plain_check.specs.Merging.{later_below}
use Rattle.plain_check.specs.Minting.{compact_mint}
use Rattle.plain_check.proofs.Propers.{no_lie}
use Rattle.plain_check.proofs.Merging.{made_history, made_later}
use Rattle.plain_check.proofs.ledgers.later_of.Goals as goal

pub returns-then-not-branch-clause-found : goal.returns-then-not-branch-clause-found
returns-then-not-branch-clause-found c =
    let K = c.args.shape.now in
    let m = compact_mint c.args.mint.now in
    let J = journals_in c.args.journals.now in
    let rows_are : later_below J (K.coordinators + K.shards) ≡ c.as_slice.result.now =
    sym (c.as_slice.ensures ∙ c.in_ok-later.ensures ∙ ap (later_below J) c.node_count.ensures.value) in
    λ later history on. absurd (no_lie (subst IsTrue c.if-not-branch.true (c.in_ok-is_history.ensures.1
    (subst (λ l. IsHistory K m J l) rows_are (made_history K m J later history on)))))

pub returns-clause-is : goal.returns-clause-is
returns-clause-is c =
    subst (λ l. IsHistory c.args.shape.now (compact_mint c.args.mint.now) (journals_in c.args.journals.now) l) c.as_slice.ensures
    (c.in_ok-is_history.ensures.0 c.if-not-branch.false)

pub returns-clause-found : goal.returns-clause-found
returns-clause-found c =
    let K = c.args.shape.now in
    let m = compact_mint c.args.mint.now in
    let J = journals_in c.args.journals.now in
    λ later history on. ap Some (c.in_ok-later.ensures ∙ ap (later_below J) c.node_count.ensures.value ∙ sym (made_later K m J later history on))
