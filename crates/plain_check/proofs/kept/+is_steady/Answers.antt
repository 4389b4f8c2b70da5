use Rattle.std.proofs.Common.{◌∙◌}
use Rattle.cbdc_model.specs.Records.{journal}
use Rattle.cbdc_model.specs.After.{After}
use Rattle.cbdc_model.specs.Clean.{IsProperCompact}
use Rattle.cbdc_model.specs.Causes.{IsCaused}
use Rattle.cbdc_model.specs.History.{header_of, TxsPass, IsSteady}
use Rattle.plain_check.specs.Minting.{compact_mint}
use Rattle.plain_check.proofs.Propers.{told_of}
use Rattle.plain_check.proofs.Firsts.{steady_past, steady_more}
use Rattle.plain_check.proofs.kept.+is_steady.Goals as goal

pub may_stand-requires : goal.may_stand-requires
may_stand-requires t c = λ n le.
    steady_past c.args.shape.now (compact_mint c.args.mint.now) (IsProperCompact c.args.submissions.now) c.in-Some.rest.now c.args.first.now
    c.as_slice.result.now n c.requires
    (c.as_slice.ensures ∙ c.in_ok-rows.ensures) (c.in_ok-is_steady.ensures.0 c.if-not-branch.false) le

pub returns : goal.returns
returns t c =
    told_of c.may_stand.result ((After (header_of c.args.shape.now c.args.mint.now.id c.in-Some.row.now.node)
    (journal c.in-Some.row.now.node c.as_slice.result.now) c.in-Some.row.now.what
    × TxsPass (IsProperCompact c.args.submissions.now) c.in-Some.row.now.what)
    × IsCaused c.args.shape.now (λ n. journal n c.as_slice.result.now) c.in-Some.row.now.node c.in-Some.row.now.what)
    (IsSteady c.args.shape.now (compact_mint c.args.mint.now) (IsProperCompact c.args.submissions.now) c.args.later.now)
    (λ told h. steady_more c.args.shape.now (compact_mint c.args.mint.now) (IsProperCompact c.args.submissions.now) c.args.later.now
    c.in-Some.row.now c.in-Some.rest.now c.args.first.now
    c.as_slice.result.now told c.in-Some.ensures.cases.0 c.requires (c.as_slice.ensures ∙ c.in_ok-rows.ensures)
    (c.in_ok-is_steady.ensures.0 c.if-not-branch.false) h)
    c.may_stand.ensures
