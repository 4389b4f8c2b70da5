use Rattle.std.proofs.Common.{◌≡◌, ◌-◌, length, arith}
use Rattle.plain_check.specs.Journals.{journals_in}
use Rattle.plain_check.specs.Adding.{MayAdd}
use Rattle.plain_check.proofs.Growing.{grows_cut}
use Rattle.plain_check.proofs.adding.has_grown.Goals as goal

pub returns-then-is_journal : goal.returns-then-is_journal
returns-then-is_journal c =
    let before = c.journal_of-before.result.now in
    let after = c.journal_of-after.result.now in
    let l : length c.split_at.result.1.now ≡ length before = omega (arith, c.split_at.ensures.back_len) in
    grows_cut (MayAdd c.args.resumes c.args.shape.now (journals_in c.args.old.now) (journals_in c.args.new.now))
    (journals_in c.args.old.now c.args.node) (journals_in c.args.new.now c.args.node)
    before after c.split_at.result.0.now c.split_at.result.1.now (length after - length before) c.are_new.result c.journal_of-before.ensures
    c.journal_of-after.ensures
    c.split_at.ensures.front c.split_at.ensures.back l (c.is_journal.ensures.0 c.if-is_journal.true) c.are_new.ensures
