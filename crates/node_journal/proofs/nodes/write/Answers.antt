use Rattle.std.proofs.Common.{rules, false, Some, Err, refl, sym, ap, ◌∙◌}
use Rattle.node_journal.specs.Answered.{one_write}
use Rattle.node_journal.specs.Sound.{view_of}
use Rattle.cbdc_types.specs.declared.calls.NodeFault.TheVariants.{DiskFault}
use Rattle.node_journal.specs.Writing.{HasBroken}
use Rattle.node_journal.specs.declared.nodes.Node.{Node}
use Rattle.node_journal.proofs.Answered.{answered_wrote, answered_failed}
use Rattle.node_journal.proofs.Behind.{shown_appends, shown_fails}
use Rattle.node_journal.proofs.Leaving.{to_journal, from_journal, to_broken, written_between, failed_between}
use Rattle.node_journal.proofs.Sound.{row_fits, has_kept, written, failed}
use Rattle.node_journal.proofs.nodes.write.Goals as goal

pub returns-in-Ok-clause-written : goal.returns-in-Ok-clause-written
returns-in-Ok-clause-written g c =
    let w = c.write.ensures in
    let k = c.keep.ensures in (
      has_kept c.args.node.now.log c.write.new.self c.keep.new.self c.args.next w.records w.header c.in-Ok.ensures.grows w.limit w.later w.keeps
          k.journal k.kept k.header k.room,
      c.apply.ensures.takes,
      c.apply.ensures.header,
    )

pub returns-in-Ok-clause-node : goal.returns-in-Ok-clause-node
returns-in-Ok-clause-node g c =
    let w = c.write.ensures in
    let k = c.keep.ensures in
    let kept = has_kept c.args.node.now.log c.write.new.self c.keep.new.self c.args.next w.records w.header c.in-Ok.ensures.grows w.limit w.later
    w.keeps k.journal k.kept k.header k.room in
    written g.C.Core.kind c.args.node.now _ c.args.next c.requires.node c.requires.whole c.requires.after kept refl refl

pub returns-in-Ok-clause-answered : goal.returns-in-Ok-clause-answered
returns-in-Ok-clause-answered g c =
    let p = c.args.node.now in
    let w = c.write.ensures in
    let k = c.keep.ensures in
    let new : Node g.row.C.Denot g.row.D.Denot g.D.Disk =
    record { log = c.keep.new.self; core = c.apply.new.self; opened = p.opened; flight = p.flight } in
    let kept = has_kept p.log c.write.new.self c.keep.new.self c.args.next w.records w.header c.in-Ok.ensures.grows w.limit w.later w.keeps k.journal
    k.kept k.header k.room in
    let is = written g.C.Core.kind p new c.args.next c.requires.node c.requires.whole c.requires.after kept refl refl in
    answered_wrote g.D.Disk false (one_write c.args.next) (view_of p) (view_of new) tt c.args.next refl
    (shown_appends p.log new.log p.opened p.opened p.flight p.flight c.args.next kept refl refl) (kept.broken ∙ sym c.requires.whole) is.journal
    (λ old. to_journal new.log p.opened p.flight (c.requires.node.landed c.requires.whole)
    (rw (k.journal, kept.records) (c.in-Ok.ensures.written p.log.records.items (from_journal p.log p.opened p.flight c.requires.whole old))))
    (λ old. written_between p.log new.log p.opened p.flight c.args.next (c.requires.node.landed c.requires.whole) kept.records
    (rw k.journal (w.leaves p.log.records.items (from_journal p.log p.opened p.flight c.requires.whole old))))

pub returns-in-Err-DiskFault-clause-node : goal.returns-in-Err-DiskFault-clause-node
returns-in-Err-DiskFault-clause-node g c =
    let w = c.write.ensures in
    let is = c.in-Err-DiskFault.is ∙ ap (λ e. Err e) c.in-Err-DiskFault.field-0-is in
    let broken : HasBroken c.args.node.now.log c.write.new.self =
    record { records = w.records; header = w.header; broken = w.broken is; limit = w.limit; rose = w.fault is; later = w.later } in
    failed g.C.Core.kind c.args.node.now _ c.args.next c.requires.node c.requires.after c.requires.need broken refl refl

pub returns-in-Err-DiskFault-clause-answered : goal.returns-in-Err-DiskFault-clause-answered
returns-in-Err-DiskFault-clause-answered g c =
    let p = c.args.node.now in
    let w = c.write.ensures in
    let is = c.in-Err-DiskFault.is ∙ ap (λ e. Err e) c.in-Err-DiskFault.field-0-is in
    let broken : HasBroken p.log c.write.new.self =
    record { records = w.records; header = w.header; broken = w.broken is; limit = w.limit; rose = w.fault is; later = w.later } in
    let new : Node g.row.C.Denot g.row.D.Denot g.D.Disk =
    record { log = c.write.new.self; core = p.core; opened = p.opened; flight = Some c.args.next } in
    let stays = failed g.C.Core.kind p new c.args.next c.requires.node c.requires.after c.requires.need broken refl refl in
    answered_failed g.D.Disk false (one_write c.args.next) (view_of p) (view_of new) tt c.args.next DiskFault refl refl
    (shown_fails p.log new.log p.opened p.opened p.flight new.flight c.args.next broken refl refl) broken.broken stays.journal
    (λ old. to_broken new.log p.log.records.items p.opened c.args.next w.records broken.broken
    (w.leaves p.log.records.items (from_journal p.log p.opened p.flight c.requires.whole old)).now)
    (λ old. failed_between p.log new.log p.opened p.flight c.args.next w.records
    (w.leaves p.log.records.items (from_journal p.log p.opened p.flight c.requires.whole old)))

pub unreachable-requires : goal.unreachable-requires
unreachable-requires g c =
    let room = row_fits g.C.Core.kind c.args.node.now c.args.next c.requires.node c.requires.whole c.requires.after c.requires.need in
    search (rules, room)
