use Rattle.std.proofs.Common.{◌≡◌, ◌≤◌, suc, max, sym, ◌∙◌, subst, arith, None, false}
use Rattle.gate_journal.specs.Shown.{broken_of}
use Rattle.cbdc_model.specs.Due.{last_late, done_due}
use Rattle.cbdc_model.specs.Slots.{InDiscard}
use Rattle.coord_core.specs.Lanes.{CoordOf, CoordAdmits, IsOwnLane}
use Rattle.coord_log.specs.Inside.{IsDue}
use Rattle.coord_log.proofs.Owed.{gave_ok, gave_err, own_lane, own_phase, done_owed, done_ready}
use Rattle.coord_log.proofs.log.CoordLog.done.Goals as goal

pub write_due-requires : goal.write_due-requires
write_due-requires g c =
    let sound = c.self.invariant in
    let whole : broken_of c.self.inside.node.log.journal ≡ None = sym c.is_broken.ensures ∙ c.in-None.is in
    let own : IsOwnLane c.self.inside.node.core.header c.args.lane =
    own_lane c.self.inside.node c.args.self.now c.args.lane c.self.view_is sound.on.header c.requires.own in
    let phase = own_phase c.self.inside.node c.args.self.now c.args.lane InDiscard c.self.view_is c.requires.discarded in
    let late : suc (max c.self.inside.node.core.last c.args.cause) ≤ last_late =
    omega (arith, c.after-stamp.ensures.value, c.stamp.view_is, c.if-stamp-gt-LAST_STAMP.false) in
    let N : CoordOf → Type 0 = λ x. CoordAdmits x c.done-next.result in
    let next = subst N c.done-next.ensures.same (c.done-next.ensures.next late) in
    let P : CoordOf → Type 0 = λ x. IsDue (record c.self.inside.node { core = x }) c.done-next.result in
    subst P (sym c.done-next.ensures.same)
    (done_ready c.self.inside.node c.args.lane (suc (max c.self.inside.node.core.last c.args.cause)) c.done-next.result c.after-stamp.ensures.whole
    sound whole own phase (omega arith) late
    c.done-next.ensures.«record» next)

pub returns-in-Err : goal.returns-in-Err
returns-in-Err g c =
    let core = c.self.inside.node.core in
    let whole : broken_of c.self.inside.node.log.journal ≡ None = sym c.is_broken.ensures ∙ c.in-None.is in
    let own : IsOwnLane c.self.inside.node.core.header c.args.lane =
    own_lane c.self.inside.node c.args.self.now c.args.lane c.self.view_is c.self.invariant.on.header c.requires.own in
    gave_err false (λ broken J. done_due c.args.lane c.args.cause broken J) c.self.inside.node c.write_due.new.node c.args.self.now
    c.after-stamp.result c.done-next.result c.in-Err.fault
    c.self.view_is
    (done_owed core _ _ c.args.lane c.args.cause c.after-stamp.result c.done-next.result c.self.invariant.on.stands own whole
    c.after-stamp.ensures.value
    (omega (arith, c.stamp.view_is, c.if-stamp-gt-LAST_STAMP.false)) c.done-next.ensures.«record»)
    c.in-Err.ensures.answered

pub returns : goal.returns
returns g c =
    let core = c.self.inside.node.core in
    let whole : broken_of c.self.inside.node.log.journal ≡ None = sym c.is_broken.ensures ∙ c.in-None.is in
    let own : IsOwnLane c.self.inside.node.core.header c.args.lane =
    own_lane c.self.inside.node c.args.self.now c.args.lane c.self.view_is c.self.invariant.on.header c.requires.own in
    gave_ok false (λ broken J. done_due c.args.lane c.args.cause broken J) c.self.inside.node c.write_due.new.node c.args.self.now
    c.after-stamp.result c.done-next.result tt
    c.self.view_is
    (done_owed core _ _ c.args.lane c.args.cause c.after-stamp.result c.done-next.result c.self.invariant.on.stands own whole
    c.after-stamp.ensures.value
    (omega (arith, c.stamp.view_is, c.if-stamp-gt-LAST_STAMP.false)) c.done-next.ensures.«record»)
    c.in-Ok.ensures.answered
