use Rattle.std.proofs.lemmas.Grind.{common_steps}
use Rattle.std.proofs.Common.{◌≡◌, true, ◌≤◌, ◌<◌, ◌∷◌, [], Err, List, suc, refl, ap, sym, ◌∙◌, subst, arith, length, reverse, None, Some, false, Ok}
use Rattle.std.specs.Prelude.{All}
use Rattle.gate_journal.specs.Shown.{broken_of}
use Rattle.cbdc_types.specs.declared.calls.NodeFault.TheVariants.{Broken, ClockEnd}
use Rattle.cbdc_model.specs.Records.{Header, Record, Outcome, is_in_lane, txs_of, outcomes_in, Commit}
use Rattle.cbdc_model.specs.Grammar.{IsOutcome}
use Rattle.cbdc_model.specs.Slots.{InPrepare}
use Rattle.cbdc_model.specs.Due.{Answers, last_late, open_batch, decide_due}
use Rattle.std.proofs.lemmas.List.{length-map}
use Rattle.coord_core.specs.Masks.{mask_of}
use Rattle.coord_core.proofs.Walks.{length-combined}
use Rattle.coord_core.specs.Decided.{latest_reply, combined_outcomes, AreRepliesTo}
use Rattle.coord_core.specs.Hashes.{AllNameBatches}
use Rattle.coord_core.specs.Lanes.{IsOwnLane, coord_lane, core_batch}
use Rattle.coord_log.specs.Logs.{commit_due}
use Rattle.node_journal.specs.Nodes.{NodeOf}
use Rattle.node_journal.specs.Sound.{view_of}
use Rattle.coord_log.proofs.Owed.{told_ok, told_err, own_lane, own_phase, core_batch_is}
use Rattle.coord_log.proofs.Deciding.{commit_owed, commit_late, decide_owed, decide_late, decide_ready, told_is}
use Rattle.coord_log.proofs.Flying.{is_itself, kept_own, flown_own}
use Rattle.node_journal.specs.Answered.{KeepsNode}
use Rattle.node_journal.proofs.Answered.{was_written, was_failed, keeps_ok, keeps_err}
use Rattle.coord_log.proofs.log.CoordLog.decide.Goals as goal

pub write_due-requires : goal.write_due-requires
write_due-requires g c =
    let sound = c.self.invariant in
    let whole : broken_of c.self.inside.node.log.journal ≡ None = sym c.is_broken.ensures ∙ c.in-None.is in
    let own : IsOwnLane c.self.inside.node.core.header c.args.lane =
    own_lane c.self.inside.node c.args.self.now c.args.lane c.self.view_is sound.on.header c.requires.own in
    let phase = own_phase c.self.inside.node c.args.self.now c.args.lane InPrepare c.self.view_is c.requires.prepared in
    let late : suc (latest_reply c.self.inside.node.core.last c.args.replies.now) ≤ last_late =
    omega (arith, c.commit_stamp-stamp.ensures.value, c.stamp.view_is, c.if-stamp-gt-LAST_STAMP.false) in
    let shape : c.args.self.now.header ≡ c.self.inside.node.core.header = ap (λ x. x.header) (sym c.self.view_is) ∙ sym sound.on.header in
    let N : Header → Type 0 = λ h. AllNameBatches h.shape c.args.replies.now in
    let named = subst N shape c.requires.named in
    let O : Header → Type 0 = λ h. All (λ o. IsOutcome h.shape o) (outcomes_in (Some c.decide-next.result)) in
    let outcomes = subst O sound.on.header (c.decide-next.ensures.outcomes named) in
    let R : Record → Type 0 = λ x. All (λ o. IsOutcome c.self.inside.node.log.header.shape o) (outcomes_in (Some x)) in
    decide_ready c.self.inside.node c.decide-next.new.self c.args.lane (suc (latest_reply c.self.inside.node.core.last c.args.replies.now))
    (combined_outcomes (coord_lane c.self.inside.node.core c.args.lane).masks c.args.replies.now) c.decide-next.result c.decide-next.ensures.whole
    c.decide-next.ensures.same c.decide-next.ensures.others
    sound whole own phase (omega arith) late c.decide-next.ensures.«record» (subst R c.decide-next.ensures.«record» outcomes)
    (c.decide-next.ensures.next late)

pub returns-then-stamp-gt-LAST_STAMP-clause-meets : goal.returns-then-stamp-gt-LAST_STAMP-clause-meets
returns-then-stamp-gt-LAST_STAMP-clause-meets g c = λ are.
    let sound = c.self.invariant in
    let whole : broken_of c.self.inside.node.log.journal ≡ None = sym c.is_broken.ensures ∙ c.in-None.is in
    let K = c.args.self.now.header.shape in
    let late : last_late < c.commit_stamp-stamp.result = omega (arith, c.stamp.view_is, c.if-stamp-gt-LAST_STAMP.true) in
    let P : NodeOf g.row.D.Denot → Type 0 = λ x. AreRepliesTo c.args.self.now.header.shape (txs_of x.journal (open_batch x.journal c.args.lane))
    c.args.replies.now
    → decide_due c.args.self.now.header.shape c.args.lane c.args.replies.now x.broken x.journal
    ≡ Answers (Err (ClockEnd c.commit_stamp-stamp.result)) in
    let owed = subst P c.self.view_is
    (λ a. decide_late c.self.inside.node.core K _ _ c.args.lane c.commit_stamp-stamp.result _ c.args.replies.now sound.on.stands whole
    c.commit_stamp-stamp.ensures.value late a) are in
    (owed, record { node = record { header = refl; opened = refl; capacity = refl; later = omega arith }; seen = refl; flight = refl })

pub returns-in-Err-clause-meets : goal.returns-in-Err-clause-meets
returns-in-Err-clause-meets g c = λ are.
    let core = c.self.inside.node.core in
    let sound = c.self.invariant in
    let whole : broken_of c.self.inside.node.log.journal ≡ None = sym c.is_broken.ensures ∙ c.in-None.is in
    let own : IsOwnLane c.self.inside.node.core.header c.args.lane =
    own_lane c.self.inside.node c.args.self.now c.args.lane c.self.view_is sound.on.header c.requires.own in
    let phase = own_phase c.self.inside.node c.args.self.now c.args.lane InPrepare c.self.view_is c.requires.prepared in
    let shape : c.args.self.now.header.shape ≡ c.self.inside.node.core.header.shape =
    ap (λ x. x.header.shape) (sym c.self.view_is) ∙ ap (λ h. h.shape) (sym sound.on.header) in
    let J : List Record → Type 0 = λ x. AreRepliesTo c.args.self.now.header.shape (txs_of x (open_batch x c.args.lane)) c.args.replies.now in
    let are' = subst J (ap (λ x. x.journal) (sym c.self.view_is)) are in
    told_err false (λ broken J. decide_due c.args.self.now.header.shape c.args.lane c.args.replies.now broken J) c.self.inside.node
    c.write_due.new.node c.args.self.now
    c.commit_stamp-stamp.result c.decide-next.result c.in-Err.fault c.self.view_is
    (decide_owed core c.args.self.now.header.shape _ _ c.args.lane c.commit_stamp-stamp.result c.decide-next.result c.args.replies.now shape
    sound.on.stands own whole phase c.commit_stamp-stamp.ensures.value
    (omega (arith, c.stamp.view_is, c.if-stamp-gt-LAST_STAMP.false)) c.decide-next.ensures.decided are')
    (was_failed g.D.Disk _ _ c.decide-next.result c.in-Err.fault c.in-Err.ensures.answered)

pub returns-clause-meets : goal.returns-clause-meets
returns-clause-meets g c = λ are.
    let core = c.self.inside.node.core in
    let sound = c.self.invariant in
    let whole : broken_of c.self.inside.node.log.journal ≡ None = sym c.is_broken.ensures ∙ c.in-None.is in
    let own : IsOwnLane c.self.inside.node.core.header c.args.lane =
    own_lane c.self.inside.node c.args.self.now c.args.lane c.self.view_is sound.on.header c.requires.own in
    let phase = own_phase c.self.inside.node c.args.self.now c.args.lane InPrepare c.self.view_is c.requires.prepared in
    let shape : c.args.self.now.header.shape ≡ c.self.inside.node.core.header.shape =
    ap (λ x. x.header.shape) (sym c.self.view_is) ∙ ap (λ h. h.shape) (sym sound.on.header) in
    let J : List Record → Type 0 = λ x. AreRepliesTo c.args.self.now.header.shape (txs_of x (open_batch x c.args.lane)) c.args.replies.now in
    let are' = subst J (ap (λ x. x.journal) (sym c.self.view_is)) are in
    told_ok false (λ broken J. decide_due c.args.self.now.header.shape c.args.lane c.args.replies.now broken J) c.self.inside.node
    c.write_due.new.node c.args.self.now
    c.commit_stamp-stamp.result c.decide-next.result c.self.view_is
    (decide_owed core c.args.self.now.header.shape _ _ c.args.lane c.commit_stamp-stamp.result c.decide-next.result c.args.replies.now shape
    sound.on.stands own whole phase c.commit_stamp-stamp.ensures.value
    (omega (arith, c.stamp.view_is, c.if-stamp-gt-LAST_STAMP.false)) c.decide-next.ensures.decided are')
    (was_written g.D.Disk _ _ c.decide-next.result tt c.in-Ok.ensures.answered)

pub returns-clause-appended : goal.returns-clause-appended
returns-clause-appended g c =
    let core = c.self.inside.node.core in
    let own : IsOwnLane c.self.inside.node.core.header c.args.lane =
    own_lane c.self.inside.node c.args.self.now c.args.lane c.self.view_is c.self.invariant.on.header c.requires.own in
    let journal : reverse c.self.inside.node.log.records.items ≡ c.args.self.now.journal = ap (λ x. x.journal) c.self.view_is in
    let os : List Outcome = combined_outcomes (coord_lane c.self.inside.node.core c.args.lane).masks c.args.replies.now in
    let made : c.decide-next.result ≡ Commit c.commit_stamp-stamp.result (core_batch c.self.inside.node.core c.args.lane)
    (combined_outcomes (coord_lane c.self.inside.node.core c.args.lane).masks c.args.replies.now) =
    c.decide-next.ensures.«record» ∙ ap (λ t. Commit t (core_batch c.self.inside.node.core c.args.lane)
    (combined_outcomes (coord_lane c.self.inside.node.core c.args.lane).masks c.args.replies.now)) (sym c.commit_stamp-stamp.ensures.value) in
    let is = told_is c.decide-next.result c.commit_stamp-stamp.result (core_batch c.self.inside.node.core c.args.lane)
    (open_batch (reverse c.self.inside.node.log.records.items) c.args.lane) os c.tell.new.out.items
    made (core_batch_is core (reverse c.self.inside.node.log.records.items) c.args.lane c.self.invariant.on.stands own) c.tell.ensures in
    (was_written g.D.Disk _ _ c.decide-next.result tt c.in-Ok.ensures.answered).seen ∙ ap (λ x. x ∷ reverse c.self.inside.node.log.records.items) is
    ∙ ap (λ x. Commit c.commit_stamp-stamp.result (open_batch x c.args.lane) c.tell.new.out.items ∷ x) journal

pub returns-clause-count : goal.returns-clause-count
returns-clause-count g c =
    let core = c.self.inside.node.core in
    let sound = c.self.invariant in
    let own : IsOwnLane c.self.inside.node.core.header c.args.lane =
    own_lane c.self.inside.node c.args.self.now c.args.lane c.self.view_is sound.on.header c.requires.own in
    let phase = own_phase c.self.inside.node c.args.self.now c.args.lane InPrepare c.self.view_is c.requires.prepared in
    let J : List Record → Type 0 = λ x. length c.tell.new.out.items ≡ length (txs_of x (open_batch x c.args.lane)) in
    let txs = txs_of (reverse c.self.inside.node.log.records.items) (open_batch (reverse c.self.inside.node.log.records.items) c.args.lane) in
    let told : c.tell.new.out.items ≡ combined_outcomes (coord_lane c.self.inside.node.core c.args.lane).masks c.args.replies.now =
    c.tell.ensures ∙ ap (λ x. outcomes_in (Some x)) c.decide-next.ensures.«record» in
    let masks : length (coord_lane c.self.inside.node.core c.args.lane).masks
    ≡ length (txs_of (reverse c.self.inside.node.log.records.items) (open_batch (reverse c.self.inside.node.log.records.items) c.args.lane)) =
    ap length (sound.on.stands.masks c.args.lane own phase) ∙ length-map txs (λ t. mask_of c.self.inside.node.core.header.shape t) in
    subst J (ap (λ x. x.journal) c.self.view_is) (ap length told
    ∙ length-combined (coord_lane c.self.inside.node.core c.args.lane).masks c.args.replies.now ∙ masks)

pub returns-in-Some-clause-fault : goal.returns-in-Some-clause-fault
returns-in-Some-clause-fault g c =
    let r : Record = Commit 0 (open_batch c.args.self.now.journal c.args.lane) [] in
    let broken : c.args.self.now.broken ≡ Some c.in-Some.since = ap (λ x. x.broken) (sym c.self.view_is) ∙ sym c.is_broken.ensures ∙ c.in-Some.is in
    let due : commit_due c.args.self.now.header.shape c.args.replies.now r c.args.self.now.broken c.args.self.now.journal
    ≡ Answers (Err (Broken c.in-Some.since)) =
    ap (λ b. commit_due c.args.self.now.header.shape c.args.replies.now r b c.args.self.now.journal) broken in
    (r, (due, record { node = record { header = refl; opened = refl; capacity = refl; later = omega arith }; seen = refl; flight = refl }))

pub returns-then-stamp-gt-LAST_STAMP-clause-fault : goal.returns-then-stamp-gt-LAST_STAMP-clause-fault
returns-then-stamp-gt-LAST_STAMP-clause-fault g c =
    let sound = c.self.invariant in
    let whole : broken_of c.self.inside.node.log.journal ≡ None = sym c.is_broken.ensures ∙ c.in-None.is in
    let K = c.args.self.now.header.shape in
    let late : last_late < c.commit_stamp-stamp.result = omega (arith, c.stamp.view_is, c.if-stamp-gt-LAST_STAMP.true) in
    let r : Record = Commit 0 (open_batch c.args.self.now.journal c.args.lane) [] in
    let P : NodeOf g.row.D.Denot → Type 0 = λ x. commit_due c.args.self.now.header.shape c.args.replies.now r x.broken x.journal
    ≡ Answers (Err (ClockEnd c.commit_stamp-stamp.result)) in
    let due = subst P c.self.view_is (commit_late c.self.inside.node.core K _ _ c.commit_stamp-stamp.result r c.args.replies.now sound.on.stands
    whole c.requires.rising c.commit_stamp-stamp.ensures.value late) in
    (r, (due, record { node = record { header = refl; opened = refl; capacity = refl; later = omega arith }; seen = refl; flight = refl }))

pub returns-in-Err-clause-fault : goal.returns-in-Err-clause-fault
returns-in-Err-clause-fault g c =
    let sound = c.self.invariant in
    let whole : broken_of c.self.inside.node.log.journal ≡ None = sym c.is_broken.ensures ∙ c.in-None.is in (
      c.decide-next.result,
      told_err false (λ broken J. commit_due c.args.self.now.header.shape c.args.replies.now c.decide-next.result broken J) c.self.inside.node
          c.write_due.new.node c.args.self.now
          c.commit_stamp-stamp.result c.decide-next.result c.in-Err.fault c.self.view_is
          (commit_owed c.self.inside.node.core c.args.self.now.header.shape _ _ c.commit_stamp-stamp.result c.decide-next.result c.args.replies.now
          sound.on.stands whole c.requires.rising c.commit_stamp-stamp.ensures.value
          (omega (arith, c.stamp.view_is, c.if-stamp-gt-LAST_STAMP.false)))
          (was_failed g.D.Disk _ _ c.decide-next.result c.in-Err.fault c.in-Err.ensures.answered),
    )

pub returns-in-Err-clause-as_before : goal.returns-in-Err-clause-as_before
returns-in-Err-clause-as_before g c = (was_failed g.D.Disk _ _ c.decide-next.result c.in-Err.fault c.in-Err.ensures.answered).1.seen
    ∙ ap (λ x. x.journal) c.self.view_is

pub returns-in-Some-clause-own : goal.returns-in-Some-clause-own
returns-in-Some-clause-own g c = kept_own c.args.lane c.args.self.now.flight c.args.self.now.flight refl

pub returns-then-stamp-gt-LAST_STAMP-clause-own : goal.returns-then-stamp-gt-LAST_STAMP-clause-own
returns-then-stamp-gt-LAST_STAMP-clause-own g c = kept_own c.args.lane c.args.self.now.flight c.args.self.now.flight refl

pub returns-in-Err-clause-own : goal.returns-in-Err-clause-own
returns-in-Err-clause-own g c =
    flown_own c.args.lane c.args.self.now.flight c.write_due.new.node.flight c.decide-next.result
    (was_failed g.D.Disk _ _ c.decide-next.result c.in-Err.fault c.in-Err.ensures.answered).1.flight
    (subst (λ r. is_in_lane c.args.lane r ≡ true) (sym c.decide-next.ensures.«record») (is_itself c.args.lane))

pub returns-clause-own : goal.returns-clause-own
returns-clause-own g c = kept_own c.args.lane c.args.self.now.flight c.write_due.new.node.flight
    ((was_written g.D.Disk _ _ c.decide-next.result tt c.in-Ok.ensures.answered).flight ∙ ap (λ x. x.flight) c.self.view_is)

pub tell-requires : goal.tell-requires
tell-requires g c = grind (arith, common_steps)

pub returns-in-Err-clause-keeps : goal.returns-in-Err-clause-keeps
returns-in-Err-clause-keeps g c =
    let new = view_of c.write_due.new.node in
    subst (λ x. KeepsNode g.D.Disk x new (Err c.in-Err.fault)) c.self.view_is
    (keeps_err g.D.Disk _ new c.in-Err.fault c.in-Err.ensures.answered.keeps)

pub returns-clause-keeps : goal.returns-clause-keeps
returns-clause-keeps g c =
    let new = view_of c.write_due.new.node in
    subst (λ x. KeepsNode g.D.Disk x new (Ok c.commit_stamp-stamp.result)) c.self.view_is
    (keeps_ok g.D.Disk _ new tt c.commit_stamp-stamp.result c.in-Ok.ensures.answered.keeps)
