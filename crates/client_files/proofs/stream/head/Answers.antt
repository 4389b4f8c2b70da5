use Rattle.std.proofs.Common.{◌≡◌, ◌<◌, ◌≤◌, le_refl, le_trans, ◌-◌, ◌∙◌, List, ℕ, length, take, refl, ap, subst, arith, length-append}
use Rattle.byte_fields.specs.Reading.{number_at}
use Rattle.client_files.specs.Streams.{OfRead, MeetsBadField, IsFileCut}
use Rattle.client_files.proofs.Streaming.{stops_on, stops_out, end_for, falls, head_cut_at, head_took, so_first, so_more}
use Rattle.client_files.proofs.stream.head.Goals as goal

pub cut-requires-clause-end : goal.cut-requires-clause-end
cut-requires-clause-end g c =
    let name = c.args.name.now in
    let none : c.in_ok-more.field-0 ≡ 0 = omega arith in
    end_for (g.I.Inbox.file c.pieces.inbox name) (g.I.Inbox.file c.more.new.inbox name) c.pieces.window c.more.new.window c.in_ok-more.field-0
    c.had.result (c.more.ensures.same name) c.had.ensures.value c.in_ok-more.ensures.more none

pub returns-then-branch-eq0-clause-fault : goal.returns-then-branch-eq0-clause-fault
returns-then-branch-eq0-clause-fault g c =
    let name = c.args.name.now in
    let told = g.I.Inbox.file c.args.inbox.now name in
    let now = g.I.Inbox.file c.pieces.inbox name in
    let last = g.I.Inbox.file c.more.new.inbox name in
    let old = c.args.window.now in
    let new = c.more.new.window in
    let m = c.in_ok-more.ensures.more in
    let same = c.pieces.invariant.same name in
    let so = so_more told now old c.pieces.window new c.in_ok-more.field-0 c.pieces.window.unread new.unread same c.pieces.invariant.so_far m
    m.unread in
    let few : length new.unread < 8 = omega (
      arith,
      ap length m.unread,
      length-append c.pieces.window.unread m.piece,
      m.size,
      ap length c.unread.ensures.value,
    ) in
    stops_on (λ bad. OfRead last c.had.result (IsFileCut last c.had.result (c.had.result - c.place.result) bad))
    (λ bad. OfRead told old.had (MeetsBadField told number_at old.unread bad))
    (g.I.Inbox.count c.args.inbox.now name) (g.I.Inbox.count c.more.new.inbox name) (g.I.Inbox.count c.cut.new.inbox name)
    (g.I.Inbox.count c.cut.new.inbox name) c.cut.result
    (λ bad cut. head_cut_at told last old new c.had.result c.place.result bad (c.more.ensures.same name ∙ same) c.had.ensures.value
    c.place.ensures.value so few cut)
    (le_trans (c.pieces.invariant.later name) (c.more.ensures.later name)) (le_refl _) c.cut.ensures.fault

pub pieces-init : goal.pieces-init
pieces-init g c = record {
  so_far = so_first (g.I.Inbox.file c.args.inbox.now c.args.name.now) c.args.window.now c.args.window.now.unread refl;
  same = λ other. refl;
  later = λ other. le_refl _;
}

pub pieces-preserved : goal.pieces-preserved
pieces-preserved g c =
    let name = c.args.name.now in
    let told = g.I.Inbox.file c.args.inbox.now name in
    let new = c.more.new.window in
    let m = c.in_ok-more.ensures.more in
    record {
      so_far = so_more told (g.I.Inbox.file c.pieces.inbox name) c.args.window.now c.pieces.window new c.in_ok-more.field-0 c.pieces.window.unread
          new.unread (c.pieces.invariant.same name) c.pieces.invariant.so_far m m.unread;
      same = λ other. c.more.ensures.same other ∙ c.pieces.invariant.same other;
      later = λ other. le_trans (c.pieces.invariant.later other) (c.more.ensures.later other);
    }

pub pieces-smaller : goal.pieces-smaller
pieces-smaller g c =
    falls (g.I.Inbox.file c.pieces.inbox c.args.name.now) c.pieces.window c.more.new.window c.in_ok-more.field-0 c.pieces.window.had
    c.in_ok-more.ensures.more refl c.if-branch-eq0.false

pub returns-in_err-more-clause-fault : goal.returns-in_err-more-clause-fault
returns-in_err-more-clause-fault g c =
    let name = c.args.name.now in
    let told = g.I.Inbox.file c.args.inbox.now name in
    let old = c.args.window.now in
    stops_out c.from_residual.result _ (λ bad. ⊥) (λ bad. OfRead told old.had (MeetsBadField told number_at old.unread bad))
    (g.I.Inbox.count c.args.inbox.now name) (g.I.Inbox.count c.pieces.inbox name) (g.I.Inbox.count c.more.new.inbox name)
    (g.I.Inbox.count c.more.new.inbox name) c.from_residual.ensures.1
    (λ bad none. absurd none) (c.pieces.invariant.later name) (le_refl _) c.in_err-more.ensures.fault

pub returns-in_err-more-clause-same : goal.returns-in_err-more-clause-same
returns-in_err-more-clause-same g c = λ other. c.more.ensures.same other ∙ c.pieces.invariant.same other

pub returns-in_err-more-clause-later : goal.returns-in_err-more-clause-later
returns-in_err-more-clause-later g c = λ other. le_trans (c.pieces.invariant.later other) (c.more.ensures.later other)

pub returns-then-branch-eq0-clause-same : goal.returns-then-branch-eq0-clause-same
returns-then-branch-eq0-clause-same g c = λ other. c.cut.ensures.same other ∙ (c.more.ensures.same other ∙ c.pieces.invariant.same other)

pub returns-then-branch-eq0-clause-later : goal.returns-then-branch-eq0-clause-later
returns-then-branch-eq0-clause-later g c = λ other. le_trans (c.pieces.invariant.later other)
    (le_trans (c.more.ensures.later other) (c.cut.ensures.later other))

pub returns-clause-same : goal.returns-clause-same
returns-clause-same g c = c.pieces.invariant.same

pub returns-clause-later : goal.returns-clause-later
returns-clause-later g c = c.pieces.invariant.later

pub take-requires : goal.take-requires
take-requires g c = subst (λ (u : List ℕ). 8 ≤ length u) c.unread.ensures.value c.pieces-test.false

pub returns-clause-taken : goal.returns-clause-taken
returns-clause-taken g c =
    let enough : 8 ≤ length c.pieces.window.unread = omega (arith, ap length c.unread.ensures.value) in
    head_took (g.I.Inbox.file c.args.inbox.now c.args.name.now) c.args.window.now c.take.new.self c.pieces.window.unread c.split_at.result.0.now
    c.pieces.window.had c.number_in-number.result
    c.pieces.invariant.so_far enough (c.split_at.ensures.front ∙ ap (take 8) c.unread-2.ensures.value) c.number_in-number.ensures c.take.ensures
