use Rattle.std.proofs.Common.{◌≡◌, ◌<◌, ◌∙◌, le_refl, le_trans, true, false, length, ap, arith, refl, length-append, rules}
use Rattle.base_types.specs.declared.faults.InputKind.TheVariants as kinds
use Rattle.client_files.specs.Files.{bad_at}
use Rattle.client_files.specs.Streams.{OfRead, GoesOn}
use Rattle.client_files.proofs.Streaming.{stops_out, stop_bad, goes_on_now, goes_on_later, goes_on_past, end_now, cut_on, whole_now, no_bytes}
use Rattle.client_files.proofs.Streaming.{some_bytes}
use Rattle.client_files.proofs.stream.ended.Goals as goal

pub returns-then-not-is_empty-clause-fault : goal.returns-then-not-is_empty-clause-fault
returns-then-not-is_empty-clause-fault g c =
    let name = c.args.name.now in
    let told = g.I.Inbox.file c.args.inbox.now name in
    let w = c.args.window.now in
    let bad = bad_at w.had false (length w.unread) kinds.Extra in
    let some : 0 < length w.unread = omega (
      arith,
      ap length c.unread.ensures.value,
      some_bytes c.is_empty.result (length c.unread.result.now) c.is_empty.ensures c.if-not-is_empty.true,
    ) in
    stop_bad (λ b. OfRead told w.had (GoesOn told w.unread b)) (g.I.Inbox.count c.args.inbox.now name) (g.I.Inbox.count c.args.inbox.now name)
    c.extra.result bad c.extra.ensures (goes_on_now told w bad some refl)

pub returns-then-branch-gt0-clause-fault : goal.returns-then-branch-gt0-clause-fault
returns-then-branch-gt0-clause-fault g c =
    let name = c.args.name.now in
    let told = g.I.Inbox.file c.args.inbox.now name in
    let w = c.args.window.now in
    let new = c.more.new.window in
    let m = c.in_ok-more.ensures.more in
    let bad = bad_at new.had false (length new.unread) kinds.Extra in
    let some : 0 < length new.unread = omega (arith, ap length m.unread, length-append w.unread m.piece, m.size) in
    stop_bad (λ b. OfRead told w.had (GoesOn told w.unread b)) (g.I.Inbox.count c.args.inbox.now name) (g.I.Inbox.count c.more.new.inbox name)
    c.extra-then-branch-gt0.result bad c.extra-then-branch-gt0.ensures
    (goes_on_later told told w new c.in_ok-more.field-0 bad refl m (goes_on_now told new bad some refl))

pub returns-then-branch-clause-fault : goal.returns-then-branch-clause-fault
returns-then-branch-clause-fault g c =
    let name = c.args.name.now in
    let told = g.I.Inbox.file c.args.inbox.now name in
    let w = c.args.window.now in
    let new = c.more.new.window in
    let n = c.in_ok-more.field-0 in
    let m = c.in_ok-more.ensures.more in
    let none : n ≡ 0 = omega arith in
    let bad = bad_at new.had true (length new.unread) kinds.Extra in
    let end = end_now told w new n m none in
    let past = cut_on told (g.I.Inbox.file c.more.new.inbox name) c.had.result new.had c.in_ok-is_cut_off.field-0 true (c.more.ensures.same name)
    c.had.ensures.value c.if-branch.true end c.in_ok-is_cut_off.ensures.more in
    stop_bad (λ b. OfRead told w.had (GoesOn told w.unread b)) (g.I.Inbox.count c.args.inbox.now name) (g.I.Inbox.count c.is_cut_off.new.inbox name)
    c.extra-then-branch.result bad c.extra-then-branch.ensures
    (goes_on_later told told w new n bad refl m (goes_on_past told new bad end past refl))

pub returns-then-branch-gt0-clause-later : goal.returns-then-branch-gt0-clause-later
returns-then-branch-gt0-clause-later g c = c.more.ensures.later

pub returns-in_err-is_cut_off-clause-fault : goal.returns-in_err-is_cut_off-clause-fault
returns-in_err-is_cut_off-clause-fault g c =
    let name = c.args.name.now in
    let told = g.I.Inbox.file c.args.inbox.now name in
    let w = c.args.window.now in
    stops_out c.from_residual-in_err-is_cut_off.result _ (λ bad. ⊥) (λ bad. OfRead told w.had (GoesOn told w.unread bad))
    (g.I.Inbox.count c.args.inbox.now name) (g.I.Inbox.count c.more.new.inbox name) (g.I.Inbox.count c.is_cut_off.new.inbox name)
    (g.I.Inbox.count c.is_cut_off.new.inbox name) c.from_residual-in_err-is_cut_off.ensures.1
    (λ bad none. absurd none) (c.more.ensures.later name) (le_refl _) c.in_err-is_cut_off.ensures.fault

pub returns-in_err-is_cut_off-clause-same : goal.returns-in_err-is_cut_off-clause-same
returns-in_err-is_cut_off-clause-same g c = λ other. c.is_cut_off.ensures.same other ∙ c.more.ensures.same other

pub returns-in_err-is_cut_off-clause-later : goal.returns-in_err-is_cut_off-clause-later
returns-in_err-is_cut_off-clause-later g c = λ other. le_trans (c.more.ensures.later other) (c.is_cut_off.ensures.later other)

pub returns-then-branch-clause-same : goal.returns-then-branch-clause-same
returns-then-branch-clause-same g c = λ other. c.is_cut_off.ensures.same other ∙ c.more.ensures.same other

pub returns-then-branch-clause-later : goal.returns-then-branch-clause-later
returns-then-branch-clause-later g c = λ other. le_trans (c.more.ensures.later other) (c.is_cut_off.ensures.later other)

pub returns-clause-same : goal.returns-clause-same
returns-clause-same g c = λ other. c.is_cut_off.ensures.same other ∙ c.more.ensures.same other

pub returns-clause-later : goal.returns-clause-later
returns-clause-later g c = λ other. le_trans (c.more.ensures.later other) (c.is_cut_off.ensures.later other)

pub returns-clause-whole : goal.returns-clause-whole
returns-clause-whole g c =
    let name = c.args.name.now in
    let told = g.I.Inbox.file c.args.inbox.now name in
    let w = c.args.window.now in
    let new = c.more.new.window in
    let n = c.in_ok-more.field-0 in
    let m = c.in_ok-more.ensures.more in
    let none : n ≡ 0 = omega arith in
    let end = end_now told w new n m none in
    let short = cut_on told (g.I.Inbox.file c.more.new.inbox name) c.had.result new.had c.in_ok-is_cut_off.field-0 false (c.more.ensures.same name)
    c.had.ensures.value c.if-branch.false end c.in_ok-is_cut_off.ensures.more in
    let empty : length c.unread.result.now ≡ 0 = search rules in
    (no_bytes w.unread (omega (arith, ap length c.unread.ensures.value, empty)), whole_now told w new n m none short)
