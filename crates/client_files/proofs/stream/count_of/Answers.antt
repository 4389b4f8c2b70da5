use Rattle.std.proofs.Common.{◌<◌, ◌≤◌, le_refl, ◌+◌, ◌-◌, false, ap, arith, ℕ}
use Rattle.byte_fields.specs.Reading.{number_at}
use Rattle.base_types.specs.declared.faults.InputKind.TheVariants as kinds
use Rattle.client_files.specs.Files.{bad_at}
use Rattle.client_files.specs.Streams.{OfRead, MeetsBadField, count_at}
use Rattle.client_files.proofs.Streaming.{stops_out, stop_bad, count_took, count_cut, count_many}
use Rattle.client_files.proofs.stream.count_of.Goals as goal

pub returns-then-saturating_add-gt1000000-clause-fault : goal.returns-then-saturating_add-gt1000000-clause-fault
returns-then-saturating_add-gt1000000-clause-fault g c =
    let name = c.args.name.now in
    let told = g.I.Inbox.file c.args.inbox.now name in
    let old = c.args.window.now in
    let many : 1000000 < c.args.before + c.in_ok-count.count = omega (arith, c.saturating_add.ensures) in
    let bad = bad_at c.had.result false (c.had.result - c.place-at.result) kinds.TooMany in
    stop_bad (λ b. OfRead told old.had (MeetsBadField told (count_at c.args.before) old.unread b)) (g.I.Inbox.count c.args.inbox.now name)
    (g.I.Inbox.count c.head.new.inbox name) c.bad.result bad c.bad.ensures
    (count_many told old c.head.new.window c.args.before c.in_ok-count.count c.place-at.result bad many c.in_ok-count.ensures.taken
    c.place-at.ensures.value
    (ap (λ (k : ℕ). bad_at k false (k - c.place-at.result) kinds.TooMany) c.had.ensures.value))

pub returns-in_err-count-clause-fault : goal.returns-in_err-count-clause-fault
returns-in_err-count-clause-fault g c =
    let name = c.args.name.now in
    let told = g.I.Inbox.file c.args.inbox.now name in
    let old = c.args.window.now in
    stops_out c.from_residual.result _ (λ bad. OfRead told old.had (MeetsBadField told number_at old.unread bad))
    (λ bad. OfRead told old.had (MeetsBadField told (count_at c.args.before) old.unread bad))
    (g.I.Inbox.count c.args.inbox.now name) (g.I.Inbox.count c.args.inbox.now name) (g.I.Inbox.count c.head.new.inbox name)
    (g.I.Inbox.count c.head.new.inbox name) c.from_residual.ensures.1
    (λ bad meets bytes len read. count_cut told c.args.before old.unread bytes bad (meets bytes len read)) (le_refl _) (le_refl _)
    c.in_err-count.ensures.fault

pub returns-then-saturating_add-gt1000000-clause-same : goal.returns-then-saturating_add-gt1000000-clause-same
returns-then-saturating_add-gt1000000-clause-same g c = c.head.ensures.same

pub returns-then-saturating_add-gt1000000-clause-later : goal.returns-then-saturating_add-gt1000000-clause-later
returns-then-saturating_add-gt1000000-clause-later g c = c.head.ensures.later

pub returns-clause-taken : goal.returns-clause-taken
returns-clause-taken g c =
    let few : c.args.before + c.in_ok-count.count ≤ 1000000 = omega (arith, c.saturating_add.ensures) in
    count_took (g.I.Inbox.file c.args.inbox.now c.args.name.now) c.args.window.now c.head.new.window c.args.before c.in_ok-count.count few
    c.in_ok-count.ensures.taken

pub returns-clause-same : goal.returns-clause-same
returns-clause-same g c = c.head.ensures.same

pub returns-clause-later : goal.returns-clause-later
returns-clause-later g c = c.head.ensures.later
