use Rattle.std.proofs.Common.{◌∙◌, Err, le_refl, le_trans}
use Rattle.byte_fields.specs.Reading.{items_at}
use Rattle.byte_fields.specs.Transactions.{transaction_at}
use Rattle.client_files.specs.Streams.{OfRead, MeetsBadField, GoesOn, FileHolds, count_at}
use Rattle.client_files.proofs.Streaming.{stops_out, count_bad, whole_took, whole_bad, holds_all, holds_bad, holds_extra}
use Rattle.client_files.proofs.stream.stream_clients.Goals as goal

pub returns-in_err-count-clause-fault : goal.returns-in_err-count-clause-fault
returns-in_err-count-clause-fault g c =
    let name = c.args.name.now in
    let told = g.I.Inbox.file c.args.inbox.now name in
    let before = c.args.before in
    let w = c.new-window.result in
    stops_out c.from_residual.result _ (λ bad. OfRead told w.had (MeetsBadField told (count_at before) w.unread bad))
    (λ bad. FileHolds told before (Err bad))
    (g.I.Inbox.count c.args.inbox.now name) (g.I.Inbox.count c.args.inbox.now name) (g.I.Inbox.count c.count_of.new.inbox name)
    (g.I.Inbox.count c.count_of.new.inbox name) c.from_residual.ensures.1
    (λ bad meets. holds_bad told before w bad c.new-window.ensures
    (λ bytes len read. count_bad told before w.unread bytes bad (meets bytes len read)))
    (le_refl _) (le_refl _) c.in_err-count.ensures.fault

pub returns-in_err-txs-clause-fault : goal.returns-in_err-txs-clause-fault
returns-in_err-txs-clause-fault g c =
    let name = c.args.name.now in
    let told = g.I.Inbox.file c.args.inbox.now name in
    let now = g.I.Inbox.file c.count_of.new.inbox name in
    let before = c.args.before in
    let w = c.new-window.result in
    let mid = c.count_of.new.window in
    let n = c.in_ok-count.count in
    stops_out c.from_residual-in_err-txs.result _ (λ bad. OfRead now mid.had (MeetsBadField now (items_at transaction_at n) mid.unread bad))
    (λ bad. FileHolds told before (Err bad))
    (g.I.Inbox.count c.args.inbox.now name) (g.I.Inbox.count c.count_of.new.inbox name) (g.I.Inbox.count c.txs_of.new.inbox name)
    (g.I.Inbox.count c.txs_of.new.inbox name) c.from_residual-in_err-txs.ensures.1
    (λ bad meets. holds_bad told before w bad c.new-window.ensures
    (whole_bad told now before n w mid bad (c.count_of.ensures.same name) c.in_ok-count.ensures.taken meets))
    (c.count_of.ensures.later name) (le_refl _) c.in_err-txs.ensures.fault

pub returns-in_err-ended-clause-fault : goal.returns-in_err-ended-clause-fault
returns-in_err-ended-clause-fault g c =
    let name = c.args.name.now in
    let told = g.I.Inbox.file c.args.inbox.now name in
    let now = g.I.Inbox.file c.count_of.new.inbox name in
    let last = g.I.Inbox.file c.txs_of.new.inbox name in
    let before = c.args.before in
    let w = c.new-window.result in
    let mid = c.count_of.new.window in
    let end = c.txs_of.new.window in
    let n = c.in_ok-count.count in
    stops_out c.from_residual-in_err-ended.result _ (λ bad. OfRead last end.had (GoesOn last end.unread bad)) (λ bad. FileHolds told before (Err bad))
    (g.I.Inbox.count c.args.inbox.now name) (g.I.Inbox.count c.txs_of.new.inbox name) (g.I.Inbox.count c.ended.new.inbox name)
    (g.I.Inbox.count c.ended.new.inbox name) c.from_residual-in_err-ended.ensures.1
    (λ bad goes. holds_extra told last before w end c.in_ok-txs.txs bad (c.txs_of.ensures.same name ∙ c.count_of.ensures.same name)
    c.new-window.ensures
    (whole_took told now before n w mid end c.in_ok-txs.txs (c.count_of.ensures.same name) c.in_ok-count.ensures.taken c.in_ok-txs.ensures.taken)
    goes)
    (le_trans (c.count_of.ensures.later name) (c.txs_of.ensures.later name)) (le_refl _) c.in_err-ended.ensures.fault

pub returns-in_err-txs-clause-same : goal.returns-in_err-txs-clause-same
returns-in_err-txs-clause-same g c = λ other. c.txs_of.ensures.same other ∙ c.count_of.ensures.same other

pub returns-in_err-txs-clause-later : goal.returns-in_err-txs-clause-later
returns-in_err-txs-clause-later g c = λ other. le_trans (c.count_of.ensures.later other) (c.txs_of.ensures.later other)

pub returns-in_err-ended-clause-same : goal.returns-in_err-ended-clause-same
returns-in_err-ended-clause-same g c = λ other. c.ended.ensures.same other ∙ (c.txs_of.ensures.same other ∙ c.count_of.ensures.same other)

pub returns-in_err-ended-clause-later : goal.returns-in_err-ended-clause-later
returns-in_err-ended-clause-later g c = λ other. le_trans (c.count_of.ensures.later other)
    (le_trans (c.txs_of.ensures.later other) (c.ended.ensures.later other))

pub returns-clause-same : goal.returns-clause-same
returns-clause-same g c = λ other. c.ended.ensures.same other ∙ (c.txs_of.ensures.same other ∙ c.count_of.ensures.same other)

pub returns-clause-later : goal.returns-clause-later
returns-clause-later g c = λ other. le_trans (c.count_of.ensures.later other) (le_trans (c.txs_of.ensures.later other) (c.ended.ensures.later other))

pub returns-clause-read : goal.returns-clause-read
returns-clause-read g c =
    let name = c.args.name.now in
    let told = g.I.Inbox.file c.args.inbox.now name in
    let now = g.I.Inbox.file c.count_of.new.inbox name in
    let before = c.args.before in
    let w = c.new-window.result in
    let end = c.txs_of.new.window in
    let whole = c.in_ok-ended.ensures.whole in
    holds_all told (g.I.Inbox.file c.txs_of.new.inbox name) before w end c.in_ok-txs.txs (c.txs_of.ensures.same name ∙ c.count_of.ensures.same name)
    c.new-window.ensures
    (whole_took told now before c.in_ok-count.count w c.count_of.new.window end c.in_ok-txs.txs (c.count_of.ensures.same name)
    c.in_ok-count.ensures.taken c.in_ok-txs.ensures.taken) whole.0 whole.1
