use Rattle.std.proofs.Common.{◌∙◌, le_refl, le_trans, refl}
use Rattle.byte_fields.specs.Reading.{items_at}
use Rattle.byte_fields.specs.Transactions.{transaction_at}
use Rattle.client_files.specs.Streams.{OfRead, MeetsBadField}
use Rattle.client_files.proofs.Streaming.{stops_out, items_first, items_more, items_took, items_bad, of_same}
use Rattle.client_files.proofs.stream.txs_of.Goals as goal

pub txs-init : goal.txs-init
txs-init g c = record {
  so_far = items_first (g.I.Inbox.file c.args.inbox.now c.args.name.now) c.args.count c.args.window.now _ c.new-txs.ensures;
  same = λ other. refl;
  later = λ other. le_refl _;
}

pub returns-in_err-tx-clause-fault : goal.returns-in_err-tx-clause-fault
returns-in_err-tx-clause-fault g c =
    let name = c.args.name.now in
    let told = g.I.Inbox.file c.args.inbox.now name in
    let now = g.I.Inbox.file c.txs.inbox name in
    let old = c.args.window.now in
    let w = c.txs.window in
    stops_out c.from_residual.result _ (λ bad. OfRead now w.had (MeetsBadField now transaction_at w.unread bad))
    (λ bad. OfRead told old.had (MeetsBadField told (items_at transaction_at c.args.count) old.unread bad))
    (g.I.Inbox.count c.args.inbox.now name) (g.I.Inbox.count c.txs.inbox name) (g.I.Inbox.count c.next_tx.new.inbox name)
    (g.I.Inbox.count c.next_tx.new.inbox name) c.from_residual.ensures.1
    (λ bad meets. items_bad told c.args.count c.txs.i old w c.txs.txs bad c.txs-test.true c.txs.invariant.so_far
    (of_same told now w bad (c.txs.invariant.same name) meets))
    (c.txs.invariant.later name) (le_refl _) c.in_err-tx.ensures.fault

pub returns-in_err-tx-clause-same : goal.returns-in_err-tx-clause-same
returns-in_err-tx-clause-same g c = λ other. c.next_tx.ensures.same other ∙ c.txs.invariant.same other

pub returns-in_err-tx-clause-later : goal.returns-in_err-tx-clause-later
returns-in_err-tx-clause-later g c = λ other. le_trans (c.txs.invariant.later other) (c.next_tx.ensures.later other)

pub returns-in-Err-clause-same : goal.returns-in-Err-clause-same
returns-in-Err-clause-same g c = λ other. c.next_tx.ensures.same other ∙ c.txs.invariant.same other

pub returns-in-Err-clause-later : goal.returns-in-Err-clause-later
returns-in-Err-clause-later g c = λ other. le_trans (c.txs.invariant.later other) (c.next_tx.ensures.later other)

pub txs-preserved : goal.txs-preserved
txs-preserved g c =
    let name = c.args.name.now in
    record {
      so_far = items_more (g.I.Inbox.file c.args.inbox.now name) (g.I.Inbox.file c.txs.inbox name) c.args.count c.txs.i c.args.window.now
          c.txs.window c.next_tx.new.window c.txs.txs _ c.in_ok-tx.tx
          (c.txs.invariant.same name) c.txs-test.true c.txs.invariant.so_far c.in_ok-tx.ensures.taken c.in-Ok.ensures.ok;
      same = λ other. c.next_tx.ensures.same other ∙ c.txs.invariant.same other;
      later = λ other. le_trans (c.txs.invariant.later other) (c.next_tx.ensures.later other);
    }

pub returns-clause-taken : goal.returns-clause-taken
returns-clause-taken g c =
    items_took (g.I.Inbox.file c.args.inbox.now c.args.name.now) c.args.count c.txs.i c.args.window.now c.txs.window c.txs.txs c.txs-test.false
    c.txs.invariant.so_far

pub returns-clause-later : goal.returns-clause-later
returns-clause-later g c = c.txs.invariant.later
