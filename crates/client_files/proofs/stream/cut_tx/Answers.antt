use Rattle.std.proofs.Common.{◌+◌, ◌-◌, sym, subst, ℕ, arith}
use Rattle.byte_fields.specs.Transactions.{transaction_at}
use Rattle.client_files.specs.Streams.{OfRead, MeetsBadField, IsFileCut}
use Rattle.client_files.proofs.Streaming.{stops_on, CutAt, cut_some, cut_none, tx_cut}
use Rattle.client_files.proofs.stream.cut_tx.Goals as goal
use Rattle.client_files.proofs.stream.cut_tx.Goals.{in-Some, in-None}

pub returns-clause-fault : goal.returns-clause-fault
returns-clause-fault g c =
    let name = c.args.name.now in
    let told = g.I.Inbox.file c.args.inbox.now name in
    let bytes = c.args.feed.now.bytes in
    let at = c.match-end.at in
    let had = c.args.had in
    let cut_at : CutAt bytes at = elim c.match-end.branch [
      | in-Some w ↦ subst (λ (n : ℕ). CutAt bytes n) (sym w.at-is)
          (cut_some bytes c.args.feed.now.state c.end.result w.in-Some.field c.requires.going w.in-Some.is c.end.ensures.cut c.end.ensures.empty)
      | in-None w ↦ subst (λ (n : ℕ). CutAt bytes n) (sym w.at-is) (cut_none bytes (c.end.ensures.none w.in-None.is))
    ] in
    stops_on (λ bad. OfRead told had (IsFileCut told had (had - (c.args.start + at)) bad))
    (λ bad. OfRead told had (MeetsBadField told transaction_at bytes bad))
    (g.I.Inbox.count c.args.inbox.now name) (g.I.Inbox.count c.args.inbox.now name) (g.I.Inbox.count c.cut.new.inbox name)
    (g.I.Inbox.count c.cut.new.inbox name) c.cut.result
    (λ bad cut. tx_cut told bytes had c.args.start at bad cut_at c.requires.start cut) (omega arith) (omega arith) c.cut.ensures.fault
