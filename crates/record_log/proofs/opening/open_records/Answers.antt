use Rattle.std.proofs.Common.{◌≡◌, ◌∙◌, List, ℕ, length, sym, ap}
use Rattle.gate_journal.specs.Rows.{rows}
use Rattle.gate_journal.specs.Shown.{disk_of}
use Rattle.record_log.specs.Held.{bodies_of}
use Rattle.record_log.proofs.Cuts.{log_cut_is, unread_is, read_whole, if_ok, if_err, if_both}
use Rattle.record_log.proofs.LogSizes.{rows_size, limits_of, grammar_of}
use Rattle.record_log.proofs.opening.open_records.Goals as goal

pub returns-in-Ok-records_of-clause-opens : goal.returns-in-Ok-records_of-clause-opens
returns-in-Ok-records_of-clause-opens g c = if_ok c.log_of.result _ _ c.log_of.ensures.log (λ l is bytes told.
    let opened = c.in-Ok.ensures.opens bytes told in
    let slice : c.in-Ok.bodies ≡ c.in-Ok.bodies = cc in
    let read : c.in-Ok.bodies ≡ bodies_of l.records.items =
    read_whole c.in-Ok-records_of.read.header c.in-Ok-records_of.read.records.items c.in-Ok-records_of.read.cut c.in-Ok.bodies is.3
    c.in-Ok-records_of.ensures.read.1 ∙ ap bodies_of (sym is.2) in
    rw (← (sym slice ∙ read), is.0) opened)

pub returns-in-Ok-records_of-clause-ends : goal.returns-in-Ok-records_of-clause-ends
returns-in-Ok-records_of-clause-ends g c = if_ok c.log_of.result _ _ c.log_of.ensures.log (λ l is.
    let may = c.in-Ok-records_of.ensures.read.0 in
    let slice : c.in-Ok.bodies ≡ c.in-Ok.bodies = cc in
    let read : c.in-Ok.bodies ≡ bodies_of c.in-Ok-records_of.read.records.items =
    read_whole c.in-Ok-records_of.read.header c.in-Ok-records_of.read.records.items c.in-Ok-records_of.read.cut c.in-Ok.bodies is.3
    c.in-Ok-records_of.ensures.read.1 in
    let ends = c.in-Ok.ensures.ends ∙ ap (λ (b : List (List ℕ)). length (rows b)) (sym slice ∙ read)
    ∙ rows_size c.in-Ok-records_of.read.header c.in-Ok-records_of.read.records.items (limits_of _ _ may) (grammar_of _ _ may) in
    rw (is.0, is.2) ends)

pub returns-in-Ok-records_of-clause-refusal : goal.returns-in-Ok-records_of-clause-refusal
returns-in-Ok-records_of-clause-refusal g c = if_err c.log_of.result _ _ _ c.log_of.ensures.cut c.log_of.ensures.is_cut (λ e is some. λ bytes told.
    let slice : c.in-Ok.bodies ≡ c.in-Ok.bodies = cc in
    let opened = rw (← slice) at (c.in-Ok.ensures.opens bytes told).0 in
    log_cut_is c.in-Ok-records_of.read.header c.in-Ok-records_of.read.records c.in-Ok-records_of.read.cut c.in-Ok.journal.gate c.in-Ok.bodies bytes
    e.1 c.in-Ok-records_of.ensures.read.0 c.in-Ok-records_of.ensures.read.1
    opened (c.in-Ok.ensures.ends ∙ ap (λ (b : List (List ℕ)). length (rows b)) (sym slice)) c.in-Ok.ensures.small some is.1)

pub returns-in-Ok-clause-refusal : goal.returns-in-Ok-clause-refusal
returns-in-Ok-clause-refusal g c = λ bytes told.
    let slice : c.in-Ok.bodies ≡ c.in-Ok.bodies = cc in
    let opened = (c.in-Ok.ensures.opens bytes told).0 in
    unread_is c.in-Ok.bodies bytes opened.rest c.in-Err-records_of.fault (rw slice at c.in-Err-records_of.ensures.unread) c.in-Ok.ensures.some
    opened.parts opened.short

pub returns-clause-refusal : goal.returns-clause-refusal
returns-clause-refusal g c = λ bytes told. c.refusal_of-refused.ensures.refusal bytes (c.in-Err.ensures.refusal bytes told)

pub returns-in-Ok-records_of-clause-same : goal.returns-in-Ok-records_of-clause-same
returns-in-Ok-records_of-clause-same g c = if_both c.log_of.result _ _ _ _ c.log_of.ensures.log c.log_of.ensures.cut
    (λ l is. ap (λ j. g.D.Disk.content (disk_of j)) is.0 ∙ c.in-Ok.ensures.same)
    (λ e is. λ fault. ap g.D.Disk.content is.0 ∙ c.in-Ok.ensures.same)

pub returns-in-Ok-clause-same : goal.returns-in-Ok-clause-same
returns-in-Ok-clause-same g c = λ fault. ap g.D.Disk.content c.into_disk.ensures ∙ c.in-Ok.ensures.same

pub returns-clause-same : goal.returns-clause-same
returns-clause-same g c = λ fault. c.in-Err.ensures.same (λ is. fault (c.refusal_of-refused.ensures.is_fault is))
