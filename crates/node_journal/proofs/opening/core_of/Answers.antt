use Rattle.std.proofs.Common.{◌≡◌, reverse, arith}
use Rattle.cbdc_model.specs.Room.{kept_room}
use Rattle.record_log.proofs.LogSizes.{limits_of}
use Rattle.node_journal.specs.Opening.{IsPlayed}
use Rattle.node_journal.proofs.Journals.{sum_reversed}
use Rattle.node_journal.proofs.Playing.{kept_is}
use Rattle.node_journal.proofs.Stops.{open_unplayed, full_is}
use Rattle.node_journal.proofs.opening.core_of.Goals as goal

pub returns-in-Err-clause-refusal : goal.returns-in-Err-clause-refusal
returns-in-Err-clause-refusal g c = λ bytes opens.
    let log = c.args.log.now in
    open_unplayed g.C.Core.kind g.C.Core.other (g.D.Disk.limit log.journal.disk) log.header log.records.items c.in-Err.fault bytes log.journal.gate
    c.requires.grammar (rw c.deref.ensures.value at c.in-Err.ensures.unplayed) opens c.requires.ends
    (omega (arith, c.used-used.ensures, c.used-used.type_inv))

pub overflow_sub-capacity : goal.overflow_sub-capacity
overflow_sub-capacity g c =
    let within = c.args.log.now.journal.within c.requires.whole in
    omega (arith, within, g.met.D.Disk.fits c.args.log.now.journal.disk, c.used-used.ensures, c.capacity-capacity.ensures)

pub returns-then-need-capacity-clause-refusal : goal.returns-then-need-capacity-clause-refusal
returns-then-need-capacity-clause-refusal g c = λ bytes opens.
    let log = c.args.log.now in
    let limits = limits_of log.header log.records.items c.requires.grammar in
    let played : IsPlayed g.C.Core.header g.C.Core.stands g.C.Core.kind log.header c.in-Ok.core (reverse log.records.items) =
    rw c.deref.ensures.value at c.in-Ok.ensures.played in
    let kept = kept_is log.header c.in-Ok.core (reverse log.records.items) c.kept_room-need.result limits played c.kept_room-need.ensures in
    full_is g.C.Core.kind g.C.Core.other log.header log.records.items c.used-used.result c.kept_room-need.result c.capacity-capacity.result
    (g.D.Disk.limit log.journal.disk) bytes limits played.journal played.kind opens
    (omega (arith, c.used-used.ensures, c.requires.ends)) kept c.capacity-capacity.ensures (omega (arith, c.if-need-capacity.true))

pub returns-clause-room : goal.returns-clause-room
returns-clause-room g c =
    let log = c.args.log.now in
    let within = c.args.log.now.journal.within c.requires.whole in
    let played : IsPlayed g.C.Core.header g.C.Core.stands g.C.Core.kind log.header c.in-Ok.core (reverse log.records.items) =
    rw c.deref.ensures.value at c.in-Ok.ensures.played in
    let kept : c.kept_room-need.result ≡ kept_room log.header.shape (reverse log.records.items)
    = kept_is log.header c.in-Ok.core (reverse log.records.items) c.kept_room-need.result (limits_of log.header log.records.items c.requires.grammar)
    played c.kept_room-need.ensures in
    omega (
      arith,
      c.used-used.ensures,
      c.requires.ends,
      sum_reversed log.records.items,
      c.capacity-capacity.ensures,
      kept,
      c.if-need-capacity.false,
      within,
      g.met.D.Disk.fits log.journal.disk,
    )
