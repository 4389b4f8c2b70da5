use Rattle.std.proofs.Common.{◌≡◌, ◌∙◌, ◌+◌, ◌≤◌, le_trans, ◌<◌, length, subst, arith, ap, inl, inr, ⊎_elim}
use Rattle.std.proofs.lemmas.Bool.{cases_lt}
use Rattle.cbdc_model.specs.History.{Minted}
use Rattle.cbdc_model.specs.World.{first_record}
use Rattle.rack_ledgers.specs.Places.{EachFrom}
use Rattle.rack_ledgers.specs.Racked.{OfTold}
use Rattle.rack_ledgers.proofs.Each.{each_weaker}
use Rattle.rack_ledgers.proofs.Closing.{closed_whole}
use Rattle.rack_ledgers.specs.declared.blank.Blank.{Blank}
use Rattle.cbdc_model.specs.Ranges.{node_count}
use Rattle.ledger_init.specs.Places.{IsFirstWritten, IsStopped, WritingStopsAt}
use Rattle.ledger_init.proofs.Places.{minted_is, may_be_made, all_hold, all_places, all_rooms, all_left, stopped_left, stopped_lead, stopped_unmade}
use Rattle.ledger_init.proofs.Places.{opening_unmade, back_begun, back_emptied, back_all, stopped_at}
use Rattle.ledger_init.proofs.making.make_nodes.Goals as goal

pub returns-in-Err-clause-refusal : goal.returns-in-Err-clause-refusal
returns-in-Err-clause-refusal g c =
    opening_unmade g.R.Disk.Disk (λ (b : Blank g.row.R-Disk.Denot). b.disk) (λ (b : Blank g.row.R-Disk.Denot). b.node) c.args.shape.now c.args.mint
    (λ n. g.R.Rack.held c.args.rack.now n) (λ n. g.R.Rack.held c.open_all.new.rack n) (λ n. g.R.Rack.count c.args.rack.now n)
    (λ n. g.R.Rack.count c.open_all.new.rack n) c.in-Err.fault (0 + length c.new.result.items) (0 + (c.coordinators.result + c.shards.result))
    (omega (arith, ap length c.new.ensures.items)) (omega (arith, c.coordinators.ensures.value, c.shards.ensures.value)) c.requires.fits
    c.in-Err.ensures.refusal

pub returns-in-Err-clause-left : goal.returns-in-Err-clause-left
returns-in-Err-clause-left g c = λ n lt.
    back_begun g.R.Disk.Disk (λ (b : Blank g.row.R-Disk.Denot). b.disk) (λ (b : Blank g.row.R-Disk.Denot). b.node) c.args.shape.now c.args.mint
    (λ n. g.R.Rack.held c.args.rack.now n) (λ n. g.R.Rack.held c.open_all.new.rack n) (λ n. g.R.Rack.count c.args.rack.now n)
    (λ n. g.R.Rack.count c.open_all.new.rack n) n (c.in-Err.ensures.held n (omega (arith, ap length c.new.ensures.items))
    (omega (arith, lt, c.coordinators.ensures.value, c.shards.ensures.value)))

pub returns-in-Err-clause-lead : goal.returns-in-Err-clause-lead
returns-in-Err-clause-lead g c = λ other.
    back_emptied g.R.Disk.Disk (λ (b : Blank g.row.R-Disk.Denot). b.disk) (λ (b : Blank g.row.R-Disk.Denot). b.node) c.args.shape.now c.args.mint
    (λ n. g.R.Rack.held c.args.rack.now n) (λ n. g.R.Rack.held c.open_all.new.rack n) (λ n. g.R.Rack.count c.args.rack.now n)
    (λ n. g.R.Rack.count c.open_all.new.rack n) 0 (c.in-Err.ensures.held 0 (omega (arith, ap length c.new.ensures.items))
    (omega (arith, c.coordinators.ensures.limits.some_coordinator, c.coordinators.ensures.value, c.shards.ensures.value)))

pub returns-in-Ok-write_firsts-clause-was : goal.returns-in-Ok-write_firsts-clause-was
returns-in-Ok-write_firsts-clause-was g c =
    let blanks = c.in-Ok-open_all.blanks.items in
    let all : length blanks ≡ node_count c.args.shape.now =
    omega (arith, c.in-Ok-open_all.ensures.all, c.coordinators.ensures.value, c.shards.ensures.value) in
    let opened = closed_whole _ 0 c.new.result.items blanks c.new.ensures.items c.in-Ok-open_all.ensures.opened in
    may_be_made g.R.Disk.Disk (λ (b : Blank g.row.R-Disk.Denot). b.disk) (λ (b : Blank g.row.R-Disk.Denot). b.node) c.args.shape.now c.args.mint
    (λ n. g.R.Rack.held c.args.rack.now n) (λ n. g.R.Rack.held c.write_firsts.new.rack n) (λ n. g.R.Rack.count c.args.rack.now n)
    (λ n. g.R.Rack.count c.write_firsts.new.rack n) blanks all opened c.requires.fits

pub returns-in-Ok-write_firsts-clause-written : goal.returns-in-Ok-write_firsts-clause-written
returns-in-Ok-write_firsts-clause-written g c =
    let blanks = c.in-Ok-open_all.blanks.items in
    let all : length blanks ≡ node_count c.args.shape.now =
    omega (arith, c.in-Ok-open_all.ensures.all, c.coordinators.ensures.value, c.shards.ensures.value) in
    let opened = closed_whole _ 0 c.new.result.items blanks c.new.ensures.items c.in-Ok-open_all.ensures.opened in
    let done = subst (λ (m : Minted). EachFrom (λ n (b : Blank g.row.R-Disk.Denot). IsFirstWritten g.R.Disk.Disk (first_record c.args.shape.now m n)
    b.disk (g.R.Rack.held c.write_firsts.new.rack n)) 0 blanks)
    (minted_is c.in-Ok.genesis c.args.mint c.in-Ok.ensures.0 c.in-Ok.ensures.1) c.in-Ok-write_firsts.ensures.done in
    all_hold g.R.Disk.Disk (λ (b : Blank g.row.R-Disk.Denot). b.disk) (λ (b : Blank g.row.R-Disk.Denot). b.node) c.args.shape.now c.args.mint
    (λ n. g.R.Rack.held c.args.rack.now n) (λ n. g.R.Rack.held c.write_firsts.new.rack n) (λ n. g.R.Rack.count c.args.rack.now n)
    (λ n. g.R.Rack.count c.write_firsts.new.rack n) blanks all opened done

pub returns-in-Ok-write_firsts-clause-places : goal.returns-in-Ok-write_firsts-clause-places
returns-in-Ok-write_firsts-clause-places g c =
    let blanks = c.in-Ok-open_all.blanks.items in
    let all : length blanks ≡ node_count c.args.shape.now =
    omega (arith, c.in-Ok-open_all.ensures.all, c.coordinators.ensures.value, c.shards.ensures.value) in
    let opened = closed_whole _ 0 c.new.result.items blanks c.new.ensures.items c.in-Ok-open_all.ensures.opened in
    let done = subst (λ (m : Minted). EachFrom (λ n (b : Blank g.row.R-Disk.Denot). IsFirstWritten g.R.Disk.Disk (first_record c.args.shape.now m n)
    b.disk (g.R.Rack.held c.write_firsts.new.rack n)) 0 blanks)
    (minted_is c.in-Ok.genesis c.args.mint c.in-Ok.ensures.0 c.in-Ok.ensures.1) c.in-Ok-write_firsts.ensures.done in
    all_places g.R.Disk.Disk (λ (b : Blank g.row.R-Disk.Denot). b.disk) (λ (b : Blank g.row.R-Disk.Denot). b.node) c.args.shape.now c.args.mint
    (λ n. g.R.Rack.held c.args.rack.now n) (λ n. g.R.Rack.held c.write_firsts.new.rack n) (λ n. g.R.Rack.count c.args.rack.now n)
    (λ n. g.R.Rack.count c.write_firsts.new.rack n) blanks all opened c.coordinators.ensures.limits c.requires.few done

pub returns-in-Ok-write_firsts-clause-rooms : goal.returns-in-Ok-write_firsts-clause-rooms
returns-in-Ok-write_firsts-clause-rooms g c =
    let blanks = c.in-Ok-open_all.blanks.items in
    let all : length blanks ≡ node_count c.args.shape.now =
    omega (arith, c.in-Ok-open_all.ensures.all, c.coordinators.ensures.value, c.shards.ensures.value) in
    let opened = closed_whole _ 0 c.new.result.items blanks c.new.ensures.items c.in-Ok-open_all.ensures.opened in
    let done = subst (λ (m : Minted). EachFrom (λ n (b : Blank g.row.R-Disk.Denot). IsFirstWritten g.R.Disk.Disk (first_record c.args.shape.now m n)
    b.disk (g.R.Rack.held c.write_firsts.new.rack n)) 0 blanks)
    (minted_is c.in-Ok.genesis c.args.mint c.in-Ok.ensures.0 c.in-Ok.ensures.1) c.in-Ok-write_firsts.ensures.done in
    all_rooms g.R.Disk.Disk (λ (b : Blank g.row.R-Disk.Denot). b.disk) (λ (b : Blank g.row.R-Disk.Denot). b.node) c.args.shape.now c.args.mint
    (λ n. g.R.Rack.held c.args.rack.now n) (λ n. g.R.Rack.held c.write_firsts.new.rack n) (λ n. g.R.Rack.count c.args.rack.now n)
    (λ n. g.R.Rack.count c.write_firsts.new.rack n) blanks all opened done

pub returns-in-Ok-write_firsts-clause-left : goal.returns-in-Ok-write_firsts-clause-left
returns-in-Ok-write_firsts-clause-left g c =
    let blanks = c.in-Ok-open_all.blanks.items in
    let all : length blanks ≡ node_count c.args.shape.now =
    omega (arith, c.in-Ok-open_all.ensures.all, c.coordinators.ensures.value, c.shards.ensures.value) in
    let opened = closed_whole _ 0 c.new.result.items blanks c.new.ensures.items c.in-Ok-open_all.ensures.opened in
    let done = subst (λ (m : Minted). EachFrom (λ n (b : Blank g.row.R-Disk.Denot). IsFirstWritten g.R.Disk.Disk (first_record c.args.shape.now m n)
    b.disk (g.R.Rack.held c.write_firsts.new.rack n)) 0 blanks)
    (minted_is c.in-Ok.genesis c.args.mint c.in-Ok.ensures.0 c.in-Ok.ensures.1) c.in-Ok-write_firsts.ensures.done in
    all_left g.R.Disk.Disk (λ (b : Blank g.row.R-Disk.Denot). b.disk) (λ (b : Blank g.row.R-Disk.Denot). b.node) c.args.shape.now c.args.mint
    (λ n. g.R.Rack.held c.args.rack.now n) (λ n. g.R.Rack.held c.write_firsts.new.rack n) (λ n. g.R.Rack.count c.args.rack.now n)
    (λ n. g.R.Rack.count c.write_firsts.new.rack n) blanks all opened (each_weaker _ _ 0 blanks (λ k b ge lt is. is.begun) done)

pub returns-clause-refusal : goal.returns-clause-refusal
returns-clause-refusal g c =
    let blanks = c.in-Ok-open_all.blanks.items in
    let all : length blanks ≡ node_count c.args.shape.now =
    omega (arith, c.in-Ok-open_all.ensures.all, c.coordinators.ensures.value, c.shards.ensures.value) in
    let opened = closed_whole _ 0 c.new.result.items blanks c.new.ensures.items c.in-Ok-open_all.ensures.opened in
    let stopped = subst (λ (m : Minted). WritingStopsAt
    (λ n (b : Blank g.row.R-Disk.Denot). OfTold (g.R.Rack.held c.write_firsts.new.rack n) (λ d. d ≡ b.disk))
    (λ n (b : Blank g.row.R-Disk.Denot). IsStopped g.R.Disk.Disk n (first_record c.args.shape.now m n) c.in-Err-write_firsts.fault
    (g.R.Rack.count c.write_firsts.new.rack n) b.disk (g.R.Rack.held c.write_firsts.new.rack n))
    (λ n (b : Blank g.row.R-Disk.Denot). IsFirstWritten g.R.Disk.Disk (first_record c.args.shape.now m n) b.disk
    (g.R.Rack.held c.write_firsts.new.rack n)) blanks)
    (minted_is c.in-Ok.genesis c.args.mint c.in-Ok.ensures.0 c.in-Ok.ensures.1) c.in-Err-write_firsts.ensures.stopped in
    stopped_unmade g.R.Disk.Disk (λ (b : Blank g.row.R-Disk.Denot). b.disk) (λ (b : Blank g.row.R-Disk.Denot). b.node) c.args.shape.now c.args.mint
    (λ n. g.R.Rack.held c.args.rack.now n) (λ n. g.R.Rack.held c.write_firsts.new.rack n) (λ n. g.R.Rack.count c.args.rack.now n)
    (λ n. g.R.Rack.count c.write_firsts.new.rack n) blanks all opened c.in-Err-write_firsts.fault stopped c.requires.fits
    c.coordinators.ensures.limits c.requires.few

pub returns-clause-left : goal.returns-clause-left
returns-clause-left g c =
    let blanks = c.in-Ok-open_all.blanks.items in
    let all : length blanks ≡ node_count c.args.shape.now =
    omega (arith, c.in-Ok-open_all.ensures.all, c.coordinators.ensures.value, c.shards.ensures.value) in
    let opened = closed_whole _ 0 c.new.result.items blanks c.new.ensures.items c.in-Ok-open_all.ensures.opened in
    let stopped = subst (λ (m : Minted). WritingStopsAt
    (λ n (b : Blank g.row.R-Disk.Denot). OfTold (g.R.Rack.held c.write_firsts.new.rack n) (λ d. d ≡ b.disk))
    (λ n (b : Blank g.row.R-Disk.Denot). IsStopped g.R.Disk.Disk n (first_record c.args.shape.now m n) c.in-Err-write_firsts.fault
    (g.R.Rack.count c.write_firsts.new.rack n) b.disk (g.R.Rack.held c.write_firsts.new.rack n))
    (λ n (b : Blank g.row.R-Disk.Denot). IsFirstWritten g.R.Disk.Disk (first_record c.args.shape.now m n) b.disk
    (g.R.Rack.held c.write_firsts.new.rack n)) blanks)
    (minted_is c.in-Ok.genesis c.args.mint c.in-Ok.ensures.0 c.in-Ok.ensures.1) c.in-Err-write_firsts.ensures.stopped in
    all_left g.R.Disk.Disk (λ (b : Blank g.row.R-Disk.Denot). b.disk) (λ (b : Blank g.row.R-Disk.Denot). b.node) c.args.shape.now c.args.mint
    (λ n. g.R.Rack.held c.args.rack.now n) (λ n. g.R.Rack.held c.write_firsts.new.rack n) (λ n. g.R.Rack.count c.args.rack.now n)
    (λ n. g.R.Rack.count c.write_firsts.new.rack n) blanks all opened
    (stopped_left g.R.Disk.Disk (λ (b : Blank g.row.R-Disk.Denot). b.disk) (λ (b : Blank g.row.R-Disk.Denot). b.node) c.args.shape.now
    c.args.mint (λ n. g.R.Rack.held c.args.rack.now n) (λ n. g.R.Rack.held c.write_firsts.new.rack n) (λ n. g.R.Rack.count c.args.rack.now n)
    (λ n. g.R.Rack.count c.write_firsts.new.rack n) blanks all opened c.in-Err-write_firsts.fault stopped)

pub returns-clause-lead : goal.returns-clause-lead
returns-clause-lead g c =
    let blanks = c.in-Ok-open_all.blanks.items in
    let all : length blanks ≡ node_count c.args.shape.now =
    omega (arith, c.in-Ok-open_all.ensures.all, c.coordinators.ensures.value, c.shards.ensures.value) in
    let opened = closed_whole _ 0 c.new.result.items blanks c.new.ensures.items c.in-Ok-open_all.ensures.opened in
    let stopped = subst (λ (m : Minted). WritingStopsAt
    (λ n (b : Blank g.row.R-Disk.Denot). OfTold (g.R.Rack.held c.write_firsts.new.rack n) (λ d. d ≡ b.disk))
    (λ n (b : Blank g.row.R-Disk.Denot). IsStopped g.R.Disk.Disk n (first_record c.args.shape.now m n) c.in-Err-write_firsts.fault
    (g.R.Rack.count c.write_firsts.new.rack n) b.disk (g.R.Rack.held c.write_firsts.new.rack n))
    (λ n (b : Blank g.row.R-Disk.Denot). IsFirstWritten g.R.Disk.Disk (first_record c.args.shape.now m n) b.disk
    (g.R.Rack.held c.write_firsts.new.rack n)) blanks)
    (minted_is c.in-Ok.genesis c.args.mint c.in-Ok.ensures.0 c.in-Ok.ensures.1) c.in-Err-write_firsts.ensures.stopped in
    stopped_lead g.R.Disk.Disk (λ (b : Blank g.row.R-Disk.Denot). b.disk) (λ (b : Blank g.row.R-Disk.Denot). b.node) c.args.shape.now c.args.mint
    (λ n. g.R.Rack.held c.args.rack.now n) (λ n. g.R.Rack.held c.write_firsts.new.rack n) (λ n. g.R.Rack.count c.args.rack.now n)
    (λ n. g.R.Rack.count c.write_firsts.new.rack n) blanks all opened c.in-Err-write_firsts.fault stopped

pub returns-in-Err-clause-stops : goal.returns-in-Err-clause-stops
returns-in-Err-clause-stops g c =
    inl (back_all g.R.Disk.Disk (g.R.Rack.count c.args.rack.now) (g.R.Rack.count c.open_all.new.rack) (λ n. g.R.Rack.held c.args.rack.now n)
    (λ n. g.R.Rack.held c.open_all.new.rack n) (node_count c.args.shape.now)
    (λ n lt. c.in-Err.ensures.held n (omega (arith, ap length c.new.ensures.items))
    (omega (arith, lt, c.coordinators.ensures.value, c.shards.ensures.value)))
    (λ n ge. c.open_all.ensures.others.held n (inr (omega (arith, ge, c.coordinators.ensures.value, c.shards.ensures.value)))))

pub returns-clause-stops : goal.returns-clause-stops
returns-clause-stops g c =
    let blanks = c.in-Ok-open_all.blanks.items in
    let all : length blanks ≡ node_count c.args.shape.now =
    omega (arith, c.in-Ok-open_all.ensures.all, c.coordinators.ensures.value, c.shards.ensures.value) in
    let opened = closed_whole _ 0 c.new.result.items blanks c.new.ensures.items c.in-Ok-open_all.ensures.opened in
    let stopped = subst (λ (m : Minted). WritingStopsAt
    (λ n (b : Blank g.row.R-Disk.Denot). OfTold (g.R.Rack.held c.write_firsts.new.rack n) (λ d. d ≡ b.disk))
    (λ n (b : Blank g.row.R-Disk.Denot). IsStopped g.R.Disk.Disk n (first_record c.args.shape.now m n) c.in-Err-write_firsts.fault
    (g.R.Rack.count c.write_firsts.new.rack n) b.disk (g.R.Rack.held c.write_firsts.new.rack n))
    (λ n (b : Blank g.row.R-Disk.Denot). IsFirstWritten g.R.Disk.Disk (first_record c.args.shape.now m n) b.disk
    (g.R.Rack.held c.write_firsts.new.rack n)) blanks)
    (minted_is c.in-Ok.genesis c.args.mint c.in-Ok.ensures.0 c.in-Ok.ensures.1) c.in-Err-write_firsts.ensures.stopped in
    inr (
      length stopped.front,
      stopped_at g.R.Disk.Disk (λ (b : Blank g.row.R-Disk.Denot). b.disk) (λ (b : Blank g.row.R-Disk.Denot). b.node) c.args.shape.now c.args.mint
          (λ n. g.R.Rack.held c.args.rack.now n) (λ n. g.R.Rack.held c.write_firsts.new.rack n) (λ n. g.R.Rack.count c.args.rack.now n)
          (λ n. g.R.Rack.count c.write_firsts.new.rack n) blanks all opened c.in-Err-write_firsts.fault stopped c.requires.fits
          (λ n ge. c.write_firsts.ensures.others_held n (omega (arith, ge, all))
          ∙ c.open_all.ensures.others.held n (inr (omega (arith, ge, c.coordinators.ensures.value, c.shards.ensures.value)))),
    )

pub returns-in-Err-clause-others_held : goal.returns-in-Err-clause-others_held
returns-in-Err-clause-others_held g c = λ n ge. c.open_all.ensures.others.held n
    (inr (omega (arith, ge, c.coordinators.ensures.value, c.shards.ensures.value)))

pub returns-in-Ok-write_firsts-clause-others_held : goal.returns-in-Ok-write_firsts-clause-others_held
returns-in-Ok-write_firsts-clause-others_held g c = λ n ge.
    c.write_firsts.ensures.others_held n (omega (arith, ge, c.in-Ok-open_all.ensures.all, c.coordinators.ensures.value, c.shards.ensures.value))
    ∙ c.open_all.ensures.others.held n (inr (omega (arith, ge, c.coordinators.ensures.value, c.shards.ensures.value)))

pub returns-clause-others_held : goal.returns-clause-others_held
returns-clause-others_held g c = λ n ge.
    c.write_firsts.ensures.others_held n (omega (arith, ge, c.in-Ok-open_all.ensures.all, c.coordinators.ensures.value, c.shards.ensures.value))
    ∙ c.open_all.ensures.others.held n (inr (omega (arith, ge, c.coordinators.ensures.value, c.shards.ensures.value)))

pub returns-in-Err-clause-back : goal.returns-in-Err-clause-back
returns-in-Err-clause-back g c = λ n.
    let end = 0 + (c.coordinators.result + c.shards.result) in
    ⊎_elim
    (λ (below : n < end). c.in-Err.ensures.back n (omega arith) below)
    (λ (above : end ≤ n). c.open_all.ensures.others.takes n (inr above) (c.requires.all n))
    (cases_lt n end)

pub returns-in-Ok-write_firsts-clause-back : goal.returns-in-Ok-write_firsts-clause-back
returns-in-Ok-write_firsts-clause-back g c = λ n.
    let blanks = c.in-Ok-open_all.blanks.items in
    ⊎_elim
    (λ (below : n < length blanks). c.write_firsts.ensures.back n below)
    (λ (above : length blanks ≤ n). c.write_firsts.ensures.others_in n above
    (c.open_all.ensures.others.takes n (inr (omega (arith, above, c.in-Ok-open_all.ensures.all))) (c.requires.all n)))
    (cases_lt n (length blanks))

pub returns-clause-back : goal.returns-clause-back
returns-clause-back g c = λ n.
    let blanks = c.in-Ok-open_all.blanks.items in
    ⊎_elim
    (λ (below : n < length blanks). c.write_firsts.ensures.back n below)
    (λ (above : length blanks ≤ n). c.write_firsts.ensures.others_in n above
    (c.open_all.ensures.others.takes n (inr (omega (arith, above, c.in-Ok-open_all.ensures.all))) (c.requires.all n)))
    (cases_lt n (length blanks))

pub returns-in-Err-clause-later : goal.returns-in-Err-clause-later
returns-in-Err-clause-later g c = c.open_all.ensures.others.later

pub returns-in-Ok-write_firsts-clause-later : goal.returns-in-Ok-write_firsts-clause-later
returns-in-Ok-write_firsts-clause-later g c = λ n. le_trans (c.open_all.ensures.others.later n) (c.write_firsts.ensures.later n)

pub returns-clause-later : goal.returns-clause-later
returns-clause-later g c = λ n. le_trans (c.open_all.ensures.others.later n) (c.write_firsts.ensures.later n)
