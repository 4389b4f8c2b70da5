use Rattle.std.proofs.Common.{◌≡◌, ◌∙◌, List, sym, subst, arith}
use Rattle.std.specs.Prelude.{All}
use Rattle.audit.specs.declared.place.Place.{Place}
use Rattle.audit.specs.Rows.{read, rows_at, IsRecordPlace}
use Rattle.rack_ledgers.specs.Caused.{listed_journals, AreMerged}
use Rattle.rack_ledgers.proofs.Histories.{lent_all, lent_count, all_rise, are_merged, walked}
use Rattle.rack_ledgers.proofs.caused.first_uncaused.Goals as goal

pub merge-requires : goal.merge-requires
merge-requires g c =
    let same = lent_all c.args.nodes.now.logs.items c.args.nodes.now.shards.items c.new-all.result.items c.lend_logs.new.all.items
    c.lend_shards.new.all.items c.deref.result.now c.as_slice.result.now c.as_slice-2.result.now
    c.new-all.ensures.items c.as_slice.ensures.value c.as_slice-2.ensures.value c.in_ok-lend_logs.ensures c.in_ok-lend_shards.ensures
    c.deref.ensures.value in
    omega (arith, lent_count c.args.nodes.now.logs.items c.args.nodes.now.shards.items c.deref.result.now same, c.requires.few)

pub causes-requires : goal.causes-requires
causes-requires g c =
    let slices : c.deref.result.now ≡ c.deref-2.result.now = c.deref.ensures.value ∙ sym c.deref-2.ensures.value in
    subst (λ (l : List Place). All (IsRecordPlace (read c.deref-2.result.now)) l) (sym c.as_slice-3.ensures)
    (subst (λ s. All (IsRecordPlace (read s)) c.in_ok-history.history) slices c.in_ok-history.ensures.places)

pub returns : goal.returns
returns g c =
    let logs = c.args.nodes.now.logs.items in
    let shards = c.args.nodes.now.shards.items in
    let same = lent_all logs shards c.new-all.result.items c.lend_logs.new.all.items c.lend_shards.new.all.items c.deref.result.now
    c.as_slice.result.now c.as_slice-2.result.now
    c.new-all.ensures.items c.as_slice.ensures.value c.as_slice-2.ensures.value c.in_ok-lend_logs.ensures c.in_ok-lend_shards.ensures
    c.deref.ensures.value in
    let slices : c.deref.result.now ≡ c.deref-2.result.now = c.deref.ensures.value ∙ sym c.deref-2.ensures.value in
    let first : AreMerged (listed_journals logs shards) (rows_at (read c.deref.result.now) c.in_ok-history.history) =
    are_merged (read c.deref.result.now) (listed_journals logs shards) c.in_ok-history.history same
    (all_rise logs shards c.requires.logs c.requires.shards)
    c.in_ok-history.ensures.journals c.in_ok-history.ensures.newest_first c.in_ok-history.ensures.ordered in
    let merged : AreMerged (listed_journals logs shards) (rows_at (read c.deref-2.result.now) c.as_slice-3.result.now) =
    subst (λ (l : List Place). AreMerged (listed_journals logs shards) (rows_at (read c.deref-2.result.now) l)) (sym c.as_slice-3.ensures)
    (subst (λ s. AreMerged (listed_journals logs shards) (rows_at (read s) c.in_ok-history.history)) slices first) in
    walked c.args.nodes.now.header.shape (read c.deref-2.result.now) (listed_journals logs shards) c.as_slice-3.result.now merged c.causes.result
    c.causes.ensures
