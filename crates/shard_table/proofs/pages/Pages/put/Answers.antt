use Rattle.std.proofs.Common.{◌<◌, ◌/◌, ◌%◌, length, arith, refl}
use Rattle.std.specs.Vec.{with_item}
use Rattle.shard_table.proofs.Rows.{rows_length, row_fits, row_set}
use Rattle.shard_table.proofs.pages.Pages.put.Goals as goal

pub index_mut-requires : goal.index_mut-requires
index_mut-requires g c =
    let n = rows_length (λ v. v.items) c.self.inside.pages.items c.self.invariant.0 in
    let r = rw (← c.self.view_is) at c.requires in
    let ok = c.self.inside.pages.ok.0 in
    omega (arith, n, r, ok)

pub index_mut-requires-2 : goal.index_mut-requires-2
index_mut-requires-2 g c =
    let n = rows_length (λ v. v.items) c.self.inside.pages.items c.self.invariant.0 in
    let r = rw (← c.self.view_is) at c.requires in
    let fits = row_fits (λ v. v.items) c.self.inside.pages.items (c.args.i / 256) c.index_mut.result.now c.self.invariant.0 (omega (arith, n, r))
    c.index_mut.ensures.value in
    let ok = c.index_mut.result.now.ok.0 in
    omega (arith, fits, ok)

pub returns : goal.returns
returns g c =
    let n = rows_length (λ v. v.items) c.self.inside.pages.items c.self.invariant.0 in
    let r = rw (← c.self.view_is) at c.requires in
    let a : c.args.i / 256 < length c.self.inside.pages.items = omega (arith, n, r) in
    rw (← c.self.view_is)
    (row_set (λ v. v.items) c.self.inside.pages.items (c.args.i / 256) (c.args.i % 256) c.args.i c.index_mut.result.now
    (with_item c.index_mut.result.now (c.args.i % 256) c.args.slot) c.args.slot c.self.invariant.0 a c.index_mut.ensures.value (omega arith)
    (omega arith) refl)
