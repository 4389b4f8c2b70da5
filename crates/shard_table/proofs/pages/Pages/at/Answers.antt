use Rattle.std.proofs.Common.{◌<◌, ◌/◌, ◌%◌, length, arith, None, ◌∙◌}
use Rattle.std.proofs.lemmas.List.{get_or_default}
use Rattle.shard_table.proofs.Rows.{rows_length, row_fits, row_at}
use Rattle.shard_table.proofs.pages.Pages.at.Goals as goal

pub index-requires : goal.index-requires
index-requires g c =
    let n = rows_length (λ v. v.items) c.self.inside.pages.items c.self.invariant.0 in
    let r = rw (← c.self.view_is) at c.requires in
    let ok = c.self.inside.pages.ok.0 in
    omega (arith, n, r, ok)

pub index-requires-2 : goal.index-requires-2
index-requires-2 g c =
    let n = rows_length (λ v. v.items) c.self.inside.pages.items c.self.invariant.0 in
    let r = rw (← c.self.view_is) at c.requires in
    let fits = row_fits (λ v. v.items) c.self.inside.pages.items (c.args.i / 256) c.index.result.now c.self.invariant.0 (omega (arith, n, r))
    c.index.ensures in
    let ok = c.index.result.now.ok.0 in
    omega (arith, fits, ok)

pub returns : goal.returns
returns g c =
    let n = rows_length (λ v. v.items) c.self.inside.pages.items c.self.invariant.0 in
    let r = rw (← c.self.view_is) at c.requires in
    let a : c.args.i / 256 < length c.self.inside.pages.items = omega (arith, n, r) in
    let fits = row_fits (λ v. v.items) c.self.inside.pages.items (c.args.i / 256) c.index.result.now c.self.invariant.0 a c.index.ensures in
    rw (← c.self.view_is) (c.index-2.ensures ∙ get_or_default _ _ _ _
    (let l : c.args.i % 256 < length c.index.result.now.items = omega (arith, fits) in l)
    ∙ row_at (λ v. v.items) c.self.inside.pages.items (c.args.i / 256) (c.args.i % 256) c.args.i c.index.result.now None c.self.invariant.0 a
    c.index.ensures (omega arith) (omega arith))
