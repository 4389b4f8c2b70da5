use Rattle.std.proofs.Common.{arith}
use Rattle.shard_table.proofs.Rows.{rows_length}
use Rattle.shard_table.proofs.pages.Pages.len.Goals as goal

pub returns : goal.returns
returns g c =
    let n = rows_length (λ v. v.items) c.self.inside.pages.items c.self.invariant.0 in
    rw (← c.self.view_is) (omega (arith, n, c.self.inside.pages.ok.0))
