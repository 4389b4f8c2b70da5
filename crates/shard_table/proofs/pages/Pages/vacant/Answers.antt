use Rattle.std.proofs.Common.{[], ◌∷◌, None, arith}
use Rattle.std.proofs.lemmas.List.{length-append}
use Rattle.shard_table.proofs.Rows.{rows_more, vacant_more}
use Rattle.shard_table.proofs.Prefixes.{vacant_many}
use Rattle.shard_table.proofs.pages.Pages.vacant.Goals as goal

pub loop-i-preserved : goal.loop-i-preserved
loop-i-preserved g c =
    let i = c.loop-i.invariant in
    let page = c.in_ok-vacant_page.field-0 in
    let empty = c.in_ok-vacant_page.ensures in
    let is = c.in_ok-push.ensures.items in
    rw is
    (record {
      rows = rows_more (λ v. v.items) c.loop-i.pages.items page i.rows (vacant_many page.items 256 None empty);
      many = omega (arith, length-append c.loop-i.pages.items (page ∷ []), i.many);
      vacant = vacant_more (λ v. v.items) c.loop-i.pages.items page c.loop-i.i None i.vacant empty;
    })
