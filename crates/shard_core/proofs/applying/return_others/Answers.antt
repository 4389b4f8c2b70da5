use Rattle.std.proofs.Common.{◌≡◌, refl, None, if◌then◌else◌, ◌<◌, Bool, false, ◌||◌, length, get_or, arith, sym, ap, ◌∙◌, add-one}
use Rattle.cbdc_model.specs.Records.{Digest}
use Rattle.cbdc_model.specs.Status.{has}
use Rattle.shard_table.specs.Entries.{lookup}
use Rattle.shard_core.proofs.Moves.{drop_at, cut_bool, or_step, if_step, returned_more, returned_same, inputs_in_more}
use Rattle.shard_core.proofs.applying.return_others.Goals as goal
use Rattle.shard_core.proofs.applying.return_others.Goals.{then-is_returned, else-is_returned}

pub loop-at-preserved : goal.loop-at-preserved
loop-at-preserved c =
    let i = c.loop-at.invariant in
    let l : c.loop-at.at < length c.args.entries.now = c.loop-at-test.true in
    let dl : c.loop-at.at < length c.args.decisions.now = let q = c.requires.decisions in omega (arith, q) in
    let p = drop_at c.args.entries.now c.loop-at.at c.index-entries-at.result l c.index-entries-at.is in
    let rl : c.loop-at.at < length c.args.replies.now = let q = c.requires.replies in omega (arith, q) in
    let o = drop_at c.args.replies.now c.loop-at.at c.index-replies-at.result rl c.index-replies-at.is in
    let d = cut_bool c.args.decisions.now c.loop-at.at (get_or c.args.decisions.now c.loop-at.at false) dl refl in
    elim c.if-is_returned.branch [
      | then-is_returned w ↦
          let xs : w.as_slice.result.now ≡ c.index-entries-at.result.inputs = w.as_slice.ensures in
          let moved = rw xs at w.put_all.ensures in
          let more = (λ (y : Digest). returned_more c.args.entries.now c.args.replies.now c.args.decisions.now c.loop-at.at c.index-entries-at.result
          c.index-replies-at.result (get_or c.args.decisions.now c.loop-at.at false) p o d (sym c.is_returned.ensures ∙ w.if-is_returned.true) y)
          in
          rw (w.unspent-is, w.locks-is, add-one)
          (record {
            unspent = λ y. or_step _ _ (has c.index-entries-at.result.inputs y) (has c.loop-at.unspent.hashes y) _ (more y) (moved.unspent y)
                ∙ i.unspent y;
            locks = λ y. if_step _ _ (has c.index-entries-at.result.inputs y) None (lookup c.loop-at.locks.held y) _ (more y) (moved.locks y)
                ∙ i.locks y;
            spare = let n = inputs_in_more c.args.entries.now c.loop-at.at c.index-entries-at.result p in let s = i.spare in let m = moved.spare in
                omega (arith, n, s, m);
          })
      | else-is_returned w ↦
          let same = (λ (y : Digest). returned_same c.args.entries.now c.args.replies.now c.args.decisions.now c.loop-at.at c.index-entries-at.result
          c.index-replies-at.result (get_or c.args.decisions.now c.loop-at.at false) p o d (sym c.is_returned.ensures ∙ w.if-is_returned.false)
          y) in
          rw (w.unspent-is, w.locks-is, add-one)
          (record {
            unspent = λ y. ap (λ (b : Bool). b || has c.loop-at.unspent.hashes y) (sym (same y)) ∙ i.unspent y;
            locks = λ y. ap (λ (b : Bool). if b then None else lookup c.loop-at.locks.held y) (sym (same y)) ∙ i.locks y;
            spare = let n = inputs_in_more c.args.entries.now c.loop-at.at c.index-entries-at.result p in let s = i.spare in omega (arith, n, s);
          })
    ]
