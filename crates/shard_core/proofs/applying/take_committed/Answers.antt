use Rattle.std.proofs.Common.{◌≡◌, None, if◌then◌else◌, ◌<◌, Bool, true, false, not, ◌&&◌, length, arith, sym, ap, ◌∙◌, add-one}
use Rattle.cbdc_model.specs.Records.{Digest}
use Rattle.cbdc_model.specs.Status.{has}
use Rattle.shard_table.specs.Entries.{lookup}
use Rattle.shard_core.proofs.Moves.{drop_at, cut_bool, not_step, if_step, inputs_more, inputs_same}
use Rattle.shard_core.proofs.applying.take_committed.Goals as goal
use Rattle.shard_core.proofs.applying.take_committed.Goals.{then-decisions-at, else-decisions-at}

pub loop-at-preserved : goal.loop-at-preserved
loop-at-preserved c =
    let i = c.loop-at.invariant in
    let l : c.loop-at.at < length c.args.entries.now = c.loop-at-test.true in
    let dl : c.loop-at.at < length c.args.decisions.now = let q = c.requires in omega (arith, q) in
    let p = drop_at c.args.entries.now c.loop-at.at c.index-entries-at.result l c.index-entries-at.is in
    elim c.if-decisions-at.branch [
      | then-decisions-at w ↦
          let xs : w.as_slice.result.now ≡ c.index-entries-at.result.inputs = w.as_slice.ensures in
          let moved = rw xs at w.take_all.ensures in
          let more = (λ (y : Digest). inputs_more c.args.entries.now c.args.decisions.now c.loop-at.at c.index-entries-at.result p
          (cut_bool c.args.decisions.now c.loop-at.at true dl w.if-decisions-at.true) y) in
          rw (w.unspent-is, w.locks-is, add-one)
          (record {
            unspent = λ y. not_step _ _ (has c.index-entries-at.result.inputs y) (has c.loop-at.unspent.hashes y) _ (more y) (moved.unspent y)
                ∙ i.unspent y;
            locks = λ y. if_step _ _ (has c.index-entries-at.result.inputs y) None (lookup c.loop-at.locks.held y) _ (more y) (moved.locks y)
                ∙ i.locks y;
            spare = let s = i.spare in let m = moved.spare in omega (arith, s, m);
          })
      | else-decisions-at w ↦
          let same = (λ (y : Digest). inputs_same c.args.entries.now c.args.decisions.now c.loop-at.at c.index-entries-at.result p
          (cut_bool c.args.decisions.now c.loop-at.at false dl w.if-decisions-at.false) y) in
          rw (w.unspent-is, w.locks-is, add-one)
          (record {
            unspent = λ y. ap (λ (b : Bool). not b && has c.loop-at.unspent.hashes y) (sym (same y)) ∙ i.unspent y;
            locks = λ y. ap (λ (b : Bool). if b then None else lookup c.loop-at.locks.held y) (sym (same y)) ∙ i.locks y;
            spare = i.spare;
          })
    ]
