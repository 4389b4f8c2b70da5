use Rattle.std.proofs.Common.{◌≡◌, Some, if◌then◌else◌, Bool, true, false, not, ◌&&◌, arith, sym, ap, ◌∙◌, add-one}
use Rattle.cbdc_model.specs.Records.{Digest, is_held}
use Rattle.cbdc_model.specs.Status.{has}
use Rattle.shard_core.specs.Agrees.{holder_in}
use Rattle.shard_core.proofs.Moves.{drop_at, not_step, if_step, held_more, held_same, held_count, held_count_same}
use Rattle.shard_core.proofs.applying.lock_held.Goals as goal
use Rattle.shard_core.proofs.applying.lock_held.Goals.{then-is_held, else-is_held}

pub lock_all-requires : goal.lock_all-requires
lock_all-requires c =
    let p = drop_at c.args.entries.now c.loop-answered.answered-index c.answered-item.result c.loop-answered-test.true c.answered-item.is in
    let held : is_held c.answered-item.result.reply ≡ true = sym c.is_held.ensures ∙ c.if-is_held.true in
    let n = held_count c.args.entries.now c.loop-answered.answered-index c.answered-item.result p held in
    let room = c.loop-answered.invariant.room in
    rw c.as_slice-inputs.ensures (omega (arith, n, room))

pub loop-answered-preserved : goal.loop-answered-preserved
loop-answered-preserved c =
    let i = c.loop-answered.invariant in
    let p = drop_at c.args.entries.now c.loop-answered.answered-index c.answered-item.result c.loop-answered-test.true c.answered-item.is in
    elim c.if-is_held.branch [
      | then-is_held w ↦
          let held : is_held c.answered-item.result.reply ≡ true = sym c.is_held.ensures ∙ w.if-is_held.true in
          let moved = rw w.as_slice-inputs.ensures at w.lock_all.ensures in
          let more = (λ (y : Digest). held_more c.args.entries.now c.loop-answered.answered-index c.answered-item.result p held y) in
          rw (w.unspent-is, w.locks-is, add-one)
          (record {
            unspent = λ y. not_step _ _ (has c.answered-item.result.entry.inputs y) (has c.loop-answered.unspent.hashes y) _ (more y)
                (moved.unspent y) ∙ i.unspent y;
            locks = λ y. if_step _ _ (has c.answered-item.result.entry.inputs y) (Some c.args.batch.now) (holder_in c.loop-answered.locks.held y) _
                (more y) (moved.locks y) ∙ i.locks y;
            spare = let s = i.spare in let m = moved.spare in omega (arith, s, m);
            room =
                let n = held_count c.args.entries.now c.loop-answered.answered-index c.answered-item.result p held in
                let s = i.room in let m = moved.room in omega (arith, n, s, m);
          })
      | else-is_held w ↦
          let free : is_held c.answered-item.result.reply ≡ false = sym c.is_held.ensures ∙ w.if-is_held.false in
          let same = (λ (y : Digest). held_same c.args.entries.now c.loop-answered.answered-index c.answered-item.result p free y) in
          rw (w.unspent-is, w.locks-is, add-one)
          (record {
            unspent = λ y. ap (λ (b : Bool). not b && has c.loop-answered.unspent.hashes y) (sym (same y)) ∙ i.unspent y;
            locks = λ y. ap (λ (b : Bool). if b then Some c.args.batch.now else holder_in c.loop-answered.locks.held y) (sym (same y)) ∙ i.locks y;
            spare = i.spare;
            room =
                let n = held_count_same c.args.entries.now c.loop-answered.answered-index c.answered-item.result p free in
                let s = i.room in omega (arith, n, s);
          })
    ]
