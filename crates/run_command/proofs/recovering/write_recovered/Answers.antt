use Rattle.std.proofs.Common.{◌≡◌, ◌+◌, ◌<◌, ◌++◌, length, drop, get_or, subst, arith}
use Rattle.std.proofs.lemmas.Result.{err_from_is_err_and}
use Rattle.line_text.specs.Lines.{Prints}
use Rattle.line_text.specs.Reports.{recovery_text}
use Rattle.run_command.specs.Texts.{batch_text, batch_texts}
use Rattle.command_answers.proofs.Parts.{Goes, goes_begin, part_more, part_cut, last_part}
use Rattle.run_command.proofs.Recovered.{next_text, no_text}
use Rattle.run_command.proofs.recovering.write_recovered.Goals as goal

pub batches-init : goal.batches-init
batches-init g c = record {
  count = omega arith;
  text = goes_begin (g.O.Sink.taken c.args.out.now)
      (batch_texts c.args.recovered.now.resumed.items ++ recovery_text (length c.args.recovered.now.resumed.items) c.args.recovered.now.unspent);
}

pub batches-preserved : goal.batches-preserved
batches-preserved g c =
    let rs = c.args.recovered.now.resumed.items in
    let tail = recovery_text (length c.args.recovered.now.resumed.items) c.args.recovered.now.unspent in
    let i = c.batches.resumed-index in
    let slice = c.deref-resumed-items.ensures.value in
    let low : i < length rs = subst (λ l. i < length l) slice c.batches-test.true in
    let is : c.resumed-item.result ≡ get_or rs i c.resumed-item.result =
    subst (λ l. c.resumed-item.result ≡ get_or l i c.resumed-item.result) slice c.resumed-item.is in
    let old = g.O.Sink.taken c.args.out.now in
    let mid = g.O.Sink.taken c.batches.out in
    record {
      count = omega (arith, c.in_ok-write_batch.ensures.cause.later);
      text = part_more old mid (g.O.Sink.taken c.write_batch.new.out) (batch_texts rs ++ tail) (batch_text c.resumed-item.result)
          (batch_texts (drop (i + 1) rs) ++ tail)
          (subst (λ l. Goes old mid (batch_texts rs ++ tail) l) (next_text rs i c.resumed-item.result tail low is) c.batches.invariant.text)
          c.in_ok-write_batch.ensures.prints;
    }

pub returns-in_err-write_batch-clause-prints : goal.returns-in_err-write_batch-clause-prints
returns-in_err-write_batch-clause-prints g c =
    let rs = c.args.recovered.now.resumed.items in
    let tail = recovery_text (length c.args.recovered.now.resumed.items) c.args.recovered.now.unspent in
    let i = c.batches.resumed-index in
    let slice = c.deref-resumed-items.ensures.value in
    let low : i < length rs = subst (λ l. i < length l) slice c.batches-test.true in
    let is : c.resumed-item.result ≡ get_or rs i c.resumed-item.result =
    subst (λ l. c.resumed-item.result ≡ get_or l i c.resumed-item.result) slice c.resumed-item.is in
    let old = g.O.Sink.taken c.args.out.now in
    let mid = g.O.Sink.taken c.batches.out in
    let p = err_from_is_err_and c.from_residual.result c.from_residual.ensures.1 in
    rw p.1 (
    part_cut old mid (g.O.Sink.taken c.write_batch.new.out) (batch_texts rs ++ tail) (batch_text c.resumed-item.result)
    (batch_texts (drop (i + 1) rs) ++ tail)
    (subst (λ l. Goes old mid (batch_texts rs ++ tail) l) (next_text rs i c.resumed-item.result tail low is) c.batches.invariant.text)
    c.in_err-write_batch.ensures.prints
    )

pub returns-clause-prints : goal.returns-clause-prints
returns-clause-prints g c =
    let rs = c.args.recovered.now.resumed.items in
    let tail = recovery_text (length c.args.recovered.now.resumed.items) c.args.recovered.now.unspent in
    let old = g.O.Sink.taken c.args.out.now in
    let mid = g.O.Sink.taken c.batches.out in
    let long : c.len.result ≡ length c.args.recovered.now.resumed.items =
    omega (arith, c.len.ensures, c.deref-resumed-items.ensures.len, c.deref-resumed-items.ensures.value) in
    last_part old mid (g.O.Sink.taken c.write_recovery.new.out) (batch_texts rs ++ tail) tail c.write_recovery.result
    (subst (λ l. Goes old mid (batch_texts rs ++ tail) l) (no_text rs c.batches.resumed-index tail (omega (arith, c.batches-test.false)))
    c.batches.invariant.text)
    (subst (λ n. Prints mid (g.O.Sink.taken c.write_recovery.new.out) (recovery_text n c.args.recovered.now.unspent) c.write_recovery.result) long
    c.write_recovery.ensures.prints)
