use Rattle.std.proofs.Common.{◌≡◌, ◌∙◌, ap, ◌++◌, ◌+◌, ◌≤◌, Some, List, ℕ, length, take, drop, arith}
use Rattle.outside.proofs.Torn.{tells}
use Rattle.line_text.proofs.PieceLemmas.{written_further}
use Rattle.line_text.proofs.output.write_all.Goals as goal

pub loop-at-preserved : goal.loop-at-preserved
loop-at-preserved g c = record {
  inside = omega (arith, c.in-Ok.ensures.bound);
  later = omega (arith, c.write.ensures.cause.later);
  written = λ t is. written_further t c.args.bytes.now c.loop-at.at c.in-Ok.n (g.O.Sink.taken c.write.new.self)
      (tells (λ u. g.O.Sink.taken c.write.new.self ≡ Some (u ++ take c.in-Ok.n c.split_at.result.1.now)) (g.O.Sink.taken c.loop-at.out)
      c.in-Ok.ensures.bytes (t ++ take c.loop-at.at c.args.bytes.now) (c.loop-at.invariant.written t is)
      ∙ ap (λ (l : List ℕ). Some ((t ++ take c.loop-at.at c.args.bytes.now) ++ take c.in-Ok.n l)) c.split_at.ensures.back);
}
