use Rattle.std.proofs.Common.{◌≡◌, ◌∙◌, length, ap, subst, arith}
use Rattle.line_text.specs.Lines.{Prints}
use Rattle.line_text.specs.Reports.{resumed_line}
use Rattle.printed_lines.specs.Recoveries.{won_in, lost_in}
use Rattle.run_command.proofs.Recovered.{won_or_lost}
use Rattle.run_command.proofs.recovering.write_batch.Goals as goal

pub returns-clause-prints : goal.returns-clause-prints
returns-clause-prints g c =
    let one = c.args.resumed.now in
    let old = g.O.Sink.taken c.args.out.now in
    let new = g.O.Sink.taken c.write_resumed.new.out in
    let same : c.as_slice-outcomes.result.now ≡ c.args.resumed.now.outcomes = c.as_slice-outcomes.ensures in
    let long = ap length same in
    let all = won_or_lost c.args.resumed.now.outcomes in
    let won : c.confirmed_of-confirmed.result ≡ won_in c.args.resumed.now.outcomes = c.confirmed_of-confirmed.ensures ∙ ap won_in same in
    let lost : c.saturating_sub-rejected.result ≡ lost_in c.args.resumed.now.outcomes =
    omega (arith, c.saturating_sub-rejected.ensures, won, all, long) in
    subst (λ n. Prints old new (resumed_line one.batch one.phase n (lost_in one.outcomes)) c.write_resumed.result) won
    (subst (λ m. Prints old new (resumed_line one.batch one.phase c.confirmed_of-confirmed.result m) c.write_resumed.result) lost
    c.write_resumed.ensures.prints)
