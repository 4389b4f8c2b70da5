use Rattle.std.proofs.Common.{ap, Err}
use Rattle.command_line.specs.Words.{texts}
use Rattle.requests.specs.declared.WordsFault.{WordsFault}
use Rattle.command_line.proofs.AskedLemmas.{refused_repeats}
use Rattle.command_line.proofs.request.run_request.Goals as goal

pub returns-in-Err-clause-refused : goal.returns-in-Err-clause-refused
returns-in-Err-clause-refused c = refused_repeats (texts c.args.words.now) _ c.in-Err.fault c.requires
    (λ bad. c.in-Err.ensures.none (ap (λ (e : WordsFault). Err e) bad))
