use Rattle.std.proofs.Common.{inl, inr, ap, Err}
use Rattle.command_line.specs.Words.{texts}
use Rattle.requests.specs.declared.WordsFault.{WordsFault}
use Rattle.command_line.proofs.AskedLemmas.{refused_workload}
use Rattle.command_line.proofs.request.workload_of.Goals as goal

pub returns-in-Err-clause-refused : goal.returns-in-Err-clause-refused
returns-in-Err-clause-refused c = refused_workload (texts c.args.words.now) _ c.in-Err.fault c.requires.met
    (λ bad. inr (inl (c.in-Err.ensures.none (ap (λ (e : WordsFault). Err e) bad))))

pub returns-in-Err-number-clause-refused : goal.returns-in-Err-number-clause-refused
returns-in-Err-number-clause-refused c = refused_workload (texts c.args.words.now) _ c.in-Err-number.fault c.requires.met
    (λ bad. inr (inr (inl (c.in-Err-number.ensures.none (ap (λ (e : WordsFault). Err e) bad)))))
