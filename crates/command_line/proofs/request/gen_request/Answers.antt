use Rattle.std.proofs.Common.{inl, inr, ap, Err}
use Rattle.command_line.specs.Words.{texts}
use Rattle.requests.specs.declared.WordsFault.{WordsFault}
use Rattle.command_line.proofs.AskedLemmas.{refused_workload}
use Rattle.command_line.proofs.request.gen_request.Goals as goal

pub returns-in-Err-clause-refused : goal.returns-in-Err-clause-refused
returns-in-Err-clause-refused c = refused_workload (texts c.args.words.now) _ c.in-Err.fault c.requires
    (λ bad. inr (inr (inr (c.in-Err.ensures.none (ap (λ (e : WordsFault). Err e) bad)))))

pub returns-in-Err-shape_of-clause-refused : goal.returns-in-Err-shape_of-clause-refused
returns-in-Err-shape_of-clause-refused c = refused_workload (texts c.args.words.now) _ c.in-Err-shape_of.fault c.requires
    (λ bad. inl (c.in-Err-shape_of.ensures.none (ap (λ (e : WordsFault). Err e) bad)))
