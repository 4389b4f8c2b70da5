use Rattle.std.proofs.Common.{◌∙◌, sym, ap, codes, map, Err}
use Rattle.std.specs.Borrow.{Bor}
use Rattle.clap.specs.Words.{Text, found_of, rows_of}
use Rattle.clap.proofs.WalkLemmas.{raw_values-rows}
use Rattle.command_line.specs.Words.{texts}
use Rattle.requests.specs.declared.WordsFault.{WordsFault}
use Rattle.command_line.proofs.AskedLemmas.{refused_hashes}
use Rattle.command_line.proofs.request.status_request.Goals as goal

pub returns-in-Ok-clause-asked : goal.returns-in-Ok-clause-asked
returns-in-Ok-clause-asked c = (
  rows_of (found_of c.args.inner.now),
  (
    c.requires,
    (
      map (λ (t : Bor Text). t.now) c.in-Some.given.now,
      sym (raw_values-rows (found_of c.args.inner.now) (codes "hash")) ∙ sym c.in-Some.ensures,
      c.in-Ok.ensures.hashes,
    ),
  ),
)

pub returns-in-Err-clause-refused : goal.returns-in-Err-clause-refused
returns-in-Err-clause-refused c =
    refused_hashes (texts c.args.words.now) (map (λ (t : Bor Text). t.now) c.in-Some.given.now) _ c.in-Err.fault c.requires
    (sym (raw_values-rows (found_of c.args.inner.now) (codes "hash")) ∙ sym c.in-Some.ensures)
    (λ bad. c.in-Err.ensures.none (ap (λ (e : WordsFault). Err e) bad))
