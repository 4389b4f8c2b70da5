use Rattle.std.proofs.Common.{◌≡◌, ◌∷◌, inl, inr, arith}
use Rattle.std.specs.Iterator.Adapters.{zip_first, zip_second}
use Rattle.std.proofs.lemmas.Result.{err_from_is_err_and}
use Rattle.status_command.specs.Texts.{told_lines}
use Rattle.status_command.proofs.Lines.{line_more, line_cut, lines_done}
use Rattle.status_command.proofs.looking.write_statuses.Goals as goal

pub hashes-preserved : goal.hashes-preserved
hashes-preserved g c =
    let first : (zip_first c.hashes.hash-iterator).rest.now ≡ c.in-Some.hash.now ∷ (zip_first c.next.new.self).rest.now =
    cc (c.in-Some.ensures.steps.0) in
    let second : (zip_second c.hashes.hash-iterator).rest.now ≡ c.in-Some.status.now ∷ (zip_second c.next.new.self).rest.now =
    cc (c.in-Some.ensures.steps.1) in
    record {
      count = omega (arith, c.in_ok-write_status.ensures.cause.later);
      text = line_more (g.O.Sink.taken c.args.out.now) (g.O.Sink.taken c.hashes.out) (g.O.Sink.taken c.write_status.new.out)
          (told_lines c.args.hashes.now c.args.statuses.now)
          (zip_first c.hashes.hash-iterator).rest.now (zip_first c.next.new.self).rest.now (zip_second c.hashes.hash-iterator).rest.now
          (zip_second c.next.new.self).rest.now
          c.in-Some.hash.now c.in-Some.status.now first second c.hashes.invariant.text c.in_ok-write_status.ensures.prints;
    }

pub returns-in_err-write_status-clause-prints : goal.returns-in_err-write_status-clause-prints
returns-in_err-write_status-clause-prints g c =
    let first : (zip_first c.hashes.hash-iterator).rest.now ≡ c.in-Some.hash.now ∷ (zip_first c.next.new.self).rest.now =
    cc (c.in-Some.ensures.steps.0) in
    let second : (zip_second c.hashes.hash-iterator).rest.now ≡ c.in-Some.status.now ∷ (zip_second c.next.new.self).rest.now =
    cc (c.in-Some.ensures.steps.1) in
    let p = err_from_is_err_and c.from_residual.result c.from_residual.ensures.1 in
    rw p.1 (
    line_cut (g.O.Sink.taken c.args.out.now) (g.O.Sink.taken c.hashes.out) (g.O.Sink.taken c.write_status.new.out)
    (told_lines c.args.hashes.now c.args.statuses.now)
    (zip_first c.hashes.hash-iterator).rest.now (zip_first c.next.new.self).rest.now (zip_second c.hashes.hash-iterator).rest.now
    (zip_second c.next.new.self).rest.now
    c.in-Some.hash.now c.in-Some.status.now first second c.hashes.invariant.text c.in_err-write_status.ensures.prints
    )

pub returns-clause-prints : goal.returns-clause-prints
returns-clause-prints g c =
    lines_done (g.O.Sink.taken c.args.out.now) (g.O.Sink.taken c.hashes.out) (told_lines c.args.hashes.now c.args.statuses.now)
    (zip_first c.hashes.hash-iterator).rest.now (zip_second c.hashes.hash-iterator).rest.now
    (elim c.in-None.ensures.steps [ inl h ↦ inl h.1.0 | inr h ↦ inr h.1.0 ])
    c.hashes.invariant.text
