use Rattle.std.proofs.Common.{◌≡◌, ◌++◌, le_trans, ◌∙◌, ℕ, length, take, drop, ap, arith, rules}
use Rattle.client_files.proofs.PieceLemmas.{one_piece, at_end}
use Rattle.client_files.proofs.input.fetch.Goals as goal

pub returns-then-branch-eq0-clause-bytes : goal.returns-then-branch-eq0-clause-bytes
returns-then-branch-eq0-clause-bytes g c = λ file is.
    let now = c.pieces.invariant.same c.args.name.now ∙ is in
    let so_far = c.pieces.invariant.read file is in
    let none : c.in_ok-read_more.field-0 ≡ 0 = omega arith in
    let ended = c.in_ok-read_more.ensures.end file now none in
    let joined = c.in_ok-read_more.ensures.bytes file now in
    let inside = c.pieces.invariant.inside in
    c.from_vec.ensures ∙ at_end file c.pieces.bytes.items c.read_more.new.bytes.items 1073741824 so_far.0 so_far.1
    (joined ∙ ap (λ (k : ℕ). c.pieces.bytes.items ++ take k (drop (length c.pieces.bytes.items) file)) none) ended inside

pub returns-then-branch-eq0-clause-more : goal.returns-then-branch-eq0-clause-more
returns-then-branch-eq0-clause-more g c = λ file is.
    let now = c.pieces.invariant.same c.args.name.now ∙ is in
    let none : c.in_ok-read_more.field-0 ≡ 0 = omega arith in
    let ended = c.in_ok-read_more.ensures.end file now none in
    let inside = c.pieces.invariant.inside in
    (λ bad. absurd (search (rules)), λ past. absurd (omega (arith, ended, inside)))

pub pieces-preserved : goal.pieces-preserved
pieces-preserved g c = record {
  inside = omega (arith, c.in_ok-read_more.ensures.len.0, c.in_ok-read_more.ensures.len.1);
  same = λ other. c.read_more.ensures.same other ∙ c.pieces.invariant.same other;
  later = λ other. le_trans (c.pieces.invariant.later other) (c.read_more.ensures.later other);
  read = λ file is.
      let now = c.pieces.invariant.same c.args.name.now ∙ is in
      let so_far = c.pieces.invariant.read file is in
      one_piece file c.pieces.bytes.items c.read_more.new.bytes.items c.in_ok-read_more.field-0 so_far.0 so_far.1
      (c.in_ok-read_more.ensures.bytes file now) c.in_ok-read_more.ensures.len.0;
}

pub returns-in_err-read_more-clause-same : goal.returns-in_err-read_more-clause-same
returns-in_err-read_more-clause-same g c = λ other. c.read_more.ensures.same other ∙ c.pieces.invariant.same other

pub returns-in_err-read_more-clause-later : goal.returns-in_err-read_more-clause-later
returns-in_err-read_more-clause-later g c = λ other. le_trans (c.pieces.invariant.later other) (c.read_more.ensures.later other)

pub returns-then-branch-eq0-clause-same : goal.returns-then-branch-eq0-clause-same
returns-then-branch-eq0-clause-same g c = λ other. c.read_more.ensures.same other ∙ c.pieces.invariant.same other

pub returns-then-branch-eq0-clause-later : goal.returns-then-branch-eq0-clause-later
returns-then-branch-eq0-clause-later g c = λ other. le_trans (c.pieces.invariant.later other) (c.read_more.ensures.later other)

pub returns-in_err-more-clause-same : goal.returns-in_err-more-clause-same
returns-in_err-more-clause-same g c = λ other. c.is_longer.ensures.same other ∙ c.pieces.invariant.same other

pub returns-in_err-more-clause-later : goal.returns-in_err-more-clause-later
returns-in_err-more-clause-later g c = λ other. le_trans (c.pieces.invariant.later other) (c.is_longer.ensures.later other)

pub returns-clause-same : goal.returns-clause-same
returns-clause-same g c = λ other. c.is_longer.ensures.same other ∙ c.pieces.invariant.same other

pub returns-clause-later : goal.returns-clause-later
returns-clause-later g c = λ other. le_trans (c.pieces.invariant.later other) (c.is_longer.ensures.later other)

pub returns-clause-bytes : goal.returns-clause-bytes
returns-clause-bytes g c = λ file is.
    let so_far = c.pieces.invariant.read file is in
    let inside = c.pieces.invariant.inside in
    let full : length c.pieces.bytes.items ≡ 1073741824 = omega (arith, inside) in
    c.from_vec-2.ensures ∙ so_far.1 ∙ ap (λ (k : ℕ). take k file) full
