use Rattle.std.proofs.Common.{◌≡◌, ◌∙◌, Bool, true, false, not, Some, List, ℕ, ap, sym, refl}
use Rattle.std.proofs.lemmas.Slice.Eq.{bytes_eq-Decides}
use Rattle.command_line.proofs.WordLemmas.{text_at}
use Rattle.command_line.proofs.request.file_at.Goals as goal

is_true : (b : Bool) → not b ≡ false → b ≡ true
is_true true e = refl
is_true false e = sym e

pub returns-clause-there : goal.returns-clause-there
returns-clause-there c =
    let found = c.in_ok-word.ensures.lookup in
    let same : c.as_str.result.now ≡ c.args.name.now =
    (bytes_eq-Decides c.as_str.result.now c.args.name.now).0 (is_true _ (sym c.ne.ensures ∙ c.if-ne.false)) in
    text_at c.args.words.now c.in_ok-word.word.now c.args.place found.3.0 found.1 ∙ ap (λ (t : List ℕ). Some t) (sym c.as_str.ensures.value ∙ same)
