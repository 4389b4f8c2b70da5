use Rattle.std.proofs.Common.{arith, ◌≡◌, ◌∷◌, ◌++◌, ℕ, List, codes, decimal, sym, ◌∙◌, ap, length-append, length, drop}
use Rattle.std.proofs.lemmas.Bool.Decides.{Decides-eqb}
use Rattle.std.proofs.lemmas.Slice.Eq.{strip_prefix_is}
use Rattle.std.proofs.lemmas.List.{take-append-drop}
use Rattle.hex.specs.Hex.{encode_lower}
use Rattle.sentinel.proofs.LineLemmas.{front_parts, id_size}
use Rattle.sentinel.proofs.line.key_of.Goals as goal
use Rattle.sentinel.proofs.line.key_of.Goals.{in_default-2-via-in-Some+in_default, in_default-2-via-in_default}

pub returns-in_default-clause-key : goal.returns-in_default-clause-key
returns-in_default-clause-key c = λ l ok is.
    let long = ap length is ∙ length-append (encode_lower l.tx) (32 ∷ decimal l.index) in
    let size = id_size l.tx ok.size in
    let short = c.in_default.ensures.cases in
    omega arith

pub returns-in_default-strip_prefix-clause-key : goal.returns-in_default-strip_prefix-clause-key
returns-in_default-strip_prefix-clause-key c = λ l ok is.
    let parts = front_parts (encode_lower l.tx) (32 ∷ decimal l.index) c.args.front.now (id_size l.tx ok.size) is in
    let none = strip_prefix_is Decides-eqb c.in-Some.behind.now (codes " ") c.strip_prefix.result c.strip_prefix.ensures.cases in
    let never = rw c.in_default-strip_prefix.is at none in
    never (decimal l.index) (c.in-Some.ensures.cases.2 ∙ parts.1)

pub returns-in-Some-Some-clause-key : goal.returns-in-Some-Some-clause-key
returns-in-Some-Some-clause-key c =
    let found = strip_prefix_is Decides-eqb c.in-Some.behind.now (codes " ") c.strip_prefix.result c.strip_prefix.ensures.cases in
    let number = rw c.in-Some-strip_prefix.is at found in
    sym (take-append-drop 64 c.args.front.now)
    ∙ ap (λ (x : List ℕ). x ++ drop 64 c.args.front.now) (sym c.in-Some.ensures.cases.1 ∙ c.in-Some-Some.ensures.id)
    ∙ ap (λ (y : List ℕ). encode_lower c.in-Some-Some.tx ++ y)
    (sym c.in-Some.ensures.cases.2 ∙ number ∙ ap (λ (z : List ℕ). 32 ∷ z) c.in-Some-Some.ensures'.1)

pub returns-in_default-2-clause-key : goal.returns-in_default-2-clause-key
returns-in_default-2-clause-key c = λ l ok is.
    let parts = front_parts (encode_lower l.tx) (32 ∷ decimal l.index) c.args.front.now (id_size l.tx ok.size) is in
    let found = strip_prefix_is Decides-eqb c.in-Some.behind.now (codes " ") c.strip_prefix.result c.strip_prefix.ensures.cases in
    let number = rw c.in-Some-strip_prefix.is at found in
    let rest : 32 ∷ c.in-Some-strip_prefix.number.now ≡ 32 ∷ decimal l.index = sym number ∙ c.in-Some.ensures.cases.2 ∙ parts.1 in
    elim c.in_default-2.branch [
      | in_default-2-via-in-Some+in_default w ↦ w.in_default-2.ensures' l.index ok.place (cc)
      | in_default-2-via-in_default w ↦
          let no_id = rw w.in_default-2.is-0 at c.id_of.ensures.id in
          no_id l.tx ok.size ok.bytes (c.in-Some.ensures.cases.1 ∙ parts.0)
    ]
