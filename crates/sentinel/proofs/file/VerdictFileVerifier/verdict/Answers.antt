use Rattle.std.proofs.Common.{Some, Bool, sym, ◌∙◌, ap}
use Rattle.sentinel.specs.Files.{verdict_by}
use Rattle.sentinel.proofs.KeyLemmas.{found_by}
use Rattle.sentinel.proofs.file.VerdictFileVerifier.verdict.Goals as goal

pub returns-in-None : goal.returns-in-None
returns-in-None c = ap verdict_by (c.in-None.ensures.value
    ∙ found_by (record { tx = c.args.tx.now; index = c.args.index }) c.args.self.now.words.entries)

pub returns-in-Some-true : goal.returns-in-Some-true
returns-in-Some-true c = ap verdict_by (ap (λ (b : Bool). Some b) (sym c.in-Some-true.field-0-test) ∙ c.in-Some-true.ensures.value
    ∙ found_by (record { tx = c.args.tx.now; index = c.args.index }) c.args.self.now.words.entries)

pub returns-in-Some-false : goal.returns-in-Some-false
returns-in-Some-false c = ap verdict_by (ap (λ (b : Bool). Some b) (sym c.in-Some-false.field-0-test) ∙ c.in-Some-false.ensures.value
    ∙ found_by (record { tx = c.args.tx.now; index = c.args.index }) c.args.self.now.words.entries)
