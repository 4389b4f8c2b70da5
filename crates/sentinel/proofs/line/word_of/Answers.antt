use Rattle.std.proofs.Common.{codes}
use Rattle.std.proofs.lemmas.Bool.Decides.{Decides-eqb}
use Rattle.std.proofs.lemmas.Slice.Eq.{strip_suffix_is}
use Rattle.sentinel.proofs.line.word_of.Goals as goal

pub returns-in-Some : goal.returns-in-Some
returns-in-Some c = let found = strip_suffix_is Decides-eqb c.args.line.now (codes " good") c.strip_suffix.result c.strip_suffix.ensures.cases in
    rw c.in-Some.is at found

pub returns-in-Some-strip_suffix : goal.returns-in-Some-strip_suffix
returns-in-Some-strip_suffix c = let found = strip_suffix_is Decides-eqb c.args.line.now (codes " bad") c.strip_suffix-2.result
    c.strip_suffix-2.ensures.cases in rw c.in-Some-strip_suffix.is at found
