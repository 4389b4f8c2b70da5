-- Answers that leave the disks untouched.
use Rattle.cbdc_types.specs.declared.answer.Answer.{Answer}
use Rattle.cbdc_types.specs.declared.answer.Answer.TheVariants as answers

-- the answers that come before any disk is taken: bad words, a file that is not read, and a mint of too much
abbrev pub IsBeforeDisks : Answer → Type 0
IsBeforeDisks answers.BadWords = Unit {0}
IsBeforeDisks (answers.BadInput file at kind) = Unit {0}
IsBeforeDisks (answers.TooMuch total) = Unit {0}
IsBeforeDisks (answers.ReadFault file) = Unit {0}
IsBeforeDisks other = ⊥
