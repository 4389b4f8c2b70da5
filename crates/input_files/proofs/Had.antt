-- Verdicts that are read behind client files.
use Rattle.std.proofs.Common.{◌≡◌, ℕ, ◌≤◌, List, Option, Result, Ok, Err, IfOk, IfErr, sym, subst, arith}
use Rattle.outside.specs.Images.{Tells}
use Rattle.cbdc_types.specs.declared.answer.Answer.{Answer}
use Rattle.cbdc_types.specs.declared.answer.Answer.TheVariants as answers
use Rattle.sentinel.specs.Files.{ReadsVerdicts}
use Rattle.sentinel.specs.declared.file.VerdictFile.{VerdictFile}
use Rattle.input_files.specs.Inputs.{AreHadVerdicts, AreNoHadVerdicts}
use Rattle.input_files.specs.Contents.{front, goes_on, AreVerdicts, IsNoVerdicts, IsUnfetched}
use Rattle.input_files.specs.declared.fetched.Fetched.{Fetched}
use Rattle.input_files.proofs.Reading.{no_verdicts}

-- what was had of a file are its first bytes
abbrev pub IsHad : Option (List ℕ) → Result Fetched Answer → Type 0
IsHad told had = IfOk had (λ r. Tells told (λ c. (r.bytes ≡ front c) × (r.more ≡ goes_on c)))

pub had_read : (told : Option (List ℕ)) (had : Result Fetched Answer) (file : VerdictFile) → IsHad told had → AreHadVerdicts had file
    → AreVerdicts told file
had_read told (Ok r) file is reads = λ c e. subst (λ b. ReadsVerdicts (goes_on c) b (Ok file)) (is c e).0
    (subst (λ m. ReadsVerdicts m r.bytes (Ok file)) (is c e).1 reads)
had_read told (Err why) file is reads = absurd reads

unfetched_later : (place : ℕ) (told : Option (List ℕ)) (before mid now : ℕ) (a : Answer) → before ≤ mid → IsUnfetched place mid now a
    → IsNoVerdicts place told before now a
unfetched_later place told before mid now answers.Ok le h = h
unfetched_later place told before mid now answers.BadWords le h = h
unfetched_later place told before mid now (answers.BadInput file at kind) le h = absurd h
unfetched_later place told before mid now (answers.TooMuch total) le h = h
unfetched_later place told before mid now (answers.NotReady k) le h = h
unfetched_later place told before mid now (answers.Foreign k kept asked) le h = h
unfetched_later place told before mid now (answers.NotEmpty k) le h = h
unfetched_later place told before mid now (answers.Full k used need capacity) le h = h
unfetched_later place told before mid now (answers.Unsound spot kind) le h = h
unfetched_later place told before mid now (answers.ClockEnd k stamp) le h = h
unfetched_later place told before mid now (answers.Damaged k at) le h = h
unfetched_later place told before mid now (answers.ReadFault file) le h = (h.0, let rose = h.1 in omega (arith, le, rose))
unfetched_later place told before mid now answers.WriteFault le h = h
unfetched_later place told before mid now (answers.DiskFault k) le h = h
unfetched_later place told before mid now answers.Memory le h = h

pub had_fault : (place : ℕ) (told : Option (List ℕ)) (before mid now : ℕ) (had : Result Fetched Answer) (a : Answer) → before ≤ mid → IsHad told had
    → IfErr had (IsUnfetched place mid now)
    → AreNoHadVerdicts place had a → IsNoVerdicts place told before now a
had_fault place told before mid now (Ok r) a le is unfetched not = no_verdicts place told before now r.more r.bytes not.0 a not.2 is not.1
had_fault place told before mid now (Err why) a le is unfetched not =
    subst (λ x. IsNoVerdicts place told before now x) (sym not) (unfetched_later place told before mid now why le unfetched)
