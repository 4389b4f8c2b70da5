-- A verdict file is read in one way.
use Rattle.std.proofs.Common.{◌≡◌, inl, inr, ℕ, Bool, List, [], ◌∷◌, ◌++◌, reverse, Option, Some, None, Ok, Err, refl, sym, ◌∙◌, ap, subst}
use Rattle.std.proofs.Common.{append_assoc}
use Rattle.std.specs.Prelude.{IsSome}
use Rattle.std.proofs.lemmas.Bool.{true≢false}
use Rattle.std.proofs.lemmas.List.{reverse-append, reverse-reverse}
use Rattle.base_types.specs.declared.faults.InputKind.{InputKind}
use Rattle.base_types.specs.declared.faults.InputKind.TheVariants.{Form, Repeated}
use Rattle.cbdc_types.specs.declared.answer.Answer.{Answer}
use Rattle.cbdc_types.specs.declared.answer.Answer.TheVariants as answers
use Rattle.clap.specs.Words.{Text}
use Rattle.input_files.specs.Contents.{front, goes_on, AreVerdicts, IsNoVerdicts}
use Rattle.rack_laws.specs.Files.{HoldsVerdicts}
use Rattle.sentinel.specs.Files.{ReadsVerdicts, IsLineWrong, file_verdict, verdict_by}
use Rattle.sentinel.specs.Lines.{Line, IsLine, AreLines, BeginsWithLines, said, spelled, text}
use Rattle.sentinel.specs.declared.file.VerdictFile.{VerdictFile}
use Rattle.sentinel.specs.declared.file.VerdictFault.TheVariants as fault
use Rattle.sentinel.specs.declared.file.BadLine.{BadLine}
use Rattle.rack_laws.proofs.Spelling.{first_part, line_free, spelled_once}

-- ---- lines from the first on

abbrev forward : List Line → List ℕ
forward [] = []
forward (l ∷ later) = spelled l ++ 10 ∷ forward later

forward_both : (ks ls : List Line) → forward (ks ++ ls) ≡ forward ks ++ forward ls
forward_both [] ls = refl
forward_both (k ∷ ks) ls = ap (λ (t : List ℕ). spelled k ++ 10 ∷ t) (forward_both ks ls)
    ∙ sym (append_assoc (spelled k) (10 ∷ forward ks) (forward ls))

last_first : (l : Line) (earlier : List Line) → reverse (l ∷ earlier) ≡ reverse earlier ++ l ∷ []
last_first l earlier = reverse-append (l ∷ []) earlier

text_forward : (lines : List Line) → text lines ≡ forward (reverse lines)
text_forward [] = refl
text_forward (l ∷ earlier) =
    ap (λ (t : List ℕ). t ++ (spelled l ++ 10 ∷ [])) (text_forward earlier) ∙ sym (forward_both (reverse earlier) (l ∷ []))
    ∙ ap forward (sym (last_first l earlier))

abbrev Each : List Line → Type 0
Each [] = Unit {0}
Each (l ∷ later) = IsLine l × Each later

each_both : (ks ls : List Line) → Each ks → Each ls → Each (ks ++ ls)
each_both [] ls one other = other
each_both (k ∷ ks) ls one other = (one.0, each_both ks ls one.1 other)

each_of : (lines : List Line) → AreLines lines → Each (reverse lines)
each_of [] are = tt
each_of (l ∷ earlier) are = subst Each (sym (last_first l earlier)) (each_both (reverse earlier) (l ∷ []) (each_of earlier are.2) (are.0, tt))

-- lines that end the bytes go on behind others that begin them
record GoOn (ks ms : List Line) (rest : List ℕ) : Type 0 where
  behind : List Line
  parts : ks ≡ ms ++ behind
  rest_is : rest ≡ forward behind

go_on : (ks ms : List Line) (rest : List ℕ) → Each ks → Each ms → forward ks ≡ forward ms ++ rest → GoOn ks ms rest
go_on ks [] rest one other same = record { behind = ks; parts = refl; rest_is = sym same }
go_on [] (m ∷ ms) rest one other same = absurd (none (spelled m) (forward ms ++ rest) (same ∙ append_assoc (spelled m) (10 ∷ forward ms) rest))
  where
    none : (s t : List ℕ) → [] ≡ s ++ 10 ∷ t → ⊥
    none [] t is = cc
    none (x ∷ s) t is = cc
go_on (k ∷ ks) (m ∷ ms) rest one other same =
    let whole : spelled k ++ 10 ∷ forward ks ≡ spelled m ++ 10 ∷ (forward ms ++ rest) = same ∙ append_assoc (spelled m) (10 ∷ forward ms) rest in
    let first = first_part 10 (spelled k) (spelled m) (forward ks) (forward ms ++ rest) (line_free k one.0) (line_free m other.0) whole in
    let line : k ≡ m = spelled_once k m one.0 other.0 first.0 in
    let later = go_on ks ms rest one.1 other.1 first.1 in
    record { behind = later.behind; parts = ap (λ (l : Line). l ∷ ks) line ∙ ap (λ (ls : List Line). m ∷ ls) later.parts; rest_is = later.rest_is }

begins_on : (bytes : List ℕ) (ks ms : List Line) (rest : List ℕ) → BeginsWithLines bytes ks [] → BeginsWithLines bytes ms rest
    → GoOn (reverse ks) (reverse ms) rest
begins_on bytes ks ms rest whole part =
    go_on (reverse ks) (reverse ms) rest (each_of ks whole.sound) (each_of ms part.sound)
    (sym (text_forward ks) ∙ ends (text ks) ∙ sym whole.whole ∙ part.whole ∙ ap (λ (t : List ℕ). t ++ rest) (text_forward ms))
  where
    ends : (t : List ℕ) → t ≡ t ++ []
    ends [] = refl
    ends (x ∷ t) = ap (λ (u : List ℕ). x ∷ u) (ends t)

-- the lines before the last of some
older : (newer past : List Line) → AreLines (newer ++ past) → AreLines past
older [] past are = are
older (l ∷ newer) past are = older newer past are.2

-- where more lines follow, the first of them is no repetition
not_said : (ks ms : List Line) (l : Line) (more : List Line) → AreLines ks → reverse ks ≡ reverse ms ++ l ∷ more → said ms l.tx l.index ≡ None
not_said ks ms l more are parts =
    let back : ks ≡ (reverse more ++ l ∷ []) ++ ms =
    sym (reverse-reverse ks) ∙ ap reverse parts ∙ reverse-append (reverse ms) (l ∷ more)
    ∙ ap (λ (ls : List Line). ls ++ reverse (reverse ms)) (last_first l more)
    ∙ ap (λ (ls : List Line). (reverse more ++ l ∷ []) ++ ls) (reverse-reverse ms) in
    let whole : ks ≡ reverse more ++ l ∷ ms = back ∙ append_assoc (reverse more) (l ∷ []) ms in
    (older (reverse more) (l ∷ ms) (subst AreLines whole are)).1

-- ---- readings

module _ (more : Bool) (bytes : List ℕ) where
  -- two readings tell the same verdicts
  pub told_once : (file other : VerdictFile) → ReadsVerdicts more bytes (Ok file) → ReadsVerdicts more bytes (Ok other)
      → file_verdict file ≡ file_verdict other
  told_once file other one two =
      let (ks, whole, says) = one.1 in
      let (ms, part, tells) = two.1 in
      let on = begins_on bytes ks ms [] whole part in
      let none : on.behind ≡ [] = empty on.behind (sym on.rest_is) in
      let same : ks ≡ ms = sym (reverse-reverse ks) ∙ ap reverse (on.parts ∙ ap (λ (ls : List Line). reverse ms ++ ls) none ∙ nothing (reverse ms))
      ∙ reverse-reverse ms in
      λ i tx index. verdict_by ((says tx index ∙ ap (λ (ls : List Line). said ls tx index) same ∙ sym (tells tx index)) i)
    where
      nothing : (ls : List Line) → ls ++ [] ≡ ls
      nothing [] = refl
      nothing (l ∷ ls) = ap (λ (m : List Line). l ∷ m) (nothing ls)

      empty : (ls : List Line) → forward ls ≡ [] → ls ≡ []
      empty [] is = refl
      empty (l ∷ ls) is = absurd (none (spelled l) (forward ls) is)
        where
          none : (s t : List ℕ) → s ++ 10 ∷ t ≡ [] → ⊥
          none [] t is = cc
          none (x ∷ s) t is = cc

  -- what is read has no wrong line
  pub read_not_wrong : (file : VerdictFile) (bad : BadLine) → ReadsVerdicts more bytes (Ok file) → ReadsVerdicts more bytes (Err (fault.Bad bad)) → ⊥
  read_not_wrong file bad one two =
      let (ks, whole, says) = one.1 in
      let (ms, rest, part, number, wrong) = two in
      let on = begins_on bytes ks ms rest whole part in
      go ks ms rest whole.sound on.behind (each_behind (reverse ms) on.behind (subst Each on.parts (each_of ks whole.sound))) on.parts on.rest_is
      bad.kind wrong
    where
      each_behind : (ls behind : List Line) → Each (ls ++ behind) → Each behind
      each_behind [] behind each = each
      each_behind (l ∷ ls) behind each = each_behind ls behind each.1

      some : (o : Option Bool) → o ≡ None → IsSome o → ⊥
      some (Some b) is holds = absurd (cc is)
      some None is holds = true≢false (sym holds)

      nowhere : (s t : List ℕ) → [] ≡ s ++ 10 ∷ t → ⊥
      nowhere [] t is = cc
      nowhere (x ∷ s) t is = cc

      go : (ks ms : List Line) (rest : List ℕ) → AreLines ks → (behind : List Line) → Each behind → reverse ks ≡ reverse ms ++ behind
          → rest ≡ forward behind → (kind : InputKind) → IsLineWrong more ms rest kind → ⊥
      go ks ms rest are [] each parts at Form wrong = wrong.0 at
      go ks ms rest are (l ∷ behind) each parts at Form wrong = wrong.2 l (forward behind) each.0 at
      go ks ms rest are [] each parts at Repeated wrong = nowhere (spelled wrong.0) wrong.1 (sym at ∙ wrong.3)
      go ks ms rest are (l ∷ behind) each parts at Repeated wrong =
          let first = first_part 10 (spelled l) (spelled wrong.0) (forward behind) wrong.1 (line_free l each.0) (line_free wrong.0 wrong.2)
          (sym at ∙ wrong.3) in
          let line : l ≡ wrong.0 = spelled_once l wrong.0 each.0 wrong.2 first.0 in
          some (said ms l.tx l.index) (not_said ks ms l behind are parts) (subst (λ (k : Line). IsSome (said ms k.tx k.index)) (sym line) wrong.4)
      go ks ms rest are behind each parts at _ wrong = wrong

  -- nor is it too large
  pub read_not_large : (file : VerdictFile) → ReadsVerdicts more bytes (Ok file) → ReadsVerdicts more bytes (Err fault.Large) → ⊥
  read_not_large file one two = true≢false (sym two.0 ∙ one.0)

-- ---- a verdict file that is told

module _ (files : Text → Option (List ℕ)) (before now : Text → ℕ) (name : Text) (known : VerdictFile)
    (holds : HoldsVerdicts files before now name known) where
  pub verdicts_once : (read : VerdictFile) → AreVerdicts (files name) read → file_verdict read ≡ file_verdict known
  verdicts_once read are = told_once (goes_on holds.bytes) (front holds.bytes) read known (are holds.bytes holds.told) holds.reads

  pub verdicts_none : (place : ℕ) (answer : Answer) → IsNoVerdicts place (files name) (before name) (now name) answer → answer ≡ answers.Memory
  verdicts_none place (answers.BadInput file at kind) is = elim (is.1 holds.bytes holds.told) [
    | inl bad ↦ absurd (read_not_wrong (goes_on holds.bytes) (front holds.bytes) known (record { line = at; kind = kind }) holds.reads bad)
    | inr large ↦ absurd (read_not_large (goes_on holds.bytes) (front holds.bytes) known holds.reads large.0)
  ]
  verdicts_none place (answers.ReadFault file) is = absurd (holds.steady is.1)
  verdicts_none place answers.Memory is = refl
  verdicts_none place answers.Ok is = absurd is
  verdicts_none place answers.BadWords is = absurd is
  verdicts_none place (answers.TooMuch total) is = absurd is
  verdicts_none place (answers.NotReady n) is = absurd is
  verdicts_none place (answers.Foreign n kept asked) is = absurd is
  verdicts_none place (answers.NotEmpty n) is = absurd is
  verdicts_none place (answers.Full n used need capacity) is = absurd is
  verdicts_none place (answers.Unsound at kind) is = absurd is
  verdicts_none place (answers.ClockEnd n stamp) is = absurd is
  verdicts_none place (answers.Damaged n at) is = absurd is
  verdicts_none place answers.WriteFault is = absurd is
  verdicts_none place (answers.DiskFault n) is = absurd is
