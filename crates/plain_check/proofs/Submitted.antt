-- The outcomes of submissions, by what sentinels said of them.
use Rattle.std.proofs.Common.{◌≡◌, ◌⊎◌, inl, inr, ℕ, zero, suc, ◌+◌, Bool, List, [], ◌∷◌, ◌++◌, length, refl, sym, ◌∙◌, ap, subst, arith, Some, None}
use Rattle.std.specs.Prelude.{slice_get, take, Option, Result, Ok, Err, IfOk, IfSome, is_ok, if◌then◌else◌}
use Rattle.std.specs.Result.{result_ok}
use Rattle.std.specs.List.{AllZip}
use Rattle.std.proofs.lemmas.Option.{none-some}
use Rattle.std.proofs.lemmas.Slice.Zip.{AllZip-long}
use Rattle.base_types.specs.declared.faults.Refusal.{Refusal}
use Rattle.cbdc_model.specs.Records.{Shape, Batch, Outcome, Record}
use Rattle.cbdc_model.specs.Coins.{FullTx}
use Rattle.cbdc_model.specs.Waves.{sent_to}
use Rattle.submissions.specs.Checks.{VerdictsOf, TellsSound, IsSaid, AreChecked}
use Rattle.submissions.specs.declared.Checked.{Checked}
use Rattle.submissions.specs.declared.Judgement.TheVariants as judged
use Rattle.plain_check.proofs.Pages.{some_is}
use Rattle.printed_lines.specs.declared.report.Report.{Report}
use Rattle.printed_lines.specs.declared.report.Report.TheVariants.{Refused, Decided}
use Rattle.printed_lines.specs.Decided.{decided_at}
use Rattle.printed_lines.specs.Runs.{sent_before}
use Rattle.plain_check.specs.Summaries.{Fits, AllFit, AreTold, AreAllTold}

pub fits_refused : (K : Shape) (verdicts : VerdictsOf) (E X : ℕ → List Record) (earlier : List (List FullTx)) (c : Checked) (why : Refusal)
    → c.judgement ≡ judged.Refused why → Fits K verdicts E X earlier c (Refused why)
fits_refused K verdicts E X earlier c why is = λ sound tells file place t said. subst (λ j. IsSaid K verdicts file place t j) is said

pub fits_sound : (K : Shape) (verdicts : VerdictsOf) (E X : ℕ → List Record) (earlier : List (List FullTx)) (c : Checked) (lane at before : ℕ)
    (b : Batch) (o : Outcome)
    → c.judgement ≡ judged.Sound lane at
    → ((sound : FullTx → Bool) → TellsSound verdicts sound → before ≡ sent_before K sound earlier lane)
    → decided_at K E X lane (before + at) ≡ Some (b, o)
    → Fits K verdicts E X earlier c (Decided b o)
fits_sound K verdicts E X earlier c lane at before b o is counted there = λ sound tells file place t said.
    let s : IsSaid K verdicts file place t (judged.Sound lane at) = subst (λ j. IsSaid K verdicts file place t j) is said in
    let turn_is : before + at ≡ sent_before K sound earlier lane + length (sent_to K sound (take place file) lane) =
    ap (λ n. n + at) (counted sound tells) ∙ ap (λ n. sent_before K sound earlier lane + n) (s.2 sound tells) in
    let e : decided_at K E X lane (sent_before K sound earlier lane + length (sent_to K sound (take place file) lane)) ≡ Some (b, o) =
    subst (λ n. decided_at K E X lane n ≡ Some (b, o)) turn_is there in
    (s.0, subst (λ l. decided_at K E X l (sent_before K sound earlier l + length (sent_to K sound (take place file) l)) ≡ Some (b, o)) s.1 e)

-- the item that is beside one of the second list
beside : {A B : Type 0} (R : A → B → Type 0) (xs : List A) (ys : List B) (k : ℕ) (y : B) → AllZip R xs ys → slice_get ys k ≡ Some y
    → (x : A) × (slice_get xs k ≡ Some x) × R x y
beside R [] [] k y all h = absurd (none-some y h)
beside R [] (z ∷ ys) k y all h = absurd all
beside R (x ∷ xs) [] k y all h = absurd all
beside R (x ∷ xs) (z ∷ ys) zero y all h = (x, refl, subst (λ v. R x v) (some_is z y h) all.0)
beside R (x ∷ xs) (z ∷ ys) (suc k) y all h = beside R xs ys k y all.1 h

pub file_told : (K : Shape) (verdicts : VerdictsOf) (E X : ℕ → List Record) (earlier : List (List FullTx)) (file : List FullTx) (cs : List Checked)
    (rs : List Report)
    → AreChecked K verdicts file cs → AllFit K verdicts E X earlier cs rs → AreTold K verdicts E X earlier file rs
file_told K verdicts E X earlier file cs rs checked fit = λ sound tells. record {
  count = AllZip-long (Fits K verdicts E X earlier) cs rs fit ∙ checked.count;
  each = λ place t r here there.
      let (c, at, fits) = beside (Fits K verdicts E X earlier) cs rs place r fit there in
      fits sound tells file place t (checked.each place t c here at).1;
}

-- the item behind the others, or one of them
pushed_at : {A : Type 0} (all : List A) (r s : A) (k : ℕ) → slice_get (all ++ r ∷ []) k ≡ Some s
    → (slice_get all k ≡ Some s) ⊎ ((k ≡ length all) × (r ≡ s))
pushed_at [] r s zero h = inr (refl, some_is r s h)
pushed_at [] r s (suc k) h = absurd (none-some s h)
pushed_at (x ∷ all) r s zero h = inl h
pushed_at (x ∷ all) r s (suc k) h = elim (pushed_at all r s k h) [
  | inl a ↦ inl a
  | inr e ↦ inr (let f = e.0 in omega arith, e.1)
]

-- the outcomes of the submissions of those files whose reports are there
abbrev pub EachFileTold : Shape → VerdictsOf → (ℕ → List Record) → (ℕ → List Record) → List (List FullTx) → List (List Report) → Type 0
EachFileTold K verdicts E X files all =
    (k : ℕ) (file : List FullTx) (rs : List Report) → slice_get files k ≡ Some file → slice_get all k ≡ Some rs
    → AreTold K verdicts E X (take k files) file rs

pub one_file_more : (K : Shape) (verdicts : VerdictsOf) (E X : ℕ → List Record) (files : List (List FullTx)) (all : List (List Report)) (at : ℕ)
    (own : List FullTx) (rs : List Report)
    → length all ≡ at → slice_get files at ≡ Some own → AreTold K verdicts E X (take at files) own rs
    → EachFileTold K verdicts E X files all → EachFileTold K verdicts E X files (all ++ rs ∷ [])
one_file_more K verdicts E X files all at own rs len here told before = λ k file reports got there. elim (pushed_at all rs reports k there) [
  | inl a ↦ before k file reports got a
  | inr e ↦
      let k_is : at ≡ k = sym (e.0 ∙ len) in
      let own_is : own ≡ file = some_is own file (sym here ∙ subst (λ m. slice_get files m ≡ Some file) (sym k_is) got) in
      subst (λ l. AreTold K verdicts E X (take k files) file l) e.1
      (subst (λ f. AreTold K verdicts E X (take k files) f rs) own_is (subst (λ m. AreTold K verdicts E X (take m files) own rs) k_is told))
]

pub all_files_told : (K : Shape) (verdicts : VerdictsOf) (E X : ℕ → List Record) (files : List (List FullTx)) (all : List (List Report)) (n : ℕ)
    → length all ≡ n → n ≡ length files → EachFileTold K verdicts E X files all → AreAllTold K verdicts E X files all
all_files_told K verdicts E X files all n len end told = λ sound tells. record {
  count = len ∙ end;
  each = λ k file rs here there. told k file rs here there sound tells;
}

-- what an answer without its error has, where there is one
module _ {E : Type 0} where
  pub ok_has : {T : Type 0} (P : T → Type 0) (r : Result T E) (x : T) → Some x ≡ result_ok r → IfOk r P → P x
  ok_has P (Ok y) x e h = subst P (some_is y x (sym e)) h
  ok_has P (Err z) x e h = absurd (none-some x (sym e))

  pub pushed_is : {T A : Type 0} (r : Result T E) (x : T) (new grown old : List A) → new ≡ (if is_ok r then grown else old) → Some x ≡ result_ok r
      → new ≡ grown
  pushed_is (Ok y) x new grown old e h = e
  pushed_is (Err z) x new grown old e h = absurd (none-some x (sym h))

  -- one more in front
  pub if_front : (R : Checked → Report → Type 0) (cs rest : List Checked) (one : Checked) (report : Report) (behind : List Report)
      (r : Result (List Report) E) (o : Option (List Report))
      → cs ≡ one ∷ rest → R one report → AllZip R rest behind → o ≡ result_ok r → IfOk r (λ l. l ≡ report ∷ behind) → IfSome o (AllZip R cs)
  if_front R cs rest one report behind (Ok all) o is own others e h =
      subst (λ v. IfSome v (AllZip R cs)) (sym e) (subst (λ l. AllZip R l all) (sym is) (subst (λ l. AllZip R (one ∷ rest) l) (sym h) (own, others)))
  if_front R cs rest one report behind (Err z) o is own others e h = subst (λ v. IfSome v (AllZip R cs)) (sym e) tt

pub if_told : (K : Shape) (verdicts : VerdictsOf) (E X : ℕ → List Record) (earlier : List (List FullTx)) (file : List FullTx) (cs : List Checked)
    (o : Option (List Report))
    → AreChecked K verdicts file cs → IfSome o (AllFit K verdicts E X earlier cs) → IfSome o (AreTold K verdicts E X earlier file)
if_told K verdicts E X earlier file cs None checked fit = tt
if_told K verdicts E X earlier file cs (Some rs) checked fit = file_told K verdicts E X earlier file cs rs checked fit
