-- The text of a workload whose hashes don't clash is one, whatever the order of the lanes' turns.
use Rattle.std.proofs.Common.{◌≡◌, ◌++◌, ℕ, false, List, [], ◌∷◌, length, take, Some, refl, ap, ◌∙◌, subst, arith}
use Rattle.std.specs.Prelude.{slice_get, All}
use Rattle.std.specs.List.{filter}
use Rattle.std.proofs.lemmas.Option.{slice_get_within, get_or_from_slice_get}
use Rattle.cbdc_types.specs.Limits.{IsWithinLimits}
use Rattle.cbdc_model.specs.Records.{Shape, Record}
use Rattle.cbdc_model.specs.Coins.{FullTx}
use Rattle.cbdc_model.specs.Clean.{Clean}
use Rattle.cbdc_model.specs.World.{KeptJournals}
use Rattle.cbdc_model.specs.Waves.{Waves}
use Rattle.submissions.specs.SoundTest.{sound_by}
use Rattle.line_text.specs.Lines.{Text, summary_text}
use Rattle.rack_laws.proofs.Opened.{at_place}
use Rattle.cbdc_types.specs.declared.answer.Totals.{Totals}
use Rattle.audit.specs.declared.verdict.Verdict.TheVariants.{Sound}
use Rattle.printed_lines.specs.declared.report.Report.{Report}
use Rattle.line_text.specs.Reports.{audit_text}
use Rattle.printed_lines.specs.Runs.{AreReports, AreAllReports, is_confirmed, is_rejected, count_in}
use Rattle.submission_laws.specs.Sent.{IsSent}
use Rattle.submission_laws.specs.Free.{IsSubmissionConfirmed}
use Rattle.workload.specs.Generator.{mint_of, splits_of, joins_of}
use Rattle.submission_laws.specs.Whole.{left_of, totals_of, IsWorkloadWhole}
use Rattle.submission_laws.proofs.Sound.{IsGood, two_sum, splits_sound, joins_sound}
use Rattle.submission_laws.proofs.Whole.{whole_law}
use Rattle.gen_command.specs.Generated.{all_good, files_of, all_submissions, made_for, HasVerdictOf, EndsWorkload, batches_for}
use Rattle.run_lines.proofs.Numbers.{lanes_there}
use Rattle.gen_command.proofs.Refused.{none_in}

module _ (K : Shape) (seed n : ℕ) (X : ℕ → List Record)
    (all_won : (k j : ℕ) (t : FullTx) (it : IsSent all_good (files_of seed n) k j t)
    → IsSubmissionConfirmed K all_good (files_of seed n) (made_for K seed n) X k it.file j t) where
  abbrev E : ℕ → List Record
  E = made_for K seed n

  -- of a file of the workload none is rejected
  module _ (k : ℕ) (file : List FullTx) (rs : List Report) (here : slice_get (files_of seed n) k ≡ Some file) (good : All IsGood file)
      (are : AreReports K all_good (sound_by all_good) (made_for K seed n) X (take k (files_of seed n)) file rs) where
    not_rejected : (i : ℕ) (r : Report) → slice_get rs i ≡ Some r → is_rejected r ≡ false
    not_rejected i r at =
        let low = slice_get_within rs i r at in
        let t = at_place file i (let c = are.count in omega (arith, low, c)) in
        let is = subst IsGood (get_or_from_slice_get file i t.0 t.0 t.1) (good i t.0 (slice_get_within file i t.0 t.1)) in
        let told = (all_won k i t.0 (record { file = file; file_is = here; tx_is = t.1; sound = is })).told r (are.each i t.0 r t.1 at) in
        ap is_rejected told

    none_rejected : length (filter is_rejected rs) ≡ 0
    none_rejected = none_in is_rejected rs not_rejected

  pub rejected_none : (all : List (List Report)) → AreAllReports K all_good (sound_by all_good) (made_for K seed n) X (files_of seed n) all
      → count_in is_rejected all ≡ 0
  rejected_none [] are = refl
  rejected_none (one ∷ []) are = absurd (let c = are.count in omega (arith, c))
  rejected_none (one ∷ two ∷ []) are =
      let a = none_rejected 0 (splits_of seed n) one refl (splits_sound seed n) (are.each 0 (splits_of seed n) one refl refl) in
      let b = none_rejected 1 (joins_of seed n) two refl (joins_sound seed n) (are.each 1 (joins_of seed n) two refl refl) in
      let sum = two_sum (λ rs. length (filter is_rejected rs)) one two in
      omega (arith, a, b, sum)
  rejected_none (one ∷ two ∷ (three ∷ more)) are = absurd (let c = are.count in omega (arith, c))

module _ (K : Shape) (seed n : ℕ) (limits : IsWithinLimits K) (clean : Clean (mint_of seed n) (all_submissions seed n)) (X : ℕ → List Record)
    (kept : KeptJournals K (mint_of seed n) (all_submissions seed n) X) (waves : Waves K (sound_by all_good) (files_of seed n) (made_for K seed n) X)
  where
    whole : IsWorkloadWhole K seed n X
    whole = whole_law K seed n X limits.some_shard limits.some_lane (lanes_there K limits) clean kept waves

    pub one_text : (summary : Text) → EndsWorkload K seed n X summary → (totals : Totals)
        → HasVerdictOf K (mint_of seed n) (all_submissions seed n) X (Sound totals)
        → summary ++ audit_text totals ≡ summary_text 0 (batches_for K n) n 0 0 (left_of n) ++ audit_text (totals_of seed n)
    one_text summary ends totals audited =
        let none : count_in is_rejected ends.all ≡ 0 = rejected_none K seed n X whole.confirmed ends.all ends.are in
        let all : count_in is_confirmed ends.all ≡ n = (let d = ends.decided in omega (arith, d, none)) in
        let left : ends.unspent ≡ left_of n = whole.unspent ends.unspent ends.counted in
        let sums : totals ≡ totals_of seed n = whole.totals audited.rows totals audited.journals_are audited.ordered audited.is in
        let numbers : summary ≡ summary_text 0 (batches_for K n) n 0 0 (left_of n) =
        ends.text_is ∙ (λ i. summary_text 0 (batches_for K n) (all i) (none i) 0 (left i)) in
        λ i. numbers i ++ audit_text (sums i)
