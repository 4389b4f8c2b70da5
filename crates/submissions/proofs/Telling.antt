-- The test tells the sound transactions, and two tests that do are one.
use Rattle.std.proofs.Common.{◌≡◌, ◌≢◌, ℕ, ◌^◌, ◌<◌, ◌≤◌, not, ◌==◌, nat_lt, [], length, refl, sym, subst, ◌∙◌, arith, inl, inr}
use Rattle.std.specs.Prelude.{Decides}
use Rattle.std.specs.Cmp.{both_ways}
use Rattle.std.proofs.lemmas.Bool.{cases_lt, cases_Bool}
use Rattle.std.proofs.lemmas.Bool.Decides.{Decides-eqb, Decides-ltb, Decides-like, Decides-and, not_from_Decides}
use Rattle.base_types.specs.declared.faults.Refusal.TheVariants.{NoInputs, NoOutputs, WitnessCount, RepeatedInput, ZeroInput, ZeroOutput}
use Rattle.base_types.specs.declared.faults.Refusal.TheVariants.{InputOverflow, OutputOverflow, Unbalanced, BurnedInput, PermitCount, PermitRaised}
use Rattle.base_types.specs.declared.faults.Refusal.TheVariants.{BadWitness, Unverified}
use Rattle.cbdc_types.specs.Kinds.{kind_of}
use Rattle.cbdc_types.specs.declared.tx.Kind.TheVariants.{Burn}
use Rattle.cbdc_model.specs.Coins.{Input, FullTx, tx_id}
use Rattle.cbdc_model.specs.Money.{ArePaired}
use Rattle.sentinel.specs.declared.verifier.Verdict.TheVariants.{Bad, Absent}
use Rattle.sentinel.specs.FirstRefusal.{Verdicts, HasAt, HasVerdict, Repeats, input_sum, output_sum, permits_in, permits_out, issuable_in}
use Rattle.sentinel.specs.FirstRefusal.{issuable_out, IsSoundTx}
use Rattle.sentinel.proofs.PermitSums.{among_none, paired_or_not}
use Rattle.submissions.specs.SoundTest.{is_burn, is_bad, is_absent, is_sound, IsSoundLaw, SoundTestLaw, OneTestLaw}
use Rattle.submissions.proofs.Parts.{no_place, none_has, no_repeats, positive_decides, items_decide, not_burn_decides, paired_decides}
use Rattle.submissions.proofs.Parts.{not_less_decides, not_bad_decides, not_absent_decides, no_verdict}

-- a reason with two unlike numbers does not apply: they are one
agreed : (a b : ℕ) → ¬ (a ≢ b) → a ≡ b
agreed a b alike = elim (cases_Bool (a == b)) [
  | inl same ↦ (Decides-eqb a b).0 same
  | inr unlike ↦ absurd (alike (not_from_Decides (a == b) (Decides-eqb a b) unlike))
]

-- a reason that a number reaches a bound does not apply: it is below
below : (a b : ℕ) → ¬ (b ≤ a) → a < b
below a b under = elim (cases_lt a b) [ inl lt ↦ lt | inr over ↦ absurd (under over) ]

module _ (t : FullTx) (v : Verdicts) where
  -- what the parts say
  record Passes : Type 0 where
    inputs : ¬ (t.inputs ≡ [])
    outputs : ¬ (t.outputs ≡ [])
    witnesses : length t.witnesses ≡ length t.inputs
    distinct : (i : ℕ) → ¬ (Repeats t.inputs i)
    inputs_count : (i : ℕ) → ¬ (HasAt (λ x. x.output.value ≡ 0) t.inputs i)
    outputs_count : (i : ℕ) → ¬ (HasAt (λ o. o.value ≡ 0) t.outputs i)
    inputs_fit : input_sum t < 2 ^ 64
    outputs_fit : output_sum t < 2 ^ 64
    balanced : input_sum t ≡ output_sum t
    none_burnt : (i : ℕ) → ¬ (HasAt (λ x. kind_of x.output ≡ Burn) t.inputs i)
    permits : ArePaired (permits_in t) (permits_out t)
    not_raised : issuable_out t ≤ issuable_in t
    none_bad : (i : ℕ) → ¬ (HasVerdict Bad t.inputs v i)
    none_absent : (i : ℕ) → ¬ (HasVerdict Absent t.inputs v i)

  sound_from : Passes → IsSoundTx t v
  sound_from p NoInputs = p.inputs
  sound_from p NoOutputs = p.outputs
  sound_from p WitnessCount = λ unlike. unlike p.witnesses
  sound_from p (RepeatedInput i) = λ least. p.distinct i least.holds
  sound_from p (ZeroInput i) = λ least. p.inputs_count i least.holds
  sound_from p (ZeroOutput i) = λ least. p.outputs_count i least.holds
  sound_from p InputOverflow = λ over. let fits = p.inputs_fit in omega arith
  sound_from p OutputOverflow = λ over. let fits = p.outputs_fit in omega arith
  sound_from p (Unbalanced ins outs) = λ (a, b, unlike). unlike (a ∙ p.balanced ∙ sym b)
  sound_from p (BurnedInput i) = λ least. p.none_burnt i least.holds
  sound_from p (PermitCount ins outs) = λ h.
      h.2 (subst (λ m. ArePaired m outs) (sym h.0) (subst (λ m. ArePaired (permits_in t) m) (sym h.1) p.permits))
  sound_from p (PermitRaised was now) = λ h. omega (arith, p.not_raised, h.2, h.3, h.4)
  sound_from p (BadWitness i) = λ least. p.none_bad i least.holds
  sound_from p (Unverified i) = λ least. p.none_absent i least.holds

  paired_from : IsSoundTx t v → ArePaired (permits_in t) (permits_out t)
  paired_from none = elim (paired_or_not (permits_in t) (permits_out t)) [
    | inl paired ↦ paired
    | inr other ↦ absurd (none (PermitCount (permits_in t) (permits_out t)) (refl, refl, other))
  ]

  not_raised_from : ArePaired (permits_in t) (permits_out t) → IsSoundTx t v → issuable_out t ≤ issuable_in t
  not_raised_from (inl none) sound = omega (arith, among_none t.outputs none.1)
  not_raised_from (inr one) sound = elim (cases_lt (issuable_in t) (issuable_out t)) [
    | inl lt ↦ absurd (sound (PermitRaised (issuable_in t) (issuable_out t)) (one.0, one.1, refl, refl, lt))
    | inr le ↦ le
  ]

  passes_from : IsSoundTx t v → Passes
  passes_from none = record {
    inputs = none NoInputs;
    outputs = none NoOutputs;
    witnesses = agreed (length t.witnesses) (length t.inputs) (none WitnessCount);
    distinct = no_place (Repeats t.inputs) (λ i. none (RepeatedInput i));
    inputs_count = no_place (HasAt (λ x. x.output.value ≡ 0) t.inputs) (λ i. none (ZeroInput i));
    outputs_count = no_place (HasAt (λ o. o.value ≡ 0) t.outputs) (λ i. none (ZeroOutput i));
    inputs_fit = below (input_sum t) (2 ^ 64) (none InputOverflow);
    outputs_fit = below (output_sum t) (2 ^ 64) (none OutputOverflow);
    balanced = agreed (input_sum t) (output_sum t) (λ unlike. none (Unbalanced (input_sum t) (output_sum t)) (refl, refl, unlike));
    none_burnt = no_place (HasAt (λ x. kind_of x.output ≡ Burn) t.inputs) (λ i. none (BurnedInput i));
    permits = paired_from none;
    not_raised = not_raised_from (paired_from none) none;
    none_bad = no_place (HasVerdict Bad t.inputs v) (λ i. none (BadWitness i));
    none_absent = no_place (HasVerdict Absent t.inputs v) (λ i. none (Unverified i));
  }

  told : Decides (is_sound t v) (IsSoundTx t v)
  told = Decides-like (is_sound t v)
      (λ (((((((((((((a, b), c), d), e), f), g), h), i), l), m), n), j), k). sound_from (record {
        inputs = a;
        outputs = b;
        witnesses = c;
        distinct = d;
        inputs_count = e;
        outputs_count = f;
        inputs_fit = g;
        outputs_fit = h;
        balanced = i;
        none_burnt = l;
        permits = m;
        not_raised = n;
        none_bad = j;
        none_absent = k;
      }))
      (λ none. let p = passes_from none in (
        (
          (
            (
              (
                (
                  (((((((p.inputs, p.outputs), p.witnesses), p.distinct), p.inputs_count), p.outputs_count), p.inputs_fit), p.outputs_fit),
                  p.balanced,
                ),
                p.none_burnt,
              ),
              p.permits,
            ),
            p.not_raised,
          ),
          p.none_bad,
        ),
        p.none_absent,
      ))
      (Decides-and _ _ (Decides-and _ _ (Decides-and _ _
      (Decides-and _ _ (Decides-and _ _ (Decides-and _ _
      (Decides-and _ _ (Decides-and _ _ (Decides-and _ _ (Decides-and _ _ (Decides-and _ _ (Decides-and _ _ (Decides-and _ _
      (items_decide t.inputs)
      (items_decide t.outputs))
      (Decides-eqb (length t.witnesses) (length t.inputs)))
      (no_repeats t.inputs))
      (none_has (λ x. x.output.value ≡ 0) (λ x. nat_lt 0 x.output.value) (λ x. positive_decides x.output.value) t.inputs))
      (none_has (λ o. o.value ≡ 0) (λ o. nat_lt 0 o.value) (λ o. positive_decides o.value) t.outputs))
      (Decides-ltb (input_sum t) (2 ^ 64)))
      (Decides-ltb (output_sum t) (2 ^ 64)))
      (Decides-eqb (input_sum t) (output_sum t)))
      (none_has (λ (x : Input). kind_of x.output ≡ Burn) (λ x. not (is_burn (kind_of x.output))) (λ x. not_burn_decides (kind_of x.output)) t.inputs))
      (paired_decides (permits_in t) (permits_out t)))
      (not_less_decides (issuable_in t) (issuable_out t)))
      (no_verdict Bad (λ w. not (is_bad w)) not_bad_decides t.inputs v))
      (no_verdict Absent (λ w. not (is_absent w)) not_absent_decides t.inputs v))

pub is_sound_law : IsSoundLaw
is_sound_law verdicts t = told t (verdicts (tx_id t))

pub sound_test_law : SoundTestLaw
sound_test_law verdicts = (λ t. is_sound t (verdicts (tx_id t)), is_sound_law verdicts)

pub one_test_law : OneTestLaw
one_test_law verdicts f g tells_f tells_g =
    λ i t. both_ways (f t) (g t) (λ told. (tells_g t).1 ((tells_f t).0 told)) (λ told. (tells_f t).1 ((tells_g t).0 told)) i
