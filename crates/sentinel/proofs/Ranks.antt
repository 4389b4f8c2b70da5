-- The order of the reasons.
use Rattle.std.proofs.Common.{rules, ◌≡◌, ℕ, ◌+◌, ◌<◌, ◌≤◌, length, sym, subst, arith, inl, inr, lit<, lit≤}
use Rattle.std.specs.Prelude.{Result, Ok, Err, MatchResult}
use Rattle.std.proofs.lemmas.Bool.{cases_lt}
use Rattle.cbdc_types.specs.declared.tx.FullTx.{FullTx}
use Rattle.base_types.specs.declared.faults.Refusal.{Refusal}
use Rattle.base_types.specs.declared.faults.Refusal.TheVariants.{NoInputs, RepeatedInput, ZeroInput, ZeroOutput, BurnedInput, PermitCount}
use Rattle.base_types.specs.declared.faults.Refusal.TheVariants.{PermitRaised}
use Rattle.cbdc_types.specs.Kinds.{kind_of}
use Rattle.cbdc_types.specs.declared.tx.Kind.TheVariants.{Burn}
use Rattle.cbdc_model.specs.Money.{ArePaired}
use Rattle.sentinel.specs.FirstRefusal.{Verdicts, Applies, AppliesAt, HasAt, IsFirstRefusal, IsSoundTx, NoneAt, Repeats, rank, permits_in}
use Rattle.sentinel.specs.FirstRefusal.{permits_out, issuable_in, issuable_out}

-- none of the reasons before this rank applies
abbrev pub NoneBelow : ℕ → FullTx → Verdicts → Type 0
NoneBelow n t v = (r : Refusal) → rank r < n → ¬ (Applies t v r)

pub below_first : (t : FullTx) (v : Verdicts) → NoneBelow 0 t v
below_first t v r lt = absurd (omega arith)

pub below_next : (t : FullTx) (v : Verdicts) (n : ℕ) → NoneBelow n t v → NoneAt n t v → NoneBelow (n + 1) t v
below_next t v n below at r lt = elim (cases_lt (rank r) n) [ inl earlier ↦ below r earlier | inr here ↦ at r (omega arith) ]

pub first_refusal_at : (t : FullTx) (v : Verdicts) (n : ℕ) (r : Refusal) → NoneBelow n t v → AppliesAt n t v r → IsFirstRefusal t v r
first_refusal_at t v n r below (at, applies) = record { applies = applies; first = λ other lt. below other (omega arith) }

rank-lt : (r : Refusal) → rank r < 14
rank-lt NoInputs = lit< tt
rank-lt other = lit< tt

-- the last reason decides
pub last_at : (t : FullTx) (v : Verdicts) (u : Result (Unit {0}) Refusal) → NoneBelow 13 t v
    → MatchResult u (λ done. NoneAt 13 t v) (λ r. AppliesAt 13 t v r) → MatchResult u (λ done. IsSoundTx t v) (λ r. IsFirstRefusal t v r)
last_at t v (Ok done) below at = λ r. below_next t v 13 below at r (rank-lt r)
last_at t v (Err r) below at = first_refusal_at t v 13 r below at

pub no_repeat : (t : FullTx) (v : Verdicts) → ((i : ℕ) → ¬ (Repeats t.inputs i)) → NoneAt 3 t v
no_repeat t v none (RepeatedInput i) is = λ least. none i least.holds
no_repeat t v none other is = absurd (omega arith)

pub no_zero_input : (t : FullTx) (v : Verdicts) → ((i : ℕ) → ¬ (HasAt (λ x. x.output.value ≡ 0) t.inputs i)) → NoneAt 4 t v
no_zero_input t v none (ZeroInput i) is = λ least. none i least.holds
no_zero_input t v none other is = absurd (omega arith)

pub no_zero_output : (t : FullTx) (v : Verdicts) → ((i : ℕ) → ¬ (HasAt (λ o. o.value ≡ 0) t.outputs i)) → NoneAt 5 t v
no_zero_output t v none (ZeroOutput i) is = λ least. none i least.holds
no_zero_output t v none other is = absurd (omega arith)

pub no_burned_input : (t : FullTx) (v : Verdicts) → ((i : ℕ) → ¬ (HasAt (λ x. kind_of x.output ≡ Burn) t.inputs i)) → NoneAt 9 t v
no_burned_input t v none (BurnedInput i) is = λ least. none i least.holds
no_burned_input t v none other is = absurd (omega arith)

pub paired_permits : (t : FullTx) (v : Verdicts) → ArePaired (permits_in t) (permits_out t) → NoneAt 10 t v
paired_permits t v paired (PermitCount ins outs) is = λ h.
    h.2 (subst (λ m. ArePaired m outs) (sym h.0) (subst (λ m. ArePaired (permits_in t) m) (sym h.1) paired))
paired_permits t v paired other is = absurd (omega arith)

pub no_raised_permit : (t : FullTx) (v : Verdicts) → issuable_out t ≤ issuable_in t → NoneAt 11 t v
no_raised_permit t v le (PermitRaised was now) is = λ h. omega (arith, le, h.2, h.3, h.4)
no_raised_permit t v le other is = absurd (omega arith)
