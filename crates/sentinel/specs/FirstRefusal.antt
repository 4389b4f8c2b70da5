-- Why a transaction is refused: the first reason that applies to it.
use Rattle.std.specs.Prelude.{◌≡◌, ◌≢◌, ℕ, ◌^◌, ◌<◌, ◌≤◌, List, [], length, sum_by, slice_get, Some}
use Rattle.cbdc_types.specs.Kinds.{kind_of}
use Rattle.cbdc_types.specs.declared.tx.Kind.TheVariants.{Burn}
use Rattle.cbdc_model.specs.Money.{permits_of, issuable_of, sum_in, sum_out, ArePaired}
use Rattle.cbdc_types.specs.declared.tx.Input.{Input}
use Rattle.cbdc_types.specs.declared.tx.FullTx.{FullTx}
use Rattle.base_types.specs.declared.faults.Refusal.{Refusal}
use Rattle.base_types.specs.declared.faults.Refusal.TheVariants.{NoInputs, NoOutputs, WitnessCount, RepeatedInput, ZeroInput, ZeroOutput}
use Rattle.base_types.specs.declared.faults.Refusal.TheVariants.{InputOverflow, OutputOverflow, Unbalanced, BurnedInput, PermitCount, PermitRaised}
use Rattle.base_types.specs.declared.faults.Refusal.TheVariants.{BadWitness, Unverified}
use Rattle.sentinel.specs.declared.verifier.Verdict.{Verdict}
use Rattle.sentinel.specs.declared.verifier.Verdict.TheVariants.{Bad, Absent}

-- the verdict on the witness of each input, by place
abbrev pub Verdicts : Type 0
Verdicts = ℕ → Verdict

-- the item at this place has the property
abbrev pub HasAt : {X : Type 0} → (X → Type 0) → List X → ℕ → Type 0
HasAt {X} Q xs i = (x : X) × (slice_get xs i ≡ Some x) × Q x

-- the place has the property, and no earlier one has
pub record IsLeast (P : ℕ → Type 0) (i : ℕ) : Type 0 where
  pub holds : P i
  pub none_before : (k : ℕ) → k < i → ¬ P k

-- the outpoint of this input stands earlier
abbrev pub Repeats : List Input → ℕ → Type 0
Repeats inputs i = HasAt (λ x. (k : ℕ) × (k < i) × HasAt (λ y. y.point ≡ x.point) inputs k) inputs i

-- the verdict on the input at this place is this one
abbrev pub HasVerdict : Verdict → List Input → Verdicts → ℕ → Type 0
HasVerdict verdict inputs verdicts i = (i < length inputs) × (verdicts i ≡ verdict)

-- the sum of the values that the inputs claim
abbrev pub input_sum : FullTx → ℕ
input_sum t = sum_by (λ x. x.output.value) t.inputs

-- the sum of the outputs' values
abbrev pub output_sum : FullTx → ℕ
output_sum t = sum_by (λ o. o.value) t.outputs

-- how many permits the inputs claim, and how many the outputs are
abbrev pub permits_in : FullTx → ℕ
permits_in t = sum_in permits_of t.inputs

abbrev pub permits_out : FullTx → ℕ
permits_out t = sum_out permits_of t.outputs

-- what may be issued with the permits that the inputs claim, and with those that the outputs are
abbrev pub issuable_in : FullTx → ℕ
issuable_in t = sum_in issuable_of t.inputs

abbrev pub issuable_out : FullTx → ℕ
issuable_out t = sum_out issuable_of t.outputs

-- what each reason says of the transaction; a place is the least
abbrev pub Applies : FullTx → Verdicts → Refusal → Type 0
Applies t verdicts NoInputs = t.inputs ≡ []
Applies t verdicts NoOutputs = t.outputs ≡ []
Applies t verdicts WitnessCount = length t.witnesses ≢ length t.inputs
Applies t verdicts (RepeatedInput i) = IsLeast (Repeats t.inputs) i
Applies t verdicts (ZeroInput i) = IsLeast (HasAt (λ x. x.output.value ≡ 0) t.inputs) i
Applies t verdicts (ZeroOutput i) = IsLeast (HasAt (λ o. o.value ≡ 0) t.outputs) i
Applies t verdicts InputOverflow = 2 ^ 64 ≤ input_sum t
Applies t verdicts OutputOverflow = 2 ^ 64 ≤ output_sum t
Applies t verdicts (Unbalanced ins outs) = (ins ≡ input_sum t) × (outs ≡ output_sum t) × (ins ≢ outs)
Applies t verdicts (BurnedInput i) = IsLeast (HasAt (λ x. kind_of x.output ≡ Burn) t.inputs) i
Applies t verdicts (PermitCount ins outs) = (ins ≡ permits_in t) × (outs ≡ permits_out t) × ¬ (ArePaired ins outs)
Applies t verdicts (PermitRaised was now) =
    (permits_in t ≡ 1) × (permits_out t ≡ 1) × (was ≡ issuable_in t) × (now ≡ issuable_out t) × (was < now)
Applies t verdicts (BadWitness i) = IsLeast (HasVerdict Bad t.inputs verdicts) i
Applies t verdicts (Unverified i) = IsLeast (HasVerdict Absent t.inputs verdicts) i

-- the order in which the reasons are tried
abbrev pub rank : Refusal → ℕ
rank NoInputs = 0
rank NoOutputs = 1
rank WitnessCount = 2
rank (RepeatedInput i) = 3
rank (ZeroInput i) = 4
rank (ZeroOutput i) = 5
rank InputOverflow = 6
rank OutputOverflow = 7
rank (Unbalanced ins outs) = 8
rank (BurnedInput i) = 9
rank (PermitCount ins outs) = 10
rank (PermitRaised was now) = 11
rank (BadWitness i) = 12
rank (Unverified i) = 13

-- the reason applies, and none before it does
pub record IsFirstRefusal (t : FullTx) (verdicts : Verdicts) (r : Refusal) : Type 0 where
  pub applies : Applies t verdicts r
  pub first : (other : Refusal) → rank other < rank r → ¬ (Applies t verdicts other)

-- no reason applies
abbrev pub IsSoundTx : FullTx → Verdicts → Type 0
IsSoundTx t verdicts = (r : Refusal) → ¬ (Applies t verdicts r)

-- none of the reasons of this rank applies
abbrev pub NoneAt : ℕ → FullTx → Verdicts → Type 0
NoneAt n t verdicts = (r : Refusal) → rank r ≡ n → ¬ (Applies t verdicts r)

-- this reason has the rank and applies
abbrev pub AppliesAt : ℕ → FullTx → Verdicts → Refusal → Type 0
AppliesAt n t verdicts r = (rank r ≡ n) × Applies t verdicts r
