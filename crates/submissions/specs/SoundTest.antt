-- A test that says yes exactly for the sound transactions.
use Rattle.std.specs.Prelude.{◌≡◌, ℕ, zero, suc, ◌^◌, Bool, true, false, not, ◌&&◌, ◌==◌, nat_lt, List, [], ◌∷◌, length, bytes_eq}
use Rattle.std.specs.List.{list_all}
use Rattle.cbdc_types.specs.declared.tx.OutPoint.{OutPoint}
use Rattle.cbdc_types.specs.declared.tx.Input.{Input}
use Rattle.cbdc_types.specs.Kinds.{kind_of}
use Rattle.cbdc_types.specs.declared.tx.Kind.{Kind}
use Rattle.cbdc_types.specs.declared.tx.Kind.TheVariants.{Permit, Burn, Money}
use Rattle.cbdc_model.specs.Coins.{FullTx, tx_id}
use Rattle.sentinel.specs.declared.verifier.Verdict.{Verdict}
use Rattle.sentinel.specs.declared.verifier.Verdict.TheVariants.{Good, Bad, Absent}
use Rattle.sentinel.specs.FirstRefusal.{Verdicts, input_sum, output_sum, permits_in, permits_out, issuable_in, issuable_out}
use Rattle.submissions.specs.Checks.{VerdictsOf, TellsSound}

-- whether two outpoints have the same transaction and index
abbrev pub same_point : OutPoint → OutPoint → Bool
same_point p q = bytes_eq p.tx q.tx && p.index == q.index

-- no two of the inputs have one outpoint
abbrev pub are_distinct : List Input → Bool
are_distinct [] = true
are_distinct (x ∷ xs) = list_all (λ y. not (same_point x.point y.point)) xs && are_distinct xs

-- each number below this one passes
abbrev pub each_below : (ℕ → Bool) → ℕ → Bool
each_below test zero = true
each_below test (suc n) = test n && each_below test n

-- whether the verdict is Bad
abbrev pub is_bad : Verdict → Bool
is_bad Good = false
is_bad Bad = true
is_bad Absent = false

-- whether it is Absent
abbrev pub is_absent : Verdict → Bool
is_absent Good = false
is_absent Bad = false
is_absent Absent = true

-- whether an output is burnt
abbrev pub is_burn : Kind → Bool
is_burn Permit = false
is_burn Burn = true
is_burn Money = false

-- whether these are none and none, or one and one
abbrev pub are_paired : ℕ → ℕ → Bool
are_paired ins outs = (ins == outs) && nat_lt ins 2

-- some inputs; some outputs; as many witnesses as inputs; no outpoint twice; no input of value 0; no output of value 0; a sum of the inputs below
-- 2^64, and one of the outputs; equal sums. No input that claims a burn output; permits that are none and none or one and one, the one that is made
-- with no greater value; no witness of an input that is bad, and none of which nothing is known
abbrev pub is_sound : FullTx → Verdicts → Bool
is_sound t verdicts =
    nat_lt 0 (length t.inputs)
    && nat_lt 0 (length t.outputs)
    && length t.witnesses == length t.inputs
    && are_distinct t.inputs
    && list_all (λ x. nat_lt 0 x.output.value) t.inputs
    && list_all (λ o. nat_lt 0 o.value) t.outputs
    && nat_lt (input_sum t) (2 ^ 64)
    && nat_lt (output_sum t) (2 ^ 64)
    && input_sum t == output_sum t
    && list_all (λ x. not (is_burn (kind_of x.output))) t.inputs
    && are_paired (permits_in t) (permits_out t)
    && not (nat_lt (issuable_in t) (issuable_out t))
    && each_below (λ i. not (is_bad (verdicts i))) (length t.inputs)
    && each_below (λ i. not (is_absent (verdicts i))) (length t.inputs)

-- whether a transaction is sound by the verdicts on its id: the test by which `process` tells the waves of a run
abbrev pub sound_by : VerdictsOf → FullTx → Bool
sound_by verdicts t = is_sound t (verdicts (tx_id t))

-- it says yes exactly for the sound transactions
abbrev pub IsSoundLaw : Type 0
IsSoundLaw = (verdicts : VerdictsOf) → TellsSound verdicts (sound_by verdicts)

-- there is a test that does
abbrev pub SoundTestLaw : Type 0
SoundTestLaw = (verdicts : VerdictsOf) → (sound : FullTx → Bool) × TellsSound verdicts sound

-- two tests that do are one
abbrev pub OneTestLaw : Type 0
OneTestLaw = (verdicts : VerdictsOf) (f g : FullTx → Bool) → TellsSound verdicts f → TellsSound verdicts g → f ≡ g
