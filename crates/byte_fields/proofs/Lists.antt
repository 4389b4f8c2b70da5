-- Lists of items, and the transaction: what is read is spelled so, and what is spelled so is read.
use Rattle.std.proofs.Common.{◌≡◌, ℕ, zero, suc, ◌^◌, ◌<◌, ◌≤◌, false, cond, ltb, List, [], ◌∷◌, ◌++◌, length, Result, Ok, Err, refl, sym, ap, subst}
use Rattle.std.proofs.Common.{◌∙◌, append_assoc, arith, inl, inr}
use Rattle.std.specs.List.{flat_map, AllByRecursion}
use Rattle.std.proofs.lemmas.Bool.{ltb-false, le-ltb}
use Rattle.cbdc_types.specs.declared.tx.Output.{Output}
use Rattle.cbdc_types.specs.declared.tx.Input.{Input}
use Rattle.cbdc_types.specs.declared.tx.FullTx.{FullTx}
use Rattle.byte_fields.specs.declared.fault.Fault.{Fault}
use Rattle.base_types.specs.declared.faults.InputKind.TheVariants.{TooMany}
use Rattle.byte_fields.specs.Faults.{◌>>=◌, fault, IsBytes}
use Rattle.byte_spelling.specs.Spelling.{number, counted, output, input, witness, transaction, FitsOutput, FitsInput, FitsWitness, FitsList}
use Rattle.byte_spelling.specs.Spelling.{FitsTransaction}
use Rattle.byte_fields.specs.Reading.{number_at, items_at, list_at}
use Rattle.byte_fields.specs.Transactions.{input_at, output_at, witness_at, transaction_at}
use Rattle.byte_fields.proofs.Fields.{bind_ok, bind_err, guard_ok, guard_err, ok_is, Takes, Takes-then, length-rest, IsItem, IsRead, read_of}
use Rattle.byte_fields.proofs.Fields.{number_item, input_item, output_item, witness_item}

module _ {X : Type 0} (read : List ℕ → Result (X × List ℕ) Fault) (spelled : X → List ℕ) (Fits : X → Type 0) (item : IsRead read spelled Fits) where
  items_take : (n : ℕ) (bytes : List ℕ) (xs : List X) (rest : List ℕ) → IsBytes bytes → items_at read n bytes ≡ Ok (xs, rest)
      → Takes bytes (flat_map spelled xs) rest × (length xs ≡ n) × AllByRecursion Fits xs
  unfolding items_at
  items_take zero bytes xs rest fits e =
      subst (λ (y : List X × List ℕ). Takes bytes (flat_map spelled y.0) y.1 × (length y.0 ≡ 0) × AllByRecursion Fits y.0)
      (ok_is ([], bytes) (xs, rest) e) (record { parts = refl; rest_fits = fits }, refl, tt)
  items_take (suc n) bytes xs rest fits e =
      let a = bind_ok (read bytes) (λ first. items_at read n first.1 >>= λ others. Ok (first.0 ∷ others.0, others.1)) (xs, rest) e in
      let b = bind_ok (items_at read n a.0.1) (λ others. Ok (a.0.0 ∷ others.0, others.1)) (xs, rest) a.2 in
      let one = item.takes bytes a.0.0 a.0.1 fits a.1 in
      let more = items_take n a.0.1 b.0.0 b.0.1 one.0.rest_fits b.1 in
      subst (λ (y : List X × List ℕ). Takes bytes (flat_map spelled y.0) y.1 × (length y.0 ≡ suc n) × AllByRecursion Fits y.0)
      (ok_is (a.0.0 ∷ b.0.0, b.0.1) (xs, rest) b.2)
      (Takes-then bytes (spelled a.0.0) a.0.1 (flat_map spelled b.0.0) b.0.1 one.0 more.0, ap suc more.1, (one.1, more.2))

  items_again : (xs : List X) (rest : List ℕ) → AllByRecursion Fits xs → items_at read (length xs) (flat_map spelled xs ++ rest) ≡ Ok (xs, rest)
  unfolding items_at
  items_again [] rest all = refl
  items_again (x ∷ xs) rest all =
      let split : flat_map spelled (x ∷ xs) ++ rest ≡ spelled x ++ (flat_map spelled xs ++ rest) =
      append_assoc (spelled x) (flat_map spelled xs) rest in
      ap (items_at read (length (x ∷ xs))) split ∙ rw (item.again x (flat_map spelled xs ++ rest) all.0, items_again xs rest all.1) refl

  pub list_read : (limit : ℕ) → limit < 2 ^ 64 → IsRead (list_at limit read) (counted spelled) (FitsList limit Fits)
  unfolding list_at
  list_read limit small = record {
    takes = λ bytes xs rest fits e.
        let step = bind_ok (number_at bytes) (λ n. cond (ltb limit n.0) (Err (fault TooMany bytes)) (items_at read n.0 n.1)) (xs, rest) e in
        let n = step.0 in
        let taken = number_item.takes bytes n.0 n.1 fits step.1 in
        let few = guard_ok (ltb limit n.0) (fault TooMany bytes) (items_at read n.0 n.1) (xs, rest) step.2 in
        let all = items_take n.0 n.1 xs rest taken.0.rest_fits few.1 in (
          subst (λ (k : ℕ). Takes bytes (number k ++ flat_map spelled xs) rest) (sym all.1)
              (Takes-then bytes (number n.0) n.1 (flat_map spelled xs) rest taken.0 all.0),
          (omega (arith, all.1, ltb-false _ _ few.0), all.2),
        );
    again = λ xs rest fits.
        let whole : counted spelled xs ++ rest ≡ number (length xs) ++ (flat_map spelled xs ++ rest) =
        append_assoc (number (length xs)) (flat_map spelled xs) rest in
        let first : number_at (number (length xs) ++ (flat_map spelled xs ++ rest)) ≡ Ok (length xs, flat_map spelled xs ++ rest) =
        number_item.again (length xs) (flat_map spelled xs ++ rest) (omega (arith, fits.0, small)) in
        let few : ltb limit (length xs) ≡ false = le-ltb _ _ fits.0 in
        ap (list_at limit read) whole ∙ rw (first, few) (items_again xs rest fits.1);
  }

module _ {X : Type 0} (read : List ℕ → Result (X × List ℕ) Fault) (spelled : X → List ℕ) (Fits : X → Type 0) (item : IsItem read spelled Fits) where
  pub items_early : (n : ℕ) (bytes : List ℕ) (f : Fault) → IsBytes bytes → items_at read n bytes ≡ Err f → f.left ≤ length bytes
  unfolding items_at
  items_early zero bytes f fits e = absurd (cc)
  items_early (suc n) bytes f fits e =
      elim (bind_err (read bytes) (λ first. items_at read n first.1 >>= λ others. Ok (first.0 ∷ others.0, others.1)) f e) [
        | inl first ↦ item.early bytes f fits first
        | inr more ↦
            let taken = item.takes bytes more.0.0 more.0.1 fits more.1 in
            let less = length-rest bytes (spelled more.0.0) more.0.1 taken.0 in
            elim (bind_err (items_at read n more.0.1) (λ others. Ok (more.0.0 ∷ others.0, others.1)) f more.2) [
              | inl behind ↦ omega (arith, less, items_early n more.0.1 f taken.0.rest_fits behind)
              | inr never ↦ let wrong = never.2 in absurd (cc)
            ]
      ]

  pub list_item : (limit : ℕ) → limit < 2 ^ 64 → IsItem (list_at limit read) (counted spelled) (FitsList limit Fits)
  unfolding list_at
  list_item limit small =
      let alike = list_read read spelled Fits (read_of read spelled Fits item) limit small in
      record {
        takes = alike.takes;
        again = alike.again;
        early = λ bytes f fits e.
            elim (bind_err (number_at bytes) (λ n. cond (ltb limit n.0) (Err (fault TooMany bytes)) (items_at read n.0 n.1)) f e) [
              | inl first ↦ number_item.early bytes f fits first
              | inr more ↦
                  let taken = number_item.takes bytes more.0.0 more.0.1 fits more.1 in
                  let less = length-rest bytes (number more.0.0) more.0.1 taken.0 in
                  elim (guard_err (ltb limit more.0.0) (fault TooMany bytes) (items_at read more.0.0 more.0.1) f more.2) [
                    | inl same ↦ omega (arith, ap (λ (k : Fault). k.left) same)
                    | inr behind ↦ omega (arith, less, items_early more.0.0 more.0.1 f taken.0.rest_fits behind)
                  ]
            ];
      }

inputs_item : IsItem (list_at 255 input_at) (counted input) (FitsList 255 FitsInput)
inputs_item = list_item input_at input FitsInput input_item 255 (omega arith)

outputs_item : IsItem (list_at 255 output_at) (counted output) (FitsList 255 FitsOutput)
outputs_item = list_item output_at output FitsOutput output_item 255 (omega arith)

witnesses_item : IsItem (list_at 255 witness_at) (counted witness) (FitsList 255 FitsWitness)
witnesses_item = list_item witness_at witness FitsWitness witness_item 255 (omega arith)

made : List Input → List Output → List (List ℕ) → FullTx
made is os ws = record { inputs = is; outputs = os; witnesses = ws }

pub transaction_item : IsItem transaction_at transaction FitsTransaction
unfolding transaction_at made
transaction_item = record {
  takes = λ bytes t rest fits e.
      let a = bind_ok (list_at 255 input_at bytes)
      (λ is. list_at 255 output_at is.1 >>= λ os. list_at 255 witness_at os.1 >>= λ ws. Ok (made is.0 os.0 ws.0, ws.1)) (t, rest) e in
      let b = bind_ok (list_at 255 output_at a.0.1) (λ os. list_at 255 witness_at os.1 >>= λ ws. Ok (made a.0.0 os.0 ws.0, ws.1)) (t, rest) a.2 in
      let c = bind_ok (list_at 255 witness_at b.0.1) (λ ws. Ok (made a.0.0 b.0.0 ws.0, ws.1)) (t, rest) b.2 in
      let ins = inputs_item.takes bytes a.0.0 a.0.1 fits a.1 in
      let outs = outputs_item.takes a.0.1 b.0.0 b.0.1 ins.0.rest_fits b.1 in
      let wits = witnesses_item.takes b.0.1 c.0.0 c.0.1 outs.0.rest_fits c.1 in
      let both = Takes-then bytes (counted input a.0.0) a.0.1 (counted output b.0.0) b.0.1 ins.0 outs.0 in
      let whole = Takes-then bytes (counted input a.0.0 ++ counted output b.0.0) b.0.1 (counted witness c.0.0) c.0.1 both wits.0 in
      subst (λ (y : FullTx × List ℕ). Takes bytes (transaction y.0) y.1 × FitsTransaction y.0) (ok_is (made a.0.0 b.0.0 c.0.0, c.0.1) (t, rest) c.2)
      (whole, record { inputs = ins.1; outputs = outs.1; witnesses = wits.1 });
  again = λ t rest fits.
      let split : transaction t ++ rest ≡ counted input t.inputs ++ (counted output t.outputs ++ (counted witness t.witnesses ++ rest)) =
      append_assoc (counted input t.inputs ++ counted output t.outputs) (counted witness t.witnesses) rest
      ∙ append_assoc (counted input t.inputs) (counted output t.outputs) (counted witness t.witnesses ++ rest) in
      ap transaction_at split ∙ rw (
        inputs_item.again t.inputs (counted output t.outputs ++ (counted witness t.witnesses ++ rest)) fits.inputs,
        outputs_item.again t.outputs (counted witness t.witnesses ++ rest) fits.outputs,
        witnesses_item.again t.witnesses rest fits.witnesses,
      ) refl;
  early = λ bytes f fits e.
      elim (bind_err (list_at 255 input_at bytes)
      (λ is. list_at 255 output_at is.1 >>= λ os. list_at 255 witness_at os.1 >>= λ ws. Ok (made is.0 os.0 ws.0, ws.1)) f e) [
        | inl first ↦ inputs_item.early bytes f fits first
        | inr a ↦
            let ins = inputs_item.takes bytes a.0.0 a.0.1 fits a.1 in
            let less = length-rest bytes (counted input a.0.0) a.0.1 ins.0 in
            elim (bind_err (list_at 255 output_at a.0.1) (λ os. list_at 255 witness_at os.1 >>= λ ws. Ok (made a.0.0 os.0 ws.0, ws.1)) f a.2) [
              | inl second ↦ omega (arith, less, outputs_item.early a.0.1 f ins.0.rest_fits second)
              | inr b ↦
                  let outs = outputs_item.takes a.0.1 b.0.0 b.0.1 ins.0.rest_fits b.1 in
                  let fewer = length-rest a.0.1 (counted output b.0.0) b.0.1 outs.0 in
                  elim (bind_err (list_at 255 witness_at b.0.1) (λ ws. Ok (made a.0.0 b.0.0 ws.0, ws.1)) f b.2) [
                    | inl third ↦ omega (arith, less, fewer, witnesses_item.early b.0.1 f outs.0.rest_fits third)
                    | inr never ↦ let wrong = never.2 in absurd (cc)
                  ]
            ]
      ];
}
