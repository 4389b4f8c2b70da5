-- With more bytes behind, what was read is read again, and a fault is met again unless a field was cut.
use Rattle.std.proofs.Common.{◌≡◌, ◌≢◌, ◌⊎◌, inl, inr, ℕ, zero, suc, ◌+◌, ◌≤◌, ◌<◌, Bool, true, false, cond, ltb, List, [], ◌∷◌, ◌++◌, length, take}
use Rattle.std.proofs.Common.{drop, Result, Ok, Err, refl, sym, ap, ◌∙◌, arith}
use Rattle.std.proofs.lemmas.Bool.{cases_lt, lt-ltb, le-ltb}
use Rattle.std.proofs.lemmas.List.{length-append, take-append-le, drop-append-le}
use Rattle.base_types.specs.declared.faults.InputKind.{InputKind}
use Rattle.base_types.specs.declared.faults.InputKind.TheVariants.{Cut, TooMany, TooLong}
use Rattle.cbdc_types.specs.declared.tx.Output.{Output}
use Rattle.cbdc_types.specs.declared.tx.Input.{Input}
use Rattle.cbdc_types.specs.declared.tx.FullTx.{FullTx}
use Rattle.byte_fields.specs.declared.fault.Fault.{Fault}
use Rattle.byte_fields.specs.Faults.{◌>>=◌, fault}
use Rattle.byte_fields.specs.Reading.{field_at, number_at, number_of, items_at, list_at}
use Rattle.byte_fields.specs.Transactions.{input_of, output_of, input_at, output_at, witness_at, transaction_at}
use Rattle.tx_codec.specs.declared.reading.BadTx.{BadTx}
use Rattle.tx_codec.specs.Places.{IsFirstFault}

-- a field was cut
abbrev pub IsShort : {X : Type 0} → Result X Fault → Type 0
IsShort r = (left : ℕ) × (r ≡ Err (record { left = left; kind = Cut }))

-- the same with so many bytes more behind
abbrev pub further : {X : Type 0} → List ℕ → Result (X × List ℕ) Fault → Result (X × List ℕ) Fault
further later (Ok x) = Ok (x.0, x.1 ++ later)
further later (Err f) = Err (record { left = f.left + length later; kind = f.kind })

abbrev pub Stays : {X : Type 0} → List ℕ → Result (X × List ℕ) Fault → Result (X × List ℕ) Fault → Type 0
Stays later r s = IsShort r ⊎ (s ≡ further later r)

failed : {X : Type 0} → Fault → Result (X × List ℕ) Fault
failed f = Err f

short_for : {A B : Type 0} (d : Fault) → IsShort {X = A × List ℕ} (Err d) → IsShort {X = B × List ℕ} (Err d)
unfolding failed
short_for {A = A} {B = B} d cut =
    let same : d ≡ record { left = cut.0; kind = Cut } = let e = cut.1 in cc in
    (cut.0, ap (λ (k : Fault). failed {X = B} k) same)

module _ (later : List ℕ) where
  pub field_stays : {X : Type 0} (n : ℕ) (of : List ℕ → X) (bytes : List ℕ) → Stays later (field_at n of bytes) (field_at n of (bytes ++ later))
  field_stays n of bytes =
      elim (cases_lt (length bytes) n) [
        | inl lt ↦ let t : ltb (length bytes) n ≡ true = lt-ltb _ _ lt in inl (length bytes, rw t refl)
        | inr le ↦
            let f : ltb (length bytes) n ≡ false = le-ltb _ _ le in
            let g : ltb (length (bytes ++ later)) n ≡ false = le-ltb _ _ (omega (arith, le, length-append bytes later)) in
            inr (rw (f, g, take-append-le n bytes later le, drop-append-le n bytes later le) refl)
      ]

  pub bind_stays : {A B : Type 0} (r s : Result (A × List ℕ) Fault) (f g : A × List ℕ → Result (B × List ℕ) Fault) → Stays later r s
      → ((x : A × List ℕ) → Stays later (f x) (g (x.0, x.1 ++ later))) → Stays later (r >>= f) (s >>= g)
  bind_stays (Ok x) s f g (inl cut) both = absurd (let e = cut.1 in cc)
  bind_stays (Err d) s f g (inl cut) both = inl (short_for d cut)
  bind_stays (Ok x) s f g (inr is) both = rw is (both x)
  bind_stays (Err d) s f g (inr is) both = inr (rw is refl)

  guard_stays : {A : Type 0} (b : Bool) (kind : InputKind) (bytes : List ℕ) (r s : Result (A × List ℕ) Fault) → Stays later r s
      → Stays later (cond b (Err (fault kind bytes)) r) (cond b (Err (fault kind (bytes ++ later))) s)
  unfolding failed
  guard_stays {A = A} true kind bytes r s stays = inr (ap (λ (n : ℕ). failed {X = A} (record { left = n; kind = kind })) (length-append bytes later))
  guard_stays false kind bytes r s stays = stays

  pub items_stay : {X : Type 0} (item : List ℕ → Result (X × List ℕ) Fault) → ((bytes : List ℕ) → Stays later (item bytes) (item (bytes ++ later)))
      → (n : ℕ) (bytes : List ℕ) → Stays later (items_at item n bytes) (items_at item n (bytes ++ later))
  unfolding items_at
  items_stay item each zero bytes = inr refl
  items_stay item each (suc n) bytes =
      bind_stays (item bytes) (item (bytes ++ later)) (λ first. items_at item n first.1 >>= λ others. Ok (first.0 ∷ others.0, others.1))
      (λ first. items_at item n first.1 >>= λ others. Ok (first.0 ∷ others.0, others.1)) (each bytes)
      (λ first. bind_stays (items_at item n first.1) (items_at item n (first.1 ++ later)) (λ others. Ok (first.0 ∷ others.0, others.1))
      (λ others. Ok (first.0 ∷ others.0, others.1)) (items_stay item each n first.1) (λ others. inr refl))

  pub list_stays : {X : Type 0} (limit : ℕ) (item : List ℕ → Result (X × List ℕ) Fault)
      → ((bytes : List ℕ) → Stays later (item bytes) (item (bytes ++ later)))
      → (bytes : List ℕ) → Stays later (list_at limit item bytes) (list_at limit item (bytes ++ later))
  unfolding list_at
  list_stays limit item each bytes =
      bind_stays (number_at bytes) (number_at (bytes ++ later)) (λ n. cond (ltb limit n.0) (Err (fault TooMany bytes)) (items_at item n.0 n.1))
      (λ n. cond (ltb limit n.0) (Err (fault TooMany (bytes ++ later))) (items_at item n.0 n.1))
      (field_stays 8 number_of bytes)
      (λ n. guard_stays (ltb limit n.0) TooMany bytes (items_at item n.0 n.1) (items_at item n.0 (n.1 ++ later)) (items_stay item each n.0 n.1))

  witness_stays : (bytes : List ℕ) → Stays later (witness_at bytes) (witness_at (bytes ++ later))
  unfolding witness_at
  witness_stays bytes =
      bind_stays (number_at bytes) (number_at (bytes ++ later)) (λ n. cond (ltb 4096 n.0) (Err (fault TooLong bytes)) (field_at n.0 (λ w. w) n.1))
      (λ n. cond (ltb 4096 n.0) (Err (fault TooLong (bytes ++ later))) (field_at n.0 (λ w. w) n.1))
      (field_stays 8 number_of bytes)
      (λ n. guard_stays (ltb 4096 n.0) TooLong bytes (field_at n.0 (λ w. w) n.1) (field_at n.0 (λ w. w) (n.1 ++ later))
      (field_stays n.0 (λ (w : List ℕ). w) n.1))

  made : List Input → List Output → List (List ℕ) → FullTx
  made is os ws = record { inputs = is; outputs = os; witnesses = ws }

  pub transaction_stays : (bytes : List ℕ) → Stays later (transaction_at bytes) (transaction_at (bytes ++ later))
  unfolding transaction_at made
  transaction_stays bytes =
      bind_stays (list_at 255 input_at bytes) (list_at 255 input_at (bytes ++ later))
      (λ is. list_at 255 output_at is.1 >>= λ os. list_at 255 witness_at os.1 >>= λ ws. Ok (made is.0 os.0 ws.0, ws.1))
      (λ is. list_at 255 output_at is.1 >>= λ os. list_at 255 witness_at os.1 >>= λ ws. Ok (made is.0 os.0 ws.0, ws.1))
      (list_stays 255 input_at (field_stays 80 input_of) bytes)
      (λ is. bind_stays (list_at 255 output_at is.1) (list_at 255 output_at (is.1 ++ later))
      (λ os. list_at 255 witness_at os.1 >>= λ ws. Ok (made is.0 os.0 ws.0, ws.1))
      (λ os. list_at 255 witness_at os.1 >>= λ ws. Ok (made is.0 os.0 ws.0, ws.1))
      (list_stays 255 output_at (field_stays 40 output_of) is.1)
      (λ os. bind_stays (list_at 255 witness_at os.1) (list_at 255 witness_at (os.1 ++ later)) (λ ws. Ok (made is.0 os.0 ws.0, ws.1))
      (λ ws. Ok (made is.0 os.0 ws.0, ws.1))
      (list_stays 255 witness_at witness_stays os.1) (λ ws. inr refl)))

same_fault : (f g : Fault) (r : Result (FullTx × List ℕ) Fault) → r ≡ Err f → r ≡ Err g → f ≡ g
same_fault f g r e h = cc

-- a bad field is the first one whatever comes behind
pub bad_stays : (bytes : List ℕ) (bad : BadTx) → IsFirstFault bytes 0 bad → bad.kind ≢ Cut → (later : List ℕ) → IsFirstFault (bytes ++ later) 0 bad
bad_stays bytes bad is kind later = elim (transaction_stays later bytes) [
  | inl cut ↦ absurd (kind (ap (λ (f : Fault). f.kind)
      (same_fault (record { left = is.0; kind = bad.kind }) (record { left = cut.0; kind = Cut }) (transaction_at bytes) is.1 cut.1)))
  | inr same ↦ (
    is.0 + length later,
    same ∙ ap (λ (r : Result (FullTx × List ℕ) Fault). further later r) is.1,
    omega (arith, is.2, length-append bytes later),
  )
]
