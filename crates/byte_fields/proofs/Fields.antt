-- A field that is read is the field that was written, and what was written is read again.
use Rattle.std.proofs.Common.{◌≡◌, ℕ, ◌+◌, ◌^◌, ◌<◌, ◌≤◌, ◌⊎◌, Bool, true, false, cond, ltb, List, ◌++◌, length, take, drop, Result, Ok, Err, refl}
use Rattle.std.proofs.Common.{sym, ap, ap₂, subst, ◌∙◌, append_assoc, arith, inl, inr}
use Rattle.std.proofs.lemmas.Bool.{cases_lt, ltb-false, le-ltb}
use Rattle.std.proofs.lemmas.List.{take_at, drop_at, take_all, take-append-drop, length-append, length-take, length-drop, get_or-drop, get_or-take}
use Rattle.std.proofs.lemmas.List.{get_or_past}
use Rattle.std.proofs.lemmas.Nat.{le_bytes_8, from_le_bytes-to_le_bytes_8}
use Rattle.cbdc_types.specs.declared.tx.OutPoint.{OutPoint}
use Rattle.cbdc_types.specs.declared.tx.Output.{Output}
use Rattle.cbdc_types.specs.declared.tx.Input.{Input}
use Rattle.byte_fields.specs.declared.fault.Fault.{Fault}
use Rattle.base_types.specs.declared.faults.InputKind.TheVariants.{Cut, TooLong}
use Rattle.byte_fields.specs.Faults.{◌>>=◌, fault, IsBytes}
use Rattle.byte_spelling.specs.Spelling.{number, output, input, witness, FitsNumber, FitsHash, FitsOutput, FitsInput, FitsWitness}
use Rattle.byte_fields.specs.Reading.{field_at, number_of, hash_of, number_at, hash_at}
use Rattle.byte_fields.specs.Transactions.{point_of, output_of, input_of, output_at, input_at, witness_at}
use Rattle.byte_fields.proofs.Lengths.{length-number}

pub IsBytes-drop : (n : ℕ) (bytes : List ℕ) → IsBytes bytes → IsBytes (drop n bytes)
IsBytes-drop n bytes h i = rw get_or-drop (h (n + i))

pub IsBytes-take : (n : ℕ) (bytes : List ℕ) → IsBytes bytes → IsBytes (take n bytes)
IsBytes-take n bytes h i =
    elim (cases_lt i n) [
      | inl lt ↦ rw (get_or-take n bytes i 0 lt) (h i)
      | inr le ↦ rw (get_or_past (take n bytes) i 0 (omega (arith, length-take n bytes))) (omega arith)
    ]

-- the value of a step that did not fail
pub bind_ok : {A B : Type 0} (r : Result A Fault) (f : A → Result B Fault) (y : B) → (r >>= f) ≡ Ok y → (x : A) × (r ≡ Ok x) × (f x ≡ Ok y)
bind_ok (Ok x) f y e = (x, refl, e)
bind_ok (Err d) f y e = absurd cc

-- a test that did not fail
pub guard_ok : {A : Type 0} (b : Bool) (d : Fault) (r : Result A Fault) (y : A) → cond b (Err d) r ≡ Ok y → (b ≡ false) × (r ≡ Ok y)
guard_ok true d r y e = absurd cc
guard_ok false d r y e = (refl, e)

-- the fault of a step, or of what comes behind it
pub bind_err : {A B : Type 0} (r : Result A Fault) (f : A → Result B Fault) (d : Fault) → (r >>= f) ≡ Err d
    → (r ≡ Err d) ⊎ ((x : A) × (r ≡ Ok x) × (f x ≡ Err d))
bind_err (Ok x) f d e = inr (x, refl, e)
bind_err {A = A} (Err c) f d e = inl (let same : c ≡ d = cc in ap (λ (k : Fault). failed {A = A} k) same)
  where
    failed : {A : Type 0} → Fault → Result A Fault
    failed k = Err k

-- the fault of a test, or of what comes behind it
pub guard_err : {A : Type 0} (b : Bool) (d : Fault) (r : Result A Fault) (f : Fault) → cond b (Err d) r ≡ Err f → (d ≡ f) ⊎ (r ≡ Err f)
guard_err true d r f e = inl (cc)
guard_err false d r f e = inr e

abbrev done : {A : Type 0} → A → Result A Fault
done x = Ok x

pub ok_is : {A : Type 0} (x y : A) → done x ≡ done y → x ≡ y
ok_is x y e = cc

-- what a reader took from the front
pub record Takes (bytes text rest : List ℕ) : Type 0 where
  pub parts : bytes ≡ text ++ rest
  pub rest_fits : IsBytes rest

pub Takes-then : (a x b y c : List ℕ) → Takes a x b → Takes b y c → Takes a (x ++ y) c
Takes-then a x b y c p q = record { parts = p.parts ∙ ap (λ (t : List ℕ). x ++ t) q.parts ∙ sym (append_assoc x y c); rest_fits = q.rest_fits }

pub length-rest : (bytes text rest : List ℕ) → Takes bytes text rest → length rest ≤ length bytes
length-rest bytes text rest t = omega (arith, ap length t.parts, length-append text rest)

-- what is read and written alike
pub record IsItem {X : Type 0} (read : List ℕ → Result (X × List ℕ) Fault) (spelled : X → List ℕ) (Fits : X → Type 0) : Type 0 where
  pub takes : (bytes : List ℕ) (x : X) (rest : List ℕ) → IsBytes bytes → read bytes ≡ Ok (x, rest) → Takes bytes (spelled x) rest × Fits x
  pub again : (x : X) (rest : List ℕ) → Fits x → read (spelled x ++ rest) ≡ Ok (x, rest)
  pub early : (bytes : List ℕ) (f : Fault) → IsBytes bytes → read bytes ≡ Err f → f.left ≤ length bytes

-- the same where no fault is told
pub record IsRead {X : Type 0} (read : List ℕ → Result (X × List ℕ) Fault) (spelled : X → List ℕ) (Fits : X → Type 0) : Type 0 where
  pub takes : (bytes : List ℕ) (x : X) (rest : List ℕ) → IsBytes bytes → read bytes ≡ Ok (x, rest) → Takes bytes (spelled x) rest × Fits x
  pub again : (x : X) (rest : List ℕ) → Fits x → read (spelled x ++ rest) ≡ Ok (x, rest)

pub read_of : {X : Type 0} (read : List ℕ → Result (X × List ℕ) Fault) (spelled : X → List ℕ) (Fits : X → Type 0) → IsItem read spelled Fits
    → IsRead read spelled Fits
read_of read spelled Fits item = record { takes = item.takes; again = item.again }

-- a field of n bytes
pub field_is : {X : Type 0} (n : ℕ) (of : List ℕ → X) (bytes : List ℕ) (x : X) (rest : List ℕ) → field_at n of bytes ≡ Ok (x, rest)
    → (n ≤ length bytes) × (of (take n bytes) ≡ x) × (drop n bytes ≡ rest)
field_is {X = X} n of bytes x rest e =
    let g = guard_ok (ltb (length bytes) n) (fault Cut bytes) (done (of (take n bytes), drop n bytes)) (x, rest) e in
    let p = ok_is (of (take n bytes), drop n bytes) (x, rest) g.1 in
    (ltb-false _ _ g.0, ap (λ (q : X × List ℕ). q.0) p, ap (λ (q : X × List ℕ). q.1) p)

pub field_early : {X : Type 0} (n : ℕ) (of : List ℕ → X) (bytes : List ℕ) (f : Fault) → field_at n of bytes ≡ Err f → f.left ≤ length bytes
field_early {X = X} n of bytes f e =
    elim (guard_err (ltb (length bytes) n) (fault Cut bytes) (done (of (take n bytes), drop n bytes)) f e) [
      | inl same ↦ omega (arith, ap (λ (k : Fault). k.left) same)
      | inr never ↦ absurd (cc)
    ]

pub field_again : {X : Type 0} (n : ℕ) (of : List ℕ → X) (text rest : List ℕ) → length text ≡ n → field_at n of (text ++ rest) ≡ Ok (of text, rest)
field_again n of text rest len =
    let long : ltb (length (text ++ rest)) n ≡ false = le-ltb _ _ (omega (arith, length-append text rest)) in
    rw (long, take_at text rest n len, drop_at text rest n len) refl

-- a field whose bytes come back
pub field_item : {X : Type 0} (n : ℕ) (of : List ℕ → X) (spelled : X → List ℕ) (Fits : X → Type 0)
    → ((b : List ℕ) → length b ≡ n → IsBytes b → (spelled (of b) ≡ b) × Fits (of b))
    → ((x : X) → Fits x → (length (spelled x) ≡ n) × (of (spelled x) ≡ x))
    → IsItem (field_at n of) spelled Fits
field_item {X = X} n of spelled Fits back again = record {
  takes = λ bytes x rest fits e.
      let f = field_is n of bytes x rest e in
      let front = back (take n bytes) (omega (arith, length-take n bytes, f.0)) (IsBytes-take n bytes fits) in (
        record {
          parts = sym (take-append-drop n bytes) ∙ ap₂ (λ (l r : List ℕ). l ++ r) (sym front.0 ∙ ap spelled f.1) f.2;
          rest_fits = subst IsBytes f.2 (IsBytes-drop n bytes fits);
        },
        subst Fits f.1 front.1,
      );
  again = λ x rest fits. let w = again x fits in field_again n of (spelled x) rest w.0 ∙ ap (λ (y : X). done (y, rest)) w.1;
  early = λ bytes f fits e. field_early n of bytes f e;
}

-- ---- numbers

pub number_back : (b : List ℕ) → length b ≡ 8 → IsBytes b → number (number_of b) ≡ b
unfolding number
number_back b len fits = le_bytes_8 b (number_of b) len fits refl

pub number_of-number : (n : ℕ) → n < 2 ^ 64 → number_of (number n) ≡ n
unfolding number
number_of-number n lt = from_le_bytes-to_le_bytes_8 n lt

pub number_below : (b : List ℕ) → IsBytes b → number_of b < 2 ^ 64
number_below b fits = omega (arith, fits 0, fits 1, fits 2, fits 3, fits 4, fits 5, fits 6, fits 7)

pub number_item : IsItem number_at number FitsNumber
number_item = field_item 8 number_of number FitsNumber (λ b len fits. (number_back b len fits, number_below b fits))
    (λ n lt. (length-number n, number_of-number n lt))

pub hash_item : IsItem hash_at (λ h. h) FitsHash
hash_item = field_item 32 hash_of (λ h. h) FitsHash
    (λ b len fits. let all : take 32 b ≡ b = take_all 32 b (omega (arith, len)) in (all, ap length all ∙ len))
    (λ h len. (len, take_all 32 h (omega (arith, len))))

-- ---- outputs and inputs

-- an input is its point, 40 bytes, and its output
point_text : OutPoint → List ℕ
point_text p = p.tx ++ number p.index

input_parts : (i : Input) → input i ≡ point_text i.point ++ output i.output
unfolding point_text
input_parts i = refl

output_length : (o : Output) → FitsOutput o → length (output o) ≡ 40
output_length o fits = omega (arith, length-append o.program (number o.value), length-number o.value, fits.program)

point_length : (i : Input) → FitsInput i → length (point_text i.point) ≡ 40
unfolding point_text
point_length i fits = omega (arith, length-append i.point.tx (number i.point.index), length-number i.point.index, fits.tx)

point_same : (i : Input) → FitsInput i → point_of (point_text i.point) ≡ i.point
unfolding point_text
point_same i fits =
    let front : take 32 (point_text i.point) ≡ i.point.tx = take_at i.point.tx (number i.point.index) 32 fits.tx in
    let back : number_of (drop 32 (point_text i.point)) ≡ i.point.index =
    ap number_of (drop_at i.point.tx (number i.point.index) 32 fits.tx) ∙ number_of-number i.point.index fits.index in
    ap₂ (λ (t : List ℕ) (n : ℕ). made t n) front back
  where
    made : List ℕ → ℕ → OutPoint
    made t n = record { tx = t; index = n }

output_same : (o : Output) → FitsOutput o → output_of (output o) ≡ o
unfolding output_of
output_same o fits =
    let front : take 32 (output o) ≡ o.program = take_at o.program (number o.value) 32 fits.program in
    let back : number_of (drop 32 (output o)) ≡ o.value =
    ap number_of (drop_at o.program (number o.value) 32 fits.program) ∙ number_of-number o.value fits.value in
    ap₂ (λ (p : List ℕ) (v : ℕ). made p v) front back
  where
    made : List ℕ → ℕ → Output
    made p v = record { program = p; value = v }

output_comes_back : (b : List ℕ) → length b ≡ 40 → IsBytes b → (output (output_of b) ≡ b) × FitsOutput (output_of b)
unfolding output_of
output_comes_back b len fits =
    let rest = IsBytes-drop 32 b fits in (
      ap (λ (l : List ℕ). take 32 b ++ l) (number_back (drop 32 b) (omega (arith, length-drop 32 b)) rest) ∙ take-append-drop 32 b,
      record { program = omega (arith, length-take 32 b); value = number_below (drop 32 b) rest },
    )

point_comes_back : (b : List ℕ) → length b ≡ 40 → IsBytes b
    → (point_text (point_of b) ≡ b) × (length (take 32 b) ≡ 32) × (number_of (drop 32 b) < 2 ^ 64)
unfolding point_text
point_comes_back b len fits =
    let rest = IsBytes-drop 32 b fits in (
      ap (λ (l : List ℕ). take 32 b ++ l) (number_back (drop 32 b) (omega (arith, length-drop 32 b)) rest) ∙ take-append-drop 32 b,
      omega (arith, length-take 32 b),
      number_below (drop 32 b) rest,
    )

input_comes_back : (b : List ℕ) → length b ≡ 80 → IsBytes b → (input (input_of b) ≡ b) × FitsInput (input_of b)
unfolding input_of
input_comes_back b len fits =
    let point = point_comes_back (take 40 b) (omega (arith, length-take 40 b)) (IsBytes-take 40 b fits) in
    let claimed = output_comes_back (drop 40 b) (omega (arith, length-drop 40 b)) (IsBytes-drop 40 b fits) in (
      input_parts (input_of b) ∙ ap₂ (λ (l r : List ℕ). l ++ r) point.0 claimed.0 ∙ take-append-drop 40 b,
      record { tx = point.1; index = point.2; output = claimed.1 },
    )

input_same : (i : Input) → FitsInput i → input_of (input i) ≡ i
unfolding input_of
input_same i fits =
    let split = input_parts i in
    let front : point_of (take 40 (input i)) ≡ i.point =
    ap (λ (l : List ℕ). point_of (take 40 l)) split ∙ ap point_of (take_at (point_text i.point) (output i.output) 40 (point_length i fits))
    ∙ point_same i fits in
    let back : output_of (drop 40 (input i)) ≡ i.output =
    ap (λ (l : List ℕ). output_of (drop 40 l)) split ∙ ap output_of (drop_at (point_text i.point) (output i.output) 40 (point_length i fits))
    ∙ output_same i.output fits.output in
    ap₂ (λ (p : OutPoint) (o : Output). made p o) front back
  where
    made : OutPoint → Output → Input
    made p o = record { point = p; output = o }

pub input_item : IsItem input_at input FitsInput
input_item = field_item 80 input_of input FitsInput input_comes_back
    (λ i fits. (
      ap length (input_parts i) ∙ omega (
        arith,
        length-append (point_text i.point) (output i.output),
        point_length i fits,
        output_length i.output fits.output,
      ),
      input_same i fits,
    ))

pub output_item : IsItem output_at output FitsOutput
output_item = field_item 40 output_of output FitsOutput output_comes_back (λ o fits. (output_length o fits, output_same o fits))

-- ---- witnesses

abbrev content : ℕ → List ℕ → Result (List ℕ × List ℕ) Fault
content n bytes = field_at n (λ w. w) bytes

pub witness_item : IsItem witness_at witness FitsWitness
unfolding witness_at
witness_item = record {
  takes = λ bytes w rest fits e.
      let step = bind_ok (number_at bytes) (λ n. cond (ltb 4096 n.0) (Err (fault TooLong bytes)) (content n.0 n.1)) (w, rest) e in
      let n = step.0 in
      let number_taken = number_item.takes bytes n.0 n.1 fits step.1 in
      let short = guard_ok (ltb 4096 n.0) (fault TooLong bytes) (content n.0 n.1) (w, rest) step.2 in
      let f = field_is n.0 (λ (l : List ℕ). l) n.1 w rest short.1 in
      let len : length w ≡ n.0 = ap length (sym f.1) ∙ omega (arith, length-take n.0 n.1, f.0) in
      let tail : Takes n.1 w rest = record {
        parts = sym (take-append-drop n.0 n.1) ∙ ap₂ (λ (l r : List ℕ). l ++ r) f.1 f.2;
        rest_fits = subst IsBytes f.2 (IsBytes-drop n.0 n.1 number_taken.0.rest_fits);
      } in (
        subst (λ (k : ℕ). Takes bytes (number k ++ w) rest) (sym len) (Takes-then bytes (number n.0) n.1 w rest number_taken.0 tail),
        omega (arith, len, ltb-false _ _ short.0),
      );
  again = λ w rest fits.
      let whole : witness w ++ rest ≡ number (length w) ++ (w ++ rest) = append_assoc (number (length w)) w rest in
      let first : number_at (number (length w) ++ (w ++ rest)) ≡ Ok (length w, w ++ rest) =
      number_item.again (length w) (w ++ rest) (omega (arith, fits)) in
      let short : ltb 4096 (length w) ≡ false = le-ltb _ _ fits in
      ap witness_at whole ∙ rw (first, short) (field_again (length w) (λ (l : List ℕ). l) w rest refl);
  early = λ bytes f fits e.
      elim (bind_err (number_at bytes) (λ n. cond (ltb 4096 n.0) (Err (fault TooLong bytes)) (content n.0 n.1)) f e) [
        | inl first ↦ number_item.early bytes f fits first
        | inr more ↦
            let taken = number_item.takes bytes more.0.0 more.0.1 fits more.1 in
            let less = length-rest bytes (number more.0.0) more.0.1 taken.0 in
            elim (guard_err (ltb 4096 more.0.0) (fault TooLong bytes) (content more.0.0 more.0.1) f more.2) [
              | inl same ↦ omega (arith, ap (λ (k : Fault). k.left) same)
              | inr behind ↦ omega (arith, less, field_early more.0.0 (λ (l : List ℕ). l) more.0.1 f behind)
            ]
      ];
}
