-- Reading items one after the other, as a loop does.
use Rattle.std.proofs.Common.{◌≡◌, ℕ, suc, ◌-◌, ◌+◌, ◌≤◌, ◌<◌, List, [], ◌∷◌, ◌++◌, Result, Ok, Err, refl, sym, ap, ◌∙◌, append_assoc, arith}
use Rattle.std.proofs.lemmas.List.{append-nil}
use Rattle.byte_fields.specs.declared.fault.Fault.{Fault}
use Rattle.byte_fields.specs.declared.fault.ReadError.{ReadError}
use Rattle.byte_fields.specs.declared.fault.ReadError.TheVariants as errors
use Rattle.byte_fields.specs.Faults.{◌>>=◌, FailsAsRead}
use Rattle.byte_fields.specs.Reading.{items_at}

module _ {X : Type 0} (item : List ℕ → Result (X × List ℕ) Fault) where
  -- what was read before, and what is still read
  abbrev pub with_front : List X → Result (List X × List ℕ) Fault → Result (List X × List ℕ) Fault
  with_front front read = read >>= λ x. Ok (front ++ x.0, x.1)

  regroup : (front : List X) (n : X) (read : Result (List X × List ℕ) Fault)
      → with_front front (read >>= λ x. Ok (n ∷ x.0, x.1)) ≡ with_front (front ++ n ∷ []) read
  regroup front n (Ok x) = ap (λ (ns : List X). Ok (ns, x.1)) (simp append_assoc)
  regroup front n (Err f) = refl

  pub begins : (read : Result (List X × List ℕ) Fault) → with_front [] read ≡ read
  begins (Ok x) = refl
  begins (Err f) = refl

  pub goes_on : (front : List X) (count i : ℕ) (bytes : List ℕ) (n : X) (after : List ℕ) (total : Result (List X × List ℕ) Fault) → i < count
      → item bytes ≡ Ok (n, after)
      → with_front front (items_at item (count - i) bytes) ≡ total → with_front (front ++ n ∷ []) (items_at item (count - (i + 1)) after) ≡ total
  unfolding items_at
  goes_on front count i bytes n after total lt h so_far =
      let k : count - i ≡ suc (count - (i + 1)) = omega arith in
      let one : with_front front (items_at item (count - i) bytes) ≡ with_front (front ++ n ∷ []) (items_at item (count - (i + 1)) after) =
      rw (k, h) (regroup front n (items_at item (count - (i + 1)) after)) in
      sym one ∙ so_far

  pub ends : (e : ReadError) (front : List X) (count i : ℕ) (bytes : List ℕ) (total : Result (List X × List ℕ) Fault) → i < count
      → FailsAsRead e (item bytes)
      → with_front front (items_at item (count - i) bytes) ≡ total → FailsAsRead e total
  unfolding items_at
  ends errors.Memory front count i bytes total lt h so_far = tt
  ends (errors.Bad f) front count i bytes total lt h so_far =
      let k : count - i ≡ suc (count - (i + 1)) = omega arith in
      let one : with_front front (items_at item (count - i) bytes) ≡ Err f = rw (k, h) refl in
      sym so_far ∙ one

  pub is_done : (front : List X) (count i : ℕ) (bytes : List ℕ) (total : Result (List X × List ℕ) Fault) → count ≤ i
      → with_front front (items_at item (count - i) bytes) ≡ total → total ≡ Ok (front, bytes)
  unfolding items_at
  is_done front count i bytes total le so_far =
      let k : count - i ≡ 0 = omega arith in
      let one : with_front front (items_at item (count - i) bytes) ≡ Ok (front, bytes) =
      rw k (ap (λ (ns : List X). Ok (ns, bytes)) (append-nil front)) in
      sym so_far ∙ one
