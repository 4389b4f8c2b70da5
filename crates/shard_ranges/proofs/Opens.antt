-- The last entry of a part, where a transaction's hashes come one by one.
use Rattle.std.proofs.Common.{◌≡◌, ◌≢◌, ℕ, zero, suc, ◌-◌, ◌<◌, Bool, true, false, ◌&&◌, List, [], ◌∷◌, ◌++◌, length, set, get_or, Some, slice_get}
use Rattle.std.proofs.Common.{refl, ◌∙◌, subst, arith, cond}
use Rattle.std.proofs.lemmas.List.{append-nil}
use Rattle.cbdc_model.specs.Records.{Digest, Entry}
use Rattle.cbdc_model.specs.Ranges.{is_empty}
use Rattle.shard_ranges.specs.Parts.{AreBefore, entry_if}
use Rattle.shard_ranges.proofs.Places.{get_last, set_last, read_last}

before_at : (es : List Entry) (i place : ℕ) (e : Entry) → AreBefore place es → slice_get es i ≡ Some e → e.place < place
before_at [] i place e b g = cc
before_at (x ∷ es) zero place e b g = let same : x ≡ e = (cc) in subst (λ (y : Entry). y.place < place) same b.0
before_at (x ∷ es) (suc i) place e b g = before_at es i place e b.1 g

abbrev made : ℕ → Digest → List Digest → List Digest → Entry
made place id ins outs = record { place = place; id = id; inputs = ins; outputs = outs }

-- where the last entry is of this place, it is the transaction's
pub opened_here : (es before : List Entry) (place : ℕ) (id : Digest) (ins outs : List Digest) (last : Entry) → AreBefore place before
    → es ≡ before ++ entry_if place id ins outs → slice_get es (length es - 1) ≡ Some last → last.place ≡ place
    → es ≡ before ++ made place id ins outs ∷ []
opened_here es before place id ins outs last b e g p =
    elim (is_empty ins && is_empty outs) as (λ c. es ≡ before ++ cond c [] (made place id ins outs ∷ [])
    → es ≡ before ++ made place id ins outs ∷ []) [
      | true ↦ λ h.
          let same : es ≡ before = h ∙ append-nil before in
          let at : slice_get before (length es - 1) ≡ Some last = subst (λ (xs : List Entry). slice_get xs (length es - 1) ≡ Some last) same g in
          let less : last.place < place = before_at before (length es - 1) place last b at in
          absurd (omega arith)
      | false ↦ λ h. h
    ] e

pub none_here : (ins outs : List Digest) → (is_empty ins && is_empty outs) ≡ true → (ins ≡ []) × (outs ≡ [])
none_here [] [] e = (refl, refl)
none_here [] (y ∷ ys) e = cc
none_here (x ∷ xs) outs e = cc

-- where it isn't, the transaction has no hash here yet
pub opened_new : (es before : List Entry) (place : ℕ) (id : Digest) (ins outs : List Digest)
    → es ≡ before ++ entry_if place id ins outs → ((last : Entry) → slice_get es (length es - 1) ≡ Some last → last.place ≢ place)
    → es ++ made place id [] [] ∷ [] ≡ before ++ made place id ins outs ∷ []
opened_new es before place id ins outs e other =
    elim (is_empty ins && is_empty outs) as (λ c. (is_empty ins && is_empty outs) ≡ c → es ≡ before ++ cond c [] (made place id ins outs ∷ [])
    → es ++ made place id [] [] ∷ [] ≡ before ++ made place id ins outs ∷ []) [
      | true ↦ λ t h.
          let same : es ≡ before = h ∙ append-nil before in
          let none = none_here ins outs t in
          rw (same, none.0, none.1) refl
      | false ↦ λ t h.
          let last : slice_get es (length es - 1) ≡ Some (made place id ins outs) = rw h (get_last before (made place id ins outs)) in
          absurd (other (made place id ins outs) last refl)
    ] refl e

pub not_empty : (xs : List Digest) (x : Digest) → is_empty (xs ++ x ∷ []) ≡ false
not_empty [] x = refl
not_empty (y ∷ xs) x = refl

-- the last entry with one more input or output
pub with_input : (es before : List Entry) (n place : ℕ) (id x : Digest) (ins outs more : List Digest) (got : Entry)
    → es ≡ before ++ made place id ins outs ∷ [] → n ≡ length es
    → got ≡ get_or es (n - 1) got → more ≡ got.inputs ++ x ∷ []
    → set es (n - 1) (made got.place got.id more got.outputs) ≡ before ++ entry_if place id (ins ++ x ∷ []) outs
with_input es before n place id x ins outs more got e len read m =
    let is : got ≡ made place id ins outs = read ∙ rw (len, e) (read_last before (made place id ins outs) got) in
    let full = not_empty ins x in
    rw (m, is, full, len, e) (set_last before (made place id ins outs) (made place id (ins ++ x ∷ []) outs))

and_false : (b : Bool) → (b && false) ≡ false
and_false true = refl
and_false false = refl

pub with_output : (es before : List Entry) (n place : ℕ) (id x : Digest) (ins outs more : List Digest) (got : Entry)
    → es ≡ before ++ made place id ins outs ∷ [] → n ≡ length es
    → got ≡ get_or es (n - 1) got → more ≡ got.outputs ++ x ∷ []
    → set es (n - 1) (made got.place got.id got.inputs more) ≡ before ++ entry_if place id ins (outs ++ x ∷ [])
with_output es before n place id x ins outs more got e len read m =
    let is : got ≡ made place id ins outs = read ∙ rw (len, e) (read_last before (made place id ins outs) got) in
    let full : (is_empty ins && is_empty (outs ++ x ∷ [])) ≡ false = rw (not_empty outs x) (and_false (is_empty ins)) in
    rw (m, is, full, len, e) (set_last before (made place id ins outs) (made place id ins (outs ++ x ∷ [])))
