-- Rows that were read, one after another.
use Rattle.std.proofs.Common.{◌≡◌, ℕ, zero, ◌+◌, ◌<◌, ◌≤◌, min, List, [], ◌∷◌, ◌++◌, length, take, drop, get_or, Some, sym, ◌∙◌, ap, ap₂, subst}
use Rattle.std.proofs.Common.{arith, length-append, take-append-drop, add-one, suc, take_all, drop-cons}
use Rattle.std.specs.Prelude.{slice_get}
use Rattle.std.proofs.lemmas.List.{map-append}
use Rattle.std.proofs.lemmas.List.Elements.{All-push}
use Rattle.std.proofs.Math.Seq.{take-suc}
use Rattle.cbdc_model.specs.Records.{Header, Record}
use Rattle.cbdc_model.specs.Grammar.{IsInGrammar}
use Rattle.record_log.specs.Bodies.{body_of}
use Rattle.record_log.specs.Exact.{IsBody, IsFirstBody}
use Rattle.gate_journal.specs.Rows.{row, rows}
use Rattle.gate_journal.proofs.RowBytes.{length-row, length-rows-push}
use Rattle.record_log.specs.Held.{bodies_of, MayHold}
use Rattle.record_log.specs.LogReading.{StopsAt, IsNoFirstBody, place_behind}

-- the first bodies spell these records, which end at this place
pub record RecordsSoFar (h : Header) (records : List Record) (at i : ℕ) (bodies : List (List ℕ)) : Type 0 where
  pub holds : MayHold h records
  pub spelled : bodies_of records ≡ take i bodies
  pub place : at ≡ place_behind records

pub start : (h : Header) (first : Record) (at : ℕ) (bodies : List (List ℕ)) (b : List ℕ) → MayHold h (first ∷ [])
    → slice_get bodies 0 ≡ Some (body_of first) → slice_get bodies 0 ≡ Some b → at ≡ min (length (row b)) 18446744073709551615
    → RecordsSoFar h (first ∷ []) at 1 bodies
start h first at [] b holds is of place = cc
start h first at (c ∷ bodies) b holds is of place =
    let here : c ≡ body_of first = cc in
    let same : b ≡ body_of first = cc in
    record {
      holds = holds;
      spelled = ap (λ (x : List ℕ). x ∷ []) (sym here);
      place = place ∙ ap (λ (x : List ℕ). min (length (row x)) 18446744073709551615) same
          ∙ ap (λ n. min n 18446744073709551615) (omega (arith, length-append (row (body_of first)) []));
    }

holds_more : (h : Header) (records : List Record) (r : Record) → MayHold h records → IsInGrammar h r → MayHold h (records ++ r ∷ [])
holds_more h [] r holds is = absurd holds
holds_more h (q ∷ later) r holds is = (holds.0, All-push (IsInGrammar h) (q ∷ later) r holds.1 is)

bodies_push : (records : List Record) (r : Record) → bodies_of (records ++ r ∷ []) ≡ bodies_of records ++ body_of r ∷ []
bodies_push records r = map-append body_of records (r ∷ [])

pub more : (h : Header) (records : List Record) (at i size next : ℕ) (bodies : List (List ℕ)) (b : List ℕ) (r : Record)
    → RecordsSoFar h records at i bodies → i < length bodies → b ≡ get_or bodies i b → IsBody h b r
    → size ≡ min (length (row b)) 18446744073709551615 → next ≡ min (at + size) 18446744073709551615
    → RecordsSoFar h (records ++ r ∷ []) next (i + 1) bodies
more h records at i size next bodies b r so_far inside here is size_is next_is = record {
  holds = holds_more h records r so_far.holds is.1;
  spelled = bodies_push records r ∙ ap₂ (λ (xs : List (List ℕ)) (x : List ℕ). xs ++ x ∷ []) so_far.spelled (sym is.0 ∙ here)
      ∙ sym (ap (λ n. take n bodies) (add-one i) ∙ take-suc bodies i b inside);
  place =
      let len : length (rows (bodies_of (records ++ r ∷ []))) ≡ length (rows (bodies_of records)) + length (row b) =
      ap (λ (xs : List (List ℕ)). length (rows xs)) (bodies_push records r) ∙ length-rows-push (bodies_of records) (body_of r)
      ∙ ap (λ n. length (rows (bodies_of records)) + n) (sym (length-row (body_of r)) ∙ ap (λ (x : List ℕ). length (row x)) (sym is.0)) in
      omega (arith, len, so_far.place, size_is, next_is);
}

at_drop : (bodies : List (List ℕ)) (i : ℕ) (b : List ℕ) → i < length bodies → b ≡ get_or bodies i b → drop i bodies ≡ b ∷ drop (suc i) bodies
at_drop bodies i b inside here = drop-cons bodies i b inside ∙ ap (λ (x : List ℕ). x ∷ drop (suc i) bodies) (sym here)

-- the next body spells no record
pub stop : (h : Header) (records : List Record) (at i : ℕ) (bodies : List (List ℕ)) (b : List ℕ) → RecordsSoFar h records at i bodies
    → i < length bodies → b ≡ get_or bodies i b → ((r : Record) → IsBody h b r → ⊥)
    → StopsAt h records at bodies
stop h records at i bodies b so_far inside here none = record {
  next = b;
  rest = drop (suc i) bodies;
  parts = sym (take-append-drop i bodies) ∙ ap₂ (λ (xs ys : List (List ℕ)). xs ++ ys) (sym so_far.spelled) (at_drop bodies i b inside here);
  none = none;
  place = so_far.place;
}

-- all bodies were read
pub all_read : (h : Header) (records : List Record) (at i : ℕ) (bodies : List (List ℕ)) → RecordsSoFar h records at i bodies → length bodies ≤ i
    → bodies ≡ bodies_of records
all_read h records at i bodies so_far end = sym (take_all i bodies end) ∙ sym so_far.spelled

pub no_first : (bodies : List (List ℕ)) (b : List ℕ) → slice_get bodies 0 ≡ Some b → ((r : Record) → IsFirstBody b r → ⊥) → IsNoFirstBody bodies
no_first [] b is none = tt
no_first (c ∷ bodies) b is none =
    let same : b ≡ c = cc in
    subst (λ (x : List ℕ). (r : Record) → IsFirstBody x r → ⊥) same none

-- what stands at a place, read with itself for a default
pub at_place : (bodies : List (List ℕ)) (i : ℕ) (b : List ℕ) → slice_get bodies i ≡ Some b → b ≡ get_or bodies i b
at_place [] i b h = cc
at_place (x ∷ xs) zero b h = cc
at_place (x ∷ xs) (suc i) b h = at_place xs i b h
