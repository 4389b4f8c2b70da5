-- How many records at the front of a disk are whole, as far as two.
use Rattle.std.proofs.Common.{◌≡◌, ℕ, ◌≤◌, List, [], ◌∷◌, ◌++◌, length, refl, sym, ◌∙◌, ap, subst, arith, append_assoc, length-append}
use Rattle.std.proofs.lemmas.List.Elements.{All-nil, All-cons, All-head, All-tail}
use Rattle.cbdc_model.specs.Records.{Header, Record, Genesis, Start, Carry, CarryStart}
use Rattle.cbdc_model.specs.Grammar.{IsInGrammar}
use Rattle.record_log.specs.Bodies.{body_of}
use Rattle.record_log.specs.Exact.{IsFirstRecord}
use Rattle.record_log.proofs.Grammar.{is_read_first, same_read}
use Rattle.gate_journal.specs.Rows.{filling, row, rows, IsShut}
use Rattle.gate_journal.proofs.Once.{tail_is, row_once, shut_is_no_row}
use Rattle.record_log.specs.Held.{bodies_of, HasRow, HasNoRecord, CutsOff, OpensTo, MayHold, IsGateOpen}
use Rattle.record_log.proofs.LogSizes.{first_small}
use Rattle.rack_ledgers.specs.Blank.{HasFirst, HasSecond, AreWholeRecords}

-- a body is that of one first record at most
pub one_first : (q r : Record) → IsFirstRecord q → IsFirstRecord r → body_of q ≡ body_of r → q ≡ r
one_first q r q_is r_is same =
    (same_read (body_of r) q r [] (is_read_first (body_of r) q (sym same, q_is)) (is_read_first (body_of r) r (refl, r_is))).0

-- which has its own header
own_header : (g h : Header) (r : Record) → IsFirstRecord r → IsInGrammar g r → IsInGrammar h r → g ≡ h
own_header g h (Genesis header hs) is one other = sym one.0 ∙ other.0
own_header g h (Carry stamp header source hs numbers) is one other = absurd one
own_header g h (Start header) is one other = sym one.0 ∙ other.0
own_header g h (CarryStart stamp header source numbers) is one other = absurd one
own_header g h r is one other = absurd is

row_len : (P : Record → Type 0) (rest : List ℕ) → HasRow P rest → 1 ≤ length rest
row_len P rest has = omega (arith, ap length has.parts)

-- a second record stands behind a first one
second_has_first : (bytes : List ℕ) → HasSecond bytes → HasFirst bytes
second_has_first bytes has = record {
  what = has.first;
  more = has.rest;
  parts = has.parts;
  behind = row_len (IsInGrammar has.header) has.rest has.second;
  has = has.is.0;
}

pub none_whole : (bytes : List ℕ) → HasNoRecord bytes → AreWholeRecords 0 bytes
none_whole bytes none = record {
  first = (λ has. absurd (none has), λ le. absurd (omega (arith, le)));
  second = (λ has. absurd (none (second_has_first bytes has)), λ le. absurd (omega (arith, le)));
}

module _ (h : Header) (rest bytes : List ℕ) (some : 1 ≤ length rest) (none : HasRow (IsInGrammar h) rest → ⊥) where
  first_of : (r : Record) (later : List Record) → MayHold h (r ∷ later) → bytes ≡ rows (bodies_of (r ∷ later)) ++ rest → HasFirst bytes
  first_of r later may parts = record {
    what = r;
    more = rows (bodies_of later) ++ rest;
    parts = parts ∙ append_assoc (row (body_of r)) (rows (bodies_of later)) rest;
    behind = omega (arith, some, length-append (rows (bodies_of later)) rest);
    has = may.0;
  }

  alone : (r : Record) → MayHold h (r ∷ []) → bytes ≡ rows (bodies_of (r ∷ [])) ++ rest → HasSecond bytes → ⊥
  alone r may parts has =
      let whole : bytes ≡ row (body_of r) ++ rest = parts ∙ append_assoc (row (body_of r)) [] rest in
      let same : filling (body_of has.first) ++ has.rest ≡ filling (body_of r) ++ rest =
      tail_is 1 1 (filling (body_of has.first) ++ has.rest) (filling (body_of r) ++ rest) (sym has.parts ∙ whole) in
      let both = row_once (body_of has.first) (body_of r) has.rest rest (first_small has.first has.is.0) (first_small r may.0) same in
      let one : has.first ≡ r = one_first has.first r has.is.0 may.0 both.0 in
      let here : IsInGrammar has.header r = subst (λ (q : Record). IsInGrammar has.header q) one
      (All-head (IsInGrammar has.header) has.first [] has.is.1) in
      let header : has.header ≡ h = own_header has.header h r may.0 here (All-head (IsInGrammar h) r [] may.1) in
      none (subst (λ (k : Header). HasRow (IsInGrammar k) rest) header (subst (λ (l : List ℕ). HasRow (IsInGrammar has.header) l) both.1 has.second))

  second_of : (r q : Record) (later : List Record) → MayHold h (r ∷ q ∷ later) → bytes ≡ rows (bodies_of (r ∷ q ∷ later)) ++ rest → HasSecond bytes
  second_of r q later may parts =
      let behind : List ℕ = rows (bodies_of (q ∷ later)) ++ rest in
      record {
        header = h;
        first = r;
        rest = behind;
        is = (may.0, All-cons (IsInGrammar h) r [] (All-head (IsInGrammar h) r (q ∷ later) may.1) (All-nil (IsInGrammar h)));
        parts = parts ∙ append_assoc (row (body_of r)) (rows (bodies_of (q ∷ later))) rest;
        second = record {
          what = q;
          more = rows (bodies_of later) ++ rest;
          parts = append_assoc (row (body_of q)) (rows (bodies_of later)) rest;
          behind = omega (arith, some, length-append (rows (bodies_of later)) rest);
          has = All-head (IsInGrammar h) q later (All-tail (IsInGrammar h) r (q ∷ later) may.1);
        };
      }

  pub so_many_whole : (records : List Record) → MayHold h records → bytes ≡ rows (bodies_of records) ++ rest → AreWholeRecords (length records) bytes
  so_many_whole [] may parts = absurd may
  so_many_whole (r ∷ []) may parts = record {
    first = (λ has. omega arith, λ le. first_of r [] may parts);
    second = (λ has. absurd (alone r may parts has), λ le. absurd (omega (arith, le)));
  }
  so_many_whole (r ∷ (q ∷ later)) may parts = record {
    first = (λ has. omega arith, λ le. first_of r (q ∷ later) may parts);
    second = (λ has. omega arith, λ le. second_of r q later may parts);
  }

shut_has_no_row : (P : Record → Type 0) (rest : List ℕ) → IsShut rest → HasRow P rest → ⊥
shut_has_no_row P rest shut has = shut_is_no_row rest (filling (body_of has.what) ++ has.more) shut has.parts

shut_len : (rest : List ℕ) → IsShut rest → 1 ≤ length rest
shut_len [] shut = absurd shut
shut_len (x ∷ rest) shut = omega arith

open_len : (rest : List ℕ) → IsGateOpen rest → 1 ≤ length rest
open_len [] is = absurd is
open_len (x ∷ rest) is = omega arith

-- a journal that opens has as many whole records as it has
pub opened_whole : (h : Header) (records : List Record) (bytes : List ℕ) → MayHold h records → OpensTo records bytes
    → AreWholeRecords (length records) bytes
opened_whole h records bytes may opens =
    so_many_whole h opens.rest bytes (shut_len opens.rest opens.shut) (shut_has_no_row (IsInGrammar h) opens.rest opens.shut) records may opens.parts

-- one that is cut off has those before the cut
pub cut_whole : (h : Header) (records : List Record) (at : ℕ) (bytes : List ℕ) → MayHold h records → CutsOff (IsInGrammar h) records at bytes
    → AreWholeRecords (length records) bytes
cut_whole h records at bytes may cut = so_many_whole h cut.rest bytes (open_len cut.rest cut.opened) cut.none records may cut.parts
