-- A file opens to one list of bodies, and bodies of the grammar are those of one record.
use Rattle.std.proofs.Common.{◌≡◌, ℕ, List, [], ◌∷◌, ◌++◌, reverse, refl, sym, ap, ◌∙◌, subst}
use Rattle.std.proofs.lemmas.List.{map-append, reverse-append, reverse-reverse}
use Rattle.cbdc_types.specs.Limits.{IsWithinLimits}
use Rattle.cbdc_model.specs.Records.{Header, Record, Genesis, Start, Carry, CarryStart}
use Rattle.cbdc_model.specs.Grammar.{IsInGrammar}
use Rattle.cbdc_model.specs.After.{IsFirst, IsJournal}
use Rattle.byte_fields.proofs.Fields.{ok_is}
use Rattle.record_log.specs.Bodies.{body_of}
use Rattle.record_log.specs.Reading.{body_at}
use Rattle.record_log.proofs.Grammar.{is_read}
use Rattle.gate_journal.proofs.Once.{opens_once}
use Rattle.record_log.specs.Held.{bodies_of}
use Rattle.rack_ledgers.specs.Once.{OpensOnceLaw}

bodies_reversed : (J : List Record) → bodies_of (reverse J) ≡ reverse (bodies_of J)
bodies_reversed [] = refl
bodies_reversed (r ∷ J) =
    ap bodies_of (reverse-append (r ∷ []) J) ∙ map-append body_of (reverse J) (r ∷ []) ∙ ap (λ bodies. bodies ++ body_of r ∷ []) (bodies_reversed J)
    ∙ sym (reverse-append (body_of r ∷ []) (bodies_of J))

-- two records of the grammar with one body are one
pub same_record : (h k : Header) (q r : Record) → IsWithinLimits h.shape → IsWithinLimits k.shape → IsInGrammar h q → IsInGrammar k r
    → body_of q ≡ body_of r → q ≡ r
same_record h k q r low low' one other same =
    ap (λ (x : Record × List ℕ). x.0) (ok_is (q, []) (r, [])
    (sym (is_read h (body_of q) q low (refl, one)) ∙ ap body_at same ∙ is_read k (body_of r) r low' (refl, other)))

heads : (x y : List ℕ) (xs ys : List (List ℕ)) → x ∷ xs ≡ y ∷ ys → (x ≡ y) × (xs ≡ ys)
heads x y xs ys e = (cc, cc)

newest : (h : Header) (r : Record) (J : List Record) → IsJournal h (r ∷ J) → IsInGrammar h r
newest h r [] j = j.1.0
newest h r (q ∷ J) j = j.0.0

same_journal : (h k : Header) (J L : List Record) → IsWithinLimits h.shape → IsWithinLimits k.shape → IsJournal h J → IsJournal k L
    → bodies_of J ≡ bodies_of L → J ≡ L
same_journal h k [] L low low' j l e = absurd j
same_journal h k (q ∷ J) [] low low' j l e = absurd l
same_journal h k (q ∷ []) (r ∷ []) low low' j l e =
    ap (λ x. x ∷ []) (same_record h k q r low low' (newest h q [] j) (newest k r [] l) (heads (body_of q) (body_of r) [] [] e).0)
same_journal h k (q ∷ []) (r ∷ (p ∷ L)) low low' j l e =
    absurd (let z : [] ≡ body_of p ∷ bodies_of L = (heads (body_of q) (body_of r) [] (body_of p ∷ bodies_of L) e).1 in cc)
same_journal h k (q ∷ (p ∷ J)) (r ∷ []) low low' j l e =
    absurd (let z : body_of p ∷ bodies_of J ≡ [] = (heads (body_of q) (body_of r) (body_of p ∷ bodies_of J) [] e).1 in cc)
same_journal h k (q ∷ (p ∷ J)) (r ∷ (o ∷ L)) low low' j l e =
    let both = heads (body_of q) (body_of r) (bodies_of (p ∷ J)) (bodies_of (o ∷ L)) e in
    let first : q ≡ r = same_record h k q r low low' (newest h q (p ∷ J) j) (newest k r (o ∷ L) l) both.0 in
    let rest : p ∷ J ≡ o ∷ L = same_journal h k (p ∷ J) (o ∷ L) low low' j.1 l.1 both.1 in
    λ i. first i ∷ rest i

-- a journal has one header: that of its first record
pub first_header : (h k : Header) (r : Record) → IsFirst r → IsInGrammar h r → IsInGrammar k r → h ≡ k
first_header h k (Genesis header hs) first one other = sym one.0 ∙ other.0
first_header h k (Carry stamp header source hs numbers) first one other = absurd one
first_header h k (Start header) first one other = sym one.0 ∙ other.0
first_header h k (CarryStart stamp header source numbers) first one other = absurd one
first_header h k r first one other = absurd first

one_header : (h k : Header) (J : List Record) → IsJournal h J → IsJournal k J → h ≡ k
one_header h k [] j l = absurd j
one_header h k (r ∷ []) j l = first_header h k r j.0 j.1.0 l.1.0
one_header h k (r ∷ (q ∷ J)) j l = one_header h k (q ∷ J) j.1 l.1

pub opens_once_law : OpensOnceLaw
opens_once_law h k J L bytes low low' j l one other =
    let bodies : bodies_of (reverse J) ≡ bodies_of (reverse L) = opens_once (bodies_of (reverse J)) (bodies_of (reverse L)) bytes one other in
    let turned : reverse (bodies_of J) ≡ reverse (bodies_of L) = sym (bodies_reversed J) ∙ bodies ∙ bodies_reversed L in
    let same : bodies_of J ≡ bodies_of L = sym (reverse-reverse (bodies_of J)) ∙ ap reverse turned ∙ reverse-reverse (bodies_of L) in
    let is : J ≡ L = same_journal h k J L low low' j l same in
    (one_header h k J j (subst (IsJournal k) (sym is) l), is)
