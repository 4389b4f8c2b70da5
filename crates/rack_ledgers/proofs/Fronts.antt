-- A journal in front of a file: rows of records that follow each other end in one place, and there is one such journal.
use Rattle.std.proofs.Common.{◌≡◌, ◌⊎◌, inl, inr, ⊎_elim, ℕ, ◌≤◌, List, [], ◌∷◌, ◌++◌, length, reverse, refl, sym, ap, ap₂, ◌∙◌, subst, arith}
use Rattle.std.proofs.Common.{append_assoc, length-append}
use Rattle.std.proofs.lemmas.List.{reverse-append, reverse-reverse, append-nil}
use Rattle.cbdc_types.specs.Limits.{IsWithinLimits}
use Rattle.cbdc_model.specs.Records.{Header, Record, Genesis, Start, Carry, CarryStart}
use Rattle.cbdc_model.specs.Grammar.{IsInGrammar}
use Rattle.cbdc_model.specs.After.{After, IsFirst, IsJournal}
use Rattle.record_log.specs.Bodies.{body_of}
use Rattle.record_log.specs.Exact.{IsFirstRecord as BeginsJournal}
use Rattle.gate_journal.specs.Rows.{filling, row, rows, IsShut}
use Rattle.gate_journal.proofs.Once.{tail_is, row_once, shut_is_no_row}
use Rattle.record_log.specs.Held.{bodies_of, OpensTo, CutsOff, IsGateOpen, HasRow}
use Rattle.record_log.proofs.LogSizes.{body_small}
use Rattle.rack_ledgers.proofs.Once.{same_record, first_header}

-- each record is after those before it, of which `past` stand in front, the newest first
abbrev pub Follow : Header → List Record → List Record → Type 0
Follow h past [] = Unit {0}
Follow h past (r ∷ later) = After h past r × Follow h (r ∷ past) later

-- the same of a journal, the oldest record first
abbrev pub Begins : Header → List Record → Type 0
Begins h [] = ⊥
Begins h (r ∷ later) = IsFirst r × Follow h [] (r ∷ later)

turned : (q : Record) (records past : List Record) → reverse (q ∷ records) ++ past ≡ reverse records ++ q ∷ past
turned q records past = ap (λ (l : List Record). l ++ past) (reverse-append (q ∷ []) records) ∙ append_assoc (reverse records) (q ∷ []) past

follow_push : (h : Header) (past records : List Record) (r : Record) → Follow h past records → After h (reverse records ++ past) r
    → Follow h past (records ++ r ∷ [])
follow_push h past [] r so after = (after, tt)
follow_push h past (q ∷ records) r so after = (
  so.0,
  follow_push h (q ∷ past) records r so.1 (subst (λ (l : List Record). After h l r) (turned q records past) after),
)

begins_push : (h : Header) (records : List Record) (r : Record) → Begins h records → After h (reverse records ++ []) r → Begins h (records ++ r ∷ [])
begins_push h [] r begins after = absurd begins
begins_push h (q ∷ records) r begins after = (begins.0, follow_push h [] (q ∷ records) r begins.1 after)

pub journal_begins : (h : Header) (J : List Record) → IsJournal h J → Begins h (reverse J)
journal_begins h [] j = absurd j
journal_begins h (r ∷ []) j = (j.0, (j.1, tt))
journal_begins h (r ∷ (q ∷ past)) j =
    subst (Begins h) (sym (reverse-append (r ∷ []) (q ∷ past)))
    (begins_push h (reverse (q ∷ past)) r (journal_begins h (q ∷ past) j.1)
    (subst (λ (l : List Record). After h l r) (sym (append-nil (reverse (reverse (q ∷ past))) ∙ reverse-reverse (q ∷ past))) j.0))

follows : (h : Header) (records : List Record) → Begins h records → Follow h [] records
follows h [] begins = absurd begins
follows h (r ∷ later) begins = begins.1

-- what ends rows behind this journal: a closed gate, or an open one with no whole row of a next record
abbrev pub Ends : Header → List Record → List ℕ → Type 0
Ends h past rest = IsShut rest ⊎ (IsGateOpen rest × (HasRow (After h past) rest → ⊥))

ends_some : (h : Header) (past : List Record) (rest : List ℕ) → Ends h past rest → 1 ≤ length rest
ends_some h past [] ends = ⊎_elim (λ shut. absurd shut) (λ opened. absurd opened.0) ends
ends_some h past (gate ∷ rest) ends = omega arith

no_row : (h : Header) (past : List Record) (rest : List ℕ) (y : Record) (t : List ℕ) → Ends h past rest → After h past y → 1 ≤ length t
    → rest ≡ row (body_of y) ++ t → ⊥
no_row h past rest y t ends after some parts = ⊎_elim
    (λ shut. shut_is_no_row rest (filling (body_of y) ++ t) shut parts)
    (λ opened. opened.1 (record { what = y; more = t; parts = parts; behind = some; has = after }))
    ends

pub split : (x : Record) (records : List Record) (rest : List ℕ)
    → rows (bodies_of (x ∷ records)) ++ rest ≡ row (body_of x) ++ (rows (bodies_of records) ++ rest)
split x records rest = append_assoc (row (body_of x)) (rows (bodies_of records)) rest

more_some : (records : List Record) (rest : List ℕ) → 1 ≤ length rest → 1 ≤ length (rows (bodies_of records) ++ rest)
more_some records rest some = omega (arith, some, length-append (rows (bodies_of records)) rest)

once : (h : Header) (past R S : List Record) (r s : List ℕ) → IsWithinLimits h.shape → Follow h past R → Follow h past S
    → Ends h (reverse R ++ past) r → Ends h (reverse S ++ past) s
    → rows (bodies_of R) ++ r ≡ rows (bodies_of S) ++ s → (R ≡ S) × (r ≡ s)
once h past [] [] r s limits one other r_ends s_ends same = (refl, same)
once h past [] (y ∷ S) r s limits one other r_ends s_ends same =
    absurd (no_row h past r y (rows (bodies_of S) ++ s) r_ends other.0 (more_some S s (ends_some h (reverse (y ∷ S) ++ past) s s_ends))
    (same ∙ split y S s))
once h past (x ∷ R) [] r s limits one other r_ends s_ends same =
    absurd (no_row h past s x (rows (bodies_of R) ++ r) s_ends one.0 (more_some R r (ends_some h (reverse (x ∷ R) ++ past) r r_ends))
    (sym same ∙ split x R r))
once h past (x ∷ R) (y ∷ S) r s limits one other r_ends s_ends same =
    let apart : row (body_of x) ++ (rows (bodies_of R) ++ r) ≡ row (body_of y) ++ (rows (bodies_of S) ++ s) = sym (split x R r) ∙ same ∙ split y S s
    in
    let both = row_once (body_of x) (body_of y) (rows (bodies_of R) ++ r) (rows (bodies_of S) ++ s) (body_small h x limits one.0.0)
    (body_small h y limits other.0.0)
    (tail_is 1 1 (filling (body_of x) ++ (rows (bodies_of R) ++ r)) (filling (body_of y) ++ (rows (bodies_of S) ++ s)) apart) in
    let first : x ≡ y = same_record h h x y limits limits one.0.0 other.0.0 both.0 in
    let rest = once h (x ∷ past) R S r s limits one.1 (subst (λ (q : Record). Follow h (q ∷ past) S) (sym first) other.1)
    (subst (λ (l : List Record). Ends h l r) (turned x R past) r_ends)
    (subst (λ (l : List Record). Ends h l s) (turned y S past ∙ ap (λ (q : Record). reverse S ++ q ∷ past) (sym first)) s_ends) both.1 in
    (ap₂ (λ (q : Record) (l : List Record). q ∷ l) first rest.0, rest.1)

-- two journals in front of one file have one header
one_front : (h k : Header) (R S : List Record) (r s : List ℕ) → IsWithinLimits h.shape → IsWithinLimits k.shape → Begins h R → Begins k S
    → rows (bodies_of R) ++ r ≡ rows (bodies_of S) ++ s → h ≡ k
one_front h k [] S r s low low' one other same = absurd one
one_front h k (x ∷ R) [] r s low low' one other same = absurd other
one_front h k (x ∷ R) (y ∷ S) r s low low' one other same =
    let apart : row (body_of x) ++ (rows (bodies_of R) ++ r) ≡ row (body_of y) ++ (rows (bodies_of S) ++ s) = sym (split x R r) ∙ same ∙ split y S s
    in
    let both = row_once (body_of x) (body_of y) (rows (bodies_of R) ++ r) (rows (bodies_of S) ++ s) (body_small h x low one.1.0.0)
    (body_small k y low' other.1.0.0)
    (tail_is 1 1 (filling (body_of x) ++ (rows (bodies_of R) ++ r)) (filling (body_of y) ++ (rows (bodies_of S) ++ s)) apart) in
    let first : x ≡ y = same_record h k x y low low' one.1.0.0 other.1.0.0 both.0 in
    first_header h k x one.0 one.1.0.0 (subst (IsInGrammar k) (sym first) other.1.0.0)

-- a journal in front of a file, and what stands behind it
pub record Fronts (h : Header) (J : List Record) (rest bytes : List ℕ) : Type 0 where
  pub limits : IsWithinLimits h.shape
  pub journal : IsJournal h J
  pub parts : bytes ≡ rows (bodies_of (reverse J)) ++ rest
  pub ends : Ends h J rest

pub one_journal : (h k : Header) (J L : List Record) (r s bytes : List ℕ) → Fronts h J r bytes → Fronts k L s bytes → (h ≡ k) × ((J ≡ L) × (r ≡ s))
one_journal h k J L r s bytes one other =
    let same : rows (bodies_of (reverse J)) ++ r ≡ rows (bodies_of (reverse L)) ++ s = sym one.parts ∙ other.parts in
    let header : h ≡ k = one_front h k (reverse J) (reverse L) r s one.limits other.limits (journal_begins h J one.journal)
    (journal_begins k L other.journal) same in
    let back : (K : List Record) → K ≡ reverse (reverse K) ++ [] = λ K. sym (append-nil (reverse (reverse K)) ∙ reverse-reverse K) in
    let both = once h [] (reverse J) (reverse L) r s one.limits (follows h (reverse J) (journal_begins h J one.journal))
    (follows h (reverse L) (journal_begins h L (subst (λ (g : Header). IsJournal g L) (sym header) other.journal)))
    (subst (λ (l : List Record). Ends h l r) (back J) one.ends)
    (subst (λ (l : List Record). Ends h l s) (back L) (subst (λ (g : Header). Ends g L s) (sym header) other.ends)) same in
    (header, (sym (reverse-reverse J) ∙ ap reverse both.0 ∙ reverse-reverse L, both.1))

-- ---- the first row

begins_journal : (h : Header) (r : Record) → IsWithinLimits h.shape → IsFirst r → IsInGrammar h r → BeginsJournal r
begins_journal h (Genesis header hs) limits first is =
    (subst (λ (k : Header). IsWithinLimits k.shape) (sym is.0) limits, subst (λ (k : Header). IsInGrammar k (Genesis header hs)) (sym is.0) is)
begins_journal h (Carry stamp header source hs numbers) limits first is = absurd is
begins_journal h (Start header) limits first is =
    (subst (λ (k : Header). IsWithinLimits k.shape) (sym is.0) limits, subst (λ (k : Header). IsInGrammar k (Start header)) (sym is.0) is)
begins_journal h (CarryStart stamp header source numbers) limits first is = absurd is
begins_journal h other limits first is = absurd first

first_row : (h : Header) (R : List Record) (rest bytes : List ℕ) → IsWithinLimits h.shape → Begins h R → bytes ≡ rows (bodies_of R) ++ rest
    → 1 ≤ length rest → HasRow BeginsJournal bytes
first_row h [] rest bytes limits begins parts some = absurd begins
first_row h (x ∷ R) rest bytes limits begins parts some =
    record {
      what = x;
      more = rows (bodies_of R) ++ rest;
      parts = parts ∙ split x R rest;
      behind = more_some R rest some;
      has = begins_journal h x limits begins.0 begins.1.0.0;
    }

pub has_first : (h : Header) (J : List Record) (rest bytes : List ℕ) → Fronts h J rest bytes → HasRow BeginsJournal bytes
has_first h J rest bytes fronts = first_row h (reverse J) rest bytes fronts.limits (journal_begins h J fronts.journal) fronts.parts
    (ends_some h J rest fronts.ends)

-- ---- a whole journal, and one behind which the file is damaged

pub whole_fronts : (h : Header) (J : List Record) (bytes : List ℕ) → IsWithinLimits h.shape → IsJournal h J → (opens : OpensTo (reverse J) bytes)
    → Fronts h J opens.rest bytes
whole_fronts h J bytes limits journal opens = record { limits = limits; journal = journal; parts = opens.parts; ends = inl opens.shut }

pub damaged_fronts : (h : Header) (J : List Record) (at : ℕ) (bytes : List ℕ) → IsWithinLimits h.shape → IsJournal h J
    → (cut : CutsOff (After h J) (reverse J) at bytes) → Fronts h J cut.rest bytes
damaged_fronts h J at bytes limits journal cut = record { limits = limits; journal = journal; parts = cut.parts; ends = inr (cut.opened, cut.none) }

shut_or_open : (rest : List ℕ) → IsShut rest → IsGateOpen rest → ⊥
shut_or_open [] shut opened = shut
shut_or_open (gate ∷ rest) shut opened = shut opened

-- a file is not both
pub whole_or_cut : (h k : Header) (J L : List Record) (at : ℕ) (bytes : List ℕ) → IsWithinLimits h.shape → IsJournal h J → OpensTo (reverse J) bytes
    → IsWithinLimits k.shape → IsJournal k L → CutsOff (After k L) (reverse L) at bytes → ⊥
whole_or_cut h k J L at bytes limits journal opens limits' journal' cut =
    let one = one_journal h k J L opens.rest cut.rest bytes (whole_fronts h J bytes limits journal opens)
    (damaged_fronts k L at bytes limits' journal' cut) in
    shut_or_open cut.rest (subst IsShut one.1.1 opens.shut) cut.opened
