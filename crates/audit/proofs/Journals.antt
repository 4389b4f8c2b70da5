-- Stamps rise along a journal, and a merge read the other way round has each journal so.
use Rattle.std.proofs.Common.{◌≡◌, ◌<◌, ℕ, true, false, ◌==◌, if◌then◌else◌, List, [], ◌∷◌, reverse, refl, ◌∙◌, subst, arith}
use mathlib.Core.List.{reverse_aux}
use Rattle.std.proofs.lemmas.List.{reverse-reverse}
use Rattle.std.proofs.lemmas.List.Elements.{All-nil, All-cons, All-weaker}
use Rattle.cbdc_model.specs.Records.{Header, Record, Row, journal, stamp_of, Genesis, Start, Carry, CarryStart}
use Rattle.cbdc_model.specs.After.{After, IsJournal}
use Rattle.audit.specs.Rows.{Rises}

-- each record behind the first has a greater stamp than the one before it
after_rises : (h : Header) (q : Record) (past : List Record) (r : Record) → After h (q ∷ past) r → stamp_of q < stamp_of r
after_rises h q past (Genesis header hs) a = absurd (let e : q ∷ past ≡ [] = a.1 in cc)
after_rises h q past (Carry stamp header source hs numbers) a = absurd (let e : q ∷ past ≡ [] = a.1 in cc)
after_rises h q past (Start header) a = absurd (let e : q ∷ past ≡ [] = a.1 in cc)
after_rises h q past (CarryStart stamp header source numbers) a = absurd (let e : q ∷ past ≡ [] = a.1 in cc)
after_rises h q past other a = a.1.0

above_rest : (r q : Record) (later : List Record) → stamp_of r < stamp_of q → Rises (q ∷ later) → Rises (r ∷ (q ∷ later))
above_rest r q later lt h = (
  All-cons (λ p. stamp_of r < stamp_of p) q later lt
      (All-weaker (λ p. stamp_of q < stamp_of p) (λ p. stamp_of r < stamp_of p) (λ p m. omega arith) later h.0),
  h,
)

-- the newest record of the journal goes in front of those behind it
onto : (h : Header) (r : Record) (past later : List Record) → IsJournal h (r ∷ past) → Rises (r ∷ later) → Rises (reverse_aux past (r ∷ later))
onto h r [] later j rises = rises
onto h r (q ∷ past) later j rises = onto h q past (r ∷ later) j.1 (above_rest q r later (after_rises h q past r j.0) rises)

newest_first : (h : Header) (past : List Record) → IsJournal h past → Rises (reverse past)
newest_first h [] j = absurd j
newest_first h (r ∷ past) j = onto h r past [] j (All-nil (λ p. stamp_of r < stamp_of p), tt)

pub journal_rises : (h : Header) (records : List Record) → IsJournal h (reverse records) → Rises records
journal_rises h records j = subst Rises (reverse-reverse records) (newest_first h (reverse records) j)

journal_onto : (n : ℕ) (rows later : List Row) → journal n (reverse_aux rows later) ≡ reverse_aux (journal n rows) (journal n later)
journal_onto n [] later = refl
journal_onto n (row ∷ rows) later =
    journal_onto n rows (row ∷ later)
    ∙ elim (row.node == n) as (λ c. reverse_aux (journal n rows) (if c then row.what ∷ journal n later else journal n later)
    ≡ reverse_aux (if c then row.what ∷ journal n rows else journal n rows) (journal n later)) [ true ↦ refl | false ↦ refl ]

pub journal-reverse : (n : ℕ) (rows : List Row) → journal n (reverse rows) ≡ reverse (journal n rows)
journal-reverse n rows = journal_onto n rows []
