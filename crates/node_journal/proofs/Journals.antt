-- Records that make a journal, one by one.
use Rattle.std.proofs.Common.{◌≡◌, ℕ, ◌+◌, ◌<◌, List, [], ◌∷◌, ◌++◌, length, get_or, take, reverse, All, refl, ap, ◌∙◌, sym, arith}
use Rattle.std.specs.Prelude.{sum_by}
use Rattle.std.proofs.lemmas.List.{take_more, reverse-append}
use Rattle.std.proofs.lemmas.List.Elements.{All-cons, All-nil}
use Rattle.std.proofs.lemmas.List.Sums.{sum_by-append, sum_by-cons}
use Rattle.cbdc_model.specs.Records.{Header, Record, Genesis, Start, Carry, CarryStart}
use Rattle.cbdc_model.specs.Grammar.{IsInGrammar}
use Rattle.cbdc_model.specs.After.{After, IsJournal}
use Rattle.cbdc_model.specs.Room.{size_of}
use Rattle.record_log.specs.Held.{MayHold}
use Rattle.record_log.specs.Exact as exact
use Rattle.record_log.proofs.LogSizes.{grammar_of}

-- the records of a journal are in the grammar
pub in_grammar : (h : Header) (J : List Record) → IsJournal h J → All (IsInGrammar h) J
in_grammar h [] is = absurd is
in_grammar h (r ∷ []) is = All-cons (IsInGrammar h) r [] is.1.0 (All-nil (IsInGrammar h))
in_grammar h (r ∷ (q ∷ past)) is = All-cons (IsInGrammar h) r (q ∷ past) is.0.0 (in_grammar h (q ∷ past) is.1)

-- a journal with a record more
pub journal_goes_on : (h : Header) (J : List Record) (r : Record) → IsJournal h J → After h J r → IsJournal h (r ∷ J)
journal_goes_on h [] r is next = absurd is
journal_goes_on h (q ∷ past) r is next = (next, is)

-- the first record of those that a journal may hold is one
pub first_journal : (h : Header) (r : Record) (later : List Record) → MayHold h (r ∷ later) → IsJournal h (r ∷ [])
first_journal h r later may = begins r may.0 (grammar_of h (r ∷ later) may 0 r (omega arith))
  where
    begins : (r : Record) → exact.IsFirstRecord r → IsInGrammar h r → IsJournal h (r ∷ [])
    begins (Genesis header hs) first grammar = (tt, (grammar, refl))
    begins (Carry stamp header source hs numbers) first grammar = (tt, (grammar, refl))
    begins (Start header) first grammar = (tt, (grammar, refl))
    begins (CarryStart stamp header source numbers) first grammar = (tt, (grammar, refl))
    begins other first grammar = absurd first

-- one record more, newest first
pub went_on : {A : Type 0} (xs : List A) (i : ℕ) (x : A) → i < length xs → x ≡ get_or xs i x → reverse (take (i + 1) xs) ≡ x ∷ reverse (take i xs)
went_on xs i x lt is = ap reverse (take_more xs i x lt) ∙ reverse-append (take i xs) (get_or xs i x ∷ []) ∙ ap (λ y. y ∷ reverse (take i xs)) (sym is)

-- the bytes of a journal, whichever end it is told from
pub sum_reversed : (xs : List Record) → sum_by size_of (reverse xs) ≡ sum_by size_of xs
sum_reversed [] = refl
sum_reversed (x ∷ xs) =
    let turned : reverse (x ∷ xs) ≡ reverse xs ++ x ∷ [] = reverse-append (x ∷ []) xs in
    omega (
      arith,
      ap (sum_by size_of) turned,
      sum_by-append size_of (reverse xs) (x ∷ []),
      sum_reversed xs,
      sum_by-cons size_of x xs,
      sum_by-cons size_of x [],
    )
