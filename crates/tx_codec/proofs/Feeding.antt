-- What reading all bytes says of their pieces.
use Rattle.std.proofs.Common.{◌≡◌, inl, inr, ℕ, ◌+◌, ◌-◌, ◌≤◌, List, [], ◌∷◌, ◌++◌, length, take, drop, Result, Ok, Err, IfOk, IfErr, refl, sym, ap}
use Rattle.std.proofs.Common.{◌∙◌, subst, append_assoc, arith}
use Rattle.std.proofs.lemmas.Bool.{cases_lt}
use Rattle.std.proofs.lemmas.List.{length-append, take-append-drop, take_at, take-append-le}
use Rattle.cbdc_types.specs.declared.tx.FullTx.{FullTx}
use Rattle.base_types.specs.declared.faults.InputKind.TheVariants.{Cut}
use Rattle.byte_fields.specs.declared.fault.Fault.{Fault}
use Rattle.byte_fields.specs.Faults.{fault}
use Rattle.tx_codec.specs.Rests.{rest_of}
use Rattle.byte_fields.specs.Reading.{list_at}
use Rattle.byte_spelling.specs.Spelling.{transaction}
use Rattle.byte_fields.specs.Transactions.{transaction_at}
use Rattle.tx_codec.specs.declared.reading.BadTx.{BadTx}
use Rattle.tx_codec.specs.declared.reading.ReadFault.{ReadFault}
use Rattle.tx_codec.specs.declared.reading.ReadFault.TheVariants.{Bad, Memory}
use Rattle.tx_codec.specs.declared.feed.Fed.{Fed}
use Rattle.tx_codec.specs.declared.feed.Fed.TheVariants as feds
use Rattle.tx_codec.specs.declared.feed.FeedState.{FeedState}
use Rattle.tx_codec.specs.Places.{IsSpelledAt, IsFirstFault, IfBad}
use Rattle.tx_codec.specs.Feeds.{Judges, JudgesRead, IsFeedBehind, IsCutAt, IsWithin}
use Rattle.tx_codec.proofs.Stays.{bad_stays}
use Rattle.byte_fields.proofs.Lists.{transaction_item}
use Rattle.tx_codec.proofs.Found.{is_read, no_fault, spelled_first}

-- what was read, told of a piece
pub told : (all : List ℕ) (before : ℕ) (read : Result (FullTx × ℕ) ReadFault) (r : Result Fed ReadFault × FeedState) → JudgesRead read before r
    → IfOk read (λ x. (before ≤ x.1) × IsSpelledAt all 0 x.1 x.0) → IfErr read (λ e. IfBad e (λ bad. IsFirstFault all 0 bad))
    → Judges all before r.0 × IsFeedBehind all r.0 r.1
told all before (Ok x) r j ok err =
    let n : x.1 ≡ before + (x.1 - before) = omega (arith, ok.0) in
    rw (j.0, j.1) (subst (λ (k : ℕ). IsSpelledAt all 0 k x.0) n ok.1, refl)
told all before (Err (Bad bad)) r j ok err = elim j [
  | inl cut ↦ rw (cut.1, cut.2) ((bad, (err, cut.0)), (bad, refl, (err, cut.0)))
  | inr other ↦ rw (other.1, other.2) (record { first = err; kind = other.0; stays = bad_stays all bad err other.0 }, refl)
]
told all before (Err Memory) r j ok err = rw (j.0, j.1) (tt, refl)

-- what is spelled at the front of a piece of the bytes stands there without the rest too
front_spelled : (old piece : List ℕ) (end : ℕ) (t : FullTx) → end ≤ length old → IsSpelledAt (old ++ piece) 0 end t
    → old ≡ transaction t ++ drop end old
front_spelled old piece end t le s =
    let front : take end (old ++ piece) ≡ transaction t =
    ap (take end) s.parts ∙ take_at (transaction t) (drop end (old ++ piece)) end (let r = s.reach in omega (arith, r)) in
    sym (take-append-drop end old) ∙ ap (λ (l : List ℕ). l ++ drop end old) (sym (take-append-le end old piece le) ∙ front)

-- a transaction that more bytes made whole reaches into them
pub not_before : (old piece : List ℕ) (end : ℕ) (t : FullTx) (bad : BadTx) → IsCutAt old bad → IsSpelledAt (old ++ piece) 0 end t → length old ≤ end
not_before old piece end t bad cut s =
    elim (cases_lt end (length old)) [
      | inr le ↦ le
      | inl lt ↦
          let whole = spelled_first old t (drop end old) s.fits (front_spelled old piece end t (omega arith) s) in
          absurd (no_fault old 0 (length (transaction t)) t (record { left = cut.0.0; kind = bad.kind }) (omega arith) whole cut.0.1)
    ]

pub reaches : (old piece : List ℕ) (bad : BadTx) (read : Result (FullTx × ℕ) ReadFault) → IsCutAt old bad
    → IfOk read (λ x. IsSpelledAt (old ++ piece) 0 x.1 x.0) → IfOk read (λ x. length old ≤ x.1)
reaches old piece bad (Ok x) cut s = not_before old piece x.1 x.0 bad cut s
reaches old piece bad (Err e) cut s = tt

pub told_first : (all : List ℕ) (read : Result (FullTx × ℕ) ReadFault) (r : Result Fed ReadFault × FeedState) → JudgesRead read 0 r
    → IfOk read (λ x. IsSpelledAt all 0 x.1 x.0) → IfErr read (λ e. IfBad e (λ bad. IsFirstFault all 0 bad))
    → Judges all 0 r.0 × IsFeedBehind all r.0 r.1
told_first all (Ok x) r j ok err = told all 0 (Ok x) r j (omega arith, ok) err
told_first all (Err e) r j ok err = told all 0 (Err e) r j ok err

pub told_more : (old piece : List ℕ) (bad : BadTx) (read : Result (FullTx × ℕ) ReadFault) (r : Result Fed ReadFault × FeedState)
    → JudgesRead read (length old) r → IsCutAt old bad
    → IfOk read (λ x. IsSpelledAt (old ++ piece) 0 x.1 x.0) → IfErr read (λ e. IfBad e (λ b. IsFirstFault (old ++ piece) 0 b))
    → Judges (old ++ piece) (length old) r.0 × IsFeedBehind (old ++ piece) r.0 r.1
told_more old piece bad (Ok x) r j cut ok err = told (old ++ piece) (length old) (Ok x) r j (not_before old piece x.1 x.0 bad cut ok, ok) err
told_more old piece bad (Err e) r j cut ok err = told (old ++ piece) (length old) (Err e) r j ok err

pub nothing_read : transaction_at [] ≡ Err (fault Cut [])
unfolding transaction_at list_at
nothing_read = refl

-- no byte is a transaction that was cut
pub nothing_cut : (all : List ℕ) → all ≡ [] → (bad : BadTx) × IsCutAt all bad
nothing_cut all e = rw e (record { at = 0; kind = Cut }, ((0, nothing_read, refl), refl))

length_none : (b : List ℕ) → length b ≡ 0 → b ≡ []
length_none [] e = refl
length_none (x ∷ b) e = absurd (omega (arith, e))

pub empty_join : (a b : List ℕ) → a ≡ [] → length b ≡ 0 → a ++ b ≡ []
empty_join a b e f = rw (e, length_none b f)

-- the fault met on the way is the one that reading meets
pub met : (r : Result (FullTx × List ℕ) Fault) (f : Fault) → rest_of r ≡ Err f → r ≡ Err f
met (Ok x) f e = absurd (cc)
met (Err d) f e = let same : d ≡ f = cc in ap (λ (k : Fault). failed k) same
  where
    failed : Fault → Result (FullTx × List ℕ) Fault
    failed k = Err k

pub within : (old piece : List ℕ) (r : Result Fed ReadFault) → Judges (old ++ piece) (length old) r → IsWithin piece r
within old piece (Ok feds.More) j = tt
within old piece (Ok (feds.Done t taken)) j = omega
    (arith, (is_read (old ++ piece) 0 (length old + taken) t (omega arith) j).0, length-append old piece)
within old piece (Err e) j = tt

-- what is spelled at the front is read, whatever comes behind
pub reads_later : (all : List ℕ) (end : ℕ) (t : FullTx) → IsSpelledAt all 0 end t → (later : List ℕ)
    → transaction_at (all ++ later) ≡ Ok (t, drop end all ++ later)
reads_later all end t s later =
    ap (λ (l : List ℕ). transaction_at (l ++ later)) s.parts ∙ ap transaction_at (append_assoc (transaction t) (drop end all) later)
    ∙ transaction_item.again t (drop end all ++ later) s.fits
