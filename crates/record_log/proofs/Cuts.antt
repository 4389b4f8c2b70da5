-- Where the rows of a journal end, and what stands there.
use Rattle.std.proofs.Common.{◌≡◌, ◌⊎◌, inl, inr, ⊎_elim, ℕ, ◌+◌, ◌<◌, ◌≤◌, ◌^◌, List, [], ◌∷◌, ◌++◌, length, refl, sym, ◌∙◌, ap, subst, arith, rules}
use Rattle.std.proofs.Common.{length-append, append_assoc, Option, Some, None, Result, Ok, Err}
use Rattle.std.specs.Global.{Vec}
use Rattle.std.specs.Prelude.{IfSome, IsSome, IfOk, IfErr, MatchOption, MatchResult}
use Rattle.std.specs.List.{AllByRecursion}
use Rattle.std.proofs.lemmas.Bool.{false≢true}
use Rattle.std.proofs.lemmas.List.Concat.{flat_map-append}
use Rattle.cbdc_types.specs.declared.calls.NodeOpenFault.{NodeOpenFault}
use Rattle.cbdc_types.specs.declared.calls.NodeOpenFault.TheVariants.{DiskFault, NotReady, OtherKind, Damaged, Full, Memory}
use Rattle.cbdc_model.specs.Records.{Header, Record}
use Rattle.cbdc_model.specs.Grammar.{IsInGrammar}
use Rattle.record_log.specs.Bodies.{body_of}
use Rattle.gate_journal.specs.Rows.{filling, row, rows, IsShut, Opens}
use Rattle.gate_journal.specs.Opening.{IsBrokenRow, Breaks, HasNoFirst}
use Rattle.gate_journal.proofs.Once.{tail_is, row_once, shut_is_no_row, broken_is_no_row}
use Rattle.record_log.specs.Held.{bodies_of, IsGateOpen, HasRow, CutsOff, HasNoRecord, MayHold}
use Rattle.record_log.specs.LogReading.{StopsAt, IsNoFirstBody, SpellRecords, IsUnread, IsNoLog}
use Rattle.record_log.specs.declared.opening.NoLog.{NoLog}
use Rattle.record_log.specs.declared.opening.NoLog.TheVariants.{Fault, Cut}
use Rattle.record_log.proofs.LogSizes.{body_small, first_small, limits_of}

short_at : (xs : List (List ℕ)) (b : List ℕ) (ys : List (List ℕ)) → AllByRecursion (λ (x : List ℕ). length x < 2 ^ 64) (xs ++ b ∷ ys)
    → length b < 2 ^ 64
short_at [] b ys all = all.0
short_at (x ∷ xs) b ys all = short_at xs b ys all.1

broken_open : (rest : List ℕ) → IsBrokenRow rest → IsGateOpen rest
broken_open [] broken = broken
broken_open (gate ∷ more) broken = broken.0

-- an open gate with no whole row has no record
broken_has_none : (P : Record → Type 0) (rest : List ℕ) → ((r : Record) → P r → length (body_of r) < 2 ^ 64) → IsBrokenRow rest → HasRow P rest → ⊥
broken_has_none P rest small broken has = broken_is_no_row rest (body_of has.what) has.more broken (small has.what has.has) has.behind has.parts

-- whole rows of records, and then an open gate with no whole row
pub broken_cuts : (h : Header) (records : List Record) (at : ℕ) (bytes : List ℕ) → MayHold h records → Breaks (bodies_of records) bytes
    → at ≡ length (rows (bodies_of records))
    → CutsOff (IsInGrammar h) records at bytes
broken_cuts h records at bytes may breaks place = record {
  rest = breaks.rest;
  parts = breaks.parts;
  place = place;
  opened = broken_open breaks.rest breaks.broken;
  none = broken_has_none (IsInGrammar h) breaks.rest (λ r is. body_small h r (limits_of h records may) is) breaks.broken;
}

-- rows one of which spells no record
pub stops_cuts : (h : Header) (records : List Record) (at : ℕ) (bodies : List (List ℕ)) (bytes rest : List ℕ) → MayHold h records
    → StopsAt h records at bodies → bytes ≡ rows bodies ++ rest
    → IsShut rest ⊎ IsBrokenRow rest → AllByRecursion (λ (b : List ℕ). length b < 2 ^ 64) bodies → length (rows bodies) < 2 ^ 64
    → CutsOff (IsInGrammar h) records at bytes
stops_cuts h records at bodies bytes rest may stops parts end short fits =
    let next = stops.next in
    let split : rows bodies ≡ rows (bodies_of records) ++ (row next ++ rows stops.rest) =
    ap rows stops.parts ∙ flat_map-append row (bodies_of records) (next ∷ stops.rest) in
    let behind : List ℕ = row next ++ (rows stops.rest ++ rest) in
    let whole : bytes ≡ rows (bodies_of records) ++ behind =
    parts ∙ ap (λ (l : List ℕ). l ++ rest) split ∙ append_assoc (rows (bodies_of records)) (row next ++ rows stops.rest) rest
    ∙ ap (λ (l : List ℕ). rows (bodies_of records) ++ l) (append_assoc (row next) (rows stops.rest) rest) in
    let small : length next < 2 ^ 64 = short_at (bodies_of records) next stops.rest
    (subst (AllByRecursion (λ (b : List ℕ). length b < 2 ^ 64)) stops.parts short) in
    record {
      rest = behind;
      parts = whole;
      place = omega (arith, stops.place, ap length split, length-append (rows (bodies_of records)) (row next ++ rows stops.rest), fits);
      opened = refl;
      none = λ has.
          let same : filling (body_of has.what) ++ has.more ≡ filling next ++ (rows stops.rest ++ rest) =
          sym (tail_is 1 1 (filling next ++ (rows stops.rest ++ rest)) (filling (body_of has.what) ++ has.more) has.parts) in
          stops.none has.what (
            sym (row_once (body_of has.what) next has.more (rows stops.rest ++ rest) (body_small h has.what (limits_of h records may) has.has) small
                same).0,
            has.has,
          );
    }

-- where no first row is whole there is no first record
pub no_row : (bytes : List ℕ) → HasNoFirst bytes → HasNoRecord bytes
no_row bytes none has = ⊎_elim
    (λ (empty : bytes ≡ []). nothing bytes (filling (body_of has.what) ++ has.more) empty has.parts)
    (λ end. ⊎_elim
    (λ shut. shut_is_no_row bytes (filling (body_of has.what) ++ has.more) shut has.parts)
    (λ broken. broken_is_no_row bytes (body_of has.what) has.more broken (first_small has.what has.has) has.behind has.parts) end)
    none
  where
    nothing : (xs more : List ℕ) → xs ≡ [] → xs ≡ 1 ∷ more → ⊥
    nothing xs more empty is = cc

-- nor where the first row's body spells none
pub no_record : (bodies : List (List ℕ)) (bytes rest : List ℕ) → IsNoFirstBody bodies → 1 ≤ length bodies → bytes ≡ rows bodies ++ rest
    → AllByRecursion (λ (b : List ℕ). length b < 2 ^ 64) bodies → HasNoRecord bytes
no_record [] bytes rest none some parts short has = absurd (omega (arith, some))
no_record (b ∷ bodies) bytes rest none some parts short has =
    let whole : bytes ≡ 1 ∷ (filling b ++ (rows bodies ++ rest)) = parts ∙ append_assoc (row b) (rows bodies) rest in
    let same : filling (body_of has.what) ++ has.more ≡ filling b ++ (rows bodies ++ rest) =
    tail_is 1 1 (filling (body_of has.what) ++ has.more) (filling b ++ (rows bodies ++ rest)) (sym has.parts ∙ whole) in
    none has.what (sym (row_once (body_of has.what) b has.more (rows bodies ++ rest) (first_small has.what has.has) short.0 same).0, has.has)

-- what is told of a damaged journal
pub cut_is : (h : Header) (records : Vec Record) (cut : Option ℕ) (at : ℕ) (bodies : List (List ℕ)) (bytes : List ℕ) (told : NoLog)
    → MayHold h records.items → SpellRecords h records.items cut bodies → Breaks bodies bytes
    → at ≡ length (rows bodies) → at < 2 ^ 64 → MatchOption cut (told ≡ Cut h records at) (λ n. told ≡ Cut h records n) → IsNoLog bytes told
cut_is h records None at bodies bytes told may read breaks place fits is =
    subst (IsNoLog bytes) (sym is) (
      may,
      broken_cuts h records.items at bytes may (subst (λ (b : List (List ℕ)). Breaks b bytes) read breaks)
          (place ∙ ap (λ (b : List (List ℕ)). length (rows b)) read),
    )
cut_is h records (Some n) at bodies bytes told may read breaks place fits is =
    subst (IsNoLog bytes) (sym is) (
      may,
      stops_cuts h records.items n bodies bytes breaks.rest may read breaks.parts (inr breaks.broken) breaks.short (omega (arith, place, fits)),
    )

-- what is told of one that opened, and whose bodies are no records
pub log_cut_is : (h : Header) (records : Vec Record) (cut : Option ℕ) (gate : ℕ) (bodies : List (List ℕ)) (bytes : List ℕ) (told : NoLog)
    → MayHold h records.items → SpellRecords h records.items cut bodies → Opens bodies bytes
    → gate ≡ length (rows bodies) → gate + 1 < 2 ^ 64 → IsSome cut → IfSome cut (λ n. told ≡ Cut h records n) → IsNoLog bytes told
log_cut_is h records None gate bodies bytes told may read opens place fits some is = absurd (false≢true some)
log_cut_is h records (Some n) gate bodies bytes told may read opens place fits some is =
    subst (IsNoLog bytes) (sym is) (
      may,
      stops_cuts h records.items n bodies bytes opens.rest may read opens.parts (inl opens.shut) opens.short (omega (arith, place, fits)),
    )

-- bodies that spell no journal
pub unread_is : (bodies : List (List ℕ)) (bytes rest : List ℕ) (fault : NodeOpenFault) → IsUnread bodies fault → 1 ≤ length bodies
    → bytes ≡ rows bodies ++ rest → AllByRecursion (λ (b : List ℕ). length b < 2 ^ 64) bodies
    → IsNoLog bytes (Fault fault)
unread_is bodies bytes rest DiskFault is some parts short = tt
unread_is bodies bytes rest NotReady is some parts short = no_record bodies bytes rest is some parts short
unread_is bodies bytes rest OtherKind is some parts short = is
unread_is bodies bytes rest (Damaged at) is some parts short = is
unread_is bodies bytes rest (Full used need capacity) is some parts short = is
unread_is bodies bytes rest Memory is some parts short = tt

pub read_whole : (h : Header) (records : List Record) (cut : Option ℕ) (bodies : List (List ℕ)) → cut ≡ None → SpellRecords h records cut bodies
    → bodies ≡ bodies_of records
read_whole h records cut bodies none read = subst (λ (o : Option ℕ). SpellRecords h records o bodies) none read

pub if_ok : {A E : Type 0} (r : Result A E) (P Q : A → Type 0) → IfOk r P → ((a : A) → P a → Q a) → IfOk r Q
if_ok (Ok a) P Q is step = step a is
if_ok (Err e) P Q is step = search rules

pub if_err : {A E : Type 0} (r : Result A E) (P Q R : E → Type 0) → IfErr r P → IfErr r Q → ((e : E) → P e → Q e → R e) → IfErr r R
if_err (Ok a) P Q R is also step = search rules
if_err (Err e) P Q R is also step = step e is also

pub if_both : {A E : Type 0} (r : Result A E) (P Q : A → Type 0) (R S : E → Type 0) → IfOk r P → IfErr r R → ((a : A) → P a → Q a)
    → ((e : E) → R e → S e) → MatchResult r Q S
if_both (Ok a) P Q R S is also step other = step a is
if_both (Err e) P Q R S is also step other = other e also
