-- Where records stop to be a journal of a node of a kind.
use Rattle.std.proofs.Common.{◌≡◌, inl, ℕ, suc, ◌+◌, ◌^◌, ◌<◌, ◌≤◌, min, List, [], ◌∷◌, ◌++◌, length, get_or, take, drop, reverse, All, refl, ap, ◌∙◌}
use Rattle.std.proofs.Common.{sym, subst, arith, append_assoc, length-append, take-append-drop, drop-cons}
use Rattle.std.specs.Prelude.{sum_by}
use Rattle.std.proofs.lemmas.List.{take_more, reverse-reverse, map-append, append-nil}
use Rattle.std.proofs.lemmas.List.Elements.{All-head, All-tail, All-cons, All-nil}
use Rattle.std.proofs.lemmas.List.Concat.{flat_map-append}
use Rattle.std.proofs.lemmas.List.Sums.{sum_by-append, sum_by-cons}
use Rattle.cbdc_types.specs.declared.calls.NodeOpenFault.{NodeOpenFault}
use Rattle.cbdc_types.specs.declared.calls.NodeOpenFault.TheVariants.{DiskFault, NotReady, OtherKind, Damaged, Full, Memory}
use Rattle.cbdc_types.specs.Limits.{IsWithinLimits}
use Rattle.cbdc_model.specs.Records.{Header, Record}
use Rattle.cbdc_model.specs.Grammar.{IsInGrammar}
use Rattle.cbdc_model.specs.After.{After, IsJournal}
use Rattle.cbdc_model.specs.Room.{size_of, kept_room}
use Rattle.gate_journal.specs.Rows.{row, rows, filling}
use Rattle.gate_journal.proofs.Once.{tail_is, row_once, end_len}
use Rattle.record_log.specs.Bodies.{body_of}
use Rattle.record_log.proofs.Grammar.{one_body}
use Rattle.record_log.specs.Held.{bodies_of, OpensTo, IsGateOpen, HasRow, CutsOff, MayHold}
use Rattle.record_log.specs.LogReading.{IsNoLog}
use Rattle.record_log.specs.declared.opening.NoLog.TheVariants.{Fault}
use Rattle.record_log.proofs.LogSizes.{body_small, limits_of, grammar_of, rows_size}
use Rattle.record_grammar.specs.Kinds.{IsUnbegun}
use Rattle.node_journal.specs.Opening.{IsUnplayed, StopsBefore, IsDamagedAt, IsNoNodeOf}
use Rattle.node_journal.proofs.Journals.{sum_reversed}

-- the place behind these records, as far as a number tells it
abbrev pub IsPlaceOf : ℕ → List Record → Type 0
IsPlaceOf at past = at ≡ min (sum_by size_of past) 18446744073709551615

pub place_more : (records : List Record) (at i size next : ℕ) (r : Record) → i < length records → r ≡ get_or records i r
    → IsPlaceOf at (take i records) → size ≡ min (size_of r) 18446744073709551615 → next ≡ min (at + size) 18446744073709551615
    → IsPlaceOf next (take (i + 1) records)
place_more records at i size next r lt here place size_is next_is =
    let longer : take (i + 1) records ≡ take i records ++ r ∷ [] =
    take_more records i r lt ∙ ap (λ (x : Record). take i records ++ x ∷ []) (sym here) in
    omega (arith, place, size_is, next_is, ap (sum_by size_of) longer, sum_by-append size_of (take i records) (r ∷ []), sum_by-cons size_of r [])

pub place_first : (records : List Record) (at : ℕ) (r : Record) → 0 < length records → r ≡ get_or records 0 r
    → at ≡ min (size_of r) 18446744073709551615 → IsPlaceOf at (take 1 records)
place_first [] at r lt here place = absurd (omega (arith, lt))
place_first (q ∷ records) at r lt here place = let same : r ≡ q = here in omega (arith, place, ap size_of same, sum_by-cons size_of q [])

front : (P : Record → Type 0) (xs ys : List Record) → All P (xs ++ ys) → All P xs
front P [] ys all = All-nil P
front P (x ∷ xs) ys all = All-cons P x xs (All-head P x (xs ++ ys) all) (front P xs ys (All-tail P x (xs ++ ys) all))

middle : (P : Record → Type 0) (xs : List Record) (y : Record) (ys : List Record) → All P (xs ++ y ∷ ys) → P y
middle P [] y ys all = All-head P y ys all
middle P (x ∷ xs) y ys all = middle P xs y ys (All-tail P x (xs ++ y ∷ ys) all)

rows_at : (before : List Record) (next : Record) (rest : List Record) (tail : List ℕ)
    → rows (bodies_of (before ++ next ∷ rest)) ++ tail ≡ rows (bodies_of before) ++ (row (body_of next) ++ (rows (bodies_of rest) ++ tail))
rows_at before next rest tail =
    ap (λ (l : List (List ℕ)). rows l ++ tail) (map-append body_of before (next ∷ rest))
    ∙ ap (λ (l : List ℕ). l ++ tail) (flat_map-append row (bodies_of before) (body_of next ∷ bodies_of rest))
    ∙ append_assoc (rows (bodies_of before)) (row (body_of next) ++ rows (bodies_of rest)) tail
    ∙ ap (λ (l : List ℕ). rows (bodies_of before) ++ l) (append_assoc (row (body_of next)) (rows (bodies_of rest)) tail)

open_some : (rest : List ℕ) → IsGateOpen rest → 1 ≤ length rest
open_some [] is = absurd is
open_some (gate ∷ rest) is = omega arith

module _ (Is : Header → Type 0) (IsOther : Record → Type 0) where
  pub unbegun : (h : Header) (records : List Record) (r : Record) (fault : NodeOpenFault) → 0 < length records → r ≡ get_or records 0 r
      → IsUnbegun IsOther r fault → IsUnplayed Is IsOther h records fault
  unbegun h [] r fault lt here is = absurd (omega (arith, lt))
  unbegun h (q ∷ records) r OtherKind lt here is = subst IsOther here is
  unbegun h (q ∷ records) r Memory lt here is = tt
  unbegun h (q ∷ records) r DiskFault lt here is = absurd is
  unbegun h (q ∷ records) r NotReady lt here is = absurd is
  unbegun h (q ∷ records) r (Damaged at) lt here is = absurd is
  unbegun h (q ∷ records) r (Full used need capacity) lt here is = absurd is

  no_memory : (h : Header) (records : List Record) → 0 < length records → IsUnplayed Is IsOther h records Memory
  no_memory h [] lt = absurd (omega (arith, lt))
  no_memory h (r ∷ records) lt = tt

  pub memory_ran_out : (h : Header) (records : List Record) (i : ℕ) → i < length records → IsUnplayed Is IsOther h records Memory
  memory_ran_out h records i lt = no_memory h records (omega (arith, lt))

  damaged : (h : Header) (records : List Record) (at : ℕ) → 0 < length records → StopsBefore Is h records at
      → IsUnplayed Is IsOther h records (Damaged at)
  damaged h [] at lt stops = absurd (omega (arith, lt))
  damaged h (r ∷ records) at lt stops = stops

  -- a record that is not next
  pub stopped : (h : Header) (records : List Record) (at i : ℕ) (r : Record) → IsJournal h (reverse (take i records)) → Is h
      → IsPlaceOf at (take i records) → i < length records
      → r ≡ get_or records i r → (After h (reverse (take i records)) r → ⊥) → IsUnplayed Is IsOther h records (Damaged at)
  stopped h records at i r is kind place lt here none = damaged h records at (omega (arith, lt)) (record {
    before = take i records;
    next = r;
    rest = drop (suc i) records;
    parts = sym (take-append-drop i records) ∙ ap (λ (l : List Record). take i records ++ l)
        (drop-cons records i r lt ∙ ap (λ (x : Record). x ∷ drop (suc i) records) (sym here));
    is = is;
    kind = kind;
    none = none;
    place = place;
  })

  -- bytes of records that stop before one that is not next
  pub stops_damage : (h : Header) (records : List Record) (at : ℕ) (bytes tail : List ℕ) → MayHold h records → StopsBefore Is h records at
      → bytes ≡ rows (bodies_of records) ++ tail → length (rows (bodies_of records)) < 2 ^ 64 → IsDamagedAt Is at bytes
  stops_damage h records at bytes tail may stops parts fits =
      let limits = limits_of h records may in
      let all : All (IsInGrammar h) (stops.before ++ stops.next ∷ stops.rest) = subst (All (IsInGrammar h)) stops.parts (grammar_of h records may) in
      let next_in : IsInGrammar h stops.next = middle (IsInGrammar h) stops.before stops.next stops.rest all in
      let behind : List ℕ = rows (bodies_of stops.rest) ++ tail in
      let split : bytes ≡ rows (bodies_of stops.before) ++ (row (body_of stops.next) ++ behind) =
      parts ∙ ap (λ (l : List Record). rows (bodies_of l) ++ tail) stops.parts ∙ rows_at stops.before stops.next stops.rest tail in
      let whole : rows (bodies_of records) ≡ rows (bodies_of stops.before) ++ (row (body_of stops.next) ++ (rows (bodies_of stops.rest) ++ [])) =
      sym (append-nil (rows (bodies_of records))) ∙ ap (λ (l : List Record). rows (bodies_of l) ++ []) stops.parts
      ∙ rows_at stops.before stops.next stops.rest [] in
      let size = rows_size h stops.before limits (front (IsInGrammar h) stops.before (stops.next ∷ stops.rest) all) in
      let back : reverse (reverse stops.before) ≡ stops.before = reverse-reverse stops.before in
      record {
        header = h;
        journal = reverse stops.before;
        limits = limits;
        is = stops.is;
        kind = stops.kind;
        cut = subst (λ (l : List Record). CutsOff (After h (reverse stops.before)) l at bytes) (sym back) (record {
          rest = row (body_of stops.next) ++ behind;
          parts = split;
          place = omega (
            arith,
            stops.place,
            size,
            fits,
            ap length whole,
            length-append (rows (bodies_of stops.before)) (row (body_of stops.next) ++ (rows (bodies_of stops.rest) ++ [])),
          );
          opened = refl;
          none = λ has.
              let same : filling (body_of has.what) ++ has.more ≡ filling (body_of stops.next) ++ behind =
              sym (tail_is 1 1 (filling (body_of stops.next) ++ behind) (filling (body_of has.what) ++ has.more) has.parts) in
              let bodies = (row_once (body_of has.what) (body_of stops.next) has.more behind (body_small h has.what limits has.has.0)
              (body_small h stops.next limits next_in) same).0 in
              let one = (one_body h has.what stops.next [] limits has.has.0 next_in (bodies ∙ sym (append-nil (body_of stops.next)))).0 in
              stops.none (subst (λ (r : Record). After h (reverse stops.before) r) one has.has);
        });
      }

  other_row : (r : Record) (later : List Record) (bytes tail : List ℕ) → IsOther r → bytes ≡ rows (bodies_of (r ∷ later)) ++ tail → 1 ≤ length tail
      → HasRow IsOther bytes
  other_row r later bytes tail is parts some = record {
    what = r;
    more = rows (bodies_of later) ++ tail;
    parts = parts ∙ append_assoc (row (body_of r)) (rows (bodies_of later)) tail;
    behind = omega (arith, length-append (rows (bodies_of later)) tail, some);
    has = is;
  }

  -- why records that bytes begin with are no journal of the kind
  pub unplayed_is : (limit : ℕ) (h : Header) (records : List Record) (fault : NodeOpenFault) (bytes tail : List ℕ) → MayHold h records
      → IsUnplayed Is IsOther h records fault → bytes ≡ rows (bodies_of records) ++ tail → 1 ≤ length tail
      → length (rows (bodies_of records)) < 2 ^ 64 → IsNoNodeOf Is IsOther limit bytes fault
  unplayed_is limit h [] fault bytes tail may is parts some fits = absurd may
  unplayed_is limit h (r ∷ later) OtherKind bytes tail may is parts some fits = other_row r later bytes tail is parts some
  unplayed_is limit h (r ∷ later) (Damaged at) bytes tail may is parts some fits = stops_damage h (r ∷ later) at bytes tail may is parts fits
  unplayed_is limit h (r ∷ later) Memory bytes tail may is parts some fits = tt
  unplayed_is limit h (r ∷ later) DiskFault bytes tail may is parts some fits = absurd is
  unplayed_is limit h (r ∷ later) NotReady bytes tail may is parts some fits = absurd is
  unplayed_is limit h (r ∷ later) (Full used need capacity) bytes tail may is parts some fits = absurd is

  pub not_disk : (h : Header) (records : List Record) (fault : NodeOpenFault) → IsUnplayed Is IsOther h records fault → fault ≡ DiskFault → ⊥
  not_disk h records fault is e = none h records (subst (IsUnplayed Is IsOther h records) e is)
    where
      none : (h : Header) (records : List Record) → IsUnplayed Is IsOther h records DiskFault → ⊥
      none h [] is = is
      none h (r ∷ later) is = is

  -- records that are all next, and behind them an open gate with no record of the grammar
  pub all_played : (h : Header) (records : List Record) (at : ℕ) (bytes : List ℕ) → IsWithinLimits h.shape → IsJournal h (reverse records) → Is h
      → CutsOff (IsInGrammar h) records at bytes → IsDamagedAt Is at bytes
  all_played h records at bytes limits is kind cuts = record {
    header = h;
    journal = reverse records;
    limits = limits;
    is = is;
    kind = kind;
    cut = subst (λ (l : List Record). CutsOff (After h (reverse records)) l at bytes) (sym (reverse-reverse records)) (record {
      rest = cuts.rest;
      parts = cuts.parts;
      place = cuts.place;
      opened = cuts.opened;
      none = λ has. cuts.none (record { what = has.what; more = has.more; parts = has.parts; behind = has.behind; has = has.has.0 });
    });
  }

  pub cut_unplayed : (limit : ℕ) (h : Header) (records : List Record) (at : ℕ) (fault : NodeOpenFault) (bytes : List ℕ) → MayHold h records
      → IsUnplayed Is IsOther h records fault → CutsOff (IsInGrammar h) records at bytes → at < 2 ^ 64 → IsNoNodeOf Is IsOther limit bytes fault
  cut_unplayed limit h records at fault bytes may is cuts fits =
      unplayed_is limit h records fault bytes cuts.rest may is cuts.parts (open_some cuts.rest cuts.opened) (omega (arith, cuts.place, fits))

  pub open_unplayed : (limit : ℕ) (h : Header) (records : List Record) (fault : NodeOpenFault) (bytes : List ℕ) (gate : ℕ) → MayHold h records
      → IsUnplayed Is IsOther h records fault → OpensTo records bytes → gate ≡ sum_by size_of records → gate + 1 < 2 ^ 64
      → IsNoNodeOf Is IsOther limit bytes fault
  open_unplayed limit h records fault bytes gate may is opens ends fits =
      unplayed_is limit h records fault bytes opens.rest may is opens.parts (end_len opens.rest (inl opens.shut))
      (omega (arith, rows_size h records (limits_of h records may) (grammar_of h records may), ends, fits))

  pub no_log_is : (limit : ℕ) (bytes : List ℕ) (fault : NodeOpenFault) → IsNoLog bytes (Fault fault) → IsNoNodeOf Is IsOther limit bytes fault
  no_log_is limit bytes NotReady is = is
  no_log_is limit bytes DiskFault is = tt
  no_log_is limit bytes Memory is = tt
  no_log_is limit bytes OtherKind is = absurd is
  no_log_is limit bytes (Damaged at) is = absurd is
  no_log_is limit bytes (Full used need capacity) is = absurd is

  -- a journal for which there is too little room
  pub full_is : (h : Header) (records : List Record) (used need capacity limit : ℕ) (bytes : List ℕ) → IsWithinLimits h.shape
      → IsJournal h (reverse records) → Is h → OpensTo records bytes → used ≡ sum_by size_of records + 1
      → need ≡ kept_room h.shape (reverse records) → capacity ≡ limit → capacity < used + need
      → IsNoNodeOf Is IsOther limit bytes (Full used need capacity)
  full_is h records used need capacity limit bytes limits is kind opens used_is need_is limit_is passes = (
    limit_is,
    record {
      header = h;
      journal = reverse records;
      is = record {
        opens = subst (λ (l : List Record). OpensTo l bytes) (sym (reverse-reverse records)) opens;
        limits = limits;
        journal = is;
        kind = kind;
      };
      used_is = omega (arith, used_is, sum_reversed records);
      need_is = need_is;
      passes = passes;
    },
  )
