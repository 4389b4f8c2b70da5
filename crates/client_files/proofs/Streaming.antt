-- A file that comes in pieces: what is said of all of it.
use Rattle.std.specs.Prelude.{◌==◌, IfErr, IsErrAnd}
use Rattle.std.proofs.Common.{◌≡◌, ◌≢◌, ℕ, zero, suc, ◌+◌, ◌-◌, ◌≤◌, Bool, true, false, inl, inr, ltb, cond, ◌<◌, List, [], ◌∷◌, ◌++◌, length, take}
use Rattle.std.proofs.Common.{drop, Option, Some, None, Result, Ok, Err, refl, sym, ap, subst, ◌∙◌, arith, append_assoc, length-append, length-take}
use Rattle.std.proofs.lemmas.Bool.{cases_lt, le-ltb, lt-ltb}
use Rattle.std.proofs.lemmas.List.{append-nil, take-append-drop, take_all, take-append-le, drop-append-le}
use Rattle.std.proofs.Math.Seq.{drop-append-add}
use Rattle.outside.specs.Images.{IfTold, Tells, filled}
use Rattle.base_types.specs.declared.faults.InputKind.{InputKind}
use Rattle.base_types.specs.declared.faults.InputKind.TheVariants as kinds
use Rattle.cbdc_types.specs.declared.tx.FullTx.{FullTx}
use Rattle.byte_fields.specs.declared.fault.Fault.{Fault}
use Rattle.byte_fields.specs.Faults.{◌>>=◌, fault}
use Rattle.byte_fields.specs.Reading.{number_at, number_of, items_at}
use Rattle.byte_fields.specs.Transactions.{transaction_at}
use Rattle.byte_fields.specs.declared.fault.ReadError.TheVariants as errors
use Rattle.byte_fields.proofs.Loop.{with_front, begins, goes_on as items_go_on, ends as items_end, is_done as items_done}
use Rattle.tx_codec.specs.declared.reading.BadTx.{BadTx}
use Rattle.tx_codec.specs.declared.feed.FeedState.{FeedState}
use Rattle.tx_codec.specs.declared.feed.FeedState.TheVariants as states
use Rattle.tx_codec.specs.Places.{IsSpelledAt}
use Rattle.tx_codec.specs.Feeds.{IsGoing, IsCutAt, IsBadIn}
use Rattle.tx_codec.proofs.Feeding.{nothing_read, reads_later}
use Rattle.client_files.proofs.PieceLemmas.{piece_is, one_piece}
use Rattle.client_files.proofs.Ends.{file_ok, file_extra, file_fault, extra_some}
use Rattle.client_files.specs.declared.fault.BadFile.{BadFile}
use Rattle.client_files.specs.declared.fault.StreamFault.{StreamFault}
use Rattle.client_files.specs.declared.fault.StreamFault.TheVariants as faults
use Rattle.client_files.specs.Files.{front, goes_on, bad_at, extra, counted_behind}
use Rattle.client_files.specs.Streams.{WindowOf, HasRead, OfRead, HasCome, HasMore, IsFileEnd, TookPieces, MeetsBadField, IsFileCut, GoesOn, Stops}
use Rattle.client_files.specs.Streams.{FileHolds, count_at}

-- ---- why reading stops

pub stops_on : (P Q : BadFile → Type 0) (before mid now last : ℕ) (e : StreamFault) → ((bad : BadFile) → P bad → Q bad) → before ≤ mid → now ≤ last
    → Stops P mid now e → Stops Q before last e
stops_on P Q before mid now last (faults.Bad bad) on le ge p = on bad p
stops_on P Q before mid now last faults.ReadFault on le ge rose = omega (arith, rose, le, ge)
stops_on P Q before mid now last faults.Memory on le ge p = tt

-- the same at the way out of a `?`
pub stops_out : {X : Type 0} (r : Result X StreamFault) (e : StreamFault) (P Q : BadFile → Type 0) (before mid now last : ℕ)
    → IsErrAnd r (λ y. y ≡ e) → ((bad : BadFile) → P bad → Q bad) → before ≤ mid → now ≤ last → Stops P mid now e
    → IfErr r (Stops Q before last)
stops_out (Ok x) e P Q before mid now last h on le ge stops = absurd h
stops_out (Err y) e P Q before mid now last h on le ge stops =
    subst (λ (z : StreamFault). Stops Q before last z) (sym h) (stops_on P Q before mid now last e on le ge stops)

-- the place of a field that is bad, however much comes behind it
bad_other : (len left : ℕ) (more : Bool) (kind : InputKind) → kind ≢ kinds.Cut → bad_at len more left kind ≡ record { at = len - left; kind = kind }
bad_other len left false kind other = refl
bad_other len left true kinds.Cut other = absurd (other refl)
bad_other len left true kinds.TooMany other = refl
bad_other len left true kinds.TooLong other = refl
bad_other len left true kinds.Zero other = refl
bad_other len left true kinds.Extra other = refl
bad_other len left true kinds.Large other = refl
bad_other len left true kinds.Form other = refl
bad_other len left true kinds.Repeated other = refl

pub bad_same : (len last left now : ℕ) (more longer : Bool) (kind : InputKind) → kind ≢ kinds.Cut → len - left ≡ last - now
    → bad_at len more left kind ≡ bad_at last longer now kind
bad_same len last left now more longer kind other is =
    bad_other len left more kind other ∙ ap (λ (n : ℕ). placed n) is ∙ sym (bad_other last now longer kind other)
  where
    placed : ℕ → BadFile
    placed n = record { at = n; kind = kind }

-- ---- bytes that come

pub none_come : (told : Option (List ℕ)) (had : ℕ) → HasCome told had had []
none_come told had = record { had = omega arith; read = λ bytes len read. subst (HasRead told) (sym (append-nil bytes)) read }

pub come_then : (told : Option (List ℕ)) (a b c : ℕ) (p q : List ℕ) → HasCome told a b p → HasCome told b c q → HasCome told a c (p ++ q)
come_then told a b c p q x y = record {
  had = omega (arith, x.had, y.had, length-append p q);
  read = λ bytes len read.
      let more : length (bytes ++ p) ≡ b = omega (arith, length-append bytes p, x.had, len) in
      subst (HasRead told) (append_assoc bytes p q) (y.read (bytes ++ p) more (x.read bytes len read));
}

-- the rest of the file behind its first bytes
pub record Rest (told : Option (List ℕ)) (bytes : List ℕ) : Type 0 where
  pub rest : List ℕ
  pub more : Bool
  pub whole : Tells told (λ c. (bytes ++ rest ≡ front c) × (more ≡ goes_on c))

take_less : (m n : ℕ) (xs : List ℕ) → m ≤ n → take m (take n xs) ≡ take m xs
take_less zero n xs le = refl
take_less (suc m) zero xs le = absurd (omega arith)
take_less (suc m) (suc n) [] le = refl
take_less (suc m) (suc n) (x ∷ xs) le = ap (λ (l : List ℕ). x ∷ l) (take_less m n xs (omega arith))

joined : (c bytes : List ℕ) → length bytes ≤ 1073741824 → bytes ≡ take (length bytes) c → bytes ++ drop (length bytes) (front c) ≡ front c
joined c bytes few first =
    ap (λ (l : List ℕ). l ++ drop (length bytes) (front c)) (first ∙ sym (take_less (length bytes) 1073741824 c few))
    ∙ take-append-drop (length bytes) (front c)

pub rest_of : (told : Option (List ℕ)) (bytes : List ℕ) → HasRead told bytes → Rest told bytes
rest_of None bytes read = record { rest = []; more = false; whole = λ c e. absurd (cc) }
rest_of (Some c) bytes read = record {
  rest = drop (length bytes) (front c);
  more = goes_on c;
  whole = λ d e.
      let same : c ≡ d = cc in
      subst (λ (k : List ℕ). (bytes ++ drop (length bytes) (front c) ≡ front k) × (goes_on c ≡ goes_on k)) same
      (joined c bytes read.few (read.first c refl).1, refl);
}

-- ---- bad fields

-- a bad field, whatever comes behind
pub meets_stop : {X : Type 0} (told : Option (List ℕ)) (read : List ℕ → Result X Fault) (unread pieces : List ℕ) (old new left : ℕ)
    (kind : InputKind) (bad : BadFile) → HasCome told old new pieces
    → kind ≢ kinds.Cut → ((later : List ℕ) → read (unread ++ (pieces ++ later)) ≡ Err (record { left = left + length later; kind = kind }))
    → bad ≡ bad_at new false left kind
    → OfRead told old (MeetsBadField told read unread bad)
meets_stop told read unread pieces old new left kind bad come other is at bytes len had =
    let r = rest_of told (bytes ++ pieces) (come.read bytes len had) in
    let size : new - left ≡ length (bytes ++ (pieces ++ r.rest)) - (left + length r.rest) =
    omega (arith, come.had, len, length-append bytes (pieces ++ r.rest), length-append pieces r.rest) in
    record {
      rest = pieces ++ r.rest;
      more = r.more;
      whole = λ c e. (sym (append_assoc bytes pieces r.rest) ∙ (r.whole c e).0, (r.whole c e).1);
      first = record { left = left + length r.rest; kind = kind };
      is = is r.rest;
      at = at ∙ bad_same new (length (bytes ++ (pieces ++ r.rest))) left (left + length r.rest) false r.more kind other size;
    }

-- the file ends within a field
pub meets_cut : {X : Type 0} (told : Option (List ℕ)) (read : List ℕ → Result X Fault) (unread pieces : List ℕ) (old new left : ℕ) (bad : BadFile)
    → HasCome told old new pieces
    → read (unread ++ pieces) ≡ Err (record { left = left; kind = kinds.Cut }) → OfRead told new (IsFileCut told new left bad)
    → OfRead told old (MeetsBadField told read unread bad)
meets_cut told read unread pieces old new left bad come is cut bytes len had =
    let more : length (bytes ++ pieces) ≡ new = omega (arith, length-append bytes pieces, come.had, len) in
    let k = cut (bytes ++ pieces) more (come.read bytes len had) in
    record {
      rest = pieces;
      more = k.more;
      whole = k.whole;
      first = record { left = left; kind = kinds.Cut };
      is = is;
      at = k.at ∙ ap (λ (n : ℕ). bad_at n k.more left kinds.Cut) (sym more);
    }

-- a bad field behind what was read
pub meets_later : {X Y : Type 0} (told : Option (List ℕ)) (read : List ℕ → Result X Fault) (next : List ℕ → Result Y Fault)
    (unread after pieces : List ℕ) (old new : ℕ) (bad : BadFile)
    → HasCome told old new pieces → ((later : List ℕ) (f : Fault) → next (after ++ later) ≡ Err f → read (unread ++ (pieces ++ later)) ≡ Err f)
    → OfRead told new (MeetsBadField told next after bad) → OfRead told old (MeetsBadField told read unread bad)
meets_later told read next unread after pieces old new bad come on meets bytes len had =
    let more : length (bytes ++ pieces) ≡ new = omega (arith, length-append bytes pieces, come.had, len) in
    let k = meets (bytes ++ pieces) more (come.read bytes len had) in
    record {
      rest = pieces ++ k.rest;
      more = k.more;
      whole = λ c e. (sym (append_assoc bytes pieces k.rest) ∙ (k.whole c e).0, (k.whole c e).1);
      first = k.first;
      is = on k.rest k.first k.is;
      at = k.at ∙ ap (λ (l : List ℕ). bad_at (length l) k.more k.first.left k.first.kind) (append_assoc bytes pieces k.rest);
    }

-- ---- one read

told_is : (told : Option (List ℕ)) (P : List ℕ → Type 0) → IfTold told P → Tells told P
told_is None P h c e = absurd (cc)
told_is (Some d) P h c e = let same : d ≡ c = cc in subst P same h

pub at_limit : (told : Option (List ℕ)) (w : WindowOf) → w.had ≡ 1073741824 → HasMore told w w 0
at_limit told w full = record {
  piece = [];
  size = refl;
  unread = sym (append-nil w.unread);
  come = none_come told w.had;
  bound = omega (arith, full);
  ended = λ z bytes len read c e. (read.first c e).1 ∙ ap (λ (n : ℕ). take n c) (len ∙ full);
}

pub one_more : (told : Option (List ℕ)) (old new : WindowOf) (buf after : List ℕ) (n : ℕ) → n ≤ length buf → length after ≡ length buf
    → 0 < length buf → old.had + length buf ≤ 1073741824
    → IfTold told (λ c. after ≡ filled c old.had n buf) → IfTold told (λ c. old.had < length c → 0 < length buf → 0 < n)
    → new ≡ record { unread = old.unread ++ take n after; had = old.had + length (take n after) } → HasMore told old new n
one_more told old new buf after n fits same some room bytes inside is =
    let size : length (take n after) ≡ n = omega (arith, length-take n after, same, fits) in
    record {
      piece = take n after;
      size = size;
      unread = ap (λ (w : WindowOf). w.unread) is;
      come = record {
        had = ap (λ (w : WindowOf). w.had) is;
        read = λ front len read. record {
          few = omega (arith, length-append front (take n after), size, len, room, fits);
          first = λ c e.
              let piece : take n after ≡ take n (drop (length front) c) =
              (piece_is c buf after old.had n (told_is told (λ c. after ≡ filled c old.had n buf) bytes c e) same fits).0
              ∙ ap (λ (k : ℕ). take n (drop k c)) (sym len) in
              let so_far = read.first c e in
              one_piece c front (front ++ take n after) n so_far.0 so_far.1 (ap (λ (l : List ℕ). front ++ l) piece)
              (omega (arith, length-append front (take n after), size));
        };
      };
      bound = let had : new.had ≡ old.had + length (take n after) = ap (λ (w : WindowOf). w.had) is in omega (arith, had, size, room, fits);
      ended = λ z front len read c e.
          let so_far = read.first c e in
          let short : length c ≤ length front = elim (cases_lt old.had (length c)) [
            | inl lt ↦ absurd (let p = told_is told (λ c. old.had < length c → 0 < length buf → 0 < n) inside c e lt some in omega (arith, p, z))
            | inr le ↦ omega (arith, le, len)
          ] in
          let whole : front ≡ c = so_far.1 ∙ take_all (length front) c short in
          whole ∙ sym (take_all 1073741824 c (omega (arith, short, read.few)));
    }

pub one_more_at : (told : Option (List ℕ)) (old new : WindowOf) (buf after : List ℕ) (n at : ℕ) → at ≡ old.had → n ≤ length buf
    → length after ≡ length buf → 0 < length buf → old.had + length buf ≤ 1073741824
    → IfTold told (λ c. after ≡ filled c at n buf) → IfTold told (λ c. at < length c → 0 < length buf → 0 < n)
    → new ≡ record { unread = old.unread ++ take n after; had = old.had + length (take n after) } → HasMore told old new n
one_more_at told old new buf after n at place fits same some room bytes inside is =
    one_more told old new buf after n fits same some room (subst (λ (k : ℕ). IfTold told (λ c. after ≡ filled c k n buf)) place bytes)
    (subst (λ (k : ℕ). IfTold told (λ c. k < length c → 0 < length buf → 0 < n)) place inside) is

-- the end is reached where no byte came
pub end_now : (told : Option (List ℕ)) (old new : WindowOf) (n : ℕ) → HasMore told old new n → n ≡ 0 → IsFileEnd told new.had
end_now told old new n more z = subst (IsFileEnd told) (let same : old.had ≡ new.had = omega (arith, more.come.had, more.size, z) in same)
    (more.ended z)

pub not_cut_off : (told : Option (List ℕ)) (had : ℕ) → had < 1073741824 → IsFileEnd told had
    → OfRead told had (λ bytes. Tells told (λ c. false ≡ goes_on c))
not_cut_off told had lt end bytes len read c e =
    let all : bytes ≡ take 1073741824 c = end bytes len read c e in
    sym (le-ltb 1073741824 (length c) (omega (arith, ap length all, length-take 1073741824 c, len, lt)))

pub cut_here : (told : Option (List ℕ)) (had left before now : ℕ) (more : Bool) (result : StreamFault)
    → result ≡ faults.Bad (bad_at had more left kinds.Cut) → IsFileEnd told had
    → OfRead told had (λ bytes. Tells told (λ c. more ≡ goes_on c)) → Stops (λ bad. OfRead told had (IsFileCut told had left bad)) before now result
cut_here told had left before now more result is end on =
    subst (λ (r : StreamFault). Stops (λ bad. OfRead told had (IsFileCut told had left bad)) before now r) (sym is)
    (λ bytes len read. record { more = more; whole = λ c e. (end bytes len read c e, on bytes len read c e); at = refl })

-- ---- what came since

-- these bytes are those that were not used and those that came since
pub record SoFar (told : Option (List ℕ)) (old : WindowOf) (had : ℕ) (all : List ℕ) : Type 0 where
  pub pieces : List ℕ
  pub come : HasCome told old.had had pieces
  pub is : all ≡ old.unread ++ pieces

pub so_first : (told : Option (List ℕ)) (w : WindowOf) (all : List ℕ) → all ≡ w.unread → SoFar told w w.had all
so_first told w all is = record { pieces = []; come = none_come told w.had; is = is ∙ sym (append-nil w.unread) }

pub so_more : (told now : Option (List ℕ)) (old w new : WindowOf) (n : ℕ) (all next : List ℕ) → now ≡ told → SoFar told old w.had all
    → (m : HasMore now w new n) → next ≡ all ++ m.piece → SoFar told old new.had next
so_more told now old w new n all next same so m is = record {
  pieces = so.pieces ++ m.piece;
  come = come_then told old.had w.had new.had so.pieces m.piece so.come
      (subst (λ (t : Option (List ℕ)). HasCome t w.had new.had m.piece) same m.come);
  is = is ∙ ap (λ (l : List ℕ). l ++ m.piece) so.is ∙ append_assoc old.unread so.pieces m.piece;
}

-- the window is that much closer to the limit
pub falls : (told : Option (List ℕ)) (old new : WindowOf) (n had : ℕ) → HasMore told old new n → old.had ≡ had → n ≢ 0
    → 1073741824 - new.had < 1073741824 - had
falls told old new n had m is some = omega (arith, m.come.had, m.size, m.bound, is, some)

-- with more bytes behind
behind : (all unread pieces later : List ℕ) → all ≡ unread ++ pieces → unread ++ (pieces ++ later) ≡ all ++ later
behind all unread pieces later is = sym (append_assoc unread pieces later) ∙ ap (λ (l : List ℕ). l ++ later) (sym is)

-- ---- the number at the front

number_front : (u later : List ℕ) → 8 ≤ length u → number_at (u ++ later) ≡ Ok (number_of (take 8 u), drop 8 u ++ later)
number_front u later enough =
    let long : ltb (length (u ++ later)) 8 ≡ false = le-ltb _ _ (omega (arith, length-append u later, enough)) in
    rw (long, take-append-le 8 u later enough, drop-append-le 8 u later enough) refl

number_short : (u : List ℕ) → length u < 8 → number_at u ≡ Err (record { left = length u; kind = kinds.Cut })
number_short u few = let short : ltb (length u) 8 ≡ true = lt-ltb _ _ few in rw short refl

pub head_took : (told : Option (List ℕ)) (old new : WindowOf) (u field : List ℕ) (had n : ℕ) → SoFar told old had u → 8 ≤ length u → field ≡ take 8 u
    → n ≡ number_of field
    → new ≡ record { unread = drop 8 u; had = had } → TookPieces told number_at old new n
head_took told old new u field had n so enough field_is is new_is = record {
  pieces = so.pieces;
  come = subst (λ (k : ℕ). HasCome told old.had k so.pieces) (sym (ap (λ (w : WindowOf). w.had) new_is)) so.come;
  is = λ later.
      let value : number_of (take 8 u) ≡ n = ap number_of (sym field_is) ∙ sym is in
      let rest : drop 8 u ≡ new.unread = sym (ap (λ (w : WindowOf). w.unread) new_is) in
      ap number_at (behind u old.unread so.pieces later so.is) ∙ number_front u later enough ∙ ap (λ (k : ℕ). read k (drop 8 u ++ later)) value
      ∙ ap (λ (l : List ℕ). read n (l ++ later)) rest;
}
  where
    read : ℕ → List ℕ → Result (ℕ × List ℕ) Fault
    read k l = Ok (k, l)

pub head_cut : (told : Option (List ℕ)) (old : WindowOf) (u : List ℕ) (had left : ℕ) (bad : BadFile) → SoFar told old had u → length u < 8
    → left ≡ length u
    → OfRead told had (IsFileCut told had left bad) → OfRead told old.had (MeetsBadField told number_at old.unread bad)
head_cut told old u had left bad so few is cut =
    meets_cut told number_at old.unread so.pieces old.had had left bad so.come
    (ap number_at (sym so.is) ∙ number_short u few ∙ ap (λ (k : ℕ). failed k) (sym is)) cut
  where
    failed : ℕ → Result (ℕ × List ℕ) Fault
    failed k = Err (record { left = k; kind = kinds.Cut })

-- ---- the number of the transactions

bind_at : {A B : Type 0} (r : Result A Fault) (f : A → Result B Fault) (x : A) → r ≡ Ok x → (r >>= f) ≡ f x
bind_at r f x e = ap (λ (s : Result _ Fault). s >>= f) e

bind_bad : {A B : Type 0} (r : Result A Fault) (f : A → Result B Fault) (d : Fault) → r ≡ Err d → (r >>= f) ≡ Err d
bind_bad r f d e = ap (λ (s : Result _ Fault). s >>= f) e

counting : ℕ → List ℕ → ℕ × List ℕ → Result (ℕ × List ℕ) Fault
counting before bytes n = cond (ltb 1000000 (before + n.0)) (Err (fault kinds.TooMany bytes)) (Ok n)

counts_few : (before n : ℕ) (bytes rest : List ℕ) → before + n ≤ 1000000 → number_at bytes ≡ Ok (n, rest) → count_at before bytes ≡ Ok (n, rest)
unfolding counting
counts_few before n bytes rest few e =
    let f : ltb 1000000 (before + n) ≡ false = le-ltb _ _ few in
    bind_at (number_at bytes) (counting before bytes) (n, rest) e ∙ rw f refl

counts_many : (before n : ℕ) (bytes rest : List ℕ) → 1000000 < before + n → number_at bytes ≡ Ok (n, rest)
    → count_at before bytes ≡ Err (fault kinds.TooMany bytes)
unfolding counting
counts_many before n bytes rest many e =
    let t : ltb 1000000 (before + n) ≡ true = lt-ltb _ _ many in
    bind_at (number_at bytes) (counting before bytes) (n, rest) e ∙ rw t refl

pub count_took : (told : Option (List ℕ)) (old new : WindowOf) (before n : ℕ) → before + n ≤ 1000000 → TookPieces told number_at old new n
    → TookPieces told (count_at before) old new n
count_took told old new before n few t = record {
  pieces = t.pieces;
  come = t.come;
  is = λ later. counts_few before n (old.unread ++ (t.pieces ++ later)) (new.unread ++ later) few (t.is later);
}

pub count_cut : (told : Option (List ℕ)) (before : ℕ) (unread bytes : List ℕ) (bad : BadFile) → MeetsBadField told number_at unread bad bytes
    → MeetsBadField told (count_at before) unread bad bytes
count_cut told before unread bytes bad m = record {
  rest = m.rest;
  more = m.more;
  whole = m.whole;
  first = m.first;
  is = bind_bad (number_at (unread ++ m.rest)) _ m.first m.is;
  at = m.at;
}

pub count_many : (told : Option (List ℕ)) (old new : WindowOf) (before n at : ℕ) (bad : BadFile) → 1000000 < before + n
    → TookPieces told number_at old new n → at + length old.unread ≡ old.had
    → bad ≡ bad_at new.had false (new.had - at) kinds.TooMany → OfRead told old.had (MeetsBadField told (count_at before) old.unread bad)
count_many told old new before n at bad many t place is =
    meets_stop told (count_at before) old.unread t.pieces old.had new.had (new.had - at) kinds.TooMany bad t.come (λ e. absurd (cc))
    (λ later. counts_many before n (old.unread ++ (t.pieces ++ later)) (new.unread ++ later) many (t.is later)
    ∙ ap (λ (k : ℕ). failed k) (let size : length (old.unread ++ (t.pieces ++ later)) ≡ (new.had - at) + length later =
    omega (arith, t.come.had, place, length-append old.unread (t.pieces ++ later), length-append t.pieces later) in size)) is
  where
    failed : ℕ → Result (ℕ × List ℕ) Fault
    failed k = Err (record { left = k; kind = kinds.TooMany })

-- ---- one transaction

-- where the file ends within the transaction
pub record CutAt (bytes : List ℕ) (at : ℕ) : Type 0 where
  pub left : ℕ
  pub is : transaction_at bytes ≡ Err (record { left = left; kind = kinds.Cut })
  pub place : at + left ≡ length bytes

cut_field : (bytes : List ℕ) (field : BadTx) → IsCutAt bytes field → CutAt bytes field.at
cut_field bytes field cut = record {
  left = cut.0.0;
  is = cut.0.1 ∙ ap (λ (k : InputKind). failed k) cut.1;
  place = cut.0.2;
}
  where
    failed : InputKind → Result (FullTx × List ℕ) Fault
    failed k = Err (record { left = cut.0.0; kind = k })

pub cut_some : (bytes : List ℕ) (state : FeedState) (r : Option BadTx) (field : BadTx) → IsGoing state → r ≡ Some field
    → ((bad : BadTx) → state ≡ states.Cut bad → (r ≡ Some bad) × IsCutAt bytes bad) → (state ≡ states.Empty → r ≡ None) → CutAt bytes field.at
cut_some bytes states.Empty r field going is cut empty = let none : r ≡ None = empty refl in absurd (cc)
cut_some bytes (states.Cut bad) r field going is cut empty =
    let k = cut bad refl in
    let first = k.0 in
    let same : bad ≡ field = cc in
    cut_field bytes field (subst (λ (b : BadTx). IsCutAt bytes b) same k.1)
cut_some bytes (states.Failed bad) r field going is cut empty = absurd going
cut_some bytes states.Done r field going is cut empty = absurd going
cut_some bytes states.NoMemory r field going is cut empty = absurd going

pub cut_none : (bytes : List ℕ) → bytes ≡ [] → CutAt bytes 0
cut_none bytes e = subst (λ (b : List ℕ). CutAt b 0) (sym e) (record { left = 0; is = nothing_read; place = refl })

pub tx_cut : (told : Option (List ℕ)) (bytes : List ℕ) (had start at : ℕ) (bad : BadFile) → CutAt bytes at → start + length bytes ≡ had
    → OfRead told had (IsFileCut told had (had - (start + at)) bad) → OfRead told had (MeetsBadField told transaction_at bytes bad)
tx_cut told bytes had start at bad k place cut =
    let left : k.left ≡ had - (start + at) = omega (arith, k.place, place) in
    meets_cut told transaction_at bytes [] had had (had - (start + at)) bad (none_come told had)
    (ap transaction_at (append-nil bytes) ∙ k.is ∙ ap (λ (n : ℕ). failed n) left) cut
  where
    failed : ℕ → Result (FullTx × List ℕ) Fault
    failed n = Err (record { left = n; kind = kinds.Cut })

pub tx_cut_later : (told : Option (List ℕ)) (old : WindowOf) (had : ℕ) (bytes : List ℕ) (bad : BadFile) → SoFar told old had bytes
    → OfRead told had (MeetsBadField told transaction_at bytes bad)
    → OfRead told old.had (MeetsBadField told transaction_at old.unread bad)
tx_cut_later told old had bytes bad so meets =
    meets_later told transaction_at transaction_at old.unread bytes so.pieces old.had had bad so.come
    (λ later f e. ap transaction_at (behind bytes old.unread so.pieces later so.is) ∙ e) meets

pub tx_took : (told : Option (List ℕ)) (old new : WindowOf) (fed unread : List ℕ) (had taken : ℕ) (tx : FullTx) → SoFar told old had (fed ++ unread)
    → IsSpelledAt (fed ++ unread) 0 (length fed + taken) tx
    → new ≡ record { unread = drop taken unread; had = had } → TookPieces told transaction_at old new tx
tx_took told old new fed unread had taken tx so spelled new_is = record {
  pieces = so.pieces;
  come = subst (λ (k : ℕ). HasCome told old.had k so.pieces) (sym (ap (λ (w : WindowOf). w.had) new_is)) so.come;
  is = λ later.
      let rest : drop (length fed + taken) (fed ++ unread) ≡ new.unread =
      drop-append-add fed unread taken ∙ sym (ap (λ (w : WindowOf). w.unread) new_is) in
      ap transaction_at (behind (fed ++ unread) old.unread so.pieces later so.is) ∙ reads_later (fed ++ unread) (length fed + taken) tx spelled later
      ∙ ap (λ (l : List ℕ). read (l ++ later)) rest;
}
  where
    read : List ℕ → Result (FullTx × List ℕ) Fault
    read l = Ok (tx, l)

pub tx_place : (told : Option (List ℕ)) (old : WindowOf) (all : List ℕ) (had start : ℕ) → SoFar told old had all
    → start + length old.unread ≡ old.had → start + length all ≡ had
tx_place told old all had start so place = omega (arith, place, so.come.had, ap length so.is, length-append old.unread so.pieces)

pub tx_bad : (told : Option (List ℕ)) (old : WindowOf) (all : List ℕ) (had start : ℕ) (field : BadTx) (bad : BadFile) → SoFar told old had all
    → start + length old.unread ≡ old.had → IsBadIn all field
    → bad ≡ bad_at had false (had - (start + field.at)) field.kind → OfRead told old.had (MeetsBadField told transaction_at old.unread bad)
tx_bad told old all had start field bad so place b is =
    let size = tx_place told old all had start so place in
    meets_stop told transaction_at old.unread so.pieces old.had had (had - (start + field.at)) field.kind bad so.come b.kind
    (λ later.
    let k = b.stays later in
    let left : k.0 ≡ (had - (start + field.at)) + length later = omega (arith, k.2, b.first.2, size, length-append all later) in
    ap transaction_at (behind all old.unread so.pieces later so.is) ∙ k.1 ∙ ap (λ (n : ℕ). failed n) left) is
  where
    failed : ℕ → Result (FullTx × List ℕ) Fault
    failed n = Err (record { left = n; kind = field.kind })

-- ---- so many transactions

-- these were read, and the others are read of what is behind
pub record ItemsSoFar (told : Option (List ℕ)) (count i : ℕ) (old new : WindowOf) (txs : List FullTx) : Type 0 where
  pub pieces : List ℕ
  pub come : HasCome told old.had new.had pieces
  pub is : (later : List ℕ) → with_front transaction_at txs (items_at transaction_at (count - i) (new.unread ++ later))
      ≡ items_at transaction_at count (old.unread ++ (pieces ++ later))

pub items_first : (told : Option (List ℕ)) (count : ℕ) (w : WindowOf) (txs : List FullTx) → txs ≡ [] → ItemsSoFar told count 0 w w txs
items_first told count w txs none = record {
  pieces = [];
  come = none_come told w.had;
  is = λ later.
      ap (λ (l : List FullTx). with_front transaction_at l (items_at transaction_at (count - 0) (w.unread ++ later))) none
      ∙ begins transaction_at (items_at transaction_at (count - 0) (w.unread ++ later))
      ∙ ap (λ (k : ℕ). items_at transaction_at k (w.unread ++ later)) (let all : count - 0 ≡ count = omega arith in all);
}

pub items_more : (told now : Option (List ℕ)) (count i : ℕ) (old w new : WindowOf) (txs next : List FullTx) (tx : FullTx) → now ≡ told → i < count
    → ItemsSoFar told count i old w txs
    → TookPieces now transaction_at w new tx → next ≡ txs ++ tx ∷ [] → ItemsSoFar told count (i + 1) old new next
items_more told now count i old w new txs next tx same lt so t is = record {
  pieces = so.pieces ++ t.pieces;
  come = come_then told old.had w.had new.had so.pieces t.pieces so.come
      (subst (λ (k : Option (List ℕ)). HasCome k w.had new.had t.pieces) same t.come);
  is = λ later.
      ap (λ (l : List FullTx). with_front transaction_at l (items_at transaction_at (count - (i + 1)) (new.unread ++ later))) is
      ∙ items_go_on transaction_at txs count i (w.unread ++ (t.pieces ++ later)) tx (new.unread ++ later)
      (items_at transaction_at count (old.unread ++ (so.pieces ++ (t.pieces ++ later)))) lt (t.is later) (so.is (t.pieces ++ later))
      ∙ ap (λ (l : List ℕ). items_at transaction_at count (old.unread ++ l)) (sym (append_assoc so.pieces t.pieces later));
}

pub items_took : (told : Option (List ℕ)) (count i : ℕ) (old new : WindowOf) (txs : List FullTx) → count ≤ i → ItemsSoFar told count i old new txs
    → TookPieces told (items_at transaction_at count) old new txs
items_took told count i old new txs le so = record {
  pieces = so.pieces;
  come = so.come;
  is = λ later. items_done transaction_at txs count i (new.unread ++ later) (items_at transaction_at count (old.unread ++ (so.pieces ++ later))) le
      (so.is later);
}

pub items_bad : (told : Option (List ℕ)) (count i : ℕ) (old new : WindowOf) (txs : List FullTx) (bad : BadFile) → i < count
    → ItemsSoFar told count i old new txs
    → OfRead told new.had (MeetsBadField told transaction_at new.unread bad)
    → OfRead told old.had (MeetsBadField told (items_at transaction_at count) old.unread bad)
items_bad told count i old new txs bad lt so meets =
    meets_later told (items_at transaction_at count) transaction_at old.unread new.unread so.pieces old.had new.had bad so.come
    (λ later f e. items_end transaction_at (errors.Bad f) txs count i (new.unread ++ later)
    (items_at transaction_at count (old.unread ++ (so.pieces ++ later))) lt e (so.is later)) meets

-- ---- behind the last transaction

no_byte : (l : List ℕ) → l ≡ [] → length l ≡ 0
no_byte l e = ap length e

pub goes_on_now : (told : Option (List ℕ)) (w : WindowOf) (bad : BadFile) → 0 < length w.unread
    → bad ≡ bad_at w.had false (length w.unread) kinds.Extra → OfRead told w.had (GoesOn told w.unread bad)
goes_on_now told w bad some is bytes len read =
    let r = rest_of told bytes read in
    let size : w.had - length w.unread ≡ length (bytes ++ r.rest) - length (w.unread ++ r.rest) =
    omega (arith, length-append bytes r.rest, length-append w.unread r.rest, len) in
    record {
      rest = r.rest;
      more = r.more;
      whole = r.whole;
      is = extra_some r.more (w.unread ++ r.rest)
          (λ no_more e. absurd (omega (arith, no_byte (w.unread ++ r.rest) e, length-append w.unread r.rest, some)));
      at = is ∙ bad_same w.had (length (bytes ++ r.rest)) (length w.unread) (length (w.unread ++ r.rest)) false r.more kinds.Extra (λ e. absurd (cc))
          size;
    }

pub goes_on_later : (told now : Option (List ℕ)) (w new : WindowOf) (n : ℕ) (bad : BadFile) → now ≡ told → HasMore told w new n
    → OfRead now new.had (GoesOn now new.unread bad) → OfRead told w.had (GoesOn told w.unread bad)
goes_on_later told now w new n bad same m goes bytes len read =
    let more : length (bytes ++ m.piece) ≡ new.had = omega (arith, length-append bytes m.piece, m.come.had, len) in
    let g = (subst (λ (t : Option (List ℕ)). OfRead t new.had (GoesOn t new.unread bad)) same goes) (bytes ++ m.piece) more
    (m.come.read bytes len read) in
    let all : new.unread ++ g.rest ≡ w.unread ++ (m.piece ++ g.rest) =
    ap (λ (l : List ℕ). l ++ g.rest) m.unread ∙ append_assoc w.unread m.piece g.rest in
    record {
      rest = m.piece ++ g.rest;
      more = g.more;
      whole = λ c e. (sym (append_assoc bytes m.piece g.rest) ∙ (g.whole c e).0, (g.whole c e).1);
      is = subst (λ (l : List ℕ). Some (fault kinds.Extra l) ≡ extra g.more l) all g.is;
      at = g.at ∙ ap (λ (l : List ℕ). bad_at (length l) g.more (length (new.unread ++ g.rest)) kinds.Extra) (append_assoc bytes m.piece g.rest)
          ∙ ap (λ (l : List ℕ). bad_at (length (bytes ++ (m.piece ++ g.rest))) g.more (length l) kinds.Extra) all;
    }

pub goes_on_past : (told : Option (List ℕ)) (w : WindowOf) (bad : BadFile) → IsFileEnd told w.had
    → OfRead told w.had (λ bytes. Tells told (λ c. true ≡ goes_on c))
    → bad ≡ bad_at w.had true (length w.unread) kinds.Extra → OfRead told w.had (GoesOn told w.unread bad)
goes_on_past told w bad end on is bytes len read = record {
  rest = [];
  more = true;
  whole = λ c e. (append-nil bytes ∙ end bytes len read c e, on bytes len read c e);
  is = refl;
  at = is ∙ ap (λ (n : ℕ). bad_at n true (length w.unread) kinds.Extra)
      (let same : w.had ≡ length (bytes ++ []) = omega (arith, length-append bytes [], len) in same)
      ∙ ap (λ (l : List ℕ). bad_at (length (bytes ++ [])) true (length l) kinds.Extra) (sym (append-nil w.unread));
}

-- ---- the whole file

counted : ℕ → List ℕ → ℕ × List ℕ → Result (List FullTx × List ℕ) Fault
counted before bytes n = cond (ltb 1000000 (before + n.0)) (Err (fault kinds.TooMany bytes)) (items_at transaction_at n.0 n.1)

counted_is : (before : ℕ) (bytes : List ℕ) → counted_behind before bytes ≡ (count_at before bytes >>= λ n. items_at transaction_at n.0 n.1)
unfolding counted_behind
counted_is before bytes = go (number_at bytes)
  where
    kept : (b : Bool) (n : ℕ × List ℕ) → cond b (Err (fault kinds.TooMany bytes)) (items_at transaction_at n.0 n.1)
        ≡ (cond b (Err (fault kinds.TooMany bytes)) (Ok n) >>= λ n. items_at transaction_at n.0 n.1)
    kept true n = refl
    kept false n = refl

    go : (r : Result (ℕ × List ℕ) Fault) → (r >>= λ n. cond (ltb 1000000 (before + n.0)) (Err (fault kinds.TooMany bytes))
        (items_at transaction_at n.0 n.1))
        ≡ ((r >>= λ n. cond (ltb 1000000 (before + n.0)) (Err (fault kinds.TooMany bytes)) (Ok n)) >>= λ n. items_at transaction_at n.0 n.1)
    go (Ok n) = kept (ltb 1000000 (before + n.0)) n
    go (Err f) = refl

starts : (told : Option (List ℕ)) → HasRead told []
starts told = record { few = omega arith; first = λ c e. (omega arith, refl) }

pub whole_took : (told now : Option (List ℕ)) (before n : ℕ) (old mid new : WindowOf) (txs : List FullTx) → now ≡ told
    → TookPieces told (count_at before) old mid n → TookPieces now (items_at transaction_at n) mid new txs
    → TookPieces told (counted_behind before) old new txs
whole_took told now before n old mid new txs same a b = record {
  pieces = a.pieces ++ b.pieces;
  come = come_then told old.had mid.had new.had a.pieces b.pieces a.come
      (subst (λ (t : Option (List ℕ)). HasCome t mid.had new.had b.pieces) same b.come);
  is = λ later.
      ap (λ (l : List ℕ). counted_behind before (old.unread ++ l)) (append_assoc a.pieces b.pieces later)
      ∙ counted_is before (old.unread ++ (a.pieces ++ (b.pieces ++ later)))
      ∙ bind_at (count_at before (old.unread ++ (a.pieces ++ (b.pieces ++ later)))) (λ n. items_at transaction_at n.0 n.1)
      (n, mid.unread ++ (b.pieces ++ later)) (a.is (b.pieces ++ later)) ∙ b.is later;
}

pub holds_all : (told now : Option (List ℕ)) (before : ℕ) (old new : WindowOf) (txs : List FullTx) → now ≡ told
    → old ≡ record { unread = []; had = 0 } → TookPieces told (counted_behind before) old new txs → new.unread ≡ []
    → OfRead now new.had (λ bytes. Tells now (λ c. (bytes ≡ front c) × (false ≡ goes_on c))) → FileHolds told before (Ok txs)
holds_all told now before old new txs same first t used whole =
    let had : 0 ≡ old.had = sym (ap (λ (w : WindowOf). w.had) first) in
    let none : old.unread ≡ [] = ap (λ (w : WindowOf). w.unread) first in
    let size : length t.pieces ≡ new.had = omega (arith, t.come.had, had) in
    let all : counted_behind before t.pieces ≡ Ok (txs, []) =
    ap (counted_behind before) (sym (append-nil t.pieces) ∙ ap (λ (l : List ℕ). l ++ (t.pieces ++ [])) (sym none)) ∙ t.is []
    ∙ ap (λ (l : List ℕ). read (l ++ [])) used in
    record {
      bytes = t.pieces;
      more = false;
      whole = (subst (λ (k : Option (List ℕ)). OfRead k new.had (λ bytes. Tells k (λ c. (bytes ≡ front c) × (false ≡ goes_on c)))) same whole)
          t.pieces size (t.come.read [] had (starts told));
      is = file_ok (length t.pieces) false (counted_behind before t.pieces) txs [] all refl;
    }
  where
    read : List ℕ → Result (List FullTx × List ℕ) Fault
    read l = Ok (txs, l)

pub holds_bad : (told : Option (List ℕ)) (before : ℕ) (old : WindowOf) (bad : BadFile) → old ≡ record { unread = []; had = 0 }
    → OfRead told old.had (MeetsBadField told (counted_behind before) old.unread bad) → FileHolds told before (Err bad)
holds_bad told before old bad first meets =
    let had : 0 ≡ old.had = sym (ap (λ (w : WindowOf). w.had) first) in
    let none : old.unread ≡ [] = ap (λ (w : WindowOf). w.unread) first in
    let m = meets [] had (starts told) in
    record {
      bytes = m.rest;
      more = m.more;
      whole = m.whole;
      is = file_fault (length m.rest) m.more (counted_behind before m.rest) m.first
          (ap (λ (l : List ℕ). counted_behind before (l ++ m.rest)) (sym none) ∙ m.is) ∙ ap (λ (b : BadFile). told_bad b) (sym m.at);
    }
  where
    told_bad : BadFile → Result (List FullTx) BadFile
    told_bad b = Err b

pub count_bad : (told : Option (List ℕ)) (before : ℕ) (unread bytes : List ℕ) (bad : BadFile) → MeetsBadField told (count_at before) unread bad bytes
    → MeetsBadField told (counted_behind before) unread bad bytes
count_bad told before unread bytes bad m = record {
  rest = m.rest;
  more = m.more;
  whole = m.whole;
  first = m.first;
  is = counted_is before (unread ++ m.rest) ∙ bind_bad (count_at before (unread ++ m.rest)) (λ n. items_at transaction_at n.0 n.1) m.first m.is;
  at = m.at;
}

pub whole_bad : (told now : Option (List ℕ)) (before n : ℕ) (old mid : WindowOf) (bad : BadFile) → now ≡ told
    → TookPieces told (count_at before) old mid n → OfRead now mid.had (MeetsBadField now (items_at transaction_at n) mid.unread bad)
    → OfRead told old.had (MeetsBadField told (counted_behind before) old.unread bad)
whole_bad told now before n old mid bad same a meets =
    meets_later told (counted_behind before) (items_at transaction_at n) old.unread mid.unread a.pieces old.had mid.had bad a.come
    (λ later f e. counted_is before (old.unread ++ (a.pieces ++ later))
    ∙ bind_at (count_at before (old.unread ++ (a.pieces ++ later))) (λ n. items_at transaction_at n.0 n.1) (n, mid.unread ++ later) (a.is later)
    ∙ e)
    (subst (λ (t : Option (List ℕ)). OfRead t mid.had (MeetsBadField t (items_at transaction_at n) mid.unread bad)) same meets)

pub holds_extra : (told now : Option (List ℕ)) (before : ℕ) (old new : WindowOf) (txs : List FullTx) (bad : BadFile) → now ≡ told
    → old ≡ record { unread = []; had = 0 } → TookPieces told (counted_behind before) old new txs
    → OfRead now new.had (GoesOn now new.unread bad) → FileHolds told before (Err bad)
holds_extra told now before old new txs bad same first t goes =
    let had : 0 ≡ old.had = sym (ap (λ (w : WindowOf). w.had) first) in
    let none : old.unread ≡ [] = ap (λ (w : WindowOf). w.unread) first in
    let size : length t.pieces ≡ new.had = omega (arith, t.come.had, had) in
    let g = (subst (λ (k : Option (List ℕ)). OfRead k new.had (GoesOn k new.unread bad)) same goes) t.pieces size (t.come.read [] had (starts told))
    in
    record {
      bytes = t.pieces ++ g.rest;
      more = g.more;
      whole = g.whole;
      is = file_extra (length (t.pieces ++ g.rest)) g.more (counted_behind before (t.pieces ++ g.rest)) txs (new.unread ++ g.rest)
          (fault kinds.Extra (new.unread ++ g.rest))
          (ap (λ (l : List ℕ). counted_behind before (l ++ (t.pieces ++ g.rest))) (sym none) ∙ t.is g.rest) g.is
          ∙ ap (λ (b : BadFile). told_bad b) (sym g.at);
    }
  where
    told_bad : BadFile → Result (List FullTx) BadFile
    told_bad b = Err b

-- ---- as the functions meet them

pub stop_bad : (P : BadFile → Type 0) (before now : ℕ) (result : StreamFault) (bad : BadFile) → result ≡ faults.Bad bad → P bad
    → Stops P before now result
stop_bad P before now result bad is p = subst (λ (r : StreamFault). Stops P before now r) (sym is) p

pub end_for : (told now : Option (List ℕ)) (old new : WindowOf) (n had : ℕ) → now ≡ told → had ≡ new.had → HasMore told old new n → n ≡ 0
    → IsFileEnd now had
end_for told now old new n had same is more z = subst (λ (t : Option (List ℕ)). IsFileEnd t had) (sym same)
    (subst (IsFileEnd told) (sym is) (end_now told old new n more z))

pub head_cut_at : (told last : Option (List ℕ)) (old new : WindowOf) (had place : ℕ) (bad : BadFile) → last ≡ told → had ≡ new.had
    → place + length new.unread ≡ new.had → SoFar told old new.had new.unread
    → length new.unread < 8 → OfRead last had (IsFileCut last had (had - place) bad)
    → OfRead told old.had (MeetsBadField told number_at old.unread bad)
head_cut_at told last old new had place bad same is at so few cut =
    head_cut told old new.unread new.had (new.had - place) bad so few (omega (arith, at))
    (subst (λ (k : ℕ). OfRead told k (IsFileCut told k (k - place) bad)) is
    (subst (λ (t : Option (List ℕ)). OfRead t had (IsFileCut t had (had - place) bad)) same cut))

pub so_at : (told : Option (List ℕ)) (old : WindowOf) (had last : ℕ) (all next : List ℕ) → last ≡ had → next ≡ all → SoFar told old had all
    → SoFar told old last next
so_at told old had last all next same is so = subst (λ (k : ℕ). SoFar told old k next) (sym same) (subst (SoFar told old had) (sym is) so)

pub cut_on : (told now : Option (List ℕ)) (had last : ℕ) (b v : Bool) → now ≡ told → had ≡ last → b ≡ v → IsFileEnd told last
    → (IsFileEnd now had → OfRead now had (λ bytes. Tells now (λ c. b ≡ goes_on c)))
    → OfRead told last (λ bytes. Tells told (λ c. v ≡ goes_on c))
cut_on told now had last b v same is value end on =
    let ended : IsFileEnd now had = subst (λ (t : Option (List ℕ)). IsFileEnd t had) (sym same) (subst (IsFileEnd told) (sym is) end) in
    let here : OfRead told last (λ bytes. Tells told (λ c. b ≡ goes_on c)) =
    subst (λ (k : ℕ). OfRead told k (λ bytes. Tells told (λ c. b ≡ goes_on c))) is
    (subst (λ (t : Option (List ℕ)). OfRead t had (λ bytes. Tells t (λ c. b ≡ goes_on c))) same (on ended)) in
    λ bytes len read c e. sym value ∙ here bytes len read c e

pub whole_now : (told : Option (List ℕ)) (w new : WindowOf) (n : ℕ) → HasMore told w new n → n ≡ 0
    → OfRead told new.had (λ bytes. Tells told (λ c. false ≡ goes_on c))
    → OfRead told w.had (λ bytes. Tells told (λ c. (bytes ≡ front c) × (false ≡ goes_on c)))
whole_now told w new n m z short bytes len read c e =
    (m.ended z bytes len read c e, short bytes (omega (arith, len, m.come.had, m.size, z)) read c e)

pub no_bytes : (l : List ℕ) → length l ≡ 0 → l ≡ []
no_bytes [] e = refl
no_bytes (x ∷ l) e = absurd (omega (arith, e))

pub some_bytes : (b : Bool) (n : ℕ) → b ≡ (n == 0) → b ≡ false → 0 < n
some_bytes b zero is e = absurd (let t : (0 == 0) ≡ true = refl in cc)
some_bytes b (suc n) is e = omega arith

pub of_same : (told now : Option (List ℕ)) (w : WindowOf) (bad : BadFile) → now ≡ told
    → OfRead now w.had (MeetsBadField now transaction_at w.unread bad) → OfRead told w.had (MeetsBadField told transaction_at w.unread bad)
of_same told now w bad same meets = subst (λ (t : Option (List ℕ)). OfRead t w.had (MeetsBadField t transaction_at w.unread bad)) same meets
