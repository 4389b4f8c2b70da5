-- Records: what is read of a body is spelled so, and what is spelled so is read again, whatever follows.
use Rattle.std.proofs.Common.{◌≡◌, ℕ, ◌^◌, ◌<◌, ◌≤◌, Bool, true, false, ◌&&◌, cond, eqb, leb, inl, inr, List, [], ◌∷◌, ◌++◌, length, Result, Ok, Err}
use Rattle.std.proofs.Common.{refl, sym, ap, subst, ◌∙◌, append_assoc, arith, bytes_eq}
use Rattle.std.proofs.lemmas.Bool.{eqb-true, eq-eqb, leb-true, le-leb}
use Rattle.std.proofs.lemmas.Slice.Eq.{bytes_eq-Decides}
use Rattle.cbdc_types.specs.Limits.{ShapeOf, IsWithinLimits}
use Rattle.base_types.specs.declared.ids.BatchId.{BatchId}
use Rattle.cbdc_types.specs.declared.tx.CompactTx.{CompactTx}
use Rattle.cbdc_types.specs.declared.batch.Answered.{Answered}
use Rattle.cbdc_types.specs.declared.batch.Outcome.{Outcome}
use Rattle.cbdc_types.specs.declared.record.Header.{Header}
use Rattle.cbdc_types.specs.declared.record.Record.{Record}
use Rattle.cbdc_types.specs.declared.record.Record.TheVariants.{Genesis, Lock, Finish, Forget, Start, Prepare, Commit, Discard, Done}
use Rattle.cbdc_types.specs.declared.record.Record.TheVariants.{Upgrade, Carry, CarryStart, Seal}
use Rattle.base_types.specs.declared.faults.InputKind.TheVariants.{Form}
use Rattle.cbdc_model.specs.Records.{kind_of}
use Rattle.byte_fields.specs.declared.fault.Fault.{Fault}
use Rattle.byte_fields.specs.Faults.{fault, IsBytes}
use Rattle.byte_spelling.specs.Spelling.{number, counted, FitsNumber, FitsHash, FitsList}
use Rattle.byte_fields.specs.Reading.{field_at, number_at, hash_at, list_at}
use Rattle.byte_fields.specs.Records.{hashes, batch_bytes, compact_bytes, answered_bytes, outcome_bytes, decision_bytes, small_at, batch_at}
use Rattle.byte_fields.specs.Records.{compact_at, answered_at, outcome_field_at, decision_at}
use Rattle.byte_fields.proofs.Fields.{IsRead, Takes, read_of, field_item}
use Rattle.byte_fields.proofs.Lists.{list_read}
use Rattle.byte_fields.proofs.Readers.{one_read, two_read, three_read, four_read, tested_read, refits, respells, chosen}
use Rattle.byte_fields.proofs.Parts.{FitsByte, FitsSmall, FitsBatch, FitsCompact, FitsAnswered, FitsOutcome, FitsDecision, number_read, hash_read}
use Rattle.byte_fields.proofs.Parts.{small_read, batch_read, compact_read, answered_read, outcome_read, decision_read, tagged_read}
use Rattle.record_log.specs.declared.reading.Head.{Head}
use Rattle.record_log.specs.Bodies.{magic, header_bytes, body_of}
use Rattle.record_log.specs.Reading.{is_from_one_to, is_shape, magic_at, sizes_at, shape_at, header_at, zero_at, head_at, genesis_at, lock_at}
use Rattle.record_log.specs.Reading.{finish_at, forget_at, start_at, prepare_at, commit_at, discard_at, done_at, body_at}

-- ---- what fits its fields

pub record FitsHeader (h : Header) : Type 0 where
  pub node : h.node < 2 ^ 32
  pub shape : IsWithinLimits h.shape
  pub genesis : FitsHash h.genesis

pub record FitsHead (h : Head) : Type 0 where
  pub stamp : h.stamp < 2 ^ 64
  pub batch : FitsBatch h.batch

abbrev pub FitsRecord : Record → Type 0
FitsRecord (Genesis h hs) = FitsHeader h × FitsList 1000000 FitsHash hs
FitsRecord (Lock stamp b es) = FitsHead (record { stamp = stamp; batch = b }) × FitsList 1024 FitsAnswered es
FitsRecord (Finish stamp b ds) = FitsHead (record { stamp = stamp; batch = b }) × FitsList 1024 FitsDecision ds
FitsRecord (Forget stamp b) = FitsHead (record { stamp = stamp; batch = b })
FitsRecord (Start h) = FitsHeader h
FitsRecord (Prepare stamp b txs) = FitsHead (record { stamp = stamp; batch = b }) × FitsList 1024 FitsCompact txs
FitsRecord (Commit stamp b os) = FitsHead (record { stamp = stamp; batch = b }) × FitsList 1024 FitsOutcome os
FitsRecord (Discard stamp b) = FitsHead (record { stamp = stamp; batch = b })
FitsRecord (Done stamp b) = FitsHead (record { stamp = stamp; batch = b })
FitsRecord (Upgrade stamp batch) = ⊥
FitsRecord (Carry stamp h source hs numbers) = ⊥
FitsRecord (CarryStart stamp h source numbers) = ⊥
FitsRecord (Seal stamp to shards) = ⊥

-- ---- headers

eight_read : IsRead (field_at 8 (λ b. b)) (λ b. b) (λ b. length b ≡ 8)
eight_read = read_of (field_at 8 (λ b. b)) (λ b. b) (λ b. length b ≡ 8)
    (field_item 8 (λ b. b) (λ b. b) (λ b. length b ≡ 8) (λ b len fits. (refl, len)) (λ b len. (len, refl)))

abbrev IsMagic : List ℕ → Type 0
IsMagic m = m ≡ magic

magic_read : IsRead magic_at (λ m. magic) IsMagic
unfolding magic_at
magic_read = respells magic_at (λ m. m) (λ m. magic) IsMagic
    (refits magic_at (λ m. m) (λ m. (length m ≡ 8) × (bytes_eq m magic ≡ true)) IsMagic
    (tested_read (field_at 8 (λ b. b)) (λ b. b) (λ b. length b ≡ 8) eight_read (λ m. bytes_eq m magic) Form)
    (λ m fits. (bytes_eq-Decides m magic).0 fits.1)
    (λ m is. (ap length is, (bytes_eq-Decides m magic).1 is)))
    (λ m is. is)

both : (a b : Bool) → (a && b) ≡ true → (a ≡ true) × (b ≡ true)
both true b e = (refl, e)
both false b e = absurd (cc)

within : (limit n : ℕ) → is_from_one_to limit n ≡ true → (1 ≤ n) × (n ≤ limit)
within limit n e = let p = both (leb 1 n) (leb n limit) e in (leb-true 1 n p.0, leb-true n limit p.1)

is_within : (limit n : ℕ) → 1 ≤ n → n ≤ limit → is_from_one_to limit n ≡ true
is_within limit n some few = rw (le-leb 1 n some, le-leb n limit few) refl

sizes_is : ℕ → ℕ → ℕ → ℕ → ShapeOf
sizes_is shards coordinators lanes batch = record { shards = shards; coordinators = coordinators; lanes = lanes; batch = batch }

abbrev shape_text : ShapeOf → List ℕ
shape_text s = number s.shards ++ (number s.coordinators ++ (number s.lanes ++ number s.batch))

abbrev FitsSizes : ShapeOf → Type 0
FitsSizes s = FitsSmall s.shards × FitsSmall s.coordinators × FitsSmall s.lanes × FitsSmall s.batch

sizes_read : IsRead sizes_at shape_text FitsSizes
unfolding sizes_at sizes_is
sizes_read = four_read small_at number FitsSmall small_read small_at number FitsSmall small_read small_at number FitsSmall small_read small_at number
    FitsSmall small_read sizes_is shape_text FitsSizes
    (λ s c l b. refl)
    (λ s c l b p q r t. (p, q, r, t))
    (λ s fits. (s.shards, s.coordinators, s.lanes, s.batch, fits.0, fits.1, fits.2, fits.3, refl))

shape_within : (s : ShapeOf) → is_shape s ≡ true → IsWithinLimits s
shape_within s e =
    let a = both (is_from_one_to 64 s.shards) (is_from_one_to 16 s.coordinators && (is_from_one_to 16 s.lanes && is_from_one_to 1024 s.batch)) e in
    let b = both (is_from_one_to 16 s.coordinators) (is_from_one_to 16 s.lanes && is_from_one_to 1024 s.batch) a.1 in
    let c = both (is_from_one_to 16 s.lanes) (is_from_one_to 1024 s.batch) b.1 in
    let p = within 64 s.shards a.0 in
    let q = within 16 s.coordinators b.0 in
    let r = within 16 s.lanes c.0 in
    let t = within 1024 s.batch c.1 in
    record { some_shard = p.0; shards = p.1; some_coordinator = q.0; coordinators = q.1; some_lane = r.0; lanes = r.1; some_batch = t.0; batch = t.1 }

shape_is : (s : ShapeOf) → IsWithinLimits s → is_shape s ≡ true
shape_is s l = rw (
  is_within 64 s.shards l.some_shard l.shards,
  is_within 16 s.coordinators l.some_coordinator l.coordinators,
  is_within 16 s.lanes l.some_lane l.lanes,
  is_within 1024 s.batch l.some_batch l.batch,
) refl

shape_fits : (s : ShapeOf) → IsWithinLimits s → FitsSizes s
shape_fits s l = (omega (arith, l.shards), omega (arith, l.coordinators), omega (arith, l.lanes), omega (arith, l.batch))

shape_read : IsRead shape_at shape_text IsWithinLimits
unfolding shape_at
shape_read = refits shape_at shape_text (λ s. FitsSizes s × (is_shape s ≡ true)) IsWithinLimits
    (tested_read sizes_at shape_text FitsSizes sizes_read is_shape Form)
    (λ s fits. shape_within s fits.1)
    (λ s l. (shape_fits s l, shape_is s l))

header_is : List ℕ → ℕ → ShapeOf → List ℕ → Header
header_is m node shape genesis = record { node = node; shape = shape; genesis = genesis }

header_read : IsRead header_at header_bytes FitsHeader
unfolding header_at header_is
header_read = four_read magic_at (λ m. magic) IsMagic magic_read small_at number FitsSmall small_read shape_at shape_text IsWithinLimits shape_read
    hash_at (λ h. h) FitsHash hash_read header_is header_bytes FitsHeader
    (λ m node s id. simp append_assoc)
    (λ m node s id a b c d. record { node = b; shape = c; genesis = d })
    (λ h fits. (magic, h.node, h.shape, h.genesis, refl, fits.node, fits.shape, fits.genesis, refl))

-- ---- stamps and batches

abbrev IsZero : ℕ → Type 0
IsZero n = n ≡ 0

zero_read : IsRead zero_at (λ n. number 0) IsZero
unfolding zero_at
zero_read = respells zero_at number (λ n. number 0) IsZero
    (refits zero_at number (λ n. FitsNumber n × (eqb n 0 ≡ true)) IsZero
    (tested_read number_at number FitsNumber number_read (λ n. eqb n 0) Form)
    (λ n fits. eqb-true n 0 fits.1)
    (λ n is. (omega (arith, is), eq-eqb n 0 is)))
    (λ n is. ap number is)

head_is : ℕ → BatchId → Head
head_is stamp b = record { stamp = stamp; batch = b }

abbrev head_text : Head → List ℕ
head_text h = number h.stamp ++ batch_bytes h.batch

head_read : IsRead head_at head_text FitsHead
unfolding head_at head_is
head_read = two_read number_at number FitsNumber number_read batch_at batch_bytes FitsBatch batch_read head_is head_text FitsHead
    (λ stamp b. refl)
    (λ stamp b p q. record { stamp = p; batch = q })
    (λ h fits. (h.stamp, h.batch, fits.stamp, fits.batch, refl))

-- ---- lists

pub minted_read : IsRead (list_at 1000000 hash_at) hashes (FitsList 1000000 FitsHash)
minted_read = list_read hash_at (λ h. h) FitsHash hash_read 1000000 (omega arith)

pub entries_read : IsRead (list_at 1024 answered_at) (counted answered_bytes) (FitsList 1024 FitsAnswered)
entries_read = list_read answered_at answered_bytes FitsAnswered answered_read 1024 (omega arith)

pub decisions_read : IsRead (list_at 1024 decision_at) (counted decision_bytes) (FitsList 1024 FitsDecision)
decisions_read = list_read decision_at decision_bytes FitsDecision decision_read 1024 (omega arith)

pub txs_read : IsRead (list_at 1024 compact_at) (counted compact_bytes) (FitsList 1024 FitsCompact)
txs_read = list_read compact_at compact_bytes FitsCompact compact_read 1024 (omega arith)

pub outcomes_read : IsRead (list_at 1024 outcome_field_at) (counted outcome_bytes) (FitsList 1024 FitsOutcome)
outcomes_read = list_read outcome_field_at outcome_bytes FitsOutcome outcome_read 1024 (omega arith)

-- ---- each kind, behind its first byte

-- what stands behind a record's first byte
abbrev record_rest : Record → List ℕ
record_rest (Genesis h hs) = (number 0 ++ header_bytes h) ++ hashes hs
record_rest (Lock stamp b es) = (number stamp ++ batch_bytes b) ++ counted answered_bytes es
record_rest (Finish stamp b ds) = (number stamp ++ batch_bytes b) ++ counted decision_bytes ds
record_rest (Forget stamp b) = number stamp ++ batch_bytes b
record_rest (Start h) = number 0 ++ header_bytes h
record_rest (Prepare stamp b txs) = (number stamp ++ batch_bytes b) ++ counted compact_bytes txs
record_rest (Commit stamp b os) = (number stamp ++ batch_bytes b) ++ counted outcome_bytes os
record_rest (Discard stamp b) = number stamp ++ batch_bytes b
record_rest (Done stamp b) = number stamp ++ batch_bytes b
record_rest (Upgrade stamp batch) = []
record_rest (Carry stamp h source hs numbers) = []
record_rest (CarryStart stamp h source numbers) = []
record_rest (Seal stamp to shards) = []

abbrev IsGenesis : Record → Type 0
IsGenesis r = (z : ℕ) × (h : Header) × (hs : List (List ℕ)) × IsZero z × FitsHeader h × FitsList 1000000 FitsHash hs × (Genesis h hs ≡ r)

genesis_read : IsRead genesis_at record_rest IsGenesis
unfolding genesis_at
genesis_read = three_read zero_at (λ n. number 0) IsZero zero_read header_at header_bytes FitsHeader header_read (list_at 1000000 hash_at) hashes
    (FitsList 1000000 FitsHash) minted_read (λ z h hs. Genesis h hs) record_rest IsGenesis
    (λ z h hs. sym (append_assoc (number 0) (header_bytes h) (hashes hs)))
    (λ z h hs a b c. (z, h, hs, a, b, c, refl))
    (λ r is. is)

abbrev IsStart : Record → Type 0
IsStart r = (z : ℕ) × (h : Header) × IsZero z × FitsHeader h × (Start h ≡ r)

start_read : IsRead start_at record_rest IsStart
unfolding start_at
start_read = two_read zero_at (λ n. number 0) IsZero zero_read header_at header_bytes FitsHeader header_read (λ z h. Start h) record_rest IsStart
    (λ z h. refl)
    (λ z h a b. (z, h, a, b, refl))
    (λ r is. is)

abbrev IsLock : Record → Type 0
IsLock r = (h : Head) × (xs : List Answered) × FitsHead h × FitsList 1024 FitsAnswered xs × (Lock h.stamp h.batch xs ≡ r)

lock_read : IsRead lock_at record_rest IsLock
unfolding lock_at
lock_read = two_read head_at head_text FitsHead head_read (list_at 1024 answered_at) (counted answered_bytes) (FitsList 1024 FitsAnswered)
    entries_read (λ h xs. Lock h.stamp h.batch xs) record_rest IsLock
    (λ h xs. refl)
    (λ h xs a b. (h, xs, a, b, refl))
    (λ r is. is)

abbrev IsFinish : Record → Type 0
IsFinish r = (h : Head) × (xs : List Bool) × FitsHead h × FitsList 1024 FitsDecision xs × (Finish h.stamp h.batch xs ≡ r)

finish_read : IsRead finish_at record_rest IsFinish
unfolding finish_at
finish_read = two_read head_at head_text FitsHead head_read (list_at 1024 decision_at) (counted decision_bytes) (FitsList 1024 FitsDecision)
    decisions_read (λ h xs. Finish h.stamp h.batch xs) record_rest IsFinish
    (λ h xs. refl)
    (λ h xs a b. (h, xs, a, b, refl))
    (λ r is. is)

abbrev IsPrepare : Record → Type 0
IsPrepare r = (h : Head) × (xs : List CompactTx) × FitsHead h × FitsList 1024 FitsCompact xs × (Prepare h.stamp h.batch xs ≡ r)

prepare_read : IsRead prepare_at record_rest IsPrepare
unfolding prepare_at
prepare_read = two_read head_at head_text FitsHead head_read (list_at 1024 compact_at) (counted compact_bytes) (FitsList 1024 FitsCompact) txs_read
    (λ h xs. Prepare h.stamp h.batch xs) record_rest IsPrepare
    (λ h xs. refl)
    (λ h xs a b. (h, xs, a, b, refl))
    (λ r is. is)

abbrev IsCommit : Record → Type 0
IsCommit r = (h : Head) × (xs : List Outcome) × FitsHead h × FitsList 1024 FitsOutcome xs × (Commit h.stamp h.batch xs ≡ r)

commit_read : IsRead commit_at record_rest IsCommit
unfolding commit_at
commit_read = two_read head_at head_text FitsHead head_read (list_at 1024 outcome_field_at) (counted outcome_bytes) (FitsList 1024 FitsOutcome)
    outcomes_read (λ h xs. Commit h.stamp h.batch xs) record_rest IsCommit
    (λ h xs. refl)
    (λ h xs a b. (h, xs, a, b, refl))
    (λ r is. is)

abbrev IsForget : Record → Type 0
IsForget r = (h : Head) × FitsHead h × (Forget h.stamp h.batch ≡ r)

forget_read : IsRead forget_at record_rest IsForget
unfolding forget_at
forget_read = one_read head_at head_text FitsHead head_read (λ h. Forget h.stamp h.batch) record_rest IsForget
    (λ h. refl)
    (λ h a. (h, a, refl))
    (λ r is. is)

abbrev IsDiscard : Record → Type 0
IsDiscard r = (h : Head) × FitsHead h × (Discard h.stamp h.batch ≡ r)

discard_read : IsRead discard_at record_rest IsDiscard
unfolding discard_at
discard_read = one_read head_at head_text FitsHead head_read (λ h. Discard h.stamp h.batch) record_rest IsDiscard
    (λ h. refl)
    (λ h a. (h, a, refl))
    (λ r is. is)

abbrev IsDone : Record → Type 0
IsDone r = (h : Head) × FitsHead h × (Done h.stamp h.batch ≡ r)

done_read : IsRead done_at record_rest IsDone
unfolding done_at
done_read = one_read head_at head_text FitsHead head_read (λ h. Done h.stamp h.batch) record_rest IsDone
    (λ h. refl)
    (λ h a. (h, a, refl))
    (λ r is. is)

-- ---- the whole body

abbrev from_9 : List ℕ → ℕ → List ℕ → Result (Record × List ℕ) Fault
from_9 whole t bytes = cond (eqb t 9) (done_at bytes) (Err (fault Form whole))

abbrev from_8 : List ℕ → ℕ → List ℕ → Result (Record × List ℕ) Fault
from_8 whole t bytes = cond (eqb t 8) (discard_at bytes) (from_9 whole t bytes)

abbrev from_7 : List ℕ → ℕ → List ℕ → Result (Record × List ℕ) Fault
from_7 whole t bytes = cond (eqb t 7) (commit_at bytes) (from_8 whole t bytes)

abbrev from_6 : List ℕ → ℕ → List ℕ → Result (Record × List ℕ) Fault
from_6 whole t bytes = cond (eqb t 6) (prepare_at bytes) (from_7 whole t bytes)

abbrev from_5 : List ℕ → ℕ → List ℕ → Result (Record × List ℕ) Fault
from_5 whole t bytes = cond (eqb t 5) (start_at bytes) (from_6 whole t bytes)

abbrev from_4 : List ℕ → ℕ → List ℕ → Result (Record × List ℕ) Fault
from_4 whole t bytes = cond (eqb t 4) (forget_at bytes) (from_5 whole t bytes)

abbrev from_3 : List ℕ → ℕ → List ℕ → Result (Record × List ℕ) Fault
from_3 whole t bytes = cond (eqb t 3) (finish_at bytes) (from_4 whole t bytes)

abbrev from_2 : List ℕ → ℕ → List ℕ → Result (Record × List ℕ) Fault
from_2 whole t bytes = cond (eqb t 2) (lock_at bytes) (from_3 whole t bytes)

abbrev from_1 : List ℕ → ℕ → List ℕ → Result (Record × List ℕ) Fault
from_1 whole t bytes = cond (eqb t 1) (genesis_at bytes) (from_2 whole t bytes)

-- a record of this kind was read where its first byte names it
kind_found : (t k : ℕ) (y r : Record) → eqb t k ≡ true → kind_of y ≡ k → y ≡ r → FitsRecord y → (kind_of r ≡ t) × FitsRecord r
kind_found t k y r named kind is fits = (sym (ap kind_of is) ∙ (kind ∙ sym (eqb-true t k named)), subst FitsRecord is fits)

abbrev Found : List ℕ → ℕ → List ℕ → Record → List ℕ → Type 0
Found whole t bytes r rest = (kind_of r ≡ t) × Takes bytes (record_rest r) rest × FitsRecord r

takes_9 : (whole : List ℕ) (t : ℕ) (bytes : List ℕ) (r : Record) (rest : List ℕ) → IsBytes bytes → from_9 whole t bytes ≡ Ok (r, rest)
    → Found whole t bytes r rest
takes_9 whole t bytes r rest fits e =
    elim (chosen (eqb t 9) (done_at bytes) (Err (fault Form whole)) (r, rest) e) [
      | inl this ↦
          let one = done_read.takes bytes r rest fits this.1 in
          let named = kind_found t 9 (Done one.1.0.stamp one.1.0.batch) r this.0 refl one.1.2 one.1.1 in
          (named.0, one.0, named.1)
      | inr more ↦ let wrong = more.1 in absurd (cc)
    ]

takes_8 : (whole : List ℕ) (t : ℕ) (bytes : List ℕ) (r : Record) (rest : List ℕ) → IsBytes bytes → from_8 whole t bytes ≡ Ok (r, rest)
    → Found whole t bytes r rest
takes_8 whole t bytes r rest fits e =
    elim (chosen (eqb t 8) (discard_at bytes) (from_9 whole t bytes) (r, rest) e) [
      | inl this ↦
          let one = discard_read.takes bytes r rest fits this.1 in
          let named = kind_found t 8 (Discard one.1.0.stamp one.1.0.batch) r this.0 refl one.1.2 one.1.1 in
          (named.0, one.0, named.1)
      | inr more ↦ takes_9 whole t bytes r rest fits more.1
    ]

takes_7 : (whole : List ℕ) (t : ℕ) (bytes : List ℕ) (r : Record) (rest : List ℕ) → IsBytes bytes → from_7 whole t bytes ≡ Ok (r, rest)
    → Found whole t bytes r rest
takes_7 whole t bytes r rest fits e =
    elim (chosen (eqb t 7) (commit_at bytes) (from_8 whole t bytes) (r, rest) e) [
      | inl this ↦
          let one = commit_read.takes bytes r rest fits this.1 in
          let named = kind_found t 7 (Commit one.1.0.stamp one.1.0.batch one.1.1) r this.0 refl one.1.4 (one.1.2, one.1.3) in
          (named.0, one.0, named.1)
      | inr more ↦ takes_8 whole t bytes r rest fits more.1
    ]

takes_6 : (whole : List ℕ) (t : ℕ) (bytes : List ℕ) (r : Record) (rest : List ℕ) → IsBytes bytes → from_6 whole t bytes ≡ Ok (r, rest)
    → Found whole t bytes r rest
takes_6 whole t bytes r rest fits e =
    elim (chosen (eqb t 6) (prepare_at bytes) (from_7 whole t bytes) (r, rest) e) [
      | inl this ↦
          let one = prepare_read.takes bytes r rest fits this.1 in
          let named = kind_found t 6 (Prepare one.1.0.stamp one.1.0.batch one.1.1) r this.0 refl one.1.4 (one.1.2, one.1.3) in
          (named.0, one.0, named.1)
      | inr more ↦ takes_7 whole t bytes r rest fits more.1
    ]

takes_5 : (whole : List ℕ) (t : ℕ) (bytes : List ℕ) (r : Record) (rest : List ℕ) → IsBytes bytes → from_5 whole t bytes ≡ Ok (r, rest)
    → Found whole t bytes r rest
takes_5 whole t bytes r rest fits e =
    elim (chosen (eqb t 5) (start_at bytes) (from_6 whole t bytes) (r, rest) e) [
      | inl this ↦
          let one = start_read.takes bytes r rest fits this.1 in
          let named = kind_found t 5 (Start one.1.1) r this.0 refl one.1.4 one.1.3 in
          (named.0, one.0, named.1)
      | inr more ↦ takes_6 whole t bytes r rest fits more.1
    ]

takes_4 : (whole : List ℕ) (t : ℕ) (bytes : List ℕ) (r : Record) (rest : List ℕ) → IsBytes bytes → from_4 whole t bytes ≡ Ok (r, rest)
    → Found whole t bytes r rest
takes_4 whole t bytes r rest fits e =
    elim (chosen (eqb t 4) (forget_at bytes) (from_5 whole t bytes) (r, rest) e) [
      | inl this ↦
          let one = forget_read.takes bytes r rest fits this.1 in
          let named = kind_found t 4 (Forget one.1.0.stamp one.1.0.batch) r this.0 refl one.1.2 one.1.1 in
          (named.0, one.0, named.1)
      | inr more ↦ takes_5 whole t bytes r rest fits more.1
    ]

takes_3 : (whole : List ℕ) (t : ℕ) (bytes : List ℕ) (r : Record) (rest : List ℕ) → IsBytes bytes → from_3 whole t bytes ≡ Ok (r, rest)
    → Found whole t bytes r rest
takes_3 whole t bytes r rest fits e =
    elim (chosen (eqb t 3) (finish_at bytes) (from_4 whole t bytes) (r, rest) e) [
      | inl this ↦
          let one = finish_read.takes bytes r rest fits this.1 in
          let named = kind_found t 3 (Finish one.1.0.stamp one.1.0.batch one.1.1) r this.0 refl one.1.4 (one.1.2, one.1.3) in
          (named.0, one.0, named.1)
      | inr more ↦ takes_4 whole t bytes r rest fits more.1
    ]

takes_2 : (whole : List ℕ) (t : ℕ) (bytes : List ℕ) (r : Record) (rest : List ℕ) → IsBytes bytes → from_2 whole t bytes ≡ Ok (r, rest)
    → Found whole t bytes r rest
takes_2 whole t bytes r rest fits e =
    elim (chosen (eqb t 2) (lock_at bytes) (from_3 whole t bytes) (r, rest) e) [
      | inl this ↦
          let one = lock_read.takes bytes r rest fits this.1 in
          let named = kind_found t 2 (Lock one.1.0.stamp one.1.0.batch one.1.1) r this.0 refl one.1.4 (one.1.2, one.1.3) in
          (named.0, one.0, named.1)
      | inr more ↦ takes_3 whole t bytes r rest fits more.1
    ]

takes_1 : (whole : List ℕ) (t : ℕ) (bytes : List ℕ) (r : Record) (rest : List ℕ) → IsBytes bytes → from_1 whole t bytes ≡ Ok (r, rest)
    → Found whole t bytes r rest
takes_1 whole t bytes r rest fits e =
    elim (chosen (eqb t 1) (genesis_at bytes) (from_2 whole t bytes) (r, rest) e) [
      | inl this ↦
          let one = genesis_read.takes bytes r rest fits this.1 in
          let named = kind_found t 1 (Genesis one.1.1 one.1.2) r this.0 refl one.1.6 (one.1.4, one.1.5) in
          (named.0, one.0, named.1)
      | inr more ↦ takes_2 whole t bytes r rest fits more.1
    ]

kind_small : (r : Record) → FitsByte (kind_of r)
kind_small (Genesis h hs) = omega arith
kind_small other = omega arith

body_again : (whole : List ℕ) (r : Record) (rest : List ℕ) → FitsRecord r → from_1 whole (kind_of r) (record_rest r ++ rest) ≡ Ok (r, rest)
body_again whole (Genesis h hs) rest fits = genesis_read.again (Genesis h hs) rest (0, h, hs, refl, fits.0, fits.1, refl)
body_again whole (Lock stamp b xs) rest fits = lock_read.again (Lock stamp b xs) rest (record { stamp = stamp; batch = b }, xs, fits.0, fits.1, refl)
body_again whole (Finish stamp b xs) rest fits = finish_read.again (Finish stamp b xs) rest
    (record { stamp = stamp; batch = b }, xs, fits.0, fits.1, refl)
body_again whole (Forget stamp b) rest fits = forget_read.again (Forget stamp b) rest (record { stamp = stamp; batch = b }, fits, refl)
body_again whole (Start h) rest fits = start_read.again (Start h) rest (0, h, refl, fits, refl)
body_again whole (Prepare stamp b xs) rest fits =
    prepare_read.again (Prepare stamp b xs) rest (record { stamp = stamp; batch = b }, xs, fits.0, fits.1, refl)
body_again whole (Commit stamp b xs) rest fits = commit_read.again (Commit stamp b xs) rest
    (record { stamp = stamp; batch = b }, xs, fits.0, fits.1, refl)
body_again whole (Discard stamp b) rest fits = discard_read.again (Discard stamp b) rest (record { stamp = stamp; batch = b }, fits, refl)
body_again whole (Done stamp b) rest fits = done_read.again (Done stamp b) rest (record { stamp = stamp; batch = b }, fits, refl)
body_again whole other rest fits = absurd fits

body_same : (r : Record) → FitsRecord r → kind_of r ∷ record_rest r ≡ body_of r
body_same (Upgrade stamp batch) fits = absurd fits
body_same (Carry stamp h source hs numbers) fits = absurd fits
body_same (CarryStart stamp h source numbers) fits = absurd fits
body_same (Seal stamp to shards) fits = absurd fits
body_same other fits = refl

pub body_read : IsRead body_at body_of FitsRecord
unfolding body_at
body_read = respells body_at (λ r. kind_of r ∷ record_rest r) body_of FitsRecord
    (tagged_read from_1 kind_of record_rest FitsRecord kind_small takes_1 body_again) body_same
