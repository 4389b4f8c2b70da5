-- The parts of records: what is read of one is spelled so, and what is spelled so is read again, whatever follows.
use Rattle.std.proofs.Common.{◌≡◌, ℕ, ◌^◌, ◌<◌, Bool, true, false, inl, inr, cond, eqb, ltb, List, [], ◌∷◌, ◌++◌, length, Result, Ok, Err, refl, sym}
use Rattle.std.proofs.Common.{subst, ◌∙◌, append_assoc, arith}
use Rattle.std.proofs.lemmas.Bool.{eqb-true, ltb-true, lt-ltb}
use Rattle.base_types.specs.declared.ids.BatchId.{BatchId}
use Rattle.cbdc_types.specs.declared.tx.CompactTx.{CompactTx}
use Rattle.cbdc_types.specs.declared.batch.Entry.{Entry}
use Rattle.cbdc_types.specs.declared.batch.Answered.{Answered}
use Rattle.cbdc_types.specs.declared.batch.Reply.{Reply}
use Rattle.cbdc_types.specs.declared.batch.Reply.TheVariants as replies
use Rattle.cbdc_types.specs.declared.batch.Outcome.{Outcome}
use Rattle.cbdc_types.specs.declared.batch.Outcome.TheVariants as outcomes
use Rattle.base_types.specs.declared.faults.InputKind.TheVariants.{Form, Large}
use Rattle.byte_fields.specs.declared.fault.Fault.{Fault}
use Rattle.byte_fields.specs.Faults.{◌>>=◌, fault, IsBytes}
use Rattle.byte_spelling.specs.Spelling.{number, FitsNumber, FitsHash, FitsList}
use Rattle.byte_fields.specs.Reading.{number_at, hash_at, list_at}
use Rattle.byte_fields.specs.Records.{hashes, batch_bytes, compact_bytes, entry_bytes, reply_bytes, answered_bytes, outcome_bytes, decision_bytes}
use Rattle.byte_fields.specs.Records.{byte_of, byte_at, small_at, batch_at, compact_at, entry_at, missing_reply_at, locked_reply_at, reply_field_at}
use Rattle.byte_fields.specs.Records.{answered_at, missing_outcome_at, locked_outcome_at, outcome_field_at, decision_at}
use Rattle.byte_fields.proofs.Fields.{bind_ok, ok_is, Takes, Takes-then, IsItem, IsRead, read_of, field_item, number_item, hash_item}
use Rattle.byte_fields.proofs.Lists.{list_read}
use Rattle.byte_fields.proofs.Readers.{one_read, two_read, three_read, four_read, tested_read, refits, respells, chosen}

-- ---- what fits its fields

abbrev pub FitsByte : ℕ → Type 0
FitsByte n = n < 256

abbrev pub FitsSmall : ℕ → Type 0
FitsSmall n = n < 2 ^ 32

pub record FitsBatch (b : BatchId) : Type 0 where
  pub lane : b.lane < 2 ^ 32
  pub number : b.number < 2 ^ 64

abbrev pub FitsHashes : List (List ℕ) → Type 0
FitsHashes hs = FitsList 255 FitsHash hs

pub record FitsCompact (t : CompactTx) : Type 0 where
  pub id : FitsHash t.id
  pub inputs : FitsHashes t.inputs
  pub outputs : FitsHashes t.outputs

pub record FitsEntry (e : Entry) : Type 0 where
  pub place : e.place < 2 ^ 32
  pub id : FitsHash e.id
  pub inputs : FitsHashes e.inputs
  pub outputs : FitsHashes e.outputs

abbrev pub FitsReply : Reply → Type 0
FitsReply replies.Held = Unit {0}
FitsReply (replies.Missing x) = FitsHash x
FitsReply (replies.Locked x by) = FitsHash x × FitsBatch by

pub record FitsAnswered (a : Answered) : Type 0 where
  pub entry : FitsEntry a.entry
  pub reply : FitsReply a.reply

abbrev pub FitsOutcome : Outcome → Type 0
FitsOutcome outcomes.Held = Unit {0}
FitsOutcome (outcomes.Missing shard x) = FitsSmall shard × FitsHash x
FitsOutcome (outcomes.Locked shard x by) = FitsSmall shard × FitsHash x × FitsBatch by

abbrev pub FitsDecision : Bool → Type 0
FitsDecision d = Unit {0}

-- ---- fields

abbrev byte_text : ℕ → List ℕ
byte_text n = n ∷ []

byte_back : (b : List ℕ) → length b ≡ 1 → IsBytes b → (byte_text (byte_of b) ≡ b) × FitsByte (byte_of b)
byte_back [] len fits = absurd (omega (arith, len))
byte_back (x ∷ []) len fits = (refl, fits 0)
byte_back (x ∷ y ∷ more) len fits = absurd (omega (arith, len))

pub byte_item : IsItem byte_at byte_text FitsByte
byte_item = field_item 1 byte_of byte_text FitsByte byte_back (λ n lt. (refl, refl))

pub byte_read : IsRead byte_at byte_text FitsByte
byte_read = read_of byte_at byte_text FitsByte byte_item

pub number_read : IsRead number_at number FitsNumber
number_read = read_of number_at number FitsNumber number_item

pub hash_read : IsRead hash_at (λ h. h) FitsHash
hash_read = read_of hash_at (λ h. h) FitsHash hash_item

pub hashes_read : IsRead (list_at 255 hash_at) hashes FitsHashes
hashes_read = list_read hash_at (λ h. h) FitsHash hash_read 255 (omega arith)

pub small_read : IsRead small_at number FitsSmall
unfolding small_at
small_read = refits small_at number (λ n. FitsNumber n × (ltb n (2 ^ 32) ≡ true)) FitsSmall
    (tested_read number_at number FitsNumber number_read (λ n. ltb n (2 ^ 32)) Large)
    (λ n fits. ltb-true n (2 ^ 32) fits.1)
    (λ n small. (omega (arith, small), lt-ltb n (2 ^ 32) small))

-- ---- parts that lie one behind the other

batch_is : ℕ → ℕ → BatchId
batch_is lane n = record { lane = lane; number = n }

pub batch_read : IsRead batch_at batch_bytes FitsBatch
unfolding batch_at batch_is
batch_read = two_read small_at number FitsSmall small_read number_at number FitsNumber number_read batch_is batch_bytes FitsBatch
    (λ lane n. refl)
    (λ lane n a b. record { lane = a; number = b })
    (λ b fits. (b.lane, b.number, fits.lane, fits.number, refl))

compact_is : List ℕ → List (List ℕ) → List (List ℕ) → CompactTx
compact_is id ins outs = record { id = id; inputs = ins; outputs = outs }

pub compact_read : IsRead compact_at compact_bytes FitsCompact
unfolding compact_at compact_is
compact_read = three_read hash_at (λ h. h) FitsHash hash_read (list_at 255 hash_at) hashes FitsHashes hashes_read (list_at 255 hash_at) hashes
    FitsHashes hashes_read compact_is compact_bytes FitsCompact
    (λ id ins outs. sym (append_assoc id (hashes ins) (hashes outs)))
    (λ id ins outs a b c. record { id = a; inputs = b; outputs = c })
    (λ t fits. (t.id, t.inputs, t.outputs, fits.id, fits.inputs, fits.outputs, refl))

entry_is : ℕ → List ℕ → List (List ℕ) → List (List ℕ) → Entry
entry_is place id ins outs = record { place = place; id = id; inputs = ins; outputs = outs }

pub entry_read : IsRead entry_at entry_bytes FitsEntry
unfolding entry_at entry_is
entry_read = four_read small_at number FitsSmall small_read hash_at (λ h. h) FitsHash hash_read (list_at 255 hash_at) hashes FitsHashes hashes_read
    (list_at 255 hash_at) hashes FitsHashes hashes_read entry_is entry_bytes FitsEntry
    (λ place id ins outs. simp append_assoc)
    (λ place id ins outs a b c d. record { place = a; id = b; inputs = c; outputs = d })
    (λ e fits. (e.place, e.id, e.inputs, e.outputs, fits.place, fits.id, fits.inputs, fits.outputs, refl))

-- ---- replies

-- what stands behind a reply's first byte
abbrev reply_rest : Reply → List ℕ
reply_rest replies.Held = []
reply_rest (replies.Missing x) = x
reply_rest (replies.Locked x by) = x ++ batch_bytes by

abbrev IsMissing : Reply → Type 0
IsMissing replies.Held = ⊥
IsMissing (replies.Missing x) = FitsHash x
IsMissing (replies.Locked x by) = ⊥

abbrev IsLocked : Reply → Type 0
IsLocked replies.Held = ⊥
IsLocked (replies.Missing x) = ⊥
IsLocked (replies.Locked x by) = FitsHash x × FitsBatch by

missing_parts : (r : Reply) → IsMissing r → (x : List ℕ) × FitsHash x × (replies.Missing x ≡ r)
missing_parts replies.Held is = absurd is
missing_parts (replies.Missing x) is = (x, is, refl)
missing_parts (replies.Locked x by) is = absurd is

missing_reply_read : IsRead missing_reply_at reply_rest IsMissing
unfolding missing_reply_at
missing_reply_read = one_read hash_at (λ h. h) FitsHash hash_read (λ x. replies.Missing x) reply_rest IsMissing (λ x. refl) (λ x fits. fits)
    missing_parts

locked_parts : (r : Reply) → IsLocked r → (x : List ℕ) × (by : BatchId) × FitsHash x × FitsBatch by × (replies.Locked x by ≡ r)
locked_parts replies.Held is = absurd is
locked_parts (replies.Missing x) is = absurd is
locked_parts (replies.Locked x by) is = (x, by, is.0, is.1, refl)

locked_reply_read : IsRead locked_reply_at reply_rest IsLocked
unfolding locked_reply_at
locked_reply_read = two_read hash_at (λ h. h) FitsHash hash_read batch_at batch_bytes FitsBatch batch_read (λ x by. replies.Locked x by) reply_rest
    IsLocked
    (λ x by. refl) (λ x by a b. (a, b)) locked_parts

-- what stands behind a first byte that names the kind
module _ {X : Type 0} (next : List ℕ → ℕ → List ℕ → Result (X × List ℕ) Fault) (tag : X → ℕ) (behind : X → List ℕ) (Fits : X → Type 0) where
  pub tagged_read : ((x : X) → FitsByte (tag x))
      → ((whole : List ℕ) (t : ℕ) (bytes : List ℕ) (x : X) (rest : List ℕ) → IsBytes bytes → next whole t bytes ≡ Ok (x, rest)
      → (tag x ≡ t) × Takes bytes (behind x) rest × Fits x)
      → ((whole : List ℕ) (x : X) (rest : List ℕ) → Fits x → next whole (tag x) (behind x ++ rest) ≡ Ok (x, rest))
      → IsRead (λ bytes. byte_at bytes >>= λ t. next bytes t.0 t.1) (λ x. tag x ∷ behind x) Fits
  tagged_read small takes again = record {
    takes = λ bytes x rest fits e.
        let s = bind_ok (byte_at bytes) (λ t. next bytes t.0 t.1) (x, rest) e in
        let one = byte_read.takes bytes s.0.0 s.0.1 fits s.1 in
        let two = takes bytes s.0.0 s.0.1 x rest one.0.rest_fits s.2 in
        let all = Takes-then bytes (byte_text s.0.0) s.0.1 (behind x) rest one.0 two.1 in
        (subst (λ (t : ℕ). Takes bytes (t ∷ behind x) rest) (sym two.0) all, two.2);
    again = λ x rest fits. rw (byte_read.again (tag x) (behind x ++ rest) (small x)) (again (tag x ∷ (behind x ++ rest)) x rest fits);
  }

reply_tag : Reply → ℕ
reply_tag replies.Held = 0
reply_tag (replies.Missing x) = 1
reply_tag (replies.Locked x by) = 2

abbrev reply_next : List ℕ → ℕ → List ℕ → Result (Reply × List ℕ) Fault
reply_next whole t bytes =
    cond (eqb t 0) (Ok (replies.Held, bytes)) (cond (eqb t 1) (missing_reply_at bytes)
    (cond (eqb t 2) (locked_reply_at bytes) (Err (fault Form whole))))

reply_takes : (whole : List ℕ) (t : ℕ) (bytes : List ℕ) (r : Reply) (rest : List ℕ) → IsBytes bytes → reply_next whole t bytes ≡ Ok (r, rest)
    → (reply_tag r ≡ t) × Takes bytes (reply_rest r) rest × FitsReply r
unfolding reply_tag
reply_takes whole t bytes r rest fits e =
    elim (chosen (eqb t 0) (Ok (replies.Held, bytes))
    (cond (eqb t 1) (missing_reply_at bytes) (cond (eqb t 2) (locked_reply_at bytes) (Err (fault Form whole)))) (r, rest) e) [
      | inl held ↦ subst (λ (y : Reply × List ℕ). (reply_tag y.0 ≡ t) × Takes bytes (reply_rest y.0) y.1 × FitsReply y.0)
          (ok_is (replies.Held, bytes) (r, rest) held.1) (sym (eqb-true t 0 held.0), record { parts = refl; rest_fits = fits }, tt)
      | inr other ↦
          elim (chosen (eqb t 1) (missing_reply_at bytes) (cond (eqb t 2) (locked_reply_at bytes) (Err (fault Form whole))) (r, rest) other.1) [
            | inl missing ↦ let one = missing_reply_read.takes bytes r rest fits missing.1 in
                (missing_tag r one.1 ∙ sym (eqb-true t 1 missing.0), one.0, missing_fits r one.1)
            | inr more ↦
                elim (chosen (eqb t 2) (locked_reply_at bytes) (Err (fault Form whole)) (r, rest) more.1) [
                  | inl locked ↦ let one = locked_reply_read.takes bytes r rest fits locked.1 in
                      (locked_tag r one.1 ∙ sym (eqb-true t 2 locked.0), one.0, locked_fits r one.1)
                  | inr never ↦ let wrong = never.1 in absurd (cc)
                ]
          ]
    ]
  where
    missing_tag : (r : Reply) → IsMissing r → reply_tag r ≡ 1
    missing_tag replies.Held is = absurd is
    missing_tag (replies.Missing x) is = refl
    missing_tag (replies.Locked x by) is = absurd is

    missing_fits : (r : Reply) → IsMissing r → FitsReply r
    missing_fits replies.Held is = absurd is
    missing_fits (replies.Missing x) is = is
    missing_fits (replies.Locked x by) is = absurd is

    locked_tag : (r : Reply) → IsLocked r → reply_tag r ≡ 2
    locked_tag replies.Held is = absurd is
    locked_tag (replies.Missing x) is = absurd is
    locked_tag (replies.Locked x by) is = refl

    locked_fits : (r : Reply) → IsLocked r → FitsReply r
    locked_fits replies.Held is = absurd is
    locked_fits (replies.Missing x) is = absurd is
    locked_fits (replies.Locked x by) is = is

reply_small : (r : Reply) → FitsByte (reply_tag r)
unfolding reply_tag
reply_small replies.Held = omega arith
reply_small (replies.Missing x) = omega arith
reply_small (replies.Locked x by) = omega arith

reply_again : (whole : List ℕ) (r : Reply) (rest : List ℕ) → FitsReply r → reply_next whole (reply_tag r) (reply_rest r ++ rest) ≡ Ok (r, rest)
unfolding reply_tag
reply_again whole replies.Held rest fits = refl
reply_again whole (replies.Missing x) rest fits = missing_reply_read.again (replies.Missing x) rest fits
reply_again whole (replies.Locked x by) rest fits = locked_reply_read.again (replies.Locked x by) rest fits

pub reply_read : IsRead reply_field_at reply_bytes FitsReply
unfolding reply_field_at reply_tag
reply_read = respells reply_field_at (λ r. reply_tag r ∷ reply_rest r) reply_bytes FitsReply
    (tagged_read reply_next reply_tag reply_rest FitsReply reply_small reply_takes reply_again) (λ r fits. same r)
  where
    same : (r : Reply) → reply_tag r ∷ reply_rest r ≡ reply_bytes r
    same replies.Held = refl
    same (replies.Missing x) = refl
    same (replies.Locked x by) = refl

answered_is : Entry → Reply → Answered
answered_is e r = record { entry = e; reply = r }

pub answered_read : IsRead answered_at answered_bytes FitsAnswered
unfolding answered_at answered_is
answered_read = two_read entry_at entry_bytes FitsEntry entry_read reply_field_at reply_bytes FitsReply reply_read answered_is answered_bytes
    FitsAnswered
    (λ e r. refl)
    (λ e r a b. record { entry = a; reply = b })
    (λ a fits. (a.entry, a.reply, fits.entry, fits.reply, refl))

-- ---- outcomes

abbrev outcome_rest : Outcome → List ℕ
outcome_rest outcomes.Held = []
outcome_rest (outcomes.Missing shard x) = number shard ++ x
outcome_rest (outcomes.Locked shard x by) = number shard ++ (x ++ batch_bytes by)

abbrev Lacks : Outcome → Type 0
Lacks outcomes.Held = ⊥
Lacks (outcomes.Missing shard x) = FitsSmall shard × FitsHash x
Lacks (outcomes.Locked shard x by) = ⊥

abbrev Blocked : Outcome → Type 0
Blocked outcomes.Held = ⊥
Blocked (outcomes.Missing shard x) = ⊥
Blocked (outcomes.Locked shard x by) = FitsSmall shard × FitsHash x × FitsBatch by

lacks_parts : (o : Outcome) → Lacks o → (shard : ℕ) × (x : List ℕ) × FitsSmall shard × FitsHash x × (outcomes.Missing shard x ≡ o)
lacks_parts outcomes.Held is = absurd is
lacks_parts (outcomes.Missing shard x) is = (shard, x, is.0, is.1, refl)
lacks_parts (outcomes.Locked shard x by) is = absurd is

missing_outcome_read : IsRead missing_outcome_at outcome_rest Lacks
unfolding missing_outcome_at
missing_outcome_read = two_read small_at number FitsSmall small_read hash_at (λ h. h) FitsHash hash_read (λ shard x. outcomes.Missing shard x)
    outcome_rest Lacks
    (λ shard x. refl) (λ shard x a b. (a, b)) lacks_parts

blocked_parts : (o : Outcome) → Blocked o → (shard : ℕ) × (x : List ℕ) × (by : BatchId) × FitsSmall shard × FitsHash x × FitsBatch by
    × (outcomes.Locked shard x by ≡ o)
blocked_parts outcomes.Held is = absurd is
blocked_parts (outcomes.Missing shard x) is = absurd is
blocked_parts (outcomes.Locked shard x by) is = (shard, x, by, is.0, is.1, is.2, refl)

locked_outcome_read : IsRead locked_outcome_at outcome_rest Blocked
unfolding locked_outcome_at
locked_outcome_read = three_read small_at number FitsSmall small_read hash_at (λ h. h) FitsHash hash_read batch_at batch_bytes FitsBatch batch_read
    (λ shard x by. outcomes.Locked shard x by) outcome_rest Blocked
    (λ shard x by. refl) (λ shard x by a b c. (a, b, c)) blocked_parts

outcome_tag : Outcome → ℕ
outcome_tag outcomes.Held = 0
outcome_tag (outcomes.Missing shard x) = 1
outcome_tag (outcomes.Locked shard x by) = 2

abbrev outcome_next : List ℕ → ℕ → List ℕ → Result (Outcome × List ℕ) Fault
outcome_next whole t bytes =
    cond (eqb t 0) (Ok (outcomes.Held, bytes)) (cond (eqb t 1) (missing_outcome_at bytes)
    (cond (eqb t 2) (locked_outcome_at bytes) (Err (fault Form whole))))

outcome_takes : (whole : List ℕ) (t : ℕ) (bytes : List ℕ) (o : Outcome) (rest : List ℕ) → IsBytes bytes → outcome_next whole t bytes ≡ Ok (o, rest)
    → (outcome_tag o ≡ t) × Takes bytes (outcome_rest o) rest × FitsOutcome o
unfolding outcome_tag
outcome_takes whole t bytes o rest fits e =
    elim (chosen (eqb t 0) (Ok (outcomes.Held, bytes))
    (cond (eqb t 1) (missing_outcome_at bytes) (cond (eqb t 2) (locked_outcome_at bytes) (Err (fault Form whole)))) (o, rest) e) [
      | inl held ↦ subst (λ (y : Outcome × List ℕ). (outcome_tag y.0 ≡ t) × Takes bytes (outcome_rest y.0) y.1 × FitsOutcome y.0)
          (ok_is (outcomes.Held, bytes) (o, rest) held.1) (sym (eqb-true t 0 held.0), record { parts = refl; rest_fits = fits }, tt)
      | inr other ↦
          elim (chosen (eqb t 1) (missing_outcome_at bytes) (cond (eqb t 2) (locked_outcome_at bytes) (Err (fault Form whole))) (o, rest) other.1) [
            | inl missing ↦ let one = missing_outcome_read.takes bytes o rest fits missing.1 in
                (lacks_tag o one.1 ∙ sym (eqb-true t 1 missing.0), one.0, lacks_fits o one.1)
            | inr more ↦
                elim (chosen (eqb t 2) (locked_outcome_at bytes) (Err (fault Form whole)) (o, rest) more.1) [
                  | inl locked ↦ let one = locked_outcome_read.takes bytes o rest fits locked.1 in
                      (blocked_tag o one.1 ∙ sym (eqb-true t 2 locked.0), one.0, blocked_fits o one.1)
                  | inr never ↦ let wrong = never.1 in absurd (cc)
                ]
          ]
    ]
  where
    lacks_tag : (o : Outcome) → Lacks o → outcome_tag o ≡ 1
    lacks_tag outcomes.Held is = absurd is
    lacks_tag (outcomes.Missing shard x) is = refl
    lacks_tag (outcomes.Locked shard x by) is = absurd is

    lacks_fits : (o : Outcome) → Lacks o → FitsOutcome o
    lacks_fits outcomes.Held is = absurd is
    lacks_fits (outcomes.Missing shard x) is = is
    lacks_fits (outcomes.Locked shard x by) is = absurd is

    blocked_tag : (o : Outcome) → Blocked o → outcome_tag o ≡ 2
    blocked_tag outcomes.Held is = absurd is
    blocked_tag (outcomes.Missing shard x) is = absurd is
    blocked_tag (outcomes.Locked shard x by) is = refl

    blocked_fits : (o : Outcome) → Blocked o → FitsOutcome o
    blocked_fits outcomes.Held is = absurd is
    blocked_fits (outcomes.Missing shard x) is = absurd is
    blocked_fits (outcomes.Locked shard x by) is = is

outcome_small : (o : Outcome) → FitsByte (outcome_tag o)
unfolding outcome_tag
outcome_small outcomes.Held = omega arith
outcome_small (outcomes.Missing shard x) = omega arith
outcome_small (outcomes.Locked shard x by) = omega arith

outcome_again : (whole : List ℕ) (o : Outcome) (rest : List ℕ) → FitsOutcome o
    → outcome_next whole (outcome_tag o) (outcome_rest o ++ rest) ≡ Ok (o, rest)
unfolding outcome_tag
outcome_again whole outcomes.Held rest fits = refl
outcome_again whole (outcomes.Missing shard x) rest fits = missing_outcome_read.again (outcomes.Missing shard x) rest fits
outcome_again whole (outcomes.Locked shard x by) rest fits = locked_outcome_read.again (outcomes.Locked shard x by) rest fits

pub outcome_read : IsRead outcome_field_at outcome_bytes FitsOutcome
unfolding outcome_field_at outcome_tag
outcome_read = respells outcome_field_at (λ o. outcome_tag o ∷ outcome_rest o) outcome_bytes FitsOutcome
    (tagged_read outcome_next outcome_tag outcome_rest FitsOutcome outcome_small outcome_takes outcome_again) (λ o fits. same o)
  where
    same : (o : Outcome) → outcome_tag o ∷ outcome_rest o ≡ outcome_bytes o
    same outcomes.Held = refl
    same (outcomes.Missing shard x) = refl
    same (outcomes.Locked shard x by) = simp append_assoc

-- ---- decisions

abbrev decision_tag : Bool → ℕ
decision_tag d = cond d 1 0

abbrev decision_next : List ℕ → ℕ → List ℕ → Result (Bool × List ℕ) Fault
decision_next whole t bytes = cond (eqb t 0) (Ok (false, bytes)) (cond (eqb t 1) (Ok (true, bytes)) (Err (fault Form whole)))

decision_takes : (whole : List ℕ) (t : ℕ) (bytes : List ℕ) (d : Bool) (rest : List ℕ) → IsBytes bytes → decision_next whole t bytes ≡ Ok (d, rest)
    → (decision_tag d ≡ t) × Takes bytes [] rest × FitsDecision d
decision_takes whole t bytes d rest fits e =
    elim (chosen (eqb t 0) (Ok (false, bytes)) (cond (eqb t 1) (Ok (true, bytes)) (Err (fault Form whole))) (d, rest) e) [
      | inl zero_tag ↦ subst (λ (y : Bool × List ℕ). (decision_tag y.0 ≡ t) × Takes bytes [] y.1 × FitsDecision y.0)
          (ok_is (false, bytes) (d, rest) zero_tag.1) (sym (eqb-true t 0 zero_tag.0), record { parts = refl; rest_fits = fits }, tt)
      | inr other ↦
          elim (chosen (eqb t 1) (Ok (true, bytes)) (Err (fault Form whole)) (d, rest) other.1) [
            | inl one_tag ↦ subst (λ (y : Bool × List ℕ). (decision_tag y.0 ≡ t) × Takes bytes [] y.1 × FitsDecision y.0)
                (ok_is (true, bytes) (d, rest) one_tag.1) (sym (eqb-true t 1 one_tag.0), record { parts = refl; rest_fits = fits }, tt)
            | inr never ↦ let wrong = never.1 in absurd (cc)
          ]
    ]

decision_small : (d : Bool) → FitsByte (decision_tag d)
decision_small true = omega arith
decision_small false = omega arith

decision_again : (whole : List ℕ) (d : Bool) (rest : List ℕ) → FitsDecision d → decision_next whole (decision_tag d) ([] ++ rest) ≡ Ok (d, rest)
decision_again whole true rest fits = refl
decision_again whole false rest fits = refl

pub decision_read : IsRead decision_at decision_bytes FitsDecision
unfolding decision_at
decision_read = respells decision_at (λ d. decision_tag d ∷ []) decision_bytes FitsDecision
    (tagged_read decision_next decision_tag (λ d. []) FitsDecision decision_small decision_takes decision_again) (λ d fits. same d)
  where
    same : (d : Bool) → decision_tag d ∷ [] ≡ decision_bytes d
    same true = refl
    same false = refl
