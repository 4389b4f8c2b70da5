-- The last record of a lane in a journal, against the slot.
use Rattle.std.proofs.Common.{◌≡◌, ◌⊎◌, inl, inr, ℕ, ◌%◌, Bool, true, false, cond, ◌&&◌, ◌==◌, if◌then◌else◌, List, [], ◌∷◌, Option, Some, None}
use Rattle.std.proofs.Common.{is_some, find, refl, sym, ap, ◌∙◌, subst, arith}
use Rattle.cbdc_model.specs.Records.{Batch, Record, record_of, kind_of, is_of, tells_lane, stamp_of, stamp_in, Genesis, Lock, Finish, Forget, Start}
use Rattle.cbdc_model.specs.Records.{Prepare, Commit, Discard, Done, Upgrade, Carry, CarryStart, Seal}
use Rattle.cbdc_model.specs.After.{IsFirst}
use Rattle.cbdc_model.specs.Slots.{Phase, Slot, number_at, slot, slot_stamp, Idle, InLock, InFinish, InPrepare, InCommit, InDiscard}
use Rattle.ledger_laws.proofs.ByKind.{some_is, of_in_lane}

abbrev pub last_of : List Record → ℕ → Option Record
last_of J lane = find (λ r. tells_lane lane r) J

abbrev pub slot_by : ℕ → Option Record → Slot
slot_by lane None = record { number = 0; phase = Idle }
slot_by lane (Some (Genesis header hs)) = record { number = 0; phase = Idle }
slot_by lane (Some (Lock stamp b es)) = record { number = b.number; phase = InLock }
slot_by lane (Some (Finish stamp b ds)) = record { number = b.number; phase = InFinish }
slot_by lane (Some (Forget stamp b)) = record { number = b.number; phase = Idle }
slot_by lane (Some (Start header)) = record { number = 0; phase = Idle }
slot_by lane (Some (Prepare stamp b txs)) = record { number = b.number; phase = InPrepare }
slot_by lane (Some (Commit stamp b os)) = record { number = b.number; phase = InCommit }
slot_by lane (Some (Discard stamp b)) = record { number = b.number; phase = InDiscard }
slot_by lane (Some (Done stamp b)) = record { number = b.number; phase = Idle }
slot_by lane (Some (Upgrade stamp batch)) = record { number = 0; phase = Idle }
slot_by lane (Some (Carry stamp header source hs numbers)) = record { number = number_at numbers lane; phase = Idle }
slot_by lane (Some (CarryStart stamp header source numbers)) = record { number = number_at numbers (lane % header.shape.lanes); phase = Idle }
slot_by lane (Some (Seal stamp to shards)) = record { number = 0; phase = Idle }

-- what a record leaves in a lane's slot
pub slot_next : (r : Record) (J : List Record) (lane : ℕ) → slot (r ∷ J) lane ≡ (if tells_lane lane r then slot_by lane (Some r) else slot J lane)
slot_next (Genesis header hs) J lane = refl
slot_next other J lane = refl

slot_head : (lane : ℕ) (c : Bool) (r : Option Record) (rest : Option Record) (s : Slot) → s ≡ slot_by lane rest
    → (if c then slot_by lane r else s) ≡ slot_by lane (cond c r rest)
slot_head lane true r rest s e = refl
slot_head lane false r rest s e = e

pub slot_is : (J : List Record) (lane : ℕ) → slot J lane ≡ slot_by lane (last_of J lane)
slot_is [] lane = refl
slot_is (r ∷ J) lane = slot_next r J lane ∙ slot_head lane (tells_lane lane r) (Some r) (last_of J lane) (slot J lane) (slot_is J lane)

-- a first record leaves a lane idle
pub first_idle : (lane : ℕ) (r : Record) → IsFirst r → (slot_by lane (Some r)).phase ≡ Idle
first_idle lane (Genesis header hs) first = refl
first_idle lane (Start header) first = refl
first_idle lane (Carry stamp header source hs numbers) first = refl
first_idle lane (CarryStart stamp header source numbers) first = refl
first_idle lane other first = absurd first

-- a record of one lane leaves the slots of the others
pub slot_stays : (r : Record) (J : List Record) (lane : ℕ) → tells_lane lane r ≡ false → slot (r ∷ J) lane ≡ slot J lane
slot_stays r J lane h = slot_next r J lane ∙ ap (λ c. if c then slot_by lane (Some r) else slot J lane) h

second : (a b : Bool) → (a && b) ≡ true → b ≡ true
second a b h = grind arith

-- the last record of a lane is the newest of its kind of its batch
pub last_found : (J : List Record) (kind : ℕ) (b : Batch) (r : Record) → last_of J b.lane ≡ Some r → ((kind_of r == kind) && is_of b r) ≡ true
    → record_of kind J b ≡ Some r
last_found [] kind b r e t = absurd (let z : None ≡ Some r = e in cc)
last_found (q ∷ J) kind b r e t = step kind q J b r e t (λ g. last_found J kind b r g t)
  where
    step : (kind : ℕ) (q : Record) (J : List Record) (b : Batch) (r : Record) → last_of (q ∷ J) b.lane ≡ Some r
        → ((kind_of r == kind) && is_of b r) ≡ true
        → (last_of J b.lane ≡ Some r → record_of kind J b ≡ Some r) → record_of kind (q ∷ J) b ≡ Some r
    step kind q J b r e t rest = elim (tells_lane b.lane q) as
        (λ c. tells_lane b.lane q ≡ c → cond c (Some q) (last_of J b.lane) ≡ Some r → record_of kind (q ∷ J) b ≡ Some r) [
          | true ↦ λ l g.
              let same : q ≡ r = some_is q r g in
              let t' : ((kind_of q == kind) && is_of b q) ≡ true = subst (λ a. ((kind_of a == kind) && is_of b a) ≡ true) (sym same) t in
              rw t' (ap (λ a. Some a) same)
          | false ↦ λ l g. elim ((kind_of q == kind) && is_of b q) as
              (λ u. ((kind_of q == kind) && is_of b q) ≡ u → cond u (Some q) (record_of kind J b) ≡ Some r) [
                | true ↦ λ u. absurd (let z : true ≡ false = sym (of_in_lane b q (second (kind_of q == kind) (is_of b q) u)) ∙ l in cc)
                | false ↦ λ u. rest g
              ] refl
        ] refl e

pub last_in_lane : (J : List Record) (lane : ℕ) (r : Record) → last_of J lane ≡ Some r → tells_lane lane r ≡ true
last_in_lane [] lane r e = absurd (let z : None ≡ Some r = e in cc)
last_in_lane (q ∷ J) lane r e = step q J lane r e (λ g. last_in_lane J lane r g)
  where
    step : (q : Record) (J : List Record) (lane : ℕ) (r : Record) → last_of (q ∷ J) lane ≡ Some r
        → (last_of J lane ≡ Some r → tells_lane lane r ≡ true) → tells_lane lane r ≡ true
    step q J lane r e rest = elim (tells_lane lane q) as
        (λ c. tells_lane lane q ≡ c → cond c (Some q) (last_of J lane) ≡ Some r → tells_lane lane r ≡ true) [
          | true ↦ λ l g. subst (λ a. tells_lane lane a ≡ true) (some_is q r g) l
          | false ↦ λ l g. rest g
        ] refl e

-- a record of the lane with the slot's number is of the batch
of_number : (b : Batch) (r : Record) → (IsFirst r → ⊥) → tells_lane b.lane r ≡ true → (slot_by b.lane (Some r)).number ≡ b.number → is_of b r ≡ true
of_number b (Genesis header hs) later l n = l
of_number b (Carry stamp header source hs numbers) later l n = absurd (later tt)
of_number b (CarryStart stamp header source numbers) later l n = absurd (later tt)
of_number b other later l n = grind (arith, l, n)

own_test : (b : Batch) (r : Record) → is_of b r ≡ true → ((kind_of r == kind_of r) && is_of b r) ≡ true
own_test b r i = grind (arith, i)

-- whether a record is a first one
pub first_or_later : (r : Record) → IsFirst r ⊎ (IsFirst r → ⊥)
first_or_later (Genesis header hs) = inl tt
first_or_later (Start header) = inl tt
first_or_later (Carry stamp header source hs numbers) = inl tt
first_or_later (CarryStart stamp header source numbers) = inl tt
first_or_later other = inr (λ h. h)

-- what the last record is, by the phase
pub data LastIs (J : List Record) (b : Batch) : Type 0 where
  nothing_yet : slot_stamp J b.lane ≡ 0 → (slot J b.lane).phase ≡ Idle → LastIs J b
  begun : (r : Record) → IsFirst r → last_of J b.lane ≡ Some r → (slot J b.lane).phase ≡ Idle → LastIs J b
  of_kind : (kind : ℕ) (r : Record) → record_of kind J b ≡ Some r → slot_stamp J b.lane ≡ stamp_of r → (kind_of r ≡ kind)
      → (slot J b.lane).phase ≡ (slot_by b.lane (Some r)).phase → LastIs J b

pub last_is : (J : List Record) (b : Batch) → (slot J b.lane).number ≡ b.number → LastIs J b
last_is J b n = elim (last_of J b.lane) as (λ r. last_of J b.lane ≡ r → LastIs J b) [
  | None ↦ λ e. nothing_yet (ap stamp_in e) (ap (λ s. s.phase) (slot_is J b.lane ∙ ap (slot_by b.lane) e))
  | Some r ↦ λ e. of_record J b r e (sym (ap (λ s. s.number) (slot_is J b.lane ∙ ap (slot_by b.lane) e)) ∙ n) (last_in_lane J b.lane r e)
] refl
  where
    of_later : (J : List Record) (b : Batch) (r : Record) → (IsFirst r → ⊥) → last_of J b.lane ≡ Some r → (slot_by b.lane (Some r)).number ≡ b.number
        → tells_lane b.lane r ≡ true → LastIs J b
    of_later J b r later e n l =
        of_kind (kind_of r) r (last_found J (kind_of r) b r e (own_test b r (of_number b r later l n))) (ap stamp_in e) refl
        (ap (λ s. s.phase) (slot_is J b.lane ∙ ap (slot_by b.lane) e))

    of_record : (J : List Record) (b : Batch) (r : Record) → last_of J b.lane ≡ Some r → (slot_by b.lane (Some r)).number ≡ b.number
        → tells_lane b.lane r ≡ true → LastIs J b
    of_record J b r e n l = elim (first_or_later r) [
      | inl first ↦ begun r first e (ap (λ s. s.phase) (slot_is J b.lane ∙ ap (slot_by b.lane) e) ∙ first_idle b.lane r first)
      | inr later ↦ of_later J b r later e n l
    ]

-- the kind of the record that leaves a lane in a phase; it is not told of an idle one
abbrev pub kind_in : Phase → ℕ
kind_in Idle = 0
kind_in InLock = 2
kind_in InFinish = 3
kind_in InPrepare = 6
kind_in InCommit = 7
kind_in InDiscard = 8

by_phase : (lane : ℕ) (r : Record) → ((slot_by lane (Some r)).phase ≡ Idle) ⊎ (kind_of r ≡ kind_in (slot_by lane (Some r)).phase)
by_phase lane (Genesis header hs) = inl refl
by_phase lane (Start header) = inl refl
by_phase lane (Forget stamp b) = inl refl
by_phase lane (Done stamp b) = inl refl
by_phase lane (Upgrade stamp batch) = inl refl
by_phase lane (Carry stamp header source hs numbers) = inl refl
by_phase lane (CarryStart stamp header source numbers) = inl refl
by_phase lane (Seal stamp to shards) = inl refl
by_phase lane other = inr refl

-- the last record of the batch of a slot that is not idle
pub record LastStands (J : List Record) (b : Batch) : Type 0 where
  pub last : Record
  pub stands : record_of (kind_in (slot J b.lane).phase) J b ≡ Some last
  pub stamp : slot_stamp J b.lane ≡ stamp_of last
  pub phase : (slot_by b.lane (Some last)).phase ≡ (slot J b.lane).phase

pub last_stands : (J : List Record) (b : Batch) → (slot J b.lane).number ≡ b.number → ((slot J b.lane).phase ≡ Idle → ⊥) → LastStands J b
last_stands J b n busy = from (last_is J b n)
  where
    from : LastIs J b → LastStands J b
    from (nothing_yet z i) = absurd (busy i)
    from (begun r first e i) = absurd (busy i)
    from (of_kind kind r e w k q) = elim (by_phase b.lane r) [
      | inl i ↦ absurd (busy (q ∙ i))
      | inr m ↦ record {
        last = r;
        stands = subst (λ h. record_of h J b ≡ Some r) (sym k ∙ m ∙ ap kind_in (sym q)) e;
        stamp = w;
        phase = sym q;
      }
    ]

-- and its stamp, by its phase
pub last_stamped : (J : List Record) (b : Batch) (p : Phase) → (slot J b.lane).phase ≡ p → (l : LastStands J b)
    → (record_of (kind_in p) J b ≡ Some l.last) × (slot_stamp J b.lane ≡ stamp_in (record_of (kind_in p) J b))
last_stamped J b p e l =
    let stands : record_of (kind_in p) J b ≡ Some l.last = subst (λ q. record_of (kind_in q) J b ≡ Some l.last) e l.stands in
    (stands, l.stamp ∙ ap stamp_in (sym stands))

pub phase_stands : (J : List Record) (b : Batch) → (slot J b.lane).number ≡ b.number → (p : Phase) → (slot J b.lane).phase ≡ p
    → ((slot J b.lane).phase ≡ Idle → ⊥) → is_some (record_of (kind_in p) J b) ≡ true
phase_stands J b n p e busy = ap is_some (last_stamped J b p e (last_stands J b n busy)).0

pub phase_stamp : (J : List Record) (b : Batch) → (slot J b.lane).number ≡ b.number → (p : Phase) → (slot J b.lane).phase ≡ p
    → ((slot J b.lane).phase ≡ Idle → ⊥)
    → slot_stamp J b.lane ≡ stamp_in (record_of (kind_in p) J b)
phase_stamp J b n p e busy = (last_stamped J b p e (last_stands J b n busy)).1
