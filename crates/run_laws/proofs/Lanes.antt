-- What a record changes of the lanes' slots, and of what is kept for them.
use Rattle.std.proofs.Common.{◌≡◌, ℕ, true, false, if◌then◌else◌, List, ◌∷◌, Some, length, refl, ◌∙◌, ap, ap₂}
use Rattle.cbdc_model.specs.Records.{Batch, Compact, Answered, Record, tells_lane, entries_in, txs_in, lock_of, txs_of, Lock, Prepare}
use Rattle.cbdc_model.specs.Slots.{Phase, Slot, slot, Idle}
use Rattle.cbdc_model.specs.Due.{open_batch}
use Rattle.ledger_laws.proofs.ByKind.{lanes_apart, found_apart}
use Rattle.ledger_laws.proofs.Last.{slot_by, slot_next, slot_stays}
use Rattle.run_laws.proofs.Scales.{Scale, Fair}
use Rattle.run_laws.proofs.Numbers.{same_number, other_number}
use Rattle.cbdc_model.specs.After.{IsFirst}

-- a journal that says the same of a lane
pub record IsSameLane (J N : List Record) (lane : ℕ) : Type 0 where
  pub slots : slot N lane ≡ slot J lane
  pub locks : (n : ℕ) → lock_of N (record { lane = lane; number = n }) ≡ lock_of J (record { lane = lane; number = n })
  pub txs : (n : ℕ) → txs_of N (record { lane = lane; number = n }) ≡ txs_of J (record { lane = lane; number = n })

-- the others stay
pub others_stay : (J : List Record) (r : Record) (lane other : ℕ) → (IsFirst r → ⊥) → tells_lane lane r ≡ true → (lane ≡ other → ⊥)
    → IsSameLane J (r ∷ J) other
others_stay J r lane other later of apart =
    let h : tells_lane other r ≡ false = lanes_apart lane other r later of (other_number lane other apart) in
    record { slots = slot_stays r J other h; locks = λ n. ap entries_in (found_apart 2 r J _ h); txs = λ n. ap txs_in (found_apart 6 r J _ h) }

-- the slot that a record leaves to its lane
pub new_slot : (J : List Record) (r : Record) (lane : ℕ) → tells_lane lane r ≡ true → slot (r ∷ J) lane ≡ slot_by lane (Some r)
new_slot J r lane of = slot_next r J lane ∙ ap (λ c. if c then slot_by lane (Some r) else slot J lane) of

-- its own Lock and Prepare are found first
pub lock_found : (J : List Record) (stamp : ℕ) (b : Batch) (es : List Answered) → lock_of (Lock stamp b es ∷ J) b ≡ es
lock_found J stamp b es = let e = same_number b.lane in let n = same_number b.number in rw (e, n) refl

pub txs_found : (J : List Record) (stamp : ℕ) (b : Batch) (txs : List Compact) → txs_of (Prepare stamp b txs ∷ J) b ≡ txs
txs_found J stamp b txs = let e = same_number b.lane in let n = same_number b.number in rw (e, n) refl

-- the batch that a slot names
pub named : (J : List Record) (b : Batch) → (slot J b.lane).number ≡ b.number → open_batch J b.lane ≡ b
named J b e = λ i. record { lane = b.lane; number = e i }

module _ (s : Scale) where
  -- what is kept for a lane
  abbrev pub kept_for : List Record → ℕ → ℕ
  kept_for J lane = s.kept (slot J lane).phase (length (lock_of J (open_batch J lane))) (length (txs_of J (open_batch J lane)))

  pub kept_same : (J N : List Record) (lane : ℕ) → IsSameLane J N lane → kept_for N lane ≡ kept_for J lane
  kept_same J N lane same =
      let room_at : Slot → ℕ = λ x. s.kept x.phase (length (lock_of N (record { lane = lane; number = x.number })))
      (length (txs_of N (record { lane = lane; number = x.number }))) in
      let n = (slot J lane).number in
      ap room_at same.slots ∙ ap₂ (λ (m k : ℕ). s.kept (slot J lane).phase m k) (ap length (same.locks n)) (ap length (same.txs n))

  -- by its phase and its batch
  pub kept_in : (J : List Record) (b : Batch) (p : Phase) → slot J b.lane ≡ record { number = b.number; phase = p }
      → kept_for J b.lane ≡ s.kept p (length (lock_of J b)) (length (txs_of J b))
  kept_in J b p e = ap (λ (x : Slot). s.kept x.phase (length (lock_of J (record { lane = b.lane; number = x.number })))
      (length (txs_of J (record { lane = b.lane; number = x.number })))) e

  pub slot_parts : (J : List Record) (b : Batch) (p : Phase) → (slot J b.lane).phase ≡ p → (slot J b.lane).number ≡ b.number
      → slot J b.lane ≡ record { number = b.number; phase = p }
  slot_parts J b p e n = λ i. record { number = n i; phase = e i }

  pub kept_idle : Fair s → (J : List Record) (lane : ℕ) → (slot J lane).phase ≡ Idle → kept_for J lane ≡ 0
  kept_idle fair J lane e = ap (λ (p : Phase). s.kept p (length (lock_of J (open_batch J lane))) (length (txs_of J (open_batch J lane)))) e
      ∙ fair.idle (length (lock_of J (open_batch J lane))) (length (txs_of J (open_batch J lane)))
