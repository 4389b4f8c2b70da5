-- What is kept free for unfinished batches, as records come.
use Rattle.std.proofs.Common.{◌≡◌, ◌≢◌, ℕ, zero, suc, ◌+◌, ◌≤◌, ◌<◌, List, refl, ap, arith}
use Rattle.cbdc_model.specs.Records.{Record}
use Rattle.cbdc_model.specs.Room.{lane_room, kept_below}
use Rattle.shard_core.proofs.Applies.{Yes, No, same_nat}

kept_same : (J N : List Record) (lane n : ℕ) → ((l : ℕ) → lane ≢ l → lane_room N l ≡ lane_room J l) → n ≤ lane → kept_below N n ≡ kept_below J n
kept_same J N lane zero others le = refl
kept_same J N lane (suc n) others le =
    let here : lane_room N n ≡ lane_room J n = others n (omega arith) in
    let below : kept_below N n ≡ kept_below J n = kept_same J N lane n others (omega arith) in
    omega arith

-- only one lane's room changes
pub kept_moves : (J N : List Record) (lane n : ℕ) → ((l : ℕ) → lane ≢ l → lane_room N l ≡ lane_room J l) → lane < n
    → kept_below N n + lane_room J lane ≡ kept_below J n + lane_room N lane
kept_moves J N lane zero others lt = absurd (omega arith)
kept_moves J N lane (suc n) others lt = elim (same_nat lane n) [
  | Yes e ↦
      let below : kept_below N n ≡ kept_below J n = kept_same J N lane n others (omega arith) in
      let new : lane_room N lane ≡ lane_room N n = ap (lane_room N) e in
      let old : lane_room J lane ≡ lane_room J n = ap (lane_room J) e in
      omega arith
  | No apart ↦
      let below : kept_below N n + lane_room J lane ≡ kept_below J n + lane_room N lane = kept_moves J N lane n others (omega arith) in
      let here : lane_room N n ≡ lane_room J n = others n apart in
      omega arith
]

pub lane_le : (J : List Record) (lane n : ℕ) → lane < n → lane_room J lane ≤ kept_below J n
lane_le J lane zero lt = absurd (omega arith)
lane_le J lane (suc n) lt = elim (same_nat lane n) [
  | Yes e ↦ let same : lane_room J lane ≡ lane_room J n = ap (lane_room J) e in omega arith
  | No apart ↦ let below : lane_room J lane ≤ kept_below J n = lane_le J lane n (omega arith) in omega arith
]
