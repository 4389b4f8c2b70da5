-- A lane's list, cut into batches.
use Rattle.std.proofs.Common.{◌≡◌, ℕ, ◌+◌, ◌-◌, ◌*◌, ◌<◌, ◌≤◌, List, [], ◌∷◌, ◌++◌, length, take, drop, reverse, inl, inr, arith, sym, subst}
use Rattle.std.proofs.Math.Nat.{mul-le-mul_left}
use Rattle.std.proofs.lemmas.Bool.{cases_lt}
use Rattle.std.proofs.lemmas.Slice.Zip.{all_zipped_more}
use Rattle.std.proofs.lemmas.Grind.{reverse_onto}
use Rattle.cbdc_model.specs.Records.{Compact}
use Rattle.lane_driver.specs.declared.fault.BatchReport.{BatchReport}
use Rattle.lane_driver.specs.Reports.{IsReported, AreBatchReports}

-- there is room for a piece while something is left
pub room_left : (r b n c : ℕ) → 0 < r → r + b * n ≤ b * c → n < c
room_left r b n c some room =
    elim (cases_lt n c) [
      | inl lt ↦ lt
      | inr full ↦ absurd (let most : b * c ≤ b * n = mul-le-mul_left b full in omega arith)
    ]

-- a piece more needs no more room than there is
pub room_after : (r b n c m k d : ℕ) → 0 < r → r + b * n ≤ b * c → m ≡ r - b → n < c → k ≡ n + 1 → d ≡ c → m + b * k ≤ b * d
room_after r b n c m k d some room e lt ek ed =
    let more : b * (n + 1) ≤ b * c = mul-le-mul_left b (omega arith) in
    let now : m + b * (n + 1) ≤ b * c = omega (arith, more) in
    subst (λ k. m + b * k ≤ b * d) (sym ek) (subst (λ d. m + b * (n + 1) ≤ b * d) (sym ed) now)

pub reported_more : (lane n : ℕ) (txs rest piece more : List Compact) (reports : List BatchReport) (r : BatchReport)
    → IsReported lane n txs rest reports → 0 < length rest → piece ≡ take n rest → more ≡ drop n rest
    → (r.batch.lane ≡ lane) × (length r.outcomes ≡ length piece) → IsReported lane n txs more (reports ++ r ∷ [])
reported_more lane n txs rest piece more reports r so some p m is = (
  piece ∷ so.0,
  (rest, so.1, some, p, m),
  subst (λ pieces. AreBatchReports lane (reports ++ r ∷ []) pieces) (sym (reverse_onto so.0 piece []))
      (all_zipped_more (λ (r : BatchReport) (piece : List Compact). (r.batch.lane ≡ lane) × (length r.outcomes ≡ length piece)) reports
      (reverse so.0) r piece so.2 is),
)
