-- A record of a lane is no first record, and tells of no lane but its own.
use Rattle.std.proofs.Common.{◌≡◌, ℕ, Bool, true, false, refl}
use Rattle.cbdc_model.specs.Records.{Record, is_in_lane, tells_lane, Genesis, Start, Carry, CarryStart}
use Rattle.cbdc_model.specs.After.{IsFirst}

pub in_lane_later : (l : ℕ) (r : Record) → is_in_lane l r ≡ true → IsFirst r → ⊥
in_lane_later l (Genesis header hs) e first = absurd (let z : false ≡ true = e in cc)
in_lane_later l (Start header) e first = absurd (let z : false ≡ true = e in cc)
in_lane_later l (Carry stamp header source hs numbers) e first = absurd (let z : false ≡ true = e in cc)
in_lane_later l (CarryStart stamp header source numbers) e first = absurd (let z : false ≡ true = e in cc)
in_lane_later l other e first = first

pub later_tells : (m : ℕ) (r : Record) → (IsFirst r → ⊥) → tells_lane m r ≡ is_in_lane m r
later_tells m (Carry stamp header source hs numbers) later = absurd (later tt)
later_tells m (CarryStart stamp header source numbers) later = absurd (later tt)
later_tells m other later = refl

pub in_lane_tells : (l m : ℕ) (r : Record) → is_in_lane l r ≡ true → tells_lane m r ≡ is_in_lane m r
in_lane_tells l m r e = later_tells m r (in_lane_later l r e)
