-- What a lane made leaves of the other lanes.
use Rattle.std.proofs.Common.{◌≡◌, ◌≢◌, inl, inr, ℕ, Bool, true, false, ◌==◌, List, [], ◌∷◌, ◌++◌, if◌then◌else◌, refl, sym, ap, ◌∙◌, append_assoc}
use Rattle.std.proofs.Common.{arith}
use Rattle.cbdc_model.specs.Records.{Shape, Compact, Record, tells_lane, Prepare}
use Rattle.cbdc_model.specs.Slots.{slot}
use Rattle.cbdc_model.specs.Lanes.{may_come, Made}
use Rattle.cbdc_model.specs.Waves.{prepared}
use Rattle.ledger_laws.proofs.ByKind.{held_later, lanes_apart}
use Rattle.cbdc_model.specs.After.{IsFirst}
use Rattle.ledger_laws.proofs.Last.{slot_stays}
use Rattle.run_laws.specs.Runs.{seen_by, LeavesOthers, OthersLaw}
use Rattle.run_laws.proofs.TurnStep.{lifted}

unlike : (lane other : ℕ) → other ≢ lane → (lane == other) ≡ false
unlike lane other apart = grind (arith, apart)

-- a batch of the lane is none of another
elsewhere : (l lane other : ℕ) → other ≢ lane → (l == lane) ≡ true → (l == other) ≡ false
elsewhere l lane other apart h = grind (arith, h, apart)

passed : {A : Type 0} (t : Bool) (x y : A) → t ≡ false → (if t then x else y) ≡ y
passed true x y h = absurd (let z : true ≡ false = h in cc)
passed false x y h = refl

-- a record of the lane leaves the slot of another
slot_step : (lane other : ℕ) (r : Record) (past : List Record) → (IsFirst r → ⊥) → other ≢ lane → tells_lane lane r ≡ true
    → slot (r ∷ past) other ≡ slot past other
slot_step lane other r past later apart h = slot_stays r past other (lanes_apart lane other r later h (unlike lane other apart))

-- and is no Prepare of another
prepared_step : (lane other : ℕ) (r : Record) (past : List Record) → other ≢ lane → tells_lane lane r ≡ true
    → prepared other (r ∷ past) ≡ prepared other past
prepared_step lane other (Prepare stamp b txs) past apart h =
    passed (b.lane == other) (txs ∷ prepared other past) (prepared other past) (elsewhere b.lane lane other apart h)
prepared_step lane other another past apart h = refl

module _ (K : Shape) (pieces : List (List Compact)) (lane : ℕ) (I J : ℕ → List Record) (made : Made K pieces true lane I J) where
  not_alone : (r : Record) → may_come true lane r ≡ true → ⊥
  not_alone r h = grind (arith, h)

  -- each new record is the lane's
  its_own : (n : ℕ) (newer more : List Record) (r : Record) → J n ≡ newer ++ r ∷ (more ++ I n) → tells_lane lane r ≡ true
  its_own n newer more r e = elim (made.each n newer (more ++ I n) r e (more, refl)) [
    | inl o ↦ absurd (not_alone r o)
    | inr s ↦ s.0
  ]

  new : (n : ℕ) (newer more : List Record) (r : Record) → J n ≡ newer ++ r ∷ (more ++ I n) → IsFirst r → ⊥
  new n newer more r e = elim (made.each n newer (more ++ I n) r e (more, refl)) [
    | inl o ↦ absurd (not_alone r o)
    | inr s ↦ held_later pieces r s.2
  ]

  shifted : (newer more : List Record) (r : Record) (old : List Record) → newer ++ r ∷ (more ++ old) ≡ (newer ++ r ∷ []) ++ (more ++ old)
  shifted newer more r old = sym (append_assoc newer (r ∷ []) (more ++ old))

  slots_from : (n other : ℕ) → other ≢ lane → (more newer : List Record) → J n ≡ newer ++ (more ++ I n) → slot (more ++ I n) other ≡ slot (I n) other
  slots_from n other apart [] newer e = refl
  slots_from n other apart (r ∷ more) newer e =
      slot_step lane other r (more ++ I n) (new n newer more r e) apart (its_own n newer more r e)
      ∙ slots_from n other apart more (newer ++ r ∷ []) (e ∙ shifted newer more r (I n))

  prepared_from : (n other : ℕ) → other ≢ lane → (more newer : List Record) → J n ≡ newer ++ (more ++ I n)
      → prepared other (more ++ I n) ≡ prepared other (I n)
  prepared_from n other apart [] newer e = refl
  prepared_from n other apart (r ∷ more) newer e =
      prepared_step lane other r (more ++ I n) apart (its_own n newer more r e)
      ∙ prepared_from n other apart more (newer ++ r ∷ []) (e ∙ shifted newer more r (I n))

  pub leaves : LeavesOthers K lane I J
  leaves = record {
    slots = λ other n apart. ap (λ L. slot L other) (made.grows n).1 ∙ slots_from n other apart (made.grows n).0 [] (made.grows n).1;
    prepares = λ other n apart. ap (λ L. prepared other L) (made.grows n).1 ∙ prepared_from n other apart (made.grows n).0 [] (made.grows n).1;
  }

pub others_law : OthersLaw
others_law K pieces lane logs shards logs' shards' home turn =
    leaves K pieces lane (seen_by K logs shards) (seen_by K logs' shards') (lifted K pieces lane logs shards logs' shards' home turn)
