-- Records of another lane: what a lane's own records say stays.
use Rattle.std.proofs.Common.{◌≡◌, ◌≢◌, true, false, ℕ, List, [], ◌∷◌, ◌++◌, refl, sym, ap, ◌∙◌, subst, arith}
use Rattle.cbdc_model.specs.Records.{Batch, Record, record_of, is_in_lane, tells_lane}
use Rattle.cbdc_model.specs.Slots.{slot}
use Rattle.cbdc_model.proofs.Telling.{in_lane_later, in_lane_tells}
use Rattle.ledger_laws.proofs.ByKind.{lanes_apart}
use Rattle.lane_laws.specs.Batches.{own}
use Rattle.lane_laws.proofs.Own.{own_out, record_own, slot_own}
use Rattle.ledger_runs.specs.Faults.{AreOfLane, GrowBy}

not_of : (lane other : ℕ) (r : Record) → other ≢ lane → is_in_lane other r ≡ true → tells_lane lane r ≡ false
not_of lane other r apart h =
    lanes_apart other lane r (in_lane_later other r h) (in_lane_tells other other r h ∙ h) (grind (arith, apart))

own_stays : (lane other : ℕ) → other ≢ lane → (more old : List Record) → AreOfLane other more → own lane (more ++ old) ≡ own lane old
own_stays lane other apart [] old all = refl
own_stays lane other apart (r ∷ more) old all = own_out lane r (more ++ old) (not_of lane other r apart all.0)
    ∙ own_stays lane other apart more old all.1

module _ (lane other : ℕ) (apart : other ≢ lane) (J X : ℕ → List Record) (grown : GrowBy other J X) where
  pub own_same : (n : ℕ) → own lane (X n) ≡ own lane (J n)
  own_same n = ap (λ L. own lane L) (grown n).1 ∙ own_stays lane other apart (grown n).0 (J n) (grown n).2

  pub slot_same : (n : ℕ) → slot (X n) lane ≡ slot (J n) lane
  slot_same n = slot_own lane (X n) ∙ ap (λ L. slot L lane) (own_same n) ∙ sym (slot_own lane (J n))

  pub record_same : (kind n : ℕ) (b : Batch) → b.lane ≡ lane → record_of kind (X n) b ≡ record_of kind (J n) b
  record_same kind n b is =
      record_own kind b (X n) ∙ ap (λ L. record_of kind L b) (subst (λ l. own l (X n) ≡ own l (J n)) (sym is) (own_same n))
      ∙ sym (record_own kind b (J n))
