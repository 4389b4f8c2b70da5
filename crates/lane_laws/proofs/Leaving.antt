-- What the lock's end says of a lane's seats gives what it left; and then what the lane had seen of itself holds of the final journals.
use Rattle.std.proofs.Common.{◌≡◌, ℕ, suc, ◌+◌, true, false, List, [], ◌∷◌, ◌++◌, length, length-append, refl, sym, ap, ◌∙◌, arith}
use Rattle.cbdc_model.specs.Records.{Record, tells_lane}
use Rattle.cbdc_model.specs.Slots.{slot, Idle}
use Rattle.cbdc_model.specs.Lanes.{IsEnd, Left}
use Rattle.lane_laws.specs.Batches.{own, prepares_txs, prepared_of}
use Rattle.lane_laws.proofs.Own.{own_in, own_out, slot_own}

own-append : (lane : ℕ) (A B : List Record) → own lane (A ++ B) ≡ own lane A ++ own lane B
own-append lane [] B = refl
own-append lane (r ∷ A) B = elim (tells_lane lane r) as (λ t. tells_lane lane r ≡ t → own lane (r ∷ (A ++ B)) ≡ own lane (r ∷ A) ++ own lane B) [
  | true ↦ λ t. own_in lane r (A ++ B) t ∙ ap (λ L. r ∷ L) (own-append lane A B) ∙ ap (λ L. L ++ own lane B) (sym (own_in lane r A t))
  | false ↦ λ t. own_out lane r (A ++ B) t ∙ own-append lane A B ∙ ap (λ L. L ++ own lane B) (sym (own_out lane r A t))
] refl

-- each record of the lane in the final journals is one that it had seen
pub left_of_own : (lane : ℕ) (J X : ℕ → List Record) → ((n : ℕ) → IsEnd (J n) (X n)) → ((n : ℕ) → own lane (X n) ≡ own lane (J n)) → Left lane J X
left_of_own lane J X ends same = record { more = λ n. (ends n).0; is = λ n. (ends n).1; others = λ n newer rest r e. none n newer rest r e }
  where
    none : (n : ℕ) (newer rest : List Record) (r : Record) → (ends n).0 ≡ newer ++ r ∷ rest → tells_lane lane r ≡ false
    none n newer rest r e = elim (tells_lane lane r) as (λ t. tells_lane lane r ≡ t → t ≡ false) [
      | false ↦ λ t. refl
      | true ↦ λ t. absurd (
          let a : own lane (X n) ≡ own lane (newer ++ r ∷ rest) ++ own lane (J n) =
          ap (λ L. own lane L) ((ends n).1 ∙ ap (λ L. L ++ J n) e) ∙ own-append lane (newer ++ r ∷ rest) (J n) in
          let b : own lane (newer ++ r ∷ rest) ≡ own lane newer ++ r ∷ own lane rest =
          own-append lane newer (r ∷ rest) ∙ ap (λ L. own lane newer ++ L) (own_in lane r rest t) in
          let c : own lane (J n) ≡ (own lane newer ++ r ∷ own lane rest) ++ own lane (J n) = sym (same n) ∙ a ∙ ap (λ L. L ++ own lane (J n)) b in
          let d : length (own lane (J n)) ≡ (length (own lane newer) + suc (length (own lane rest))) + length (own lane (J n)) =
          ap length c ∙ simp length-append in
          omega arith)
    ] refl

own_none : (lane : ℕ) (more : List Record) → ((newer rest : List Record) (r : Record) → more ≡ newer ++ r ∷ rest → tells_lane lane r ≡ false)
    → own lane more ≡ []
own_none lane [] h = refl
own_none lane (r ∷ more) h = own_out lane r more (h [] more r refl) ∙ own_none lane more (λ newer rest q e. h (r ∷ newer) rest q (ap (λ L. r ∷ L) e))

pub left_own : (lane : ℕ) (J X : ℕ → List Record) → Left lane J X → (n : ℕ) → own lane (X n) ≡ own lane (J n)
left_own lane J X l n = ap (λ L. own lane L) (l.is n) ∙ own-append lane (l.more n) (J n)
    ∙ ap (λ L. L ++ own lane (J n)) (own_none lane (l.more n) (λ newer rest r e. l.others n newer rest r e))

-- its Prepares and its idleness at the final journals, from the lane's clause
pub left_prepared : (lane : ℕ) (J X : ℕ → List Record) → Left lane J X → (n : ℕ) → prepared_of lane (X n) ≡ prepared_of lane (J n)
left_prepared lane J X l n = ap prepares_txs (left_own lane J X l n)

pub left_idle : (lane : ℕ) (J X : ℕ → List Record) → Left lane J X → (n : ℕ) → (slot (J n) lane).phase ≡ Idle → (slot (X n) lane).phase ≡ Idle
left_idle lane J X l n i = ap (λ q. q.phase) (slot_own lane (X n) ∙ ap (λ L. slot L lane) (left_own lane J X l n) ∙ sym (slot_own lane (J n))) ∙ i
