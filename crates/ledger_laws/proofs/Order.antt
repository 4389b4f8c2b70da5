-- Stamps in one journal: a Done of an earlier batch is older than a Prepare of a later one; and what a lane's last record is.
use Rattle.std.proofs.Common.{◌≡◌, ℕ, ◌<◌, ◌≤◌, true, false, ◌&&◌, ◌==◌, List, ◌∷◌, is_some, refl, sym, ap, ◌∙◌, subst, arith}
use Rattle.cbdc_model.specs.Records.{Shape, Batch, Record, record_of, kind_of, is_of, stamp_of, stamp_in, last_stamp, Genesis, Start, Done, Carry}
use Rattle.cbdc_model.specs.Records.{CarryStart}
use Rattle.cbdc_model.specs.Slots.{slot}
use Rattle.ledger_laws.proofs.Next.{Next}
use Rattle.ledger_laws.proofs.Slots.{JournalOk}
use Rattle.ledger_laws.proofs.ByKind.{split_test, test_kind, test_step, found_new, after_stamp}

pub record OrderOk (J : List Record) : Type 0 where
  pub stamps_le : (kind : ℕ) (b : Batch) → stamp_in (record_of kind J b) ≤ last_stamp J
  pub done_first : (c b : Batch) → c.lane ≡ b.lane → c.number < b.number → is_some (record_of 9 J c) ≡ true → is_some (record_of 6 J b) ≡ true
      → stamp_in (record_of 9 J c) < stamp_in (record_of 6 J b)

-- a record that comes is no Done of an earlier batch than one that is prepared
done_number : (K : Shape) (node : ℕ) (J : List Record) (r : Record) → JournalOk J → Next K node J r → (c b : Batch) → c.lane ≡ b.lane
    → c.number < b.number
    → ((kind_of r == 9) && is_of c r) ≡ true → is_some (record_of 6 J b) ≡ true → ⊥
done_number K node J (Done stamp d) ok next c b lanes lt t prepared =
    let s : (9 ≡ 9) × (d ≡ c) = split_test 9 9 d c t in
    let n : (slot J c.lane).number ≡ c.number = subst (λ e. (slot J e.lane).number ≡ e.number) s.1 next.4 in
    let m : (slot J b.lane).number ≡ c.number = subst (λ l. (slot J l).number ≡ c.number) lanes n in
    omega (arith, ok.prepare_below b prepared)
done_number K node J (Genesis header hs) ok next c b lanes lt t prepared = absurd next
done_number K node J (Carry stamp header source hs numbers) ok next c b lanes lt t prepared = absurd next
done_number K node J (Start header) ok next c b lanes lt t prepared = absurd next
done_number K node J (CarryStart stamp header source numbers) ok next c b lanes lt t prepared = absurd next
done_number K node J other ok next c b lanes lt t prepared = absurd (let z : false ≡ true = t in cc)

-- one record is no Done and no Prepare at once
not_both : (r : Record) (c b : Batch) → ((kind_of r == 9) && is_of c r) ≡ true → ((kind_of r == 6) && is_of b r) ≡ true → ⊥
not_both r c b t u = let k : kind_of r ≡ 9 = test_kind 9 c r t in let l : kind_of r ≡ 6 = test_kind 6 b r u in omega arith

pub next_order : (K : Shape) (node : ℕ) (J : List Record) (r : Record) → JournalOk J → Next K node J r → OrderOk J → OrderOk (r ∷ J)
next_order K node J r ok next order =
    let newer : last_stamp J < stamp_of r = after_stamp K node J r next in
    record {
      stamps_le = λ kind b. elim ((kind_of r == kind) && is_of b r) as
          (λ t. ((kind_of r == kind) && is_of b r) ≡ t → stamp_in (record_of kind (r ∷ J) b) ≤ stamp_of r) [
            | true ↦ λ t. le_same (ap stamp_in (found_new kind r J b t))
            | false ↦ λ t. le_old (ap stamp_in (test_step kind r J b t)) (order.stamps_le kind b) newer
          ] refl;
      done_first = λ c b lanes lt d p.
          elim ((kind_of r == 9) && is_of c r) as
          (λ t. ((kind_of r == 9) && is_of c r) ≡ t → stamp_in (record_of 9 (r ∷ J) c) < stamp_in (record_of 6 (r ∷ J) b)) [
            | true ↦ λ t. absurd (elim ((kind_of r == 6) && is_of b r) as (λ u. ((kind_of r == 6) && is_of b r) ≡ u → ⊥) [
              | true ↦ λ u. not_both r c b t u
              | false ↦ λ u. done_number K node J r ok next c b lanes lt t (sym (ap is_some (test_step 6 r J b u)) ∙ p)
            ] refl)
            | false ↦ λ t. elim ((kind_of r == 6) && is_of b r) as
                (λ u. ((kind_of r == 6) && is_of b r) ≡ u → stamp_in (record_of 9 (r ∷ J) c) < stamp_in (record_of 6 (r ∷ J) b)) [
                  | true ↦ λ u. lt_new (ap stamp_in (test_step 9 r J c t)) (order.stamps_le 9 c) newer (ap stamp_in (found_new 6 r J b u))
                  | false ↦ λ u. lt_old (ap stamp_in (test_step 9 r J c t))
                      (order.done_first c b lanes lt (sym (ap is_some (test_step 9 r J c t)) ∙ d) (sym (ap is_some (test_step 6 r J b u)) ∙ p))
                      (ap stamp_in (test_step 6 r J b u))
                ] refl
          ] refl;
    }
  where
    le_same : {a b : ℕ} → a ≡ b → a ≤ b
    le_same e = omega arith

    le_old : {a b c d : ℕ} → a ≡ b → b ≤ c → c < d → a ≤ d
    le_old e f g = omega arith

    lt_new : {a b c d e : ℕ} → a ≡ b → b ≤ c → c < d → e ≡ d → a < e
    lt_new e f g h = omega arith

    lt_old : {a b c d : ℕ} → a ≡ b → b < c → d ≡ c → a < d
    lt_old e f g = omega arith
