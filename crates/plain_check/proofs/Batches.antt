-- A record is one of a batch of which records may be written, or not.
use Rattle.std.proofs.Common.{◌≡◌, ◌↔◌, Bool, true, false, subst, sym, ◌∙◌, rules}
use Rattle.std.specs.Prelude.{IsTrue}
use Rattle.cbdc_model.specs.Records.{Batch, Record, same_batch, is_of}
use Rattle.same_records.proofs.Alikeness.{same_batch_is, same_batch_self}
use Rattle.plain_check.specs.Adding.{IsAdded}

-- a record is new where its batch is one of which records may be written
pub new_by : (of : Batch → Type 0) (r : Record) (own : Batch) (told : Bool) → ((b : Batch) → is_of b r ≡ same_batch own b) → (IsTrue told ↔ of own)
    → IsTrue told ↔ IsAdded of r
new_by of r own told is may = (
  λ t. (own, is own ∙ same_batch_self own, may.0 t),
  λ new. may.1 (subst of (sym (same_batch_is own new.0 (sym (is new.0) ∙ new.1))) new.2),
)

-- a record without a batch never is
pub not_new : (of : Batch → Type 0) (r : Record) → ((b : Batch) → is_of b r ≡ false) → IsTrue false ↔ IsAdded of r
not_new of r none = (λ t. absurd (no_lie t), λ new. absurd (differ (is_of new.0 r) (none new.0) new.1))
  where
    no_lie : IsTrue false → ⊥
    no_lie t = search rules

    differ : (b : Bool) → b ≡ false → b ≡ true → ⊥
    differ b e f = cc
