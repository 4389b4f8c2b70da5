-- What is seen of a node behind a write.
use Rattle.std.proofs.Common.{◌≡◌, ℕ, [], ◌∷◌, reverse, Option, Some, ap, ◌∙◌}
use Rattle.std.specs.Prelude.{Result, Ok, Err, OnOk, OnErr}
use Rattle.std.proofs.lemmas.List.{reverse-append}
use Rattle.cbdc_model.specs.Records.{Record}
use Rattle.cbdc_model.specs.Sights.{Appends, Fails}
use Rattle.outside.specs.declared.disk.Disk.{Ghosts}
use Rattle.record_log.specs.declared.log.RecordLog.{RecordLog}
use Rattle.node_journal.specs.Nodes.{sight}
use Rattle.node_journal.specs.Shown.{shown}
use Rattle.node_journal.specs.Writing.{HasKept, HasBroken}

-- what follows of either result
pub by_result : {T E P Q R : Type 0} (r : Result T E) → OnOk r P → OnErr r Q → (P → R) → (Q → R) → R
by_result (Ok a) p q f g = f p
by_result (Err e) p q f g = g q

module _ {D : Type 0} {G : Ghosts D} where
  -- the record is the newest
  pub pushed : (old new : RecordLog D G) (r : Record) → HasKept old new r → reverse new.records.items ≡ r ∷ reverse old.records.items
  pushed old new r kept = ap reverse kept.records ∙ reverse-append old.records.items (r ∷ [])

  pub shown_appends : (old new : RecordLog D G) (opened since : ℕ) (flight landed : Option Record) (r : Record) → HasKept old new r → since ≡ opened
      → landed ≡ flight
      → Appends (sight (shown old opened flight)) (sight (shown new since landed)) (reverse old.records.items) r
  shown_appends old new opened since flight landed r kept when same =
      record {
        node = record { header = kept.header; opened = when; capacity = kept.limit; later = kept.later };
        seen = pushed old new r kept;
        flight = same;
      }

  pub shown_fails : (old new : RecordLog D G) (opened since : ℕ) (flight landed : Option Record) (r : Record) → HasBroken old new → since ≡ opened
      → landed ≡ Some r
      → Fails (sight (shown old opened flight)) (sight (shown new since landed)) (reverse old.records.items) r
  shown_fails old new opened since flight landed r broken when same =
      record {
        node = record { header = broken.header; opened = when; capacity = broken.limit; later = broken.later };
        seen = ap reverse broken.records;
        flight = same;
        rose = broken.rose;
      }
