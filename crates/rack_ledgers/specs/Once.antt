-- A file opens to one journal.
use Rattle.std.specs.Prelude.{◌≡◌, ℕ, List, reverse}
use Rattle.cbdc_types.specs.Limits.{IsWithinLimits}
use Rattle.cbdc_model.specs.Records.{Header, Record}
use Rattle.cbdc_model.specs.After.{IsJournal}
use Rattle.record_log.specs.Held.{OpensTo}

-- bytes open to the journal of one header within the limits, and to one list of records
abbrev pub OpensOnceLaw : Type 0
OpensOnceLaw = (h k : Header) (J L : List Record) (bytes : List ℕ) → IsWithinLimits h.shape → IsWithinLimits k.shape → IsJournal h J → IsJournal k L
    → OpensTo (reverse J) bytes → OpensTo (reverse L) bytes → (h ≡ k) × (J ≡ L)
