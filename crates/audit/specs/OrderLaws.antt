-- What is known of journals, as one statement.
use Rattle.std.specs.Prelude.{List, reverse}
use Rattle.cbdc_model.specs.Records.{Header, Record}
use Rattle.cbdc_model.specs.After.{IsJournal}
use Rattle.audit.specs.Rows.{Rises}

-- stamps rise along the journal of a node
abbrev pub RisesLaw : Type 0
RisesLaw = (h : Header) (records : List Record) → IsJournal h (reverse records) → Rises records
