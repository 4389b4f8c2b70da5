-- What first records say of a mint, by its compact transaction.
use Rattle.cbdc_model.specs.Records.{Compact}
use Rattle.cbdc_model.specs.History.{Minted}

-- what first records say of a mint, by its compact transaction
abbrev pub compact_mint : Compact → Minted
compact_mint t = record { id = t.id; hashes = t.outputs }
