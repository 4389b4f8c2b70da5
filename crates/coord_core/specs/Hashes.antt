-- What a record asks of the hashes and the batches that it names.
use Rattle.std.specs.Prelude.{List, [], ◌∷◌, All}
use Rattle.cbdc_types.specs.declared.batch.ShardReplies.{ShardReplies}
use Rattle.cbdc_model.specs.Records.{Shape, Compact, Reply, Held, Missing, Taken}
use Rattle.cbdc_model.specs.Grammar.{IsHash, IsBatchOf}

-- the hashes of a transaction have 32 bytes
pub record AreHashed (t : Compact) : Type 0 where
  pub id : IsHash t.id
  pub inputs : All IsHash t.inputs
  pub outputs : All IsHash t.outputs

-- the batch that holds a hash is one of this shape
abbrev pub NamesBatch : Shape → Reply → Type 0
NamesBatch K Held = Unit {0}
NamesBatch K (Missing x) = Unit {0}
NamesBatch K (Taken x by) = IsBatchOf K by

-- the batches that hold hashes, in all these replies, are of this shape
abbrev pub AllNameBatches : Shape → List ShardReplies → Type 0
AllNameBatches K [] = Unit {0}
AllNameBatches K (r ∷ rs) = All (NamesBatch K) r.replies × AllNameBatches K rs
