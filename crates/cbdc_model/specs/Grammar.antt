-- Which records may stand in a journal with a header, whatever stands before them.
use Rattle.std.specs.Prelude.{◌≡◌, ℕ, ◌+◌, ◌*◌, ◌^◌, ◌<◌, ◌≤◌, List, [], ◌∷◌, length, All}
use Rattle.cbdc_model.specs.Records.{Digest, Shape, Header, Batch, Compact, Reply, Outcome, Answered, Record, Held, Missing, Taken, Won, Lacks}
use Rattle.cbdc_model.specs.Records.{Blocked, Genesis, Lock, Finish, Forget, Start, Prepare, Commit, Discard, Done, Upgrade, Carry, CarryStart, Seal}
use Rattle.cbdc_model.specs.Ranges.{shard_of, shard_node}

-- a stamp from 1 to 2^62, as a Lock or a Prepare has
abbrev pub IsEarly : ℕ → Type 0
IsEarly stamp = (1 ≤ stamp) × (stamp ≤ 2 ^ 62)

-- a stamp from 1 to 2^62 + 2^20, as the records behind these have
abbrev pub IsLater : ℕ → Type 0
IsLater stamp = (1 ≤ stamp) × (stamp ≤ 2 ^ 62 + 2 ^ 20)

-- a list of 32 numbers
abbrev pub IsHash : Digest → Type 0
IsHash x = length x ≡ 32

-- a batch of one of the lanes, with a number from 1 to 2^62
abbrev pub IsBatchOf : Shape → Batch → Type 0
IsBatchOf K b = (b.lane < K.coordinators * K.lanes) × (1 ≤ b.number) × (b.number ≤ 2 ^ 62)

-- at most 255 hashes
abbrev pub IsHashList : List Digest → Type 0
IsHashList xs = (length xs ≤ 255) × All IsHash xs

-- the node of a shard
abbrev pub IsShard : Shape → ℕ → Type 0
IsShard K node = (K.coordinators ≤ node) × (node < K.coordinators + K.shards)

-- the hashes lie on the shard of this node
abbrev pub AreHere : Shape → ℕ → List Digest → Type 0
AreHere K node xs = All (λ x. shard_node K (shard_of K x) ≡ node) xs

-- a list of 1 to as many items as a batch may have
abbrev pub HasSize : {X : Type 0} → Shape → List X → Type 0
HasSize K xs = (1 ≤ length xs) × (length xs ≤ K.batch)

-- places rise, and are below the limit
abbrev pub RisesFrom : ℕ → ℕ → List Answered → Type 0
RisesFrom low limit [] = Unit {0}
RisesFrom low limit (a ∷ es) = (low ≤ a.entry.place) × (a.entry.place < limit) × RisesFrom (a.entry.place + 1) limit es

-- a reply whose hash and batch are in the grammar
abbrev pub IsReply : Shape → Reply → Type 0
IsReply K Held = Unit {0}
IsReply K (Missing x) = IsHash x
IsReply K (Taken x by) = IsHash x × IsBatchOf K by

-- an outcome whose shard, hash and batch are in the grammar
abbrev pub IsOutcome : Shape → Outcome → Type 0
IsOutcome K Won = Unit {0}
IsOutcome K (Lacks shard x) = (shard < K.shards) × IsHash x
IsOutcome K (Blocked shard x by) = (shard < K.shards) × IsHash x × IsBatchOf K by

-- an entry names at least one hash, and all of them lie here
pub record IsEntry (K : Shape) (node : ℕ) (a : Answered) : Type 0 where
  pub id : IsHash a.entry.id
  pub inputs : IsHashList a.entry.inputs
  pub outputs : IsHashList a.entry.outputs
  pub some : 1 ≤ length a.entry.inputs + length a.entry.outputs
  pub inputs_here : AreHere K node a.entry.inputs
  pub outputs_here : AreHere K node a.entry.outputs
  pub reply : IsReply K a.reply

-- a compact transaction whose id is a hash and whose hash lists are in the grammar
pub record IsCompact (t : Compact) : Type 0 where
  pub id : IsHash t.id
  pub inputs : IsHashList t.inputs
  pub outputs : IsHashList t.outputs

-- a record of the grammar, at the node and under the shape of this header; that the shape is within its limits is the type's. No bytes have an
-- Upgrade, a Carry, a CarryStart or a Seal yet
abbrev pub IsInGrammar : Header → Record → Type 0
IsInGrammar h (Genesis header hs) =
    (header ≡ h) × IsHash h.genesis × IsShard h.shape h.node × (length hs ≤ 1000000) × All IsHash hs × AreHere h.shape h.node hs
IsInGrammar h (Lock stamp b es) =
    IsEarly stamp × IsBatchOf h.shape b × IsShard h.shape h.node × HasSize h.shape es
    × RisesFrom 0 h.shape.batch es × All (IsEntry h.shape h.node) es
IsInGrammar h (Finish stamp b ds) = IsLater stamp × IsBatchOf h.shape b × IsShard h.shape h.node × HasSize h.shape ds
IsInGrammar h (Forget stamp b) = IsLater stamp × IsBatchOf h.shape b × IsShard h.shape h.node
IsInGrammar h (Start header) = (header ≡ h) × IsHash h.genesis × (h.node < h.shape.coordinators)
IsInGrammar h (Prepare stamp b txs) =
    IsEarly stamp × IsBatchOf h.shape b × (h.node < h.shape.coordinators) × HasSize h.shape txs × All IsCompact txs
IsInGrammar h (Commit stamp b os) =
    IsLater stamp × IsBatchOf h.shape b × (h.node < h.shape.coordinators) × HasSize h.shape os × All (IsOutcome h.shape) os
IsInGrammar h (Discard stamp b) = IsLater stamp × IsBatchOf h.shape b × (h.node < h.shape.coordinators)
IsInGrammar h (Done stamp b) = IsLater stamp × IsBatchOf h.shape b × (h.node < h.shape.coordinators)
IsInGrammar h (Upgrade stamp batch) = ⊥
IsInGrammar h (Carry stamp header source hs numbers) = ⊥
IsInGrammar h (CarryStart stamp header source numbers) = ⊥
IsInGrammar h (Seal stamp to shards) = ⊥
