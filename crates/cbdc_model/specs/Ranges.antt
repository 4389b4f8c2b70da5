-- Which shard holds a hash, and what of a batch lies on a shard.
use Rattle.std.specs.Prelude.{◌≡◌, ℕ, suc, ◌+◌, ◌*◌, ◌/◌, ◌%◌, ◌<◌, Bool, true, false, ◌&&◌, ◌==◌, List, [], ◌∷◌, if◌then◌else◌, slice_index}
use Rattle.cbdc_model.specs.Records.{Digest, Shape, Compact, Entry, Record, Row, Batch, journal}

-- the first byte of a hash
unfoldable pub first_byte : Digest → ℕ
first_byte x = slice_index x 0 % 256

-- the shard that holds the hash: floor(b S / 256) for its first byte b and S shards, so each shard has 256 / S first bytes, rounded up or down
unfoldable pub shard_of : Shape → Digest → ℕ
shard_of K x = first_byte x * K.shards / 256

-- how many nodes a ledger has: its coordinators, then its shards
abbrev pub node_count : Shape → ℕ
node_count K = K.coordinators + K.shards

-- the node of a shard
abbrev pub shard_node : Shape → ℕ → ℕ
shard_node K s = K.coordinators + s

-- the node of a lane's coordinator
abbrev pub home_of : Shape → ℕ → ℕ
home_of K lane = lane / K.lanes

-- the journal of the shard that holds the hash, in a history
abbrev pub journal_at : Shape → List Row → Digest → List Record
journal_at K past x = journal (shard_node K (shard_of K x)) past

-- the journal of the coordinator of a batch's lane, in a history
abbrev pub lane_journal : Shape → List Row → Batch → List Record
lane_journal K past b = journal (home_of K b.lane) past

-- those of the hashes that lie on shard s, in order
abbrev pub on_shard : Shape → ℕ → List Digest → List Digest
on_shard K s [] = []
on_shard K s (x ∷ xs) = if shard_of K x == s then x ∷ on_shard K s xs else on_shard K s xs

-- whether a list of hashes is empty
abbrev pub is_empty : List Digest → Bool
is_empty [] = true
is_empty (x ∷ xs) = false

-- a transaction's entry at shard s, k being its place
abbrev pub entry_of : Shape → ℕ → ℕ → Compact → Entry
entry_of K s k t = record { place = k; id = t.id; inputs = on_shard K s t.inputs; outputs = on_shard K s t.outputs }

-- the part for shard s of transactions, the first of which has place k: an entry for each that has a hash there
abbrev pub part : Shape → ℕ → ℕ → List Compact → List Entry
part K s k [] = []
part K s k (t ∷ ts) =
    if is_empty (on_shard K s t.inputs) && is_empty (on_shard K s t.outputs)
    then part K s (suc k) ts
    else entry_of K s k t ∷ part K s (suc k) ts

-- whether a part has no entry
abbrev pub is_no_part : List Entry → Bool
is_no_part [] = true
is_no_part (e ∷ es) = false

-- shard s has a part in these transactions
abbrev pub Concerned : Shape → List Compact → ℕ → Type 0
Concerned K txs s = (s < K.shards) × (is_no_part (part K s 0 txs) ≡ false)
