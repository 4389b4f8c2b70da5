-- Coins, ids of transactions and hashes of coins, and what coordinators and shards see of a transaction.
use Rattle.std.specs.Prelude.{ℕ, suc, List, [], ◌∷◌, ◌++◌, map}
use Rattle.sha2.specs.Sha256.{sha256}
use Rattle.byte_spelling.specs.Spelling.{input, output, counted}
use Rattle.cbdc_model.specs.Records.{Digest, Compact}
pub use Rattle.cbdc_types.specs.declared.tx.OutPoint.{OutPoint}
pub use Rattle.cbdc_types.specs.declared.tx.Output.{Output}
pub use Rattle.cbdc_types.specs.declared.tx.Input.{Input}
pub use Rattle.cbdc_types.specs.declared.tx.FullTx.{FullTx}

-- a coin is an output at an outpoint, as the input that spends it names it
abbrev pub Coin : Type 0
Coin = Input

-- the hash of a coin: SHA-256 of the 80 bytes of the input that spends it
unfoldable pub coin_hash : Coin → Digest
coin_hash c = sha256 (input c)

-- SHA-256 of the inputs and the outputs, each with its count before it
unfoldable pub id_of : List Input → List Output → Digest
id_of inputs outputs = sha256 (counted input inputs ++ counted output outputs)

-- the id of a transaction
abbrev pub tx_id : FullTx → Digest
tx_id t = id_of t.inputs t.outputs

-- the coins of outputs under an id, the first of which has index k
abbrev pub made_coins : Digest → ℕ → List Output → List Coin
made_coins id k [] = []
made_coins id k (o ∷ os) = record { point = record { tx = id; index = k }; output = o } ∷ made_coins id (suc k) os

-- the coins that a transaction makes
abbrev pub tx_coins : FullTx → List Coin
tx_coins t = made_coins (tx_id t) 0 t.outputs

-- its id, and the hashes of the coins that it spends and makes, in order
abbrev pub compact : FullTx → Compact
compact t = record { id = tx_id t; inputs = map coin_hash t.inputs; outputs = map coin_hash (tx_coins t) }

-- a mint as a transaction with no inputs
abbrev pub genesis_tx : List Output → FullTx
genesis_tx mint = record { inputs = []; outputs = mint; witnesses = [] }

-- the id of a mint
abbrev pub genesis_id : List Output → Digest
genesis_id mint = tx_id (genesis_tx mint)

-- the hashes of a mint's coins, in order
abbrev pub genesis_hashes : List Output → List Digest
genesis_hashes mint = map coin_hash (tx_coins (genesis_tx mint))
