-- Transactions and coins that their ids and hashes tell apart.
use Rattle.std.specs.Prelude.{◌≡◌, List, [], ◌∷◌, ◌++◌}
use Rattle.cbdc_model.specs.Coins.{Coin, FullTx, coin_hash, tx_id, tx_coins}

-- one id, then the same inputs and outputs
abbrev pub Agree : FullTx → FullTx → Type 0
Agree t u = tx_id t ≡ tx_id u → (t.inputs ≡ u.inputs) × (t.outputs ≡ u.outputs)

-- one hash, then the same coin
abbrev pub CoinsAgree : Coin → Coin → Type 0
CoinsAgree c d = coin_hash c ≡ coin_hash d → c ≡ d

-- the coins that transactions spend and make
abbrev pub coins_in : List FullTx → List Coin
coins_in [] = []
coins_in (t ∷ ts) = t.inputs ++ (tx_coins t ++ coins_in ts)
