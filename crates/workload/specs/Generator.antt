-- A workload from a number: a mint, transactions that split each of its coins, and transactions that join the two halves again.
use Rattle.std.specs.Prelude.{ℕ, ◌+◌, ◌-◌, ◌*◌, ◌/◌, ◌%◌, true, List, [], ◌∷◌, ◌++◌, map, length, replicate}
use Rattle.std.specs.List.{flat_map, range_with_len}
use Rattle.byte_spelling.specs.Spelling.{number}
use Rattle.cbdc_model.specs.Records.{Digest}
use Rattle.cbdc_model.specs.Coins.{Output, FullTx, tx_id, genesis_id}
use Rattle.sentinel.specs.Lines.{spelled}
use Rattle.workload.specs.declared.Workload.{Workload}

-- the program numbered k: the number and 24 zero bytes
abbrev pub program : ℕ → Digest
program k = number k ++ replicate 24 0

-- the value of coin i, from 2 to 101
abbrev pub coin_value : ℕ → ℕ → ℕ
coin_value seed i = 2 + (seed % 100 + i) % 100

-- the coin
abbrev pub coin : ℕ → ℕ → Output
coin seed i = record { program = program i; value = coin_value seed i }

-- how many coins are minted for n transactions
abbrev pub minted_of : ℕ → ℕ
minted_of n = n - n / 2

-- how many pairs of halves are joined again, of n transactions
abbrev pub joined_of : ℕ → ℕ
joined_of n = n / 2

-- the coins of the mint
abbrev pub mint_of : ℕ → ℕ → List Output
mint_of seed n = map (coin seed) (range_with_len 0 (minted_of n))

-- a witness of 64 zero bytes
abbrev pub zero_witness : List ℕ
zero_witness = replicate 64 0

-- the first half of coin i, the smaller one where they differ
abbrev pub low_half : ℕ → ℕ → ℕ → Output
low_half seed n i = record { program = program (n + 2 * i); value = coin_value seed i / 2 }

-- the second half of coin i, the greater one where they differ
abbrev pub high_half : ℕ → ℕ → ℕ → Output
high_half seed n i = record { program = program (n + 2 * i + 1); value = coin_value seed i - coin_value seed i / 2 }

-- the transaction that splits coin i of the mint with this id
abbrev pub split_of : ℕ → ℕ → Digest → ℕ → FullTx
split_of seed n genesis i = record {
  inputs = record { point = record { tx = genesis; index = i }; output = coin seed i } ∷ [];
  outputs = low_half seed n i ∷ high_half seed n i ∷ [];
  witnesses = zero_witness ∷ [];
}

-- the first client file: each coin of the mint is split
abbrev pub splits_of : ℕ → ℕ → List FullTx
splits_of seed n = map (split_of seed n (genesis_id (mint_of seed n))) (range_with_len 0 (minted_of n))

-- the transaction that joins the two halves of coin i, which the split with this id made
abbrev pub join_by : ℕ → ℕ → ℕ → Digest → FullTx
join_by seed n i split = record {
  inputs = record { point = record { tx = split; index = 0 }; output = low_half seed n i }
      ∷ record { point = record { tx = split; index = 1 }; output = high_half seed n i } ∷ [];
  outputs = record { program = program (3 * n + i); value = coin_value seed i } ∷ [];
  witnesses = zero_witness ∷ zero_witness ∷ [];
}

-- the transaction that joins the two halves of coin i of the mint with this id
abbrev pub join_of : ℕ → ℕ → Digest → ℕ → FullTx
join_of seed n genesis i = join_by seed n i (tx_id (split_of seed n genesis i))

-- the second client file: the halves of the first coins are joined again
abbrev pub joins_of : ℕ → ℕ → List FullTx
joins_of seed n = map (join_of seed n (genesis_id (mint_of seed n))) (range_with_len 0 (joined_of n))

-- the verdict line of an input: its witness is good
abbrev pub good_line : Digest → ℕ → List ℕ
good_line id index = spelled (record { tx = id; index = index; good = true }) ++ 10 ∷ []

-- the verdict line of a transaction that splits: of its one input
abbrev pub split_lines : FullTx → List ℕ
split_lines t = good_line (tx_id t) 0

-- the verdict lines of a transaction that joins: of its two inputs
abbrev pub join_lines : FullTx → List ℕ
join_lines t = good_line (tx_id t) 0 ++ good_line (tx_id t) 1

-- the file of the verdicts: the lines of all splits, and of all joins
abbrev pub verdicts_of : ℕ → ℕ → List ℕ
verdicts_of seed n = flat_map split_lines (splits_of seed n) ++ flat_map join_lines (joins_of seed n)

-- the workload of n transactions from a seed
abbrev pub workload_of : ℕ → ℕ → Workload
workload_of seed n = record {
  mint = mint_of seed n;
  splits = splits_of seed n;
  joins = joins_of seed n;
  verdicts = verdicts_of seed n;
}
