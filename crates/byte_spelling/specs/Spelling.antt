-- The one spelling of numbers, lists and transactions.
use Rattle.std.specs.Prelude.{◌≡◌, ℕ, ◌<◌, ◌≤◌, ◌^◌, List, ◌++◌, length}
use Rattle.std.specs.List.{flat_map, AllByRecursion}
use Rattle.std.specs.Int.{w64, to_le_bytes}
use Rattle.cbdc_types.specs.declared.tx.Output.{Output}
use Rattle.cbdc_types.specs.declared.tx.Input.{Input}
use Rattle.cbdc_types.specs.declared.tx.FullTx.{FullTx}

-- eight bytes, the low one first
unfoldable pub number : ℕ → List ℕ
number n = to_le_bytes w64 n

-- how many items there are, and then the items
abbrev pub counted : {X : Type 0} → (X → List ℕ) → List X → List ℕ
counted item xs = number (length xs) ++ flat_map item xs

-- an output: its program and its value
abbrev pub output : Output → List ℕ
output o = o.program ++ number o.value

-- an input: its outpoint and the output that it claims
abbrev pub input : Input → List ℕ
input i = i.point.tx ++ number i.point.index ++ output i.output

-- a witness: its length and its bytes
abbrev pub witness : List ℕ → List ℕ
witness w = number (length w) ++ w

-- a transaction: its lists of inputs, outputs and witnesses, each counted
abbrev pub transaction : FullTx → List ℕ
transaction t = counted input t.inputs ++ counted output t.outputs ++ counted witness t.witnesses

-- a number that has a spelling, below 2^64
abbrev pub FitsNumber : ℕ → Type 0
FitsNumber n = n < 2 ^ 64

-- a hash has 32 bytes
abbrev pub FitsHash : List ℕ → Type 0
FitsHash h = length h ≡ 32

-- an output that has a spelling
pub record FitsOutput (o : Output) : Type 0 where
  pub program : length o.program ≡ 32
  pub value : o.value < 2 ^ 64

-- an input that has a spelling
pub record FitsInput (i : Input) : Type 0 where
  pub tx : length i.point.tx ≡ 32
  pub index : i.point.index < 2 ^ 64
  pub output : FitsOutput i.output

-- a witness has at most 4,096 bytes
abbrev pub FitsWitness : List ℕ → Type 0
FitsWitness w = length w ≤ 4096

-- a list of at most so many items, each of which has a spelling
abbrev pub FitsList : {X : Type 0} → ℕ → (X → Type 0) → List X → Type 0
FitsList limit Fits xs = (length xs ≤ limit) × AllByRecursion Fits xs

-- a transaction that has a spelling: its lists have at most 255 items
pub record FitsTransaction (t : FullTx) : Type 0 where
  pub inputs : FitsList 255 FitsInput t.inputs
  pub outputs : FitsList 255 FitsOutput t.outputs
  pub witnesses : FitsList 255 FitsWitness t.witnesses
