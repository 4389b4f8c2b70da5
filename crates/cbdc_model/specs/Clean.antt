-- Mints and submissions without clashes of hashes, and which transactions may be prepared.
use Rattle.std.specs.Prelude.{◌≡◌, ◌≢◌, ◌⊎◌, ℕ, ◌<◌, ◌≤◌, ◌^◌, List, map, length, sum_by, All, Contains, bytes_eq}
use Rattle.std.specs.List.{IsDistinct}
use Rattle.cbdc_types.specs.Kinds.{kind_of}
use Rattle.cbdc_types.specs.declared.tx.Kind.TheVariants.{Burn}
use Rattle.cbdc_model.specs.Records.{Compact}
use Rattle.cbdc_model.specs.Coins.{Input, Output, Coin, FullTx, coin_hash, tx_id, tx_coins, compact, genesis_tx}
use Rattle.cbdc_model.specs.Money.{permits_of, issuable_of, sum_in, sum_out, ArePaired}
use Rattle.cbdc_model.specs.Book.{key}

-- the mint, or one of the submissions
abbrev pub IsMember : List Output → List FullTx → FullTx → Type 0
IsMember mint submissions t = (t ≡ genesis_tx mint) ⊎ Contains submissions t

-- a coin that some member spends or makes
abbrev pub IsNamed : List Output → List FullTx → Coin → Type 0
IsNamed mint submissions c = (t : FullTx) × IsMember mint submissions t × (Contains t.inputs c ⊎ Contains (tx_coins t) c)

-- members that differ in inputs or outputs have different ids, and different coins that members spend or make have different hashes
pub record Clean (mint : List Output) (submissions : List FullTx) : Type 0 where
  pub ids : (t u : FullTx) → IsMember mint submissions t → IsMember mint submissions u → tx_id t ≡ tx_id u
      → (t.inputs ≡ u.inputs) × (t.outputs ≡ u.outputs)
  pub hashes : (c d : Coin) → IsNamed mint submissions c → IsNamed mint submissions d → coin_hash c ≡ coin_hash d → c ≡ d

-- the sum of the values that inputs claim
abbrev pub value_in : List Input → ℕ
value_in inputs = sum_by (λ c. c.output.value) inputs

-- the sum of the values of outputs
abbrev pub value_out : List Output → ℕ
value_out outputs = sum_by (λ o. o.value) outputs

-- inputs and outputs keep the money: equal sums of values; no burn output is claimed; of permits none is spent and none made, or one and one, the
-- one that is made with no greater value
pub record KeepsMoney (inputs : List Input) (outputs : List Output) : Type 0 where
  pub balanced : value_in inputs ≡ value_out outputs
  pub none_burnt : All (λ c. kind_of c.output ≢ Burn) inputs
  pub permits : ArePaired (sum_in permits_of inputs) (sum_out permits_of outputs)
  pub not_raised : sum_out issuable_of outputs ≤ sum_in issuable_of inputs

-- what is checked of a transaction without asking whether its witnesses are good: some inputs, some outputs, as many witnesses as inputs, no
-- outpoint twice among the inputs, no value 0, both sums of values below 2^64, and that it keeps the money
pub record IsProper (t : FullTx) : Type 0 where
  pub has_input : 0 < length t.inputs
  pub has_output : 0 < length t.outputs
  pub witnesses : length t.witnesses ≡ length t.inputs
  pub no_repeat : IsDistinct (λ p q. bytes_eq p q) (map (λ c. key c.point) t.inputs)
  pub no_zero_input : All (λ c. 1 ≤ c.output.value) t.inputs
  pub no_zero_output : All (λ o. 1 ≤ o.value) t.outputs
  pub inputs_fit : value_in t.inputs < 2 ^ 64
  pub outputs_fit : value_out t.outputs < 2 ^ 64
  pub keeps_money : KeepsMoney t.inputs t.outputs

-- the compact form of a proper submission
abbrev pub IsProperCompact : List FullTx → Compact → Type 0
IsProperCompact submissions k = (t : FullTx) × Contains submissions t × IsProper t × (compact t ≡ k)
