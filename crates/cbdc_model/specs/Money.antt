-- What outputs come to by their kind, and what transactions issue and redeem.
use Rattle.std.specs.Prelude.{◌≡◌, ◌⊎◌, ℕ, ◌-◌, List, sum_by}
use Rattle.cbdc_types.specs.Kinds.{kind_of}
use Rattle.cbdc_types.specs.declared.tx.Kind.{Kind}
use Rattle.cbdc_types.specs.declared.tx.Kind.TheVariants.{Permit, Burn, Money}
use Rattle.cbdc_model.specs.Coins.{Input, Output, FullTx}

-- a number that counts for money alone
abbrev pub if_money : Kind → ℕ → ℕ
if_money Permit n = 0
if_money Burn n = 0
if_money Money n = n

-- for permits alone
abbrev pub if_permit : Kind → ℕ → ℕ
if_permit Permit n = n
if_permit Burn n = 0
if_permit Money n = 0

-- for what is burnt alone
abbrev pub if_burn : Kind → ℕ → ℕ
if_burn Permit n = 0
if_burn Burn n = n
if_burn Money n = 0

-- an output's value, where it is money
abbrev pub money_of : Output → ℕ
money_of o = if_money (kind_of o) o.value

-- where it is a permit: what may still be issued with it
abbrev pub issuable_of : Output → ℕ
issuable_of o = if_permit (kind_of o) o.value

-- where it is burnt
abbrev pub burnt_of : Output → ℕ
burnt_of o = if_burn (kind_of o) o.value

-- one for a permit
abbrev pub permits_of : Output → ℕ
permits_of o = if_permit (kind_of o) 1

-- the sum of a measure over the outputs that inputs claim
abbrev pub sum_in : (Output → ℕ) → List Input → ℕ
sum_in f inputs = sum_by (λ c. f c.output) inputs

-- the sum of a measure over outputs
abbrev pub sum_out : (Output → ℕ) → List Output → ℕ
sum_out f outputs = sum_by f outputs

-- what transactions take, by a measure of outputs
abbrev pub taken_sum : (Output → ℕ) → List FullTx → ℕ
taken_sum f txs = sum_by (λ t. sum_in f t.inputs) txs

-- what they make
abbrev pub made_sum : (Output → ℕ) → List FullTx → ℕ
made_sum f txs = sum_by (λ t. sum_out f t.outputs) txs

-- what a transaction issues: the value of the permits that it spends, less that of the permits that it makes, where that is positive
abbrev pub issued_by : FullTx → ℕ
issued_by t = sum_in issuable_of t.inputs - sum_out issuable_of t.outputs

-- what it redeems: the value of its burn outputs
abbrev pub redeemed_by : FullTx → ℕ
redeemed_by t = sum_out burnt_of t.outputs

-- what transactions issue
abbrev pub issued : List FullTx → ℕ
issued txs = sum_by issued_by txs

-- what they redeem
abbrev pub redeemed : List FullTx → ℕ
redeemed txs = sum_by redeemed_by txs

-- none and none, or one and one
abbrev pub ArePaired : ℕ → ℕ → Type 0
ArePaired ins outs = ((ins ≡ 0) × (outs ≡ 0)) ⊎ ((ins ≡ 1) × (outs ≡ 1))
