-- What the tests of equality decide that outputs and coins derive.
use Rattle.std.proofs.Common.{◌≡◌, true, Bool, List, subst, arith}
use Rattle.std.proofs.lemmas.Grind.{common_steps}
use Rattle.std.specs.Bool.{Decides}
use Rattle.std.specs.Cmp.Lexicographic.{pointwise, pointwise_decides}
use Rattle.cbdc_types.specs.contracts.tx.InputPartialEq.TheImpl as coin
use Rattle.cbdc_types.specs.contracts.tx.OutputPartialEq.TheImpl as output
use Rattle.cbdc_model.specs.Coins.{Coin, Output}
use Rattle.same_records.proofs.Deciding.{hash_decides}

-- a test that says yes of the same alone, and always of the same
decided : {A : Type 0} (E : A → A → Bool) → ((x y : A) → E x y ≡ true → x ≡ y) → ((x : A) → E x x ≡ true) → (x y : A) → Decides (E x y) (x ≡ y)
decided E is self x y = (is x y, λ same. subst (λ z. E x z ≡ true) same (self x))

output_is : (x y : Output) → output.eq-value.it x y ≡ true → x ≡ y
output_is x y h = grind (arith, common_steps, (hash_decides x.program y.program).0)

output_self : (x : Output) → output.eq-value.it x x ≡ true
output_self x = grind (arith, common_steps, (hash_decides x.program x.program).1)

output_decides : (x y : Output) → Decides (output.eq-value.it x y) (x ≡ y)
output_decides x y = decided output.eq-value.it output_is output_self x y

pub outputs_decide : (xs ys : List Output) → Decides (pointwise output.eq-value.it xs ys) (xs ≡ ys)
outputs_decide xs ys = pointwise_decides output_decides xs ys

coin_is : (x y : Coin) → coin.eq-value.it x y ≡ true → x ≡ y
coin_is x y h = grind (arith, common_steps, (hash_decides x.point.tx y.point.tx).0, (output_decides x.output y.output).0)

coin_self : (x : Coin) → coin.eq-value.it x x ≡ true
coin_self x = grind (arith, common_steps, (hash_decides x.point.tx x.point.tx).1, (output_decides x.output x.output).1)

pub coin_decides : (x y : Coin) → Decides (coin.eq-value.it x y) (x ≡ y)
coin_decides x y = decided coin.eq-value.it coin_is coin_self x y

pub coins_decide : (xs ys : List Coin) → Decides (pointwise coin.eq-value.it xs ys) (xs ≡ ys)
coins_decide xs ys = pointwise_decides coin_decides xs ys
