-- What transactions that keep the money do to money, to permits and to what is burnt, by what each takes and makes.
use Rattle.std.proofs.Common.{◌≡◌, ℕ, ◌+◌, ◌-◌, ◌≤◌, List, [], ◌∷◌, ◌++◌, refl, sym, ap, ◌∙◌, inl, inr, arith, sum_by}
use Rattle.std.specs.Prelude.{◌≢◌, ◌⊎◌}
use Rattle.std.specs.List.{AllByRecursion}
use Rattle.std.proofs.lemmas.List.Elements.{All-from_recursion, recursion_from_All}
use Rattle.std.proofs.lemmas.List.Sums.{sum_by-cons}
use Rattle.cbdc_types.specs.Kinds.{kind_of}
use Rattle.cbdc_types.specs.declared.tx.Kind.{Kind}
use Rattle.cbdc_types.specs.declared.tx.Kind.TheVariants.{Permit, Burn, Money}
use Rattle.cbdc_model.specs.Coins.{Input, Output, FullTx}
use Rattle.cbdc_model.specs.Money.{if_money, if_permit, if_burn, money_of, issuable_of, burnt_of, permits_of, sum_in, sum_out, taken_sum, made_sum}
use Rattle.cbdc_model.specs.Money.{issued_by, redeemed_by, issued, redeemed, ArePaired}
use Rattle.cbdc_model.specs.Clean.{value_in, value_out, KeepsMoney}
use Rattle.cbdc_model.specs.Book.{Book, genesis_book, total, value}
use Rattle.cbdc_model.specs.Headline.{all_spent, IsIssued}
use Rattle.ledger_laws.specs.Laws.{PlainLaw}

-- a value is money, a permit's or burnt
parts_of : (k : Kind) (n : ℕ) → n ≡ if_money k n + if_permit k n + if_burn k n
parts_of Permit n = omega arith
parts_of Burn n = omega arith
parts_of Money n = omega arith

-- so is a sum of values
sum_parts : {A : Type 0} (out : A → Output) (xs : List A) → sum_by (λ x. (out x).value) xs
    ≡ sum_by (λ x. money_of (out x)) xs + sum_by (λ x. issuable_of (out x)) xs + sum_by (λ x. burnt_of (out x)) xs
sum_parts out [] = refl
sum_parts out (x ∷ xs) = omega (
  arith,
  parts_of (kind_of (out x)) (out x).value,
  sum_parts out xs,
  sum_by-cons (λ x. (out x).value) x xs,
  sum_by-cons (λ x. money_of (out x)) x xs,
  sum_by-cons (λ x. issuable_of (out x)) x xs,
  sum_by-cons (λ x. burnt_of (out x)) x xs,
)

-- what is not burnt counts for nothing there
not_burnt : (k : Kind) (n : ℕ) → k ≢ Burn → if_burn k n ≡ 0
not_burnt Permit n other = refl
not_burnt Burn n other = absurd (other refl)
not_burnt Money n other = refl

none_burnt : (cs : List Input) → AllByRecursion (λ c. kind_of c.output ≢ Burn) cs → sum_in burnt_of cs ≡ 0
none_burnt [] h = refl
none_burnt (c ∷ cs) h = omega (arith, not_burnt (kind_of c.output) c.output.value h.0, none_burnt cs h.1, sum_by-cons (λ d. burnt_of d.output) c cs)

paired : (ins outs : ℕ) → ArePaired ins outs → ins ≡ outs
paired ins outs (inl h) = omega (arith, h.0, h.1)
paired ins outs (inr h) = omega (arith, h.0, h.1)

-- what one transaction takes and makes
record Kept (t : FullTx) : Type 0 where
  value : value_in t.inputs ≡ value_out t.outputs
  money : sum_out money_of t.outputs + redeemed_by t ≡ sum_in money_of t.inputs + issued_by t
  permits : sum_in permits_of t.inputs ≡ sum_out permits_of t.outputs
  issuable : sum_in issuable_of t.inputs ≡ sum_out issuable_of t.outputs + issued_by t

one_kept : (t : FullTx) → KeepsMoney t.inputs t.outputs → Kept t
one_kept t h =
    let ins = sum_parts (λ (c : Input). c.output) t.inputs in
    let outs = sum_parts (λ (o : Output). o) t.outputs in
    let none = none_burnt t.inputs (recursion_from_All (λ c. kind_of c.output ≢ Burn) t.inputs h.none_burnt) in
    let balanced = h.balanced in
    let lower = h.not_raised in
    record {
      value = balanced;
      money = omega (arith, ins, outs, none, balanced, lower);
      permits = paired _ _ h.permits;
      issuable = omega (arith, lower);
    }

-- each transaction keeps the money
abbrev pub EachKeeps : List FullTx → Type 0
EachKeeps [] = Unit {0}
EachKeeps (t ∷ ts) = KeepsMoney t.inputs t.outputs × EachKeeps ts

-- what transactions take and make
record AllKept (ts : List FullTx) : Type 0 where
  value : taken_sum (λ o. o.value) ts ≡ made_sum (λ o. o.value) ts
  money : made_sum money_of ts + redeemed ts ≡ taken_sum money_of ts + issued ts
  permits : taken_sum permits_of ts ≡ made_sum permits_of ts
  issuable : taken_sum issuable_of ts ≡ made_sum issuable_of ts + issued ts

takes : (f : Output → ℕ) (t : FullTx) (ts : List FullTx) → taken_sum f (t ∷ ts) ≡ sum_in f t.inputs + taken_sum f ts
takes f t ts = sum_by-cons (λ u. sum_in f u.inputs) t ts

makes : (f : Output → ℕ) (t : FullTx) (ts : List FullTx) → made_sum f (t ∷ ts) ≡ sum_out f t.outputs + made_sum f ts
makes f t ts = sum_by-cons (λ u. sum_out f u.outputs) t ts

all_kept : (ts : List FullTx) → EachKeeps ts → AllKept ts
all_kept [] each = record { value = refl; money = refl; permits = refl; issuable = refl }
all_kept (t ∷ ts) each =
    let one = one_kept t each.0 in
    let rest = all_kept ts each.1 in
    record {
      value = omega (arith, one.value, rest.value, takes (λ o. o.value) t ts, makes (λ o. o.value) t ts);
      money = omega (
        arith,
        one.money,
        rest.money,
        takes money_of t ts,
        makes money_of t ts,
        sum_by-cons issued_by t ts,
        sum_by-cons redeemed_by t ts,
      );
      permits = omega (arith, one.permits, rest.permits, takes permits_of t ts, makes permits_of t ts);
      issuable = omega (arith, one.issuable, rest.issuable, takes issuable_of t ts, makes issuable_of t ts, sum_by-cons issued_by t ts);
    }

all-append : {A : Type 0} (P : A → Type 0) (xs ys : List A) → AllByRecursion P xs → AllByRecursion P ys → AllByRecursion P (xs ++ ys)
all-append P [] ys h k = k
all-append P (x ∷ xs) ys h k = (h.0, all-append P xs ys h.1 k)

no_burn_spent : (ts : List FullTx) → EachKeeps ts → AllByRecursion (λ c. kind_of c.output ≢ Burn) (all_spent ts)
no_burn_spent [] each = tt
no_burn_spent (t ∷ ts) each =
    all-append (λ c. kind_of c.output ≢ Burn) t.inputs (all_spent ts) (recursion_from_All (λ c. kind_of c.output ≢ Burn) t.inputs each.0.none_burnt)
    (no_burn_spent ts each.1)

-- by any measure the book and what was taken come to what there was and what was made
abbrev pub Flows : List Output → List FullTx → Book → Type 0
Flows mint ts b = (f : Output → ℕ) → total f b + taken_sum f ts ≡ total f (genesis_book mint) + made_sum f ts

pub is_issued : (mint : List Output) (ts : List FullTx) (b : Book) → EachKeeps ts → Flows mint ts b → IsIssued mint ts b
is_issued mint ts b each flow =
    let all = all_kept ts each in
    record {
      money_kept = omega (arith, flow money_of, all.money);
      permits_kept = omega (arith, flow permits_of, all.permits);
      issuable_kept = omega (arith, flow issuable_of, all.issuable);
      none_burnt = All-from_recursion (λ c. kind_of c.output ≢ Burn) (all_spent ts) (no_burn_spent ts each);
    }

pub value_stays : (mint : List Output) (ts : List FullTx) (b : Book) → EachKeeps ts → Flows mint ts b → value b ≡ value (genesis_book mint)
value_stays mint ts b each flow = let all = all_kept ts each in omega (arith, flow (λ o. o.value), all.value)

-- money is no permit
no_permit : (k : Kind) (n : ℕ) → k ≡ Money → if_permit k n ≡ 0
no_permit k n e = ap (λ j. if_permit j n) e

not_burn : (k : Kind) → k ≡ Money → k ≢ Burn
not_burn k money burn = let lie : Money ≡ Burn = sym money ∙ burn in cc

none_permit : {A : Type 0} (out : A → Output) (f : Output → ℕ) (xs : List A) → AllByRecursion (λ x. kind_of (out x) ≡ Money) xs
    → sum_by (λ x. if_permit (kind_of (out x)) (f (out x))) xs ≡ 0
none_permit out f [] all = refl
none_permit out f (x ∷ xs) all =
    omega (
      arith,
      no_permit (kind_of (out x)) (f (out x)) all.0,
      none_permit out f xs all.1,
      sum_by-cons (λ x. if_permit (kind_of (out x)) (f (out x))) x xs,
    )

all_weaker : {A : Type 0} (P Q : A → Type 0) (xs : List A) → ((x : A) → P x → Q x) → AllByRecursion P xs → AllByRecursion Q xs
all_weaker P Q [] f all = tt
all_weaker P Q (x ∷ xs) f all = (f x all.0, all_weaker P Q xs f all.1)

-- of money alone equal sums keep the money
pub plain_law : PlainLaw
plain_law t ins outs balanced =
    let a : AllByRecursion (λ (c : Input). kind_of c.output ≡ Money) t.inputs = recursion_from_All (λ c. kind_of c.output ≡ Money) t.inputs ins in
    let b : AllByRecursion (λ (o : Output). kind_of o ≡ Money) t.outputs = recursion_from_All (λ o. kind_of o ≡ Money) t.outputs outs in
    record {
      balanced = balanced;
      none_burnt = All-from_recursion (λ c. kind_of c.output ≢ Burn) t.inputs
          (all_weaker (λ c. kind_of c.output ≡ Money) (λ c. kind_of c.output ≢ Burn) t.inputs (λ c e. not_burn (kind_of c.output) e) a);
      permits = inl (none_permit (λ (c : Input). c.output) (λ o. 1) t.inputs a, none_permit (λ (o : Output). o) (λ o. 1) t.outputs b);
      not_raised = omega (arith, none_permit (λ (o : Output). o) (λ o. o.value) t.outputs b);
    }
