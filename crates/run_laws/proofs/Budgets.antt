-- What the batches of a plan up to a number weigh at a node, over what had come before.
use Rattle.std.proofs.Common.{◌≡◌, ℕ, ◌+◌, ◌-◌, ◌<◌, ◌≤◌, Bool, true, false, not, nat_lt, if◌then◌else◌, List, [], ◌∷◌, ◌++◌, length, take, is_some}
use Rattle.std.proofs.Common.{refl, ap, ◌∙◌, arith, ltb-true, ltb-false}
use Rattle.std.specs.List.{filter, flat_map}
use Rattle.cbdc_model.specs.Records.{Shape, Batch, Compact, Record, record_of, txs_of}
use Rattle.cbdc_model.specs.Slots.{slot}
use Rattle.cbdc_model.specs.Ranges.{home_of}
use Rattle.cbdc_model.specs.Next.{is_idle}
use Rattle.cbdc_model.specs.Due.{open_batch}
use Rattle.run_laws.specs.Ample.{Coming, records_of, unwritten}
use Rattle.run_laws.proofs.Sums.{total, total_take, total_taken, total_split}
use Rattle.run_laws.proofs.Scales.{Scale}
use Rattle.run_laws.proofs.Weights.{weight, weight-append, weight_flat}
use Rattle.run_laws.proofs.Lanes.{named}

-- nothing below a number
abbrev pub gate : ℕ → ℕ → ℕ → ℕ
gate k first x = if nat_lt k first then 0 else x

gate_mono : (i j first x : ℕ) → i ≤ j → gate i first x ≤ gate j first x
gate_mono i j first x le = elim (nat_lt i first) as (λ c. nat_lt i first ≡ c → (if c then 0 else x) ≤ gate j first x) [
  | true ↦ λ e. omega arith
  | false ↦ λ e. elim (nat_lt j first) as (λ d. nat_lt j first ≡ d → x ≤ (if d then 0 else x)) [
    | true ↦ λ d. (let low : j < first = ltb-true j first d in let high : first ≤ i = ltb-false i first e in absurd (omega arith))
    | false ↦ λ d. omega arith
  ] refl
] refl

gate_shut : (k first x : ℕ) → k < first → gate k first x ≡ 0
gate_shut k first x lt = elim (nat_lt k first) as (λ c. nat_lt k first ≡ c → (if c then 0 else x) ≡ 0) [
  | true ↦ λ e. refl
  | false ↦ λ e. (let high : first ≤ k = ltb-false k first e in absurd (omega arith))
] refl

gate_open : (k first x : ℕ) → first ≤ k → gate k first x ≡ x
gate_open k first x le = elim (nat_lt k first) as (λ c. nat_lt k first ≡ c → (if c then 0 else x) ≡ x) [
  | true ↦ λ e. (let low : k < first = ltb-true k first e in absurd (omega arith))
  | false ↦ λ e. refl
] refl

gate_top : (k first x : ℕ) → gate k first x ≤ x
gate_top k first x = elim (nat_lt k first) as (λ c. (if c then 0 else x) ≤ x) [
  | true ↦ omega arith
  | false ↦ omega arith
]

-- the record is not there yet
abbrev pub not_yet : (ℕ → List Record) → Batch → Coming → Bool
not_yet E b c = not (is_some (record_of c.kind (E c.node) b))

pub not_there : (E : ℕ → List Record) (b : Batch) (c : Coming) → is_some (record_of c.kind (E c.node) b) ≡ false → not_yet E b c ≡ true
not_there E b c e = ap not e

-- what an open batch has not written yet
pub unwritten_is : (K : Shape) (E : ℕ → List Record) (b : Batch) → (slot (E (home_of K b.lane)) b.lane).number ≡ b.number
    → is_idle (slot (E (home_of K b.lane)) b.lane).phase ≡ false
    → unwritten K E b.lane ≡ filter (not_yet E b) (records_of K b.lane (txs_of (E (home_of K b.lane)) b))
unwritten_is K E b number busy =
    ap (λ t. if t then [] else filter (not_yet E (open_batch (E (home_of K b.lane)) b.lane))
    (records_of K b.lane (txs_of (E (home_of K b.lane)) (open_batch (E (home_of K b.lane)) b.lane)))) busy
    ∙ ap (λ d. filter (not_yet E d) (records_of K b.lane (txs_of (E (home_of K b.lane)) d))) (named (E (home_of K b.lane)) b number)

module _ (K : Shape) (E : ℕ → List Record) (batches : ℕ → List (List Compact)) (s : Scale) (n lane : ℕ) where
  -- the number that the lane has before
  abbrev pub first_number : ℕ
  first_number = (slot (E (home_of K lane)) lane).number

  abbrev pub each_batch : List Compact → ℕ
  each_batch txs = weight s n (records_of K lane txs)

  abbrev pub budget : ℕ → ℕ
  budget k = gate k first_number (weight s n (unwritten K E lane)) + total each_batch (take (k - first_number) (batches lane))

  pub budget_mono : (i j : ℕ) → i ≤ j → budget i ≤ budget j
  budget_mono i j le =
      let one : gate i first_number (weight s n (unwritten K E lane)) ≤ gate j first_number (weight s n (unwritten K E lane)) =
      gate_mono i j first_number (weight s n (unwritten K E lane)) le in
      let two : total each_batch (take (i - first_number) (batches lane)) ≤ total each_batch (take (j - first_number) (batches lane))
      = total_take each_batch (batches lane) (i - first_number) (j - first_number) (omega arith) in
      omega (arith, one, two)

  -- the open batch comes on top of what is below its number
  pub budget_open : (i j : ℕ) → i < first_number → first_number ≤ j → budget i + weight s n (unwritten K E lane) ≤ budget j
  budget_open i j lt le =
      let shut : gate i first_number (weight s n (unwritten K E lane)) ≡ 0 = gate_shut i first_number (weight s n (unwritten K E lane)) lt in
      let opened : gate j first_number (weight s n (unwritten K E lane)) ≡ weight s n (unwritten K E lane) =
      gate_open j first_number (weight s n (unwritten K E lane)) le in
      let z : i - first_number ≡ 0 = omega arith in
      let none : total each_batch (take (i - first_number) (batches lane)) ≡ 0 = ap (λ k. total each_batch (take k (batches lane))) z in
      omega (arith, shut, opened, none)

  -- its own number has it
  pub budget_own : (j : ℕ) → first_number ≤ j → weight s n (unwritten K E lane) ≤ budget j
  budget_own j le = let opened : gate j first_number (weight s n (unwritten K E lane)) ≡ weight s n (unwritten K E lane) =
      gate_open j first_number (weight s n (unwritten K E lane)) le in omega (arith, opened)

  -- so does a new one
  pub budget_new : (front back : List (List Compact)) (txs : List Compact) (i j : ℕ) → batches lane ≡ front ++ txs ∷ back
      → i ≤ first_number + length front → first_number + length front < j
      → budget i + each_batch txs ≤ budget j
  budget_new front back txs i j parts le lt =
      let one : gate i first_number (weight s n (unwritten K E lane)) ≤ gate j first_number (weight s n (unwritten K E lane)) =
      gate_mono i j first_number (weight s n (unwritten K E lane)) (omega arith) in
      let two : total each_batch (take (i - first_number) (front ++ txs ∷ back)) + each_batch txs
      ≤ total each_batch (take (j - first_number) (front ++ txs ∷ back))
      = total_split each_batch front back txs (i - first_number) (j - first_number) (omega arith) (omega arith) in
      let low : total each_batch (take (i - first_number) (batches lane)) ≡ total each_batch (take (i - first_number) (front ++ txs ∷ back)) =
      ap (λ q. total each_batch (take (i - first_number) q)) parts in
      let high : total each_batch (take (j - first_number) (batches lane)) ≡ total each_batch (take (j - first_number) (front ++ txs ∷ back)) =
      ap (λ q. total each_batch (take (j - first_number) q)) parts in
      omega (arith, one, two, low, high)

  -- all that comes of the lane at the node
  abbrev pub all_of : ℕ
  all_of = weight s n (unwritten K E lane ++ flat_map (records_of K lane) (batches lane))

  pub budget_top : (k : ℕ) → budget k ≤ all_of
  budget_top k =
      let whole : all_of ≡ weight s n (unwritten K E lane) + weight s n (flat_map (records_of K lane) (batches lane)) =
      weight-append s n (unwritten K E lane) (flat_map (records_of K lane) (batches lane)) in
      let new : weight s n (flat_map (records_of K lane) (batches lane)) ≡ total each_batch (batches lane) =
      weight_flat s n (records_of K lane) (batches lane) in
      omega (arith, whole, new, gate_top k first_number (weight s n (unwritten K E lane)), total_taken each_batch (batches lane) (k - first_number))
