-- Which slots are passed on the way up a circle.
use Rattle.std.proofs.Common.{◌≡◌, ◌≢◌, ◌⊎◌, inl, inr, ℕ, zero, suc, ◌+◌, ◌<◌, arith, refl}
use Rattle.std.proofs.lemmas.Bool.{cases_lt}
use Rattle.shard_table.specs.Slots.{Passed, Between, Above, Below}

-- two numbers are equal or not
pub data Same (i j : ℕ) : Type 0 where
  Yes : i ≡ j → Same i j
  No : i ≢ j → Same i j

pub same_nat : (i j : ℕ) → Same i j
same_nat zero zero = Yes refl
same_nat zero (suc j) = No (omega arith)
same_nat (suc i) zero = No (omega arith)
same_nat (suc i) (suc j) = elim (same_nat i j) [ Yes e ↦ Yes (omega arith) | No n ↦ No (omega arith) ]

pub data Order (i j : ℕ) : Type 0 where
  Less : i < j → Order i j
  Equal : i ≡ j → Order i j
  More : j < i → Order i j

pub trichotomy : (i j : ℕ) → Order i j
trichotomy zero zero = Equal refl
trichotomy zero (suc j) = Less (omega arith)
trichotomy (suc i) zero = More (omega arith)
trichotomy (suc i) (suc j) = elim (trichotomy i j) [ Less l ↦ Less (omega arith) | Equal e ↦ Equal (omega arith) | More l ↦ More (omega arith) ]

-- of two slots one is come to first
pub data First (h i j : ℕ) : Type 0 where
  Ahead : Passed h j i → First h i j
  Both : i ≡ j → First h i j
  Behind : Passed h i j → First h i j

pub first_of : (h i j : ℕ) → First h i j
first_of h i j =
    elim (trichotomy i j) [
      | Equal e ↦ Both e
      | Less l ↦ elim (cases_lt i h) [
        | inr up ↦ Ahead (Between up l)
        | inl down ↦ elim (cases_lt j h) [
          | inl also ↦ Ahead (Below also l)
          | inr up ↦ Behind (Above down up)
        ]
      ]
      | More l ↦ elim (cases_lt j h) [
        | inr up ↦ Behind (Between up l)
        | inl down ↦ elim (cases_lt i h) [
          | inl also ↦ Behind (Below also l)
          | inr up ↦ Ahead (Above down up)
        ]
      ]
    ]

-- what is passed before the gap is passed before what is behind the gap
pub passed_before : (h i g m : ℕ) → Passed h i g → Passed h g m → Passed h i m
passed_before h i g m p q = elim p [
  | Between a b ↦ elim q [
    | Between c d ↦ Between c (omega arith)
    | Above c d ↦ absurd (omega arith)
    | Below c d ↦ absurd (omega arith)
  ]
  | Above a b ↦ elim q [
    | Between c d ↦ Above a c
    | Above c d ↦ Above a d
    | Below c d ↦ absurd (omega arith)
  ]
  | Below a b ↦ elim q [
    | Between c d ↦ absurd (omega arith)
    | Above c d ↦ Above a d
    | Below c d ↦ Below a (omega arith)
  ]
]

pub passed_not : (h i m : ℕ) → Passed h i m → m ≢ i
passed_not h i m p = elim p [ Between a b ↦ omega arith | Above a b ↦ omega arith | Below a b ↦ omega arith ]

-- from a home past the gap and on from the gap
pub passed_on : (h i g m : ℕ) → Passed h i g → Passed g i m → Passed h i m
passed_on h i g m p q = elim p [
  | Between a b ↦ elim q [
    | Between c d ↦ Between (omega arith) d
    | Above c d ↦ absurd (omega arith)
    | Below c d ↦ absurd (omega arith)
  ]
  | Above a b ↦ elim q [
    | Between c d ↦ absurd (omega arith)
    | Above c d ↦ Above a (omega arith)
    | Below c d ↦ Below a d
  ]
  | Below a b ↦ elim q [
    | Between c d ↦ Below a d
    | Above c d ↦ absurd (omega arith)
    | Below c d ↦ absurd (omega arith)
  ]
]

-- one slot further, that slot is passed too
pub passed_more : (g at m : ℕ) → g ≢ at → Passed g (at + 1) m → Passed g at m ⊎ (m ≡ at)
passed_more g at m n p = elim (same_nat m at) [
  | Yes e ↦ inr e
  | No o ↦ inl (elim p [ Between a b ↦ Between a (omega arith) | Above a b ↦ Above (omega arith) b | Below a b ↦ Below (omega arith) (omega arith) ])
]

pub passed_one : (g m : ℕ) → Passed g (g + 1) m → m ≡ g
passed_one g m p = elim p [ Between a b ↦ omega arith | Above a b ↦ absurd (omega arith) | Below a b ↦ absurd (omega arith) ]

-- the end of the slots is their beginning
pub passed_wrap : (n g m : ℕ) → m < n → Passed g 0 m → Passed g n m
passed_wrap n g m l p = elim p [ Between a b ↦ absurd (omega arith) | Above a b ↦ Between b l | Below a b ↦ absurd (omega arith) ]
