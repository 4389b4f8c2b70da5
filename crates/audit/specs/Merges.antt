-- What the steps of a merge keep.
use Rattle.std.specs.Prelude.{◌≡◌, ◌⊎◌, ◌≤◌, ◌++◌, ℕ, true, nat_lt, not, ◌&&◌, List, [], ◌∷◌, map, length, drop, if◌then◌else◌}
use Rattle.cbdc_model.specs.Records.{Record, Row, journal}
use Rattle.cbdc_model.specs.History.{goes_above}
use Rattle.audit.specs.Rows.{journal_in}

-- the row goes below the first of these, if there is one
abbrev pub IsBelow : Row → List Row → Type 0
IsBelow row [] = Unit {0}
IsBelow row (next ∷ later) = goes_above next row ≡ true

-- each row goes below the next
abbrev pub RiseAll : List Row → Type 0
RiseAll [] = Unit {0}
RiseAll (row ∷ later) = IsBelow row later × RiseAll later

-- the journals of the nodes from one below another, none of other nodes
abbrev pub journals_below : List (List Record) → ℕ → ℕ → ℕ → List Record
journals_below all low high n = if not (nat_lt n low) && nat_lt n high then journal_in all n else []

-- no node has rows in both
abbrev pub AreApart : List Row → List Row → Type 0
AreApart a b = (n : ℕ) → (journal n a ≡ []) ⊎ (journal n b ≡ [])

-- the rows of records of one node
abbrev pub rows_of_node : ℕ → List Record → List Row
rows_of_node node records = map (λ r. record { node = node; what = r }) records

-- of two lists of rows, the first i of the one and the first j of the other are merged
pub record MergedUpTo (a b rows : List Row) (i j : ℕ) : Type 0 where
  pub left : i ≤ length a
  pub right : j ≤ length b
  pub journals : AreApart a b → (n : ℕ) → journal n rows ++ (journal n (drop i a) ++ journal n (drop j b)) ≡ journal n a ++ journal n b
  pub rises : AreApart a b → RiseAll a → RiseAll b → RiseAll (rows ++ drop i a) × RiseAll (rows ++ drop j b)
