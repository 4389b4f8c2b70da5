-- The rows of journals in the order of a history.
use Rattle.std.specs.Prelude.{ℕ, zero, suc, List, [], ◌∷◌, if◌then◌else◌}
use Rattle.cbdc_model.specs.Records.{Record, Row}
use Rattle.cbdc_model.specs.History.{goes_above}

-- a row among others: above the first one that it goes above
abbrev pub put_row : Row → List Row → List Row
put_row row [] = row ∷ []
put_row row (head ∷ later) = if goes_above row head then row ∷ (head ∷ later) else head ∷ put_row row later

-- a node's records among rows
abbrev pub put_records : ℕ → List Record → List Row → List Row
put_records n [] rows = rows
put_records n (r ∷ past) rows = put_row (record { node = n; what = r }) (put_records n past rows)

-- a journal without its oldest record
abbrev pub behind_first : List Record → List Record
behind_first [] = []
behind_first (r ∷ []) = []
behind_first (r ∷ (q ∷ past)) = r ∷ behind_first (q ∷ past)

-- the records behind the oldest ones, of the nodes below n
abbrev pub later_below : (ℕ → List Record) → ℕ → List Row
later_below J zero = []
later_below J (suc n) = put_records n (behind_first (J n)) (later_below J n)
