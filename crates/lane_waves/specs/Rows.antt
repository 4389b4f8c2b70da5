-- For which lanes the nodes of a ledger are locked.
use Rattle.std.specs.Prelude.{◌≡◌, ℕ, zero, suc, ◌+◌, ◌*◌, List, [], ◌∷◌, ◌++◌}
use Rattle.std.specs.Global.{Vec}
use Rattle.cbdc_model.specs.Records.{Shape}

-- so many lanes from one on, in order
abbrev pub lanes_from : ℕ → ℕ → List ℕ
lanes_from first zero = []
lanes_from first (suc n) = lanes_from first n ++ (first + n) ∷ []

-- a coordinator's own lanes
abbrev pub home_lanes : Shape → ℕ → List ℕ
home_lanes K home = lanes_from (home * K.lanes) K.lanes

-- all lanes
abbrev pub all_lanes : Shape → List ℕ
all_lanes K = lanes_from 0 (K.coordinators * K.lanes)

-- the lanes for which a coordinator is locked: its own
abbrev pub IsHomeRow : Shape → ℕ → Vec ℕ → Type 0
IsHomeRow K home row = row.items ≡ home_lanes K home

-- the lanes for which a shard is locked: all lanes, whichever shard it is
abbrev pub IsShardRow : Shape → ℕ → Vec ℕ → Type 0
IsShardRow K shard row = row.items ≡ all_lanes K
