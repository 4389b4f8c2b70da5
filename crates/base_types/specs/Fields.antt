-- Which field of a shape is outside its limit.
use Rattle.std.specs.Prelude.{◌≡◌, ℕ, ◌<◌, ◌≤◌, ◌⊎◌}
use Rattle.base_types.specs.declared.shape.BadShape.{BadShape}
use Rattle.base_types.specs.declared.shape.ShapeField.{ShapeField}
use Rattle.base_types.specs.declared.shape.ShapeField.TheVariants.{Shards, Coordinators, Lanes, Batch}

-- a number from 1 to the limit
abbrev pub IsTo : ℕ → ℕ → Type 0
IsTo limit n = (1 ≤ n) × (n ≤ limit)

-- a number that is not
abbrev pub IsOutside : ℕ → ℕ → Type 0
IsOutside limit n = (n < 1) ⊎ (limit < n)

-- the field is outside its limit, and those before it are within theirs
abbrev pub IsFirstBadField : ℕ → ℕ → ℕ → ℕ → ShapeField → ℕ → Type 0
IsFirstBadField shards coordinators lanes batch Shards value = IsOutside 64 shards × (value ≡ shards)
IsFirstBadField shards coordinators lanes batch Coordinators value = IsTo 64 shards × IsOutside 16 coordinators × (value ≡ coordinators)
IsFirstBadField shards coordinators lanes batch Lanes value =
    IsTo 64 shards × IsTo 16 coordinators × IsOutside 16 lanes × (value ≡ lanes)
IsFirstBadField shards coordinators lanes batch Batch value =
    IsTo 64 shards × IsTo 16 coordinators × IsTo 16 lanes × IsOutside 1024 batch × (value ≡ batch)

-- the field that is named, with its value, is outside its limit, and those before it are within theirs
abbrev pub IsFirstBad : ℕ → ℕ → ℕ → ℕ → BadShape → Type 0
IsFirstBad shards coordinators lanes batch bad = IsFirstBadField shards coordinators lanes batch bad.field bad.value
