-- Sinks in memory.
use Rattle.std.specs.Prelude.{ℕ, nat_lt, if◌then◌else◌}

-- the count of faults of a sink that takes so many bytes and has taken so many of them: none where there is room
abbrev pub misses_at : ℕ → ℕ → ℕ → ℕ
misses_at most taken misses = if nat_lt taken most then 0 else misses
