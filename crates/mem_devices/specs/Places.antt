-- The places of a rack in memory.
use Rattle.std.specs.Prelude.{ℕ, nat_lt, if◌then◌else◌, Option, Some, None}

-- the disk that is in a place, where one is
abbrev pub disk_in : {D : Type 0} → Option (Option D) → Option D
disk_in None = None
disk_in (Some place) = place

-- no disk is out of the place; behind the last place there is none
abbrev pub HasNoDiskOut : {D : Type 0} → Option (Option D) → Type 0
HasNoDiskOut None = Unit {0}
HasNoDiskOut (Some None) = ⊥
HasNoDiskOut (Some (Some d)) = Unit {0}

-- the place's disk is out
abbrev pub IsOut : {D : Type 0} → Option (Option D) → Type 0
IsOut None = ⊥
IsOut (Some None) = Unit {0}
IsOut (Some (Some d)) = ⊥

-- a node's count of faults: its disk never fails, and behind the 80 places each call is a fault
abbrev pub faults_at : ℕ → ℕ → ℕ
faults_at misses n = if nat_lt n 80 then 0 else misses
