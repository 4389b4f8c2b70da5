-- Causes of faults over a longer stretch of time.
use Rattle.std.proofs.Common.{◌≤◌, ℕ, Result, Ok, Err, arith}
use Rattle.outside.specs.Counts.{Rose, HasCause}

pub rose_later : (a b c d : ℕ) → a ≤ b → c ≤ d → Rose b c → Rose a d
rose_later a b c d le ge rose = omega arith

pub cause_later : {T E : Type 0} (a b c : ℕ) (r : Result T E) → a ≤ b → HasCause b c r → HasCause a c r
cause_later a b c (Ok x) le is = record { later = omega (arith, is.later); failed = tt }
cause_later a b c (Err e) le is = record { later = omega (arith, is.later); failed = rose_later a b c c le (omega arith) is.failed }
