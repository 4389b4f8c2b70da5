-- Files, by what was read of them.
use Rattle.std.proofs.Common.{◌≡◌, ◌≢◌, ℕ, List, [], ◌∷◌, true, false, refl, ap, ◌∙◌}
use Rattle.std.specs.Prelude.{Bool, Option, Some, None, Result, Ok, Err}
use Rattle.base_types.specs.declared.faults.InputKind.TheVariants.{Extra}
use Rattle.byte_fields.specs.declared.fault.Fault.{Fault}
use Rattle.byte_fields.specs.Faults.{◌>>=◌, fault}
use Rattle.client_files.specs.Files.{bad_at, placed, ended, ended_by, extra}

module _ {X : Type 0} (len : ℕ) (more : Bool) (read : Result (X × List ℕ) Fault) where
  -- the items were read, and the file ends behind them
  pub file_ok : (x : X) (rest : List ℕ) → read ≡ Ok (x, rest) → None ≡ extra more rest → placed len more (read >>= ended more) ≡ Ok x
  file_ok x rest is ends =
      let one : placed len more (read >>= ended more) ≡ placed len more (ended_by x (extra more rest)) =
      ap (λ (r : Result (X × List ℕ) Fault). placed len more (r >>= ended more)) is in
      one ∙ rw (← ends) refl

  -- it goes on behind them
  pub file_extra : (x : X) (rest : List ℕ) (f : Fault) → read ≡ Ok (x, rest) → Some f ≡ extra more rest
      → placed len more (read >>= ended more) ≡ Err (bad_at len more f.left f.kind)
  file_extra x rest f is ends =
      let one : placed len more (read >>= ended more) ≡ placed len more (ended_by x (extra more rest)) =
      ap (λ (r : Result (X × List ℕ) Fault). placed len more (r >>= ended more)) is in
      one ∙ rw (← ends) refl

  -- a field was bad
  pub file_fault : (f : Fault) → read ≡ Err f → placed len more (read >>= ended more) ≡ Err (bad_at len more f.left f.kind)
  file_fault f is = ap (λ (r : Result (X × List ℕ) Fault). placed len more (r >>= ended more)) is

pub extra_some : (more : Bool) (rest : List ℕ) → (more ≡ false → rest ≢ []) → Some (fault Extra rest) ≡ extra more rest
extra_some true rest some = refl
extra_some false [] some = absurd (some refl refl)
extra_some false (b ∷ bs) some = refl
