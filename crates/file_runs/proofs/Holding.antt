-- The ledger and the lanes of a wave, before it and behind it.
use Rattle.std.proofs.Common.{◌≡◌, Bool, true, false, List, sym, ◌∙◌, subst, Option, Some}
use Rattle.outside.specs.declared.disk.Disk.{Ghosts}
use Rattle.ledger_runs.specs.Lanes.{LaneOf}
use Rattle.file_runs.specs.Ledgers.{LedgerOf}
use Rattle.file_runs.specs.Waving.{IsWave}
use Rattle.file_runs.specs.Feeding.{CanWave, WaveStands, IsHeld}

module _ {D : Type 0} (device : Ghosts D) (before : LedgerOf D) (lanes : List LaneOf) where
  the_one : (o : Option (LedgerOf D)) (a b : LedgerOf D) → o ≡ Some a → o ≡ Some b → a ≡ b
  the_one o a b p q = let z : Some a ≡ Some b = sym p ∙ q in cc

  -- where it has not run, they are those that it begins with
  pub ready : (o : Option (LedgerOf D)) (works : List LaneOf) (has_run : Bool) (l : LedgerOf D) → IsHeld device before lanes o works has_run
      → has_run ≡ false → o ≡ Some l
      → (l ≡ before) × (works ≡ lanes) × CanWave before lanes
  ready o works has_run l held isnt there =
      let s : WaveStands device before lanes held.now works false = subst (λ b. WaveStands device before lanes held.now works b) isnt held.stands in
      (the_one o l held.now there held.there ∙ s.0, s.1, s.2)

  -- so a wave may run on them
  pub can_run : (o : Option (LedgerOf D)) (works : List LaneOf) (has_run : Bool) (l : LedgerOf D) → IsHeld device before lanes o works has_run
      → has_run ≡ false → o ≡ Some l
      → CanWave l works
  can_run o works has_run l held isnt there =
      let r = ready o works has_run l held isnt there in
      subst (λ k. CanWave k works) (sym r.0) (subst (λ xs. CanWave before xs) (sym r.1) r.2)

  -- and behind it they are as the wave left them
  pub run : (o : Option (LedgerOf D)) (works : List LaneOf) (has_run : Bool) (l : LedgerOf D) → IsHeld device before lanes o works has_run
      → has_run ≡ false → o ≡ Some l
      → (l' : LedgerOf D) (works' : List LaneOf) (o' : Option (LedgerOf D)) → IsWave device l l' works works' → o' ≡ Some l'
      → IsHeld device before lanes o' works' true
  run o works has_run l held isnt there l' works' o' wave is =
      let r = ready o works has_run l held isnt there in
      record {
        now = l';
        there = is;
        stands = subst (λ k. IsWave device k l' lanes works') r.0 (subst (λ xs. IsWave device l l' xs works') r.1 wave);
      }

  -- where it has run, that is what is known of them
  pub ran : (o : Option (LedgerOf D)) (works : List LaneOf) (has_run : Bool) (l : LedgerOf D) → IsHeld device before lanes o works has_run
      → has_run ≡ true → o ≡ Some l
      → IsWave device before l lanes works
  ran o works has_run l held is there =
      subst (λ k. IsWave device before k lanes works) (sym (the_one o l held.now there held.there))
      (subst (λ b. WaveStands device before lanes held.now works b) is held.stands)
