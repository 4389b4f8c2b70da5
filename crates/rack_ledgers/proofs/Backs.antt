-- Disks that are back after the opening stopped at a node.
use Rattle.std.proofs.Common.{◌≡◌, ◌≢◌, ◌≤◌, ◌<◌, ◌+◌, ◌∷◌, [], ℕ, suc, List, length, Option, sym, subst, arith, ⊎_elim}
use Rattle.std.proofs.lemmas.Bool.{cases_eq}
use Rattle.outside.specs.declared.disk.Disk.{Ghosts}
use Rattle.rack_ledgers.specs.Places.{EachFrom}
use Rattle.rack_ledgers.specs.Racked.{OfTold, IsDiskBack, IsNodeOpened}
use Rattle.rack_ledgers.proofs.Told.{back_same, back_opened}

module _ {D N : Type 0} (device : Ghosts D) (disk_of : N → D) (opens : N → List ℕ → Type 0) (Fits : ℕ → N → Type 0) (before now : ℕ → ℕ)
    (old new : ℕ → Option D) (end : ℕ) where
  pub all_back : (start node : ℕ) (more : List N) → node ≡ start + length more
      → EachFrom (λ n x. Fits n x × OfTold (old n) (λ was. IsNodeOpened device disk_of opens was x)) start more
      → EachFrom (λ n x. OfTold (new n) (λ d. d ≡ disk_of x)) start more
      → IsDiskBack device (before node) (now node) (old node) (new node) → ((n : ℕ) → node < n → n < end → new n ≡ old n)
      → (n : ℕ) → start ≤ n → n < end → IsDiskBack device (before n) (now n) (old n) (new n)
  all_back start node [] place opened closed here later n ge lt = ⊎_elim
      (λ (same : n ≡ node). subst (λ (k : ℕ). IsDiskBack device (before k) (now k) (old k) (new k)) (sym same) here)
      (λ (differs : n ≢ node). back_same device (before n) (now n) (old n) (new n) (later n (omega (arith, ge, place, differs)) lt))
      (cases_eq n node)
  all_back start node (x ∷ more) place opened closed here later n ge lt = ⊎_elim
      (λ (same : n ≡ start). subst (λ (k : ℕ). IsDiskBack device (before k) (now k) (old k) (new k)) (sym same)
      (back_opened device (before start) (now start) disk_of opens (old start) (new start) x opened.0.1 closed.0))
      (λ (differs : n ≢ start). all_back (suc start) node more (omega (arith, place)) opened.1 closed.1 here later n (omega (arith, ge, differs)) lt)
      (cases_eq n start)
