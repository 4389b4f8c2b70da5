-- A disk that is blank, or in use.
use Rattle.std.proofs.Common.{◌≡◌, ℕ, List, Option, Some, Result, Ok, Err, refl, sym, ◌∙◌, ap, subst, rules}
use Rattle.std.specs.Prelude.{IfOk, IfErr, MatchResult}
use Rattle.outside.specs.Images.{Tells}
use Rattle.outside.specs.declared.disk.Disk.{Ghosts}
use Rattle.cbdc_types.specs.declared.answer.Answer.{Answer}
use Rattle.cbdc_types.specs.declared.answer.Answer.TheVariants as answers
use Rattle.rack_ledgers.specs.Blank.{AreWholeRecords, IsInUse, IsUnused, IsNoBlank, IsBlankRefusal}

module _ {B D : Type 0} (node_of : B → ℕ) (disk_of : B → D) (told : Option (List ℕ)) (d : D) (node records : ℕ)
    (whole : (c : List ℕ) → told ≡ Some c → AreWholeRecords records c) where
  pub blank_opens : (r : Result B (D × Answer)) → MatchResult r (λ b. (disk_of b ≡ d) × (node_of b ≡ node))
      (λ e. (e.0 ≡ d) × (e.1 ≡ answers.NotEmpty node))
      → ((c : List ℕ) → AreWholeRecords records c → MatchResult r (λ _. IsUnused node c) (λ _. IsInUse node c))
      → IfOk r (λ b. Tells told (λ c. IsUnused (node_of b) c))
  blank_opens (Ok b) is unused = λ c told_is. subst (λ (n : ℕ). IsUnused n c) (sym is.1) (unused c (whole c told_is))
  blank_opens (Err e) is unused = search rules

  pub blank_refused : (r : Result B (D × Answer))
      → MatchResult r (λ b. (disk_of b ≡ d) × (node_of b ≡ node)) (λ e. (e.0 ≡ d) × (e.1 ≡ answers.NotEmpty node))
      → ((c : List ℕ) → AreWholeRecords records c → MatchResult r (λ _. IsUnused node c) (λ _. IsInUse node c))
      → IfErr r (λ e. Tells told (λ c. IsNoBlank node c e.1))
  blank_refused (Ok b) is unused = search rules
  blank_refused (Err e) is unused = λ c told_is. subst (λ (a : Answer). IsNoBlank node c a) (sym is.1) (refl, unused c (whole c told_is))

-- a disk that was handed on reads as it did
pub blank_same : {B D : Type 0} (node_of : B → ℕ) (disk_of : B → D) (device : Ghosts D) (told : Option (List ℕ)) (failed : D → Type 0) (d : D)
    (node : ℕ) (r : Result B (D × Answer)) → device.content d ≡ told
    → MatchResult r (λ b. (disk_of b ≡ d) × (node_of b ≡ node)) (λ e. (e.0 ≡ d) × (e.1 ≡ answers.NotEmpty node))
    → MatchResult r (λ b. device.content (disk_of b) ≡ told) (λ e. (failed e.0 → ⊥) → device.content e.0 ≡ told)
blank_same node_of disk_of device told failed d node (Ok b) same is = ap device.content is.0 ∙ same
blank_same node_of disk_of device told failed d node (Err e) same is = λ none. ap device.content is.0 ∙ same

pub blank_kind : {B D : Type 0} (node_of : B → ℕ) (disk_of : B → D) (d : D) (node : ℕ) (r : Result B (D × Answer))
    → MatchResult r (λ b. (disk_of b ≡ d) × (node_of b ≡ node)) (λ e. (e.0 ≡ d) × (e.1 ≡ answers.NotEmpty node))
    → IfErr r (λ e. IsBlankRefusal e.1)
blank_kind node_of disk_of d node (Ok b) is = search rules
blank_kind node_of disk_of d node (Err e) is = subst IsBlankRefusal (sym is.1) tt
