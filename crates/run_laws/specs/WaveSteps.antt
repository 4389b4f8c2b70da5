-- How far a run has come: through the lanes that an earlier run left open, and through its files.
use Rattle.std.specs.Prelude.{◌≡◌, ℕ, suc, ◌*◌, ◌<◌, ◌≤◌, Bool, true, false, List, [], ◌∷◌, ◌++◌}
use Rattle.cbdc_model.specs.Records.{Shape, Batch, Record}
use Rattle.cbdc_model.specs.Ranges.{home_of}
use Rattle.cbdc_model.specs.Slots.{slot, Idle}
use Rattle.cbdc_model.specs.Coins.{FullTx}
use Rattle.cbdc_model.specs.Waves.{Adds, has_prepare, has_done, IsResumed, IsFileRun, sent_to, Waves}
use Rattle.run_laws.specs.Turns.{ResumesBatch}

-- from journals E to J the lanes below l that were open were resumed, and the others are as they were
pub record ResumedSo (K : Shape) (l : ℕ) (E J : ℕ → List Record) : Type 0 where
  pub adds : Adds (λ b. (has_prepare K E b ≡ true) × (has_done K E b ≡ false)) E J
  pub idle : (lane : ℕ) → lane < l → (slot (J (home_of K lane)) lane).phase ≡ Idle
  pub rest : (lane : ℕ) → l ≤ lane → slot (J (home_of K lane)) lane ≡ slot (E (home_of K lane)) lane

-- where nothing was resumed yet, all lanes from 0 on are as they were
abbrev pub ResumingBeginsLaw : Type 0
ResumingBeginsLaw = (K : Shape) (E : ℕ → List Record) → ResumedSo K 0 E E

-- resuming goes on by a turn of the next lane, where that is open
abbrev pub ResumingStepLaw : Type 0
ResumingStepLaw = (K : Shape) (lane : ℕ) (b : Batch) (E J J' : ℕ → List Record)
    → ResumedSo K lane E J → ResumesBatch K lane b J J' → ResumedSo K (suc lane) E J'

-- resuming goes on past lanes that are idle, without a turn
abbrev pub ResumingSkipLaw : Type 0
ResumingSkipLaw = (K : Shape) (l m : ℕ) (E J : ℕ → List Record)
    → ResumedSo K l E J → l ≤ m → ((lane : ℕ) → l ≤ lane → lane < m → (slot (J (home_of K lane)) lane).phase ≡ Idle) → ResumedSo K m E J

-- behind the last lane the journals are resumed
abbrev pub ResumingEndsLaw : Type 0
ResumingEndsLaw = (K : Shape) (E J : ℕ → List Record) → ResumedSo K (K.coordinators * K.lanes) E J → IsResumed K E J

-- behind the resuming the waves begin: those of no files
abbrev pub WavesBeginLaw : Type 0
WavesBeginLaw = (K : Shape) (sound : FullTx → Bool) (E R : ℕ → List Record) → IsResumed K E R → Waves K sound [] E R

-- the waves of some files go on by that of one file more
abbrev pub WavesStepLaw : Type 0
WavesStepLaw = (K : Shape) (sound : FullTx → Bool) (files : List (List FullTx)) (file : List FullTx) (E J X : ℕ → List Record)
    → Waves K sound files E J → IsFileRun K (sent_to K sound file) J X → Waves K sound (files ++ file ∷ []) E X
