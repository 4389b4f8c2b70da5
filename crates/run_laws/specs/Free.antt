-- A submission that nothing else of its file contends with.
use Rattle.std.specs.Prelude.{◌≡◌, ℕ, ◌*◌, ◌%◌, ◌<◌, Bool, true, false, List, [], ◌∷◌, ◌++◌, length, All, Some}
use Rattle.std.specs.List.{filter}
use Rattle.cbdc_model.specs.Records.{Digest, Shape, Record, Won}
use Rattle.cbdc_model.specs.Status.{has}
use Rattle.cbdc_model.specs.Ranges.{home_of}
use Rattle.cbdc_model.specs.Coins.{Output, FullTx, compact}
use Rattle.cbdc_model.specs.World.{KeptJournals, IsUnspent}
use Rattle.cbdc_model.specs.Waves.{share, sent_to, IsFileRun}
use Rattle.cbdc_model.specs.Places.{PlaceIn, sized_onto, place_of, outcome_in}

-- none of the others, where it is sound, spends an input of this one
abbrev pub IsAlone : (FullTx → Bool) → FullTx → List FullTx → Type 0
IsAlone sound t others = All (λ u. sound u ≡ true → (x : Digest) → has (compact t).inputs x ≡ true → has (compact u).inputs x ≡ false) others

-- the lane of the submission behind these
abbrev pub lane_behind : Shape → List FullTx → ℕ
lane_behind K before = length before % (K.coordinators * K.lanes)

-- how many of these submissions are sound and of the lane of the one behind them
abbrev pub sound_behind : Shape → (FullTx → Bool) → List FullTx → ℕ
sound_behind K sound before = length (filter sound (share (K.coordinators * K.lanes) (lane_behind K before) 0 before))

-- its place in the lane's new Prepares is one, and its outcome there is that it is committed
pub record IsConfirmed (K : Shape) (sound : FullTx → Bool) (before : List FullTx) (J : ℕ → List Record) (more : List Record) : Type 0 where
  pub place : PlaceIn
  pub stands : place_of (sized_onto (lane_behind K before) more []) (sound_behind K sound before) ≡ Some place
  pub won : outcome_in (J (home_of K (lane_behind K before))) place ≡ Some Won

-- a sound submission is confirmed where its inputs' hashes are Unspent when its file's wave begins, and no other sound submission of the
-- file spends one of them
abbrev pub FreeLaw : Type 0
FreeLaw = (K : Shape) (mint : List Output) (submissions : List FullTx) (sound : FullTx → Bool) (before : List FullTx) (t : FullTx)
    (behind : List FullTx)
    (I J : ℕ → List Record) (more : List Record)
    → 0 < K.shards → 0 < K.coordinators * K.lanes → KeptJournals K mint submissions I → KeptJournals K mint submissions J
    → IsFileRun K (sent_to K sound (before ++ t ∷ behind)) I J → J (home_of K (lane_behind K before)) ≡ more ++ I (home_of K (lane_behind K before))
    → sound t ≡ true → ((x : Digest) → has (compact t).inputs x ≡ true → IsUnspent K I x) → IsAlone sound t (before ++ behind)
    → IsConfirmed K sound before J more
